-- From the things that a request asks to the answer of it.
use Rattle.std.proofs.Common.{◌≡◌, ℕ, List, [], ◌∷◌, ◌++◌, take, length, true, false, refl, sym, ap}
use Rattle.std.proofs.Common.{◌∙◌, ◌⊎◌, ◌||◌, Bool, not, map, subst, inl, inr, append_assoc, append-nil}
use Rattle.std.specs.List.{list_any}
use Rattle.std.proofs.Math.Seq.{take-append_seam}
use Rattle.std.proofs.lemmas.List.Concat.{flat_map-append}
use Rattle.history.specs.Members.{number_of}
use Rattle.history.specs.Tokens.{TokenRecord}
use Rattle.ssb_formats.specs.declared.reply_format.ReplyFormat.{ReplyFormat}
use Rattle.ssb_base.specs.Base.{Tables}
use Rattle.ssb_formats.specs.OverviewShown.{overview_shown}
use Rattle.ssb_report.specs.OverviewText.{OverviewRecord}
use Rattle.ssb_report.specs.Replies.{Reply}
use Rattle.ssb_script.specs.Requests.{RequestRecord, request_of}
use Rattle.ssb_script.specs.Scripts.{SpellsScript, most_records}
use Rattle.ssb_script.specs.declared.request.Request.{Request}
use Rattle.stream_sessions.specs.Answers.{AddsAnswer, AddsNothing, BreaksOff}
use Rattle.stream_sessions.specs.FaultLine.{read_only_line}
use Rattle.stream_sessions.specs.Lookups.{IsOverview}
use Rattle.stream_sessions.specs.Replying.{LacksReply}
use Rattle.stream_sessions.specs.Served.{AreServed, IsServed}
use Rattle.stream_sessions.specs.SessionRequests.{AsksSession}
use Rattle.stream_sessions.specs.Speaking.{IsTaken, SpeakingRecord, has_refresh, is_refresh, speaking}
use Rattle.stream_sessions.specs.WithPast.{replies_told, reply_told}
use Rattle.stream_sessions.specs.declared.lookup.Lookup.{Lookup}
use Rattle.stream_sessions.specs.declared.manner.Manner.{Manner}
use Rattle.stream_sessions.specs.declared.past.Past.{Past}
use Rattle.stream_sessions.specs.declared.session_request.SessionRequest.TheVariants.{LookUp}
use Rattle.stream_sessions.proofs.RequestLaws.{served_more}

no_is : false ≡ true → ⊥
no_is e = cc

-- one thing more was served, to the same client
pub served_next : (old mid new : TokenRecord) (front : List RequestRecord) (given : List Reply) (one : RequestRecord)
    (reply : Reply)
    → AreServed (number_of old.who) old front given mid → mid.who ≡ old.who
    → IsServed (number_of mid.who) mid one reply new
    → AreServed (number_of old.who) old (front ++ one ∷ []) (given ++ reply ∷ []) new
served_next old mid new front given one reply are same next =
    served_more (number_of old.who) old mid new front given one reply are
    (subst (λ who. IsServed (number_of who) mid one reply new) same next)

-- and one reply more is shown
pub shown_next : (format : ReplyFormat) (past : Past) (given : List Reply) (reply : Reply) (start before after : List ℕ)
    → before ≡ start ++ replies_told format past given → after ≡ before ++ reply_told format past reply
    → after ≡ start ++ replies_told format past (given ++ reply ∷ [])
shown_next format past given reply start before after so_far added =
    added ∙ ap (λ t. t ++ reply_told format past reply) so_far
    ∙ append_assoc start (replies_told format past given) (reply_told format past reply)
    ∙ ap (λ t. start ++ t) (sym (flat_map-append (reply_told format past) given (reply ∷ [])
    ∙ ap (λ t. replies_told format past given ++ t) (append-nil (reply_told format past reply))))

-- all that was asked was served, and is a request that was answered
pub adds_replies : (number : ℕ) (request : List ℕ) (old new : TokenRecord) (manner : Manner)
    (asked front : List RequestRecord) (given : List Reply) (before after : List ℕ)
    → SpellsScript most_records request asked → IsTaken (speaking old manner) asked → asked ≡ front
    → AreServed number old front given new → after ≡ before ++ replies_told manner.format manner.terms.past given
    → AddsAnswer number request (speaking old manner) (speaking new manner) before after
adds_replies number request old new manner asked front given before after spelled taken whole are added = record {
  text = replies_told manner.format manner.terms.past given;
  answered = inl (record {
    asked = front;
    spelled = subst (SpellsScript most_records request) whole spelled;
    taken = subst (IsTaken (speaking old manner)) whole taken;
    replies = given;
    served = are;
    report = refl;
    stays = refl;
    keeps = refl;
  });
  added = added;
}

-- one whose first things were served is one that broke off
in_part : (request : List ℕ) (old mid new : TokenRecord) (manner : Manner) (asked front rest : List RequestRecord)
    (one : RequestRecord) (given : List Reply)
    → SpellsScript most_records request asked → IsTaken (speaking old manner) asked → asked ≡ front ++ one ∷ rest
    → AreServed (number_of old.who) old front given mid → mid.who ≡ old.who
    → (new ≡ mid) ⊎ ((reply : Reply) × IsServed (number_of mid.who) mid one reply new)
    → BreaksOff (number_of old.who) request (speaking old manner) (speaking new manner)
in_part request old mid new manner asked front rest one given spelled taken whole are same (inl unchanged) =
    inr (record {
      asked = front;
      left = one ∷ rest;
      spelled = subst (SpellsScript most_records request) whole spelled;
      taken = subst (IsTaken (speaking old manner)) whole taken;
      replies = given;
      served = subst (AreServed (number_of old.who) old front given) (sym unchanged) are;
      stays = refl;
      keeps = refl;
    })
in_part request old mid new manner asked front rest one given spelled taken whole are same (inr last) =
    let parted : asked ≡ (front ++ one ∷ []) ++ rest = whole ∙ sym (append_assoc front (one ∷ []) rest) in
    inr (record {
      asked = front ++ one ∷ [];
      left = rest;
      spelled = subst (SpellsScript most_records request) parted spelled;
      taken = subst (IsTaken (speaking old manner)) parted taken;
      replies = given ++ last.0 ∷ [];
      served = served_next old mid new front given one last.0 are same last.1;
      stays = refl;
      keeps = refl;
    })

-- what was added is cut off again
cut_off : (start shown so_far written after part : List ℕ) → so_far ≡ start ++ shown → written ≡ so_far ++ part
    → after ≡ take (length start) written → after ≡ start
cut_off start shown so_far written after part is added cut =
    cut ∙ ap (take (length start)) (added ∙ ap (λ t. t ++ part) is ∙ append_assoc start shown part)
    ∙ take-append_seam start (shown ++ part)

pub adds_nothing : (request : List ℕ) (old mid new : TokenRecord) (manner : Manner)
    (asked front rest : List RequestRecord) (one : RequestRecord) (given : List Reply)
    (start so_far written after : List ℕ)
    → SpellsScript most_records request asked → IsTaken (speaking old manner) asked → asked ≡ front ++ one ∷ rest
    → AreServed (number_of old.who) old front given mid → mid.who ≡ old.who
    → so_far ≡ start ++ replies_told manner.format manner.terms.past given → LacksReply (number_of mid.who) mid new one so_far written
    → after ≡ take (length start) written
    → AddsNothing (number_of old.who) request (speaking old manner) (speaking new manner) start after
adds_nothing request old mid new manner asked front rest one given start so_far written after spelled taken whole are
    same
    is lacks cut = record {
      broken = in_part request old mid new manner asked front rest one given spelled taken whole are same lacks.done;
      added = cut_off start (replies_told manner.format manner.terms.past given) so_far written after lacks.part is lacks.added cut;
    }

-- that the session takes no refreshes was told
pub adds_read_only : (number : ℕ) (request : List ℕ) (asked : List RequestRecord) (client : TokenRecord)
    (manner : Manner) (before after : List ℕ)
    → SpellsScript most_records request asked → has_refresh asked ≡ true → manner.terms.takes_refreshes ≡ false
    → after ≡ before ++ read_only_line manner.format
    → AddsAnswer number request (speaking client manner) (speaking client manner) before after
adds_read_only number request asked client manner before after spelled has none added = record {
  text = read_only_line manner.format;
  answered = inr (inr (inr (inl (record {
    asked = asked;
    spelled = spelled;
    has = has;
    takes_none = none;
    line = refl;
    unchanged = refl;
  }))));
  added = added;
}

-- what was looked up was told
pub adds_looked_up : (number : ℕ) (request : List ℕ) (client : TokenRecord) (manner : Manner) (base : Tables)
    (asked : Lookup) (overview : OverviewRecord) (before after : List ℕ)
    → AsksSession request (LookUp asked) → base ≡ client.table.base
    → IsOverview base manner.terms.past asked overview → after ≡ before ++ overview_shown manner.format overview
    → AddsAnswer number request (speaking client manner) (speaking client manner) before after
adds_looked_up number request client manner base asked overview before after asks same is added = record {
  text = overview_shown manner.format overview;
  answered = inr (inr (inr (inr (record {
    asked = asked;
    asks = asks;
    overview = overview;
    is = subst (λ (tables : Tables). IsOverview tables manner.terms.past asked overview) same is;
    told = refl;
    unchanged = refl;
  }))));
  added = added;
}

pub not_both : (b : Bool) → b ≡ true → b ≡ false → ⊥
not_both b one other = no_is (sym other ∙ one)

pub not_false : (b : Bool) → not b ≡ false → b ≡ true
not_false true is = refl
not_false false is = absurd (no_is (sym is))

-- one request, which is no refresh
pub one_taken : (client : SpeakingRecord) (request : RequestRecord) → is_refresh request ≡ false
    → IsTaken client (request ∷ [])
one_taken client request none = inr (ap (λ b. b || false) none)

-- whether there is a refresh among what is asked
pub has_refresh_of : (requests : List Request)
    → list_any (λ (request : Request). is_refresh (request_of request)) requests ≡ has_refresh (map request_of requests)
has_refresh_of [] = refl
has_refresh_of (request ∷ requests) = ap (λ b. is_refresh (request_of request) || b) (has_refresh_of requests)
