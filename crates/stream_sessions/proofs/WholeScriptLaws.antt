-- A legal script that is answered request by request has the replies of the whole script.
use Rattle.std.proofs.Common.{◌≡◌, ◌⊎◌, ◌||◌, ℕ, Bool, true, false, List, [], ◌∷◌, ◌++◌, inl, inr, subst, refl, sym, ap}
use Rattle.std.proofs.Common.{◌∙◌, append-nil}
use Rattle.std.specs.List.{AllByRecursion, AllZip, concat, flat_map}
use Rattle.std.proofs.Math.Bool.{or-true}
use Rattle.std.proofs.lemmas.Grind.{flat_map-append}
use Rattle.std.proofs.lemmas.List.Elements.{All-from_recursion, recursion_from_All}
use Rattle.std.proofs.lemmas.List.Folds.{list_any-append}
use Rattle.history.specs.Tokens.{TokenRecord}
use Rattle.ssb_script.proofs.ScriptLaws.{script_of_requests_of}
use Rattle.ssb_formats.specs.declared.reply_format.ReplyFormat.{ReplyFormat}
use Rattle.ssb_report.specs.Replies.{Reply}
use Rattle.ssb_script.specs.Laws.{IsOfStatement}
use Rattle.ssb_script.specs.Requests.{RequestRecord, Refresh, Ask, Order, Abort, AreAlike, IsWholeRequest, has_statement}
use Rattle.ssb_script.specs.Requests.{is_statement}
use Rattle.ssb_script.specs.Scripts.{SpellsScript, most_records}
use Rattle.ssb_script.specs.declared.error.ScriptError.{ScriptError}
use Rattle.ssb_script.proofs.FaultLaws.{spelled_has_no_fault}
use Rattle.ssb_script.proofs.OneReadingLaws.{alike_spelled, asks_nothing, one_reading}
use Rattle.stream_sessions.specs.Served.{AreServed}
use Rattle.stream_sessions.specs.Answers.{AreAnswered, HasFault, IsAnswered}
use Rattle.stream_sessions.specs.Session.{all_of}
use Rattle.stream_sessions.specs.Speaking.{IsTaken, SpeakingRecord, has_refresh, is_refresh}
use Rattle.stream_sessions.specs.WholeScripts.{HasReplies, HasRepliesOfScript, RefuseStatement, RefusesStatement}
use Rattle.stream_sessions.specs.WithPast.{replies_told, reply_told}
use Rattle.stream_sessions.specs.declared.manner.Terms.{Terms}
use Rattle.stream_sessions.proofs.SessionRequestLaws.{spelled_asks_nothing}
use Rattle.stream_sessions.specs.declared.session_request.SessionRequest.TheVariants.{Format, LookUp}
use Rattle.stream_sessions.proofs.ReadingLaws.{has_none, parts_have_none}

-- a client was served what is alike to all this, these are the replies in its manner, which stays
record IsToldAll (number : ℕ) (old new : SpeakingRecord) (wanted : List RequestRecord) (text : List ℕ) : Type 0 where
  asked : List RequestRecord
  alike : AllZip AreAlike wanted asked
  whole : AllByRecursion IsWholeRequest asked
  replies : List Reply
  served : AreServed number old.token asked replies new.token
  told : text ≡ replies_told old.format old.terms.past replies
  stays : new.format ≡ old.format
  keeps : new.terms ≡ old.terms

-- that, or a statement is refused, and one is asked
abbrev IsTold : ℕ → SpeakingRecord → SpeakingRecord → List RequestRecord → List (List ℕ) → List (List ℕ) → Type 0
IsTold number old new wanted requests texts =
    IsToldAll number old new wanted (concat texts)
    ⊎ ((has_statement wanted ≡ true) × RefuseStatement old.format requests texts)

-- what is served in turn is served as one
served_both : (number : ℕ) (old mid new : TokenRecord) (first more : List RequestRecord) (one two : List Reply)
    → AreServed number old first one mid → AreServed number mid more two new
    → AreServed number old (first ++ more) (one ++ two) new
served_both number old mid new [] more [] two a b = subst (λ t. AreServed number t more two new) a b
served_both number old mid new [] more (reply ∷ one) two a b = absurd a
served_both number old mid new (request ∷ first) more [] two a b = absurd a
served_both number old mid new (request ∷ first) more (reply ∷ one) two a b =
    (a.0, a.1, served_both number a.0 mid new first more one two a.2 b)

zip_both : {X Y : Type 0} (P : X → Y → Type 0) (a c : List X) (b d : List Y) → AllZip P a b → AllZip P c d
    → AllZip P (a ++ c) (b ++ d)
zip_both P [] c [] d one two = two
zip_both P [] c (y ∷ b) d one two = absurd one
zip_both P (x ∷ a) c [] d one two = absurd one
zip_both P (x ∷ a) c (y ∷ b) d one two = (one.0, zip_both P a c b d one.1 two)

all_both : {X : Type 0} (P : X → Type 0) (a b : List X) → AllByRecursion P a → AllByRecursion P b
    → AllByRecursion P (a ++ b)
all_both P [] b one two = two
all_both P (x ∷ a) b one two = (one.0, all_both P a b one.1 two)

told_both : (number : ℕ) (old mid new : SpeakingRecord) (first more : List RequestRecord) (text texts : List ℕ)
    → IsToldAll number old mid first text → IsToldAll number mid new more texts
    → IsToldAll number old new (first ++ more) (text ++ texts)
told_both number old mid new first more text texts a b = record {
  asked = a.asked ++ b.asked;
  alike = zip_both AreAlike first more a.asked b.asked a.alike b.alike;
  whole = all_both IsWholeRequest a.asked b.asked a.whole b.whole;
  replies = a.replies ++ b.replies;
  served = served_both number old.token mid.token new.token a.asked b.asked a.replies b.replies a.served b.served;
  told = ap (λ t. t ++ texts) a.told
      ∙ (ap (λ t. replies_told old.format old.terms.past a.replies ++ t) b.told
      ∙ (ap (λ (format : ReplyFormat). replies_told old.format old.terms.past a.replies
      ++ replies_told format mid.terms.past b.replies) a.stays
      ∙ (ap (λ (terms : Terms). replies_told old.format old.terms.past a.replies
      ++ replies_told old.format terms.past b.replies) a.keeps
      ∙ sym (flat_map-append (reply_told old.format old.terms.past) a.replies b.replies))));
  stays = b.stays ∙ a.stays;
  keeps = b.keeps ∙ a.keeps;
}

-- statements are asked by parts where they are asked by the whole
stated_first : (first more : List RequestRecord) → has_statement first ≡ true → has_statement (first ++ more) ≡ true
stated_first first more is =
    list_any-append is_statement first more ∙ ap (λ (b : Bool). b || has_statement more) is

stated_more : (first more : List RequestRecord) → has_statement more ≡ true → has_statement (first ++ more) ≡ true
stated_more first more is =
    list_any-append is_statement first more
    ∙ (ap (λ (b : Bool). has_statement first || b) is ∙ or-true (has_statement first))

-- a request that spells a script is refused for a statement alone
refused_statement : (request : List ℕ) (asked : List RequestRecord) (fault : ScriptError)
    → SpellsScript most_records request asked → HasFault request fault
    → IsOfStatement fault × (has_statement asked ≡ true)
refused_statement request asked fault spells (inl first) =
    (spelled_has_no_fault request most_records asked spells).0 fault first
refused_statement request asked fault spells (inr open_end) =
    absurd ((spelled_has_no_fault request most_records asked spells).1 fault open_end)

-- a session that takes all takes the first, and then what follows, where it still is as it was
taken_first : (old : SpeakingRecord) (first more : List RequestRecord) → IsTaken old (first ++ more)
    → IsTaken old first
taken_first old first more (inl all) = inl all
taken_first old first more (inr none) = inr (parts_have_none first more none).0

taken_more : (old mid : SpeakingRecord) (first more : List RequestRecord) → mid.terms ≡ old.terms
    → IsTaken old (first ++ more) → IsTaken mid more
taken_more old mid first more same (inl all) = inl (ap (λ (t : Terms). t.takes_refreshes) same ∙ all)
taken_more old mid first more same (inr none) = inr (parts_have_none first more none).1

-- a request that is taken is not refused for a refresh
not_both : true ≡ false → ⊥
not_both e = cc

refresh_alike : (one other : RequestRecord) → AreAlike one other → is_refresh other ≡ is_refresh one
refresh_alike (Refresh actions) other alike = ap is_refresh alike
refresh_alike (Order key) other alike = ap is_refresh alike
refresh_alike Abort other alike = ap is_refresh alike
refresh_alike (Ask asking) (Ask other) alike = refl
refresh_alike (Ask asking) (Refresh actions) alike = absurd alike
refresh_alike (Ask asking) (Order key) alike = absurd alike
refresh_alike (Ask asking) Abort alike = absurd alike

refreshes_alike : (one other : List RequestRecord) → AllZip AreAlike one other → has_refresh other ≡ has_refresh one
refreshes_alike [] [] alike = refl
refreshes_alike [] (b ∷ other) alike = absurd alike
refreshes_alike (a ∷ one) [] alike = absurd alike
refreshes_alike (a ∷ one) (b ∷ other) alike =
    ap (λ (first : Bool). first || has_refresh other) (refresh_alike a b alike.0)
    ∙ ap (λ (rest : Bool). is_refresh a || rest) (refreshes_alike one other alike.1)

request_told : (number : ℕ) (request : List ℕ) (old new : SpeakingRecord) (text : List ℕ)
    (asked : List RequestRecord)
    → SpellsScript most_records request asked → IsTaken old asked → IsAnswered number request old new text
    → IsToldAll number old new asked text
    ⊎ ((has_statement asked ≡ true) × (RefusesStatement old.format request text × (new ≡ old)))
request_told number request old new text asked spells taken (inl reported) = inl (record {
  asked = reported.asked;
  alike = one_reading request most_records most_records asked reported.asked spells reported.spelled;
  whole = recursion_from_All IsWholeRequest reported.asked reported.spelled.whole;
  replies = reported.replies;
  served = reported.served;
  told = reported.report;
  stays = reported.stays;
  keeps = reported.keeps;
})
request_told number request old new text asked spells taken (inr (inl refused)) =
    let is = refused_statement request asked refused.fault spells refused.has in
    let refuses : RefusesStatement old.format request text =
    record { fault = refused.fault; of_statement = is.0; has = refused.has; told = refused.line } in
    inr (is.1, (refuses, refused.unchanged))
request_told number request old new text asked spells taken (inr (inr (inl given))) =
    absurd (spelled_asks_nothing most_records request asked spells (Format new.format) given.names)
request_told number request old new text asked spells taken (inr (inr (inr (inl other)))) =
    let alike = one_reading request most_records most_records asked other.asked spells other.spelled in
    absurd (not_both (sym other.has
    ∙ (refreshes_alike asked other.asked alike ∙ has_none old asked other.takes_none taken)))
request_told number request old new text asked spells taken (inr (inr (inr (inr looked)))) =
    absurd (spelled_asks_nothing most_records request asked spells (LookUp looked.asked) looked.asks)

-- after a request that was told, or whose statement is refused, the others are told so
then_told : (number : ℕ) (old mid new : SpeakingRecord) (first more : List RequestRecord) (request text : List ℕ)
    (requests texts : List (List ℕ)) → IsToldAll number old mid first text
    → IsTold number mid new more requests texts
    → IsTold number old new (first ++ more) (request ∷ requests) (text ∷ texts)
then_told number old mid new first more request text requests texts told (inl rest) =
    inl (told_both number old mid new first more text (concat texts) told rest)
then_told number old mid new first more request text requests texts told (inr refuse) =
    inr (
      stated_more first more refuse.0,
      inr (subst (λ (format : ReplyFormat). RefuseStatement format requests texts) told.stays refuse.1),
    )

requests_told : (number : ℕ) (old new : SpeakingRecord) (requests texts : List (List ℕ))
    (each : List (List RequestRecord))
    → AllZip (SpellsScript most_records) requests each → IsTaken old (flat_map (λ r. r) each)
    → AreAnswered number old requests texts new
    → IsTold number old new (flat_map (λ r. r) each) requests texts
requests_told number old new [] [] [] spells taken are = inl (record {
  asked = [];
  alike = tt;
  whole = tt;
  replies = [];
  served = ap (λ (client : SpeakingRecord). client.token) are;
  told = refl;
  stays = ap (λ (client : SpeakingRecord). client.format) are;
  keeps = ap (λ (client : SpeakingRecord). client.terms) are;
})
requests_told number old new [] (text ∷ texts) each spells taken are = absurd are
requests_told number old new [] [] (asked ∷ each) spells taken are = absurd spells
requests_told number old new (request ∷ requests) texts [] spells taken are = absurd spells
requests_told number old new (request ∷ requests) [] (asked ∷ each) spells taken are = absurd are
requests_told number old new (request ∷ requests) (text ∷ texts) (asked ∷ each) spells taken are =
    let more = flat_map (λ r. r) each in
    elim (request_told number request old are.0 text asked spells.0 (taken_first old asked more taken) are.1) [
      | inl told ↦ then_told number old are.0 new asked more request text requests texts told
          (requests_told number are.0 new requests texts each spells.1 (taken_more old are.0 asked more told.keeps taken)
          are.2)
      | inr refused ↦ inr (stated_first asked more refused.0, inl refused.1.0)
    ]

-- all that is answered spells what the requests ask, and then what is left does
spells_push : (requests : List (List ℕ)) (each : List (List RequestRecord)) (rest : List ℕ) (last : List RequestRecord)
    → AllZip (SpellsScript most_records) requests each → SpellsScript most_records rest last
    → AllZip (SpellsScript most_records) (requests ++ rest ∷ []) (each ++ last ∷ [])
spells_push [] [] rest last all spells = (spells, tt)
spells_push [] (asked ∷ each) rest last all spells = absurd all
spells_push (request ∷ requests) [] rest last all spells = absurd all
spells_push (request ∷ requests) (asked ∷ each) rest last all spells =
    (all.0, spells_push requests each rest last all.1 spells)

record AllSpell (texts : List (List ℕ)) (wanted : List RequestRecord) : Type 0 where
  parts : List (List RequestRecord)
  each : AllZip (SpellsScript most_records) texts parts
  joined : flat_map (λ r. r) parts ≡ wanted

all_spell : (requests : List (List ℕ)) (each : List (List RequestRecord)) (rest : List ℕ) (last : List RequestRecord)
    → AllZip (SpellsScript most_records) requests each → SpellsScript most_records rest last
    → AllSpell (all_of requests rest) (flat_map (λ r. r) each ++ last)
all_spell requests each [] last all spells =
    let nothing : last ≡ [] = asks_nothing most_records last spells in
    record {
      parts = each;
      each = all;
      joined = sym (append-nil (flat_map (λ r. r) each)) ∙ ap (λ t. flat_map (λ r. r) each ++ t) (sym nothing);
    }
all_spell requests each (b ∷ rest) last all spells = record {
  parts = each ++ last ∷ [];
  each = spells_push requests each (b ∷ rest) last all spells;
  joined = flat_map-append (λ r. r) each (last ∷ [])
      ∙ ap (λ t. flat_map (λ r. r) each ++ t) (append-nil last);
}

told_script : (number : ℕ) (text : List ℕ) (wanted : List RequestRecord) (old new : SpeakingRecord) (texts : List (List ℕ))
    → SpellsScript most_records text wanted → IsToldAll number old new wanted (concat texts)
    → HasReplies number text wanted old new (concat texts)
told_script number text wanted old new texts spells told = record {
  asked = told.asked;
  alike = told.alike;
  spelled = alike_spelled most_records text wanted told.asked spells told.alike
      (All-from_recursion IsWholeRequest told.asked told.whole);
  replies = told.replies;
  served = told.served;
  are = told.told;
  stays = told.stays;
}

pub replies_of_script : (text : List ℕ) → HasRepliesOfScript text
replies_of_script text number old new requests texts rest wanted cut none marks spells taken are =
    let parts = script_of_requests_of most_records text requests rest wanted cut none marks spells in
    let all = all_spell requests parts.each rest parts.last parts.spelled parts.spelled_last in
    let same : flat_map (λ r. r) all.parts ≡ wanted = all.joined ∙ sym parts.joined in
    let told = requests_told number old new (all_of requests rest) texts all.parts all.each
    (subst (IsTaken old) (sym same) taken) are in
    elim (subst (λ asked. IsTold number old new asked (all_of requests rest) texts) same told) [
      | inl replied ↦ inl (told_script number text wanted old new texts spells replied)
      | inr refused ↦ inr refused
    ]
