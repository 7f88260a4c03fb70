-- What was taken and what was passed on in a conversation.
use Rattle.std.proofs.Common.{◌≡◌, ℕ, true, false, List, [], ◌∷◌, ◌++◌, refl, sym, ap, ◌∙◌, subst, inl, inr, append-nil}
use Rattle.std.proofs.Common.{append_assoc}
use Rattle.std.specs.List.{concat}
use Rattle.ssb_script.proofs.RequestLaws.{concat-push}
use Rattle.stream_sessions.specs.Conversation.{AddsReply, IsConversation}
use Rattle.stream_sessions.specs.Events.{Event, Looks, Takes, Passes}
use Rattle.stream_sessions.specs.Exchange.{HasReplies, HasRepliesToLast, TellsReplies, passed, texts_taken}
use Rattle.stream_sessions.specs.FaultLine.{too_long_line}
use Rattle.stream_sessions.specs.Speaking.{SpeakingRecord}
use Rattle.stream_sessions.proofs.SessionLaws.{answered_push, each_push}

-- what is held goes on so behind what was passed on
behind : (given was text kept : List ℕ) → kept ≡ was ++ text → given ++ kept ≡ (given ++ was) ++ text
behind given was text kept is = ap (λ t. given ++ t) is ∙ sym (append_assoc given was text)

-- all that is held is passed on
moved : (given text held : List ℕ) → held ≡ [] → (given ++ text) ++ held ≡ given ++ text
moved given text held none = ap (λ t. (given ++ text) ++ t) none ∙ append-nil (given ++ text)

pub tells : (events : List Event) (number : ℕ) (old now : SpeakingRecord) (held : List ℕ)
    → IsConversation false number old events now held → HasReplies number old now events held
tells [] number old now held c = record {
  each = tt;
  replies = [];
  answered = c.1;
  told = c.2;
}
tells (Looks at_hand ∷ earlier) number old now held c =
    let so = tells earlier number old now held c.1 in
    record { each = so.each; replies = so.replies; answered = so.answered; told = so.told }
tells (Takes bytes ∷ earlier) number old now held c =
    let adds = c.4.1 in
    let so = tells earlier number old c.0 c.1 c.2 in
    record {
      each = each_push (texts_taken earlier) bytes so.each c.4.0;
      replies = so.replies ++ adds.text ∷ [];
      answered = answered_push number old c.0 now (texts_taken earlier) so.replies bytes adds.text so.answered adds.answered;
      told = behind (passed earlier) c.1 adds.text held adds.added ∙ ap (λ t. t ++ adds.text) so.told
          ∙ sym (concat-push so.replies adds.text);
    }
tells (Passes text covered ∷ earlier) number old now held c =
    let so = tells earlier number old now text c.0 in
    record {
      each = so.each;
      replies = so.replies;
      answered = so.answered;
      told = moved (passed earlier) text held c.2 ∙ so.told;
    }

not_ended : true ≡ false → ⊥
not_ended e = cc

-- what comes of the last bytes, behind what was passed on
adds_behind : (number : ℕ) (bytes : List ℕ) (old new : SpeakingRecord) (given was kept whole : List ℕ)
    → given ++ was ≡ whole → AddsReply true number bytes old new was kept
    → AddsReply true number bytes old new whole (given ++ kept)
adds_behind number bytes old new given was kept whole all adds = elim adds [
  | inl answer ↦ inl (record {
    text = answer.text;
    answered = answer.answered;
    added = behind given was answer.text kept answer.added ∙ ap (λ t. t ++ answer.text) all;
  })
  | inr others ↦ elim others [
    | inl nothing ↦ inr (inl (record {
      broken = nothing.broken;
      added = ap (λ t. given ++ t) nothing.added ∙ all;
    }))
    | inr long ↦
        let line = too_long_line old.format in
        inr (inr (long.0, behind given was line kept long.1 ∙ ap (λ t. t ++ line) all))
  ]
]

-- nothing is taken back
adds_moved : (number : ℕ) (bytes : List ℕ) (old new : SpeakingRecord) (whole one other : List ℕ)
    → other ≡ one → AddsReply true number bytes old new whole one → AddsReply true number bytes old new whole other
adds_moved number bytes old new whole one other is adds =
    subst (AddsReply true number bytes old new whole) (sym is) adds

tells_to_last : (events : List Event) (number : ℕ) (old now : SpeakingRecord) (held : List ℕ)
    → IsConversation true number old events now held → HasRepliesToLast number old now events held
tells_to_last [] number old now held c = absurd (not_ended c.0)
tells_to_last (Looks at_hand ∷ earlier) number old now held c = absurd (not_ended c.0)
tells_to_last (Takes bytes ∷ earlier) number old now held c =
    let so = tells earlier number old c.0 c.1 c.2 in
    record {
      requests = texts_taken earlier;
      each = so.each;
      last = bytes;
      took = refl;
      replies = so.replies;
      between = c.0;
      answered = so.answered;
      told = adds_behind number bytes c.0 now (passed earlier) c.1 held (concat so.replies) so.told c.4;
    }
tells_to_last (Passes text covered ∷ earlier) number old now held c =
    let so = tells_to_last earlier number old now text c.0 in
    record {
      requests = so.requests;
      each = so.each;
      last = so.last;
      took = so.took;
      replies = so.replies;
      between = so.between;
      answered = so.answered;
      told = adds_moved number so.last so.between now (concat so.replies) (passed earlier ++ text)
          ((passed earlier ++ text) ++ held) (moved (passed earlier) text held c.2) so.told;
    }

pub conversation_tells_replies : (events : List Event) → TellsReplies events
conversation_tells_replies events number old now held =
    (tells events number old now held, tells_to_last events number old now held)
