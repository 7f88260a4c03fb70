-- The terms of a session stay, and one that takes no refreshes commits nothing.
use Rattle.std.proofs.Common.{◌≡◌, ◌∙◌, ◌||◌, ℕ, Bool, true, false, List, [], ◌∷◌, ◌++◌, inl, inr, refl, sym, ap, Result, Ok, Err}
use Rattle.std.proofs.lemmas.List.Folds.{list_any-append}
use Rattle.history.specs.Tokens.{TokenRecord}
use Rattle.ssb_report.specs.Replies.{Reply, Answered, Listed, Shown, Aborted}
use Rattle.ssb_script.specs.Requests.{RequestRecord, Refresh, Ask, Order, Abort}
use Rattle.stream_sessions.specs.Answers.{BreaksOff, IsAnswered}
use Rattle.stream_sessions.specs.Conversation.{AddsReply, ConversesTo, IsConversation}
use Rattle.stream_sessions.specs.Events.{Event, Looks, Takes, Passes}
use Rattle.stream_sessions.specs.ReadingOnly.{CommitsNothing}
use Rattle.stream_sessions.specs.Served.{AreServed, IsServed}
use Rattle.stream_sessions.specs.declared.manner.Terms.{Terms}
use Rattle.stream_sessions.specs.declared.outcome.Served.{Served}
use Rattle.stream_sessions.specs.declared.outcome.SessionError.{SessionError}
use Rattle.stream_sessions.specs.Speaking.{IsTaken, SpeakingRecord, has_refresh, is_refresh}
use Rattle.stream_sessions.proofs.RequestLaws.{shown_hands}

not_both : true ≡ false → ⊥
not_both e = cc

-- there is no refresh in either of two parts
neither : (a b : Bool) → (a || b) ≡ false → (a ≡ false) × (b ≡ false)
neither true b none = absurd (not_both none)
neither false b none = (refl, none)

pub parts_have_none : (first more : List RequestRecord) → has_refresh (first ++ more) ≡ false
    → (has_refresh first ≡ false) × (has_refresh more ≡ false)
parts_have_none first more none =
    neither (has_refresh first) (has_refresh more) (sym (list_any-append is_refresh first more) ∙ none)

-- where no refreshes are taken, what is taken has none
pub has_none : (old : SpeakingRecord) (asked : List RequestRecord) → old.terms.takes_refreshes ≡ false → IsTaken old asked
    → has_refresh asked ≡ false
has_none old asked none (inl some) = absurd (not_both (sym some ∙ none))
has_none old asked none (inr is) = is

-- what was served that is no refresh committed nothing
served_mine : (number : ℕ) (old new : TokenRecord) (request : RequestRecord) (reply : Reply)
    → is_refresh request ≡ false → IsServed number old request reply new → new.mine ≡ old.mine
served_mine number old new (Refresh actions) reply none is = absurd (not_both none)
served_mine number old new (Ask asking) (Answered answers) none is =
    ap (λ (t : TokenRecord). t.mine) is.1.polled.now ∙ ap (λ (t : TokenRecord). t.mine) is.1.asked.now
served_mine number old new (Ask asking) (Listed answers listing) none is =
    ap (λ (t : TokenRecord). t.mine) is.1.polled.now ∙ ap (λ (t : TokenRecord). t.mine) is.1.asked.now
served_mine number old new (Order key) (Shown shown) none is =
    ap (λ (t : TokenRecord). t.mine) (shown_hands old key shown new is.0).now
served_mine number old new Abort Aborted none is = ap (λ (t : TokenRecord). t.mine) is
served_mine number old new request reply none is = absurd is

all_mine : (number : ℕ) (old new : TokenRecord) (asked : List RequestRecord) (replies : List Reply)
    → has_refresh asked ≡ false → AreServed number old asked replies new → new.mine ≡ old.mine
all_mine number old new [] [] none are = ap (λ (t : TokenRecord). t.mine) are
all_mine number old new [] (reply ∷ replies) none are = absurd are
all_mine number old new (request ∷ asked) [] none are = absurd are
all_mine number old new (request ∷ asked) (reply ∷ replies) none are =
    let both = neither (is_refresh request) (has_refresh asked) none in
    all_mine number are.0 new asked replies both.1 are.2 ∙ served_mine number old are.0 request reply both.0 are.1

-- the terms of a session stay, and where it takes no refreshes, nothing was committed
record Stays (old new : SpeakingRecord) : Type 0 where
  terms : new.terms ≡ old.terms
  mine : old.terms.takes_refreshes ≡ false → new.token.mine ≡ old.token.mine

same_stays : (old new : SpeakingRecord) → new ≡ old → Stays old new
same_stays old new same = record {
  terms = ap (λ (s : SpeakingRecord). s.terms) same;
  mine = λ none. ap (λ (s : SpeakingRecord). s.token.mine) same;
}

both_stay : (old mid new : SpeakingRecord) → Stays old mid → Stays mid new → Stays old new
both_stay old mid new one two = record {
  terms = two.terms ∙ one.terms;
  mine = λ none. two.mine (ap (λ (t : Terms). t.takes_refreshes) one.terms ∙ none) ∙ one.mine none;
}

answered_stays : (number : ℕ) (request : List ℕ) (old new : SpeakingRecord) (text : List ℕ)
    → IsAnswered number request old new text → Stays old new
answered_stays number request old new text (inl reported) = record {
  terms = reported.keeps;
  mine = λ none. all_mine number old.token new.token reported.asked reported.replies
      (has_none old reported.asked none reported.taken) reported.served;
}
answered_stays number request old new text (inr (inl refused)) = same_stays old new refused.unchanged
answered_stays number request old new text (inr (inr (inl given))) = record {
  terms = given.keeps;
  mine = λ none. ap (λ (t : TokenRecord). t.mine) given.unchanged;
}
answered_stays number request old new text (inr (inr (inr (inl not_taken)))) = same_stays old new not_taken.unchanged
answered_stays number request old new text (inr (inr (inr (inr looked)))) = same_stays old new looked.unchanged

broken_stays : (number : ℕ) (request : List ℕ) (old new : SpeakingRecord) → BreaksOff number request old new
    → Stays old new
broken_stays number request old new (inl same) = same_stays old new same
broken_stays number request old new (inr part) = record {
  terms = part.keeps;
  mine = λ none. all_mine number old.token new.token part.asked part.replies
      (parts_have_none part.asked part.left (has_none old (part.asked ++ part.left) none part.taken)).0 part.served;
}

adds_stays : (ended : Bool) (number : ℕ) (bytes : List ℕ) (old new : SpeakingRecord) (held kept : List ℕ)
    → AddsReply ended number bytes old new held kept → Stays old new
adds_stays false number bytes old new held kept adds =
    answered_stays number bytes old new adds.1.text adds.1.answered
adds_stays true number bytes old new held kept (inl answer) =
    answered_stays number bytes old new answer.text answer.answered
adds_stays true number bytes old new held kept (inr (inl nothing)) =
    broken_stays number bytes old new nothing.broken
adds_stays true number bytes old new held kept (inr (inr long)) = same_stays old new long.0

conversation_stays : (events : List Event) (ended : Bool) (number : ℕ) (old now : SpeakingRecord) (held : List ℕ)
    → IsConversation ended number old events now held → Stays old now
conversation_stays [] ended number old now held c = same_stays old now c.1
conversation_stays (Looks at_hand ∷ earlier) ended number old now held c =
    conversation_stays earlier false number old now held c.1
conversation_stays (Takes bytes ∷ earlier) ended number old now held c =
    both_stay old c.0 now (conversation_stays earlier false number old c.0 c.1 c.2)
    (adds_stays ended number bytes c.0 now c.1 held c.4)
conversation_stays (Passes text covered ∷ earlier) ended number old now held c =
    conversation_stays earlier ended number old now text c.0

converses_stays : (result : Result Served SessionError) (number : ℕ) (old now : SpeakingRecord) (events : List Event)
    → ConversesTo result number old now events → Stays old now
converses_stays (Ok served) number old now events c = conversation_stays events true number old now [] c
converses_stays (Err error) number old now events c = conversation_stays events c.0 number old now c.1 c.2

-- its terms are to its end as they were when it began
pub terms_stay : (result : Result Served SessionError) (number : ℕ) (old now : SpeakingRecord) (events : List Event)
    → ConversesTo result number old now events → now.terms ≡ old.terms
terms_stay result number old now events c = (converses_stays result number old now events c).terms

pub commits_nothing : (events : List Event) → CommitsNothing events
commits_nothing events result number terms old new none session =
    (converses_stays result number _ _ events session.1).mine none
