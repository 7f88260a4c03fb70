-- A session's course, which is a conversation, and how it goes on.
use Rattle.std.proofs.Common.{◌≡◌, ℕ, Bool, false, List, [], ◌∷◌, ◌++◌, Result, Ok, Err, length, ◌<◌, refl, sym, ap}
use Rattle.std.proofs.Common.{◌∙◌, subst, inl, inr, append-nil, ◌+◌, length-append}
use Rattle.std.specs.Prelude.{◌⊎◌}
use Rattle.std.specs.Io.KnownBytes.{Appends, Consumes}
use Rattle.std.specs.List.{concat}
use Rattle.std.proofs.KnownBytes.{Consumes-trans}
use Rattle.ssb_script.proofs.RequestLaws.{concat-push}
use Rattle.ssb_text.proofs.WrittenLaws.{appends_both}
use Rattle.stream_sessions.specs.Conversation.{AddsReply, IsConversation, most_held}
use Rattle.stream_sessions.specs.Course.{ComesSo, CourseRecord, HandsInTime, HandsOnAll, HasCome}
use Rattle.stream_sessions.specs.Course.{PassesHeld, PassesNothing, Steps, TakesBytes, TakesNext, TakesStep, is_last, number_in}
use Rattle.stream_sessions.specs.Exchange.{passed, texts_taken}
use Rattle.stream_sessions.specs.OneRequest.{AreAlike}
use Rattle.stream_sessions.specs.Speaking.{SpeakingRecord}
use Rattle.stream_sessions.specs.declared.outcome.SessionFault.{SessionFault}
use Rattle.stream_sessions.specs.declared.outcome.SessionFault.TheVariants as fault
use Rattle.stream_sessions.specs.declared.step.Step.{Step}
use Rattle.stream_sessions.specs.declared.step.Step.TheVariants as step
use Rattle.stream_sessions.proofs.RequestLaws.{alike_both}

-- What is passed on.

-- nothing was taken
texts_stay : (old new : CourseRecord) → PassesNothing old new ⊎ PassesHeld old new
    → texts_taken new.wire.events ≡ texts_taken old.wire.events
texts_stay old new (inl nothing) = ap texts_taken nothing.events
texts_stay old new (inr all) = ap texts_taken all.events

-- all that was held was passed on
all_passed : (old new : CourseRecord) → PassesNothing old new ⊎ PassesHeld old new → new.held ≡ []
    → passed new.wire.events ≡ passed old.wire.events ++ old.held
all_passed old new (inl nothing) none =
    ap passed nothing.events ∙ sym (append-nil (passed old.wire.events))
    ∙ ap (λ t. passed old.wire.events ++ t) (sym none ∙ nothing.held)
all_passed old new (inr all) none = ap passed all.events

pub conversation_goes_on : (ended : Bool) (number : ℕ) (first : SpeakingRecord) (old new : CourseRecord)
    → new.client ≡ old.client → PassesNothing old new ⊎ PassesHeld old new
    → IsConversation ended number first old.wire.events old.client old.held
    → IsConversation ended number first new.wire.events new.client new.held
conversation_goes_on ended number first old new same (inl nothing) c = rw (same, nothing.events, nothing.held) c
conversation_goes_on ended number first old new same (inr all) c =
    rw (same, all.events, all.none) (c, all.seen, refl)

pub come_on : (ended : Bool) (first old new : CourseRecord) → HasCome first ended old → HandsOnAll old new
    → HasCome first ended new
come_on ended first old new come (hands, none) = record {
  alike = subst (λ (c : SpeakingRecord). AreAlike first.client.token c.token) (sym hands.client) come.alike;
  conversed = conversation_goes_on ended (number_in first) first.client old new hands.client hands.passed come.conversed;
  read = rw (hands.unread, texts_stay old new hands.passed) come.read;
  wrote = subst (Appends first.wire.written new.wire.written) (sym (all_passed old new hands.passed none))
      (appends_both _ _ _ _ _ come.wrote hands.written);
}

-- What is taken.

taken_more : (bytes : List ℕ) (old new : CourseRecord) → TakesBytes bytes old new
    → texts_taken new.wire.events ≡ texts_taken old.wire.events ++ bytes ∷ []
taken_more bytes old new (inl at_hand) = ap texts_taken at_hand
taken_more bytes old new (inr looks) = ap texts_taken looks.events

pub passed_stays : (bytes : List ℕ) (old new : CourseRecord) → TakesBytes bytes old new
    → passed new.wire.events ≡ passed old.wire.events
passed_stays bytes old new (inl at_hand) = ap passed at_hand
passed_stays bytes old new (inr looks) = ap passed looks.events

adds : (result : Result Step SessionFault) (number : ℕ) (bytes : List ℕ) (old new : CourseRecord)
    → ComesSo result number bytes old new
    → AddsReply (is_last result) number bytes old.client new.client old.held new.held
adds (Ok step.Request) number bytes old new so = so
adds (Ok step.Rest) number bytes old new so = inl so.1
adds (Ok step.Nothing) number bytes old new so = inr (inl (record { broken = inl so.1.0; added = so.1.1 }))
adds (Ok step.TooLong) number bytes old new so = inr (inr (so.1, so.2))
adds (Err fault.Read) number bytes old new so = inr (inl (record { broken = inl so.1.0; added = so.1.1 }))
adds (Err fault.Write) number bytes old new so = absurd so
adds (Err fault.OutOfMemory) number bytes old new (inl early) =
    inr (inl (record { broken = inl early.1.0; added = early.1.1 }))
adds (Err fault.OutOfMemory) number bytes old new (inr late) = inr (inl late.1)

takes_on : (ended : Bool) (number : ℕ) (first : SpeakingRecord) (bytes : List ℕ) (old new : CourseRecord)
    → TakesBytes bytes old new → IsConversation false number first old.wire.events old.client old.held
    → length old.held < most_held → AddsReply ended number bytes old.client new.client old.held new.held
    → IsConversation ended number first new.wire.events new.client new.held
takes_on ended number first bytes old new (inl at_hand) c few adds = rw at_hand (old.client, old.held, c, few, adds)
takes_on ended number first bytes old new (inr looks) c few adds =
    rw looks.events (old.client, old.held, (refl, c, looks.none), few, adds)

pub comes : (result : Result Step SessionFault) (first old new : CourseRecord) → HasCome first false old
    → TakesNext result (number_in first) old new → HasCome first (is_last result) new
comes result first old new come next = record {
  alike = alike_both _ _ _ come.alike next.alike;
  conversed = takes_on (is_last result) (number_in first) first.client next.bytes old new next.takes come.conversed
      next.few (adds result (number_in first) next.bytes old new next.so);
  read = subst (Consumes first.wire.unread new.wire.unread)
      (sym (ap concat (taken_more next.bytes old new next.takes) ∙ concat-push (texts_taken old.wire.events) next.bytes))
      (Consumes-trans _ _ _ _ _ come.read next.read);
  wrote = rw (next.written, passed_stays next.bytes old new next.takes) come.wrote;
}

-- A step.

in_time : (first old new : CourseRecord) → HasCome first false old → HandsInTime old new → HasCome first false new
in_time first old new come (inl same) = subst (HasCome first false) (sym same) come
in_time first old new come (inr hands) = come_on false first old new come hands

texts_in_time : (old new : CourseRecord) → HandsInTime old new
    → texts_taken new.wire.events ≡ texts_taken old.wire.events
texts_in_time old new (inl same) = ap (λ (c : CourseRecord). texts_taken c.wire.events) same
texts_in_time old new (inr hands) = texts_stay old new hands.0.passed

-- a session that came to a step, where the step takes what comes next
pub record ComesTo (result : Result Step SessionFault) (first old between new : CourseRecord) : Type 0 where
  pub come : HasCome first false between
  pub many : length (texts_taken between.wire.events) ≡ length (texts_taken old.wire.events)
  pub next : TakesNext result (number_in first) between new

pub comes_to : (result : Result Step SessionFault) (number : ℕ) (first old new : CourseRecord)
    → number ≡ number_in first → HasCome first false old → (taken : TakesStep result number old new)
    → ComesTo result first old taken.between new
comes_to result number first old new same come taken = record {
  come = in_time first old taken.between come taken.handed;
  many = ap length (texts_in_time old taken.between taken.handed);
  next = subst (λ (n : ℕ). TakesNext result n taken.between new) same taken.next;
}

pub no_fault : {X E : Type 0} (x : X) (e : E) → Ok x ≡ Err e → ⊥
no_fault x e is = cc

-- a request was answered, and the session goes on
pub goes_on : (this : Step) (number : ℕ) (first old new : CourseRecord) → this ≡ step.Request → number ≡ number_in first
    → HasCome first false old → Steps (Ok this) number old new
    → HasCome first false new × (length (texts_taken new.wire.events) ≡ length (texts_taken old.wire.events) + 1)
goes_on this number first old new is same come (inl failed) = absurd (no_fault this fault.Write failed.0)
goes_on this number first old new is same come (inr taken) =
    let to = comes_to (Ok this) number first old new same come taken in
    let next = subst (λ (s : Step). TakesNext (Ok s) (number_in first) taken.between new) is to.next in (
      comes (Ok step.Request) first taken.between new to.come next,
      ap length (taken_more next.bytes taken.between new next.takes)
          ∙ length-append (texts_taken taken.between.wire.events) (next.bytes ∷ []) ∙ ap (λ n. n + 1) to.many,
    )
