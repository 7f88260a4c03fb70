-- How a session ends.
use Rattle.std.proofs.Common.{◌≡◌, ℕ, ◌+◌, ◌<◌, ◌≤◌, Bool, true, false, List, [], ◌∷◌, ◌++◌, length, take, get_or, Option, Some}
use Rattle.std.proofs.Common.{Result, Ok, Err, refl, sym, ap, ◌∙◌, subst, inl, inr, append_assoc, append-nil}
use Rattle.std.proofs.Common.{length-append, arith}
use Rattle.std.specs.Prelude.{slice_get}
use Rattle.std.specs.List.{AllByRecursion, concat}
use Rattle.std.specs.Io.KnownBytes.{Appends, Consumes}
use Rattle.std.proofs.KnownBytes.{Consumes-nil, Consumes-trans}
use Rattle.std.proofs.Math.Seq.{take-length, take-append_seam, get_or-append_seam}
use Rattle.std.proofs.lemmas.Option.{slice_get_read}
use Rattle.ssb_script.specs.Cutting.{IsRequest, IsUnfinished, IsCutInto}
use Rattle.ssb_script.proofs.RequestLaws.{concat-push, nothing_is_unfinished}
use Rattle.ssb_script.proofs.TakingLaws.{all_behind, less_behind}
use Rattle.ssb_formats.specs.declared.reply_format.ReplyFormat.{ReplyFormat}
use Rattle.ssb_text.specs.Written.{AppendsPart}
use Rattle.ssb_text.proofs.WrittenLaws.{appends_both}
use Rattle.stream_sessions.specs.Answers.{AreAnswered, BreaksOff}
use Rattle.stream_sessions.specs.Conversation.{IsConversation}
use Rattle.stream_sessions.specs.Course.{CourseRecord, HandsOnAll, HandsOnPart, HasAnswered, HasCome}
use Rattle.stream_sessions.specs.Course.{IsLeft, IsServedHeld, IsText, Steps, TakesBytes, TakesNext, is_last}
use Rattle.stream_sessions.specs.Course.{TellsBroken, TellsServed, number_in, told_by}
use Rattle.stream_sessions.specs.Exchange.{HasReplies, texts_taken}
use Rattle.stream_sessions.specs.FaultLine.{too_long_line}
use Rattle.stream_sessions.specs.OneRequest.{AreAlike}
use Rattle.stream_sessions.specs.Session.{all_of, answered_at, last_line, IsBroken, IsLast}
use Rattle.stream_sessions.specs.Session.{BreaksSo, EndsSo}
use Rattle.stream_sessions.specs.Speaking.{SpeakingRecord}
use Rattle.stream_sessions.specs.declared.outcome.Ending.{Ending}
use Rattle.stream_sessions.specs.declared.outcome.Ending.TheVariants as ending
use Rattle.stream_sessions.specs.declared.outcome.Served.{Served}
use Rattle.stream_sessions.specs.declared.outcome.SessionError.{SessionError}
use Rattle.stream_sessions.specs.declared.outcome.SessionFault.{SessionFault}
use Rattle.stream_sessions.specs.declared.outcome.SessionFault.TheVariants as fault
use Rattle.stream_sessions.specs.declared.step.Step.{Step}
use Rattle.stream_sessions.specs.declared.step.Step.TheVariants as step
use Rattle.stream_sessions.proofs.CourseLaws.{come_on, comes, comes_to, conversation_goes_on, no_fault, passed_stays}
use Rattle.stream_sessions.proofs.ExchangeLaws.{tells}
use Rattle.stream_sessions.proofs.SessionLaws.{answered_push, as_many, each_push, first_are}

-- requests, and what was read behind them, where no request ends
cut_at : (requests : List (List ℕ)) (rest : List ℕ) → AllByRecursion IsRequest requests → IsUnfinished rest
    → IsCutInto (concat requests ++ rest) requests rest
cut_at requests rest each none = grind arith

-- the rest is the last of all texts
rest_is_last : (requests : List (List ℕ)) (rest : List ℕ) → 0 < length rest
    → all_of requests rest ≡ requests ++ rest ∷ []
rest_is_last requests [] some = absurd (omega (arith, some))
rest_is_last requests (b ∷ rest) some = refl

-- the text behind the first ones
seam : (requests : List (List ℕ)) (request : List ℕ) (done : ℕ) → length requests ≡ done
    → slice_get (requests ++ request ∷ []) done ≡ Some request
seam requests request done count = slice_get_read (requests ++ request ∷ []) (length requests + 1) done request
    (sym (length-append requests (request ∷ []))) (omega (arith, count))
    (sym (ap (λ n. get_or (requests ++ request ∷ []) n request) (sym count)
    ∙ get_or-append_seam requests request [] request))

-- a text is told behind what was told before; or nothing is
told_more : (bytes text : List ℕ) (old new : CourseRecord) → TakesBytes bytes old new → new.held ≡ old.held ++ text
    → told_by new ≡ told_by old ++ text
told_more bytes text old new takes added = grind (arith, append_assoc, passed_stays)

told_same : (bytes : List ℕ) (old new : CourseRecord) → TakesBytes bytes old new → new.held ≡ old.held
    → told_by new ≡ told_by old
told_same bytes old new takes same = grind (arith, passed_stays)

-- the replies to what a session took that has come so far
replies : (first old : CourseRecord) → HasCome first false old
    → HasReplies (number_in first) first.client old.client old.wire.events old.held
replies first old come = tells old.wire.events (number_in first) first.client old.client old.held come.conversed

-- what a session is that took no request last, where its texts are so many
abbrev pub served_of : Step → ℕ → Served
served_of step.Request done = record { answered = done; ending = ending.InputEnded }
served_of step.Rest done = record { answered = done + 1; ending = ending.InputEnded }
served_of step.Nothing done = record { answered = done; ending = ending.InputEnded }
served_of step.TooLong done = record { answered = done; ending = ending.RequestTooLong }

served : (this : Step) (first old new : CourseRecord) → (this ≡ step.Request → ⊥) → HasCome first false old
    → TakesNext (Ok this) (number_in first) old new
    → TellsServed (served_of this (length (texts_taken old.wire.events))) first new
served step.Request first old new other come next = absurd (other refl)
served step.Rest first old new other come next =
    let so = replies first old come in
    let requests = texts_taken old.wire.events in
    let rest = next.bytes in
    let answer = next.so.1 in record {
      bytes = concat requests ++ rest;
      read = Consumes-trans _ _ _ _ _ come.read next.read;
      requests = requests;
      rest = rest;
      cut = cut_at requests rest so.each next.so.0.0;
      ends = all_behind _ _ _ _ come.read next.so.0.2;
      replies = so.replies ++ answer.text ∷ [];
      answered = subst
          (λ all. AreAnswered (number_in first) first.client all (so.replies ++ answer.text ∷ []) new.client)
          (sym (rest_is_last requests rest next.so.0.1))
          (answered_push _ _ _ _ _ _ _ _ so.answered answer.answered);
      count = omega (arith, as_many _ _ _ _ _ so.answered, length-append so.replies (answer.text ∷ []));
      told = told_more rest answer.text old new next.takes answer.added ∙ ap (λ t. t ++ answer.text) so.told
          ∙ sym (concat-push so.replies answer.text)
          ∙ sym (append-nil (concat (so.replies ++ answer.text ∷ [])));
    }
served step.Nothing first old new other come next =
    let so = replies first old come in
    let requests = texts_taken old.wire.events in record {
      bytes = concat requests ++ next.bytes;
      read = Consumes-trans _ _ _ _ _ come.read next.read;
      requests = requests;
      rest = [];
      cut = record {
        joined = ap (λ t. concat requests ++ t) next.so.0.0;
        each = so.each;
        unfinished = nothing_is_unfinished;
      };
      ends = all_behind _ _ _ _ come.read next.so.0.1;
      replies = so.replies;
      answered = subst (AreAnswered (number_in first) first.client requests so.replies) (sym next.so.1.0) so.answered;
      count = as_many _ _ _ _ _ so.answered;
      told = told_same next.bytes old new next.takes next.so.1.1 ∙ so.told ∙ sym (append-nil (concat so.replies));
    }
served step.TooLong first old new other come next =
    let so = replies first old come in
    let requests = texts_taken old.wire.events in record {
      bytes = concat requests ++ next.bytes;
      read = Consumes-trans _ _ _ _ _ come.read next.read;
      requests = requests;
      rest = next.bytes;
      cut = cut_at requests next.bytes so.each next.so.0.0;
      ends = (next.so.0.1, less_behind _ _ _ _ come.read next.so.0.2);
      replies = so.replies;
      answered = subst (AreAnswered (number_in first) first.client requests so.replies) (sym next.so.1) so.answered;
      count = as_many _ _ _ _ _ so.answered;
      told = told_more next.bytes _ old new next.takes next.so.2
          ∙ ap (λ t. t ++ too_long_line old.client.format) so.told
          ∙ ap (λ (client : SpeakingRecord). concat so.replies ++ too_long_line client.format) (sym next.so.1);
    }

-- a session broke that had come so far and read these bytes more: they are the requests from some on, and a rest
broken : (why : SessionFault) (first old : CourseRecord) (left : Option (List ℕ)) (new : SpeakingRecord)
    (bytes rest : List ℕ) (requests : List (List ℕ))
    → HasCome first false old → Consumes old.wire.unread left bytes
    → IsCutInto (concat (texts_taken old.wire.events) ++ bytes) requests rest
    → take (length (texts_taken old.wire.events)) (all_of requests rest) ≡ texts_taken old.wire.events
    → BreaksSo why (number_in first) requests rest (length (texts_taken old.wire.events)) old.client new []
    → IsBroken (record { answered = length (texts_taken old.wire.events); fault = why }) (number_in first) first.client
    new first.wire.unread left (told_by old)
broken why first old left new bytes rest requests come read cut begins so =
    let told = replies first old come in record {
      bytes = concat (texts_taken old.wire.events) ++ bytes;
      read = Consumes-trans _ _ _ _ _ come.read read;
      requests = requests;
      rest = rest;
      cut = cut;
      between = old.client;
      replies = told.replies;
      answered = subst (λ all. AreAnswered (number_in first) first.client all told.replies old.client) (sym begins)
          told.answered;
      count = as_many _ _ _ _ _ told.answered;
      line = [];
      breaks = so;
      told = told.told ∙ sym (append-nil (concat told.replies));
    }

-- behind its requests, where no request ends in what it read more
broken_behind : (why : SessionFault) (first old : CourseRecord) (left : Option (List ℕ)) (new : SpeakingRecord)
    (bytes : List ℕ)
    → HasCome first false old → Consumes old.wire.unread left bytes → IsUnfinished bytes
    → BreaksSo why (number_in first) (texts_taken old.wire.events) bytes (length (texts_taken old.wire.events))
    old.client new []
    → IsBroken (record { answered = length (texts_taken old.wire.events); fault = why }) (number_in first) first.client
    new first.wire.unread left (told_by old)
broken_behind why first old left new bytes come read none so =
    let requests = texts_taken old.wire.events in
    broken why first old left new bytes bytes requests come read
    (cut_at requests bytes (replies first old come).each none) (first_are requests bytes (length requests) refl) so

-- memory ran out in a request, or in the rest
broken_in : (first old new : CourseRecord) (bytes : List ℕ) → HasCome first false old
    → Consumes old.wire.unread new.wire.unread bytes → IsText old.wire.unread bytes
    → BreaksOff (number_in first) bytes old.client new.client
    → IsBroken (record { answered = length (texts_taken old.wire.events); fault = fault.OutOfMemory }) (number_in first)
    first.client new.client first.wire.unread new.wire.unread (told_by old)
broken_in first old new bytes come read (inl request) broke =
    let requests = texts_taken old.wire.events in
    broken fault.OutOfMemory first old new.wire.unread new.client bytes [] (requests ++ bytes ∷ []) come read
    (record {
      joined = sym (append-nil (concat (requests ++ bytes ∷ [])) ∙ concat-push requests bytes);
      each = each_push requests bytes (replies first old come).each request;
      unfinished = nothing_is_unfinished;
    })
    (take-append_seam requests (bytes ∷ [])) (
      omega (arith, length-append requests (bytes ∷ [])),
      inr (bytes, seam requests bytes (length requests) refl, broke),
      refl,
    )
broken_in first old new bytes come read (inr rest) broke =
    let requests = texts_taken old.wire.events in
    broken_behind fault.OutOfMemory first old new.wire.unread new.client bytes come read rest.0 (
      omega arith,
      inr (
        bytes,
        ap (λ all. slice_get all (length requests)) (rest_is_last requests bytes rest.1)
            ∙ seam requests bytes (length requests) refl,
        broke,
      ),
      refl,
    )

-- nothing was told meanwhile
told_alike : (why : SessionFault) (first old new : CourseRecord) (bytes : List ℕ) → TakesBytes bytes old new
    → new.held ≡ old.held
    → IsBroken (record { answered = length (texts_taken old.wire.events); fault = why }) (number_in first) first.client
    new.client first.wire.unread new.wire.unread (told_by old)
    → TellsBroken (record { answered = length (texts_taken old.wire.events); fault = why }) first new
told_alike why first old new bytes takes same broke =
    subst
    (IsBroken (record { answered = length (texts_taken old.wire.events); fault = why }) (number_in first) first.client
    new.client first.wire.unread new.wire.unread) (sym (told_same bytes old new takes same)) broke

-- a step failed that took bytes
broke : (why : SessionFault) (first old new : CourseRecord) → HasCome first false old
    → TakesNext (Err why) (number_in first) old new
    → TellsBroken (record { answered = length (texts_taken old.wire.events); fault = why }) first new
broke fault.Read first old new come next =
    told_alike fault.Read first old new next.bytes next.takes next.so.1.1
    (broken_behind fault.Read first old new.wire.unread new.client next.bytes come next.read next.so.0
    (refl, next.so.1.0, refl))
broke fault.Write first old new come next = absurd next.so
broke fault.OutOfMemory first old new come next = elim next.so [
  | inl early ↦
      told_alike fault.OutOfMemory first old new next.bytes next.takes early.1.1
      (broken_behind fault.OutOfMemory first old new.wire.unread new.client next.bytes come next.read early.0
      (omega arith, inl early.1.0, refl))
  | inr late ↦
      told_alike fault.OutOfMemory first old new next.bytes next.takes late.1.added
      (broken_in first old new next.bytes come next.read late.0 late.1.broken)
]

-- what breaks at a read or for want of memory may break at a write
breaks_likewise : (why : SessionFault) (number : ℕ) (requests : List (List ℕ)) (rest : List ℕ) (done : ℕ)
    (between new : SpeakingRecord)
    (line : List ℕ)
    → BreaksSo why number requests rest done between new line
    → BreaksSo fault.Write number requests rest done between new line
breaks_likewise fault.Read number requests rest done between new line so =
    (omega (arith, so.0), inl so.1, inl so.2)
breaks_likewise fault.Write number requests rest done between new line so = so
breaks_likewise fault.OutOfMemory number requests rest done between new line so = (so.0, so.1, inl so.2)

-- all texts, or those before one that is too long, are the first of all
first_answered : (how : Ending) (requests : List (List ℕ)) (rest : List ℕ) (done : ℕ)
    → length (answered_at how requests rest) ≡ done
    → take done (all_of requests rest) ≡ answered_at how requests rest
first_answered ending.InputEnded requests rest done count =
    ap (λ n. take n (all_of requests rest)) (sym count) ∙ take-length (all_of requests rest)
first_answered ending.RequestTooLong requests rest done count = first_are requests rest done count

all_are_more : (requests : List (List ℕ)) (rest : List ℕ) → length requests ≤ length (all_of requests rest)
all_are_more requests [] = omega arith
all_are_more requests (b ∷ rest) = omega (arith, length-append requests ((b ∷ rest) ∷ []))

answered_are_more : (how : Ending) (requests : List (List ℕ)) (rest : List ℕ)
    → length requests ≤ length (answered_at how requests rest)
answered_are_more ending.InputEnded requests rest = all_are_more requests rest
answered_are_more ending.RequestTooLong requests rest = omega arith

last_is : (format : ReplyFormat) (how : Ending) (unread : Option (List ℕ)) (bytes rest : List ℕ)
    → EndsSo how unread bytes rest → IsLast format rest (last_line format how)
last_is format ending.InputEnded unread bytes rest ends = inl refl
last_is format ending.RequestTooLong unread bytes rest ends = inr (ends.0, refl)

-- a text, and then a part of what was held
part_on : (a b c : Option (List ℕ)) (told held : List ℕ) → Appends a b told → AppendsPart b c held
    → AppendsPart a c (told ++ held)
part_on a b c told held one other = grind (arith, append_assoc, appends_both)

all_is_part : (a b : Option (List ℕ)) (text : List ℕ) → Appends a b text → AppendsPart a b text
all_is_part a b text all = grind (arith, append-nil)

-- The last replies are handed on.

pub served_is_left : (served : Served) (first now last : CourseRecord) → IsServedHeld served first now
    → HandsOnAll now last → IsLeft (Ok served) first last
served_is_left served first now last held hands =
    let come = come_on true first now last held.come hands in (
      come.alike,
      record {
        text = told_by now;
        is = rw (hands.0.client, hands.0.unread) held.told;
        written = appends_both _ _ _ _ _ held.come.wrote hands.0.written;
      },
      subst (IsConversation true (number_in first) first.client last.wire.events last.client) hands.1 come.conversed,
    )

pub broken_is_left : (error : SessionError) (first now last : CourseRecord) → (error.fault ≡ fault.Write → ⊥)
    → HasAnswered (Err error) first now → HandsOnAll now last → IsLeft (Err error) first last
broken_is_left error first now last other (inl there) hands = absurd (other there.0)
broken_is_left error first now last other (inr held) hands =
    let come = come_on held.ended first now last held.come hands in
    let written = appends_both _ _ _ _ _ held.come.wrote hands.0.written in (
      come.alike,
      record {
        text = told_by now;
        is = rw (hands.0.client, hands.0.unread) held.told;
        written = (all_is_part _ _ _ written, λ _. written);
      },
      (held.ended, last.held, come.conversed, λ _. hands.1),
    )

-- Or they are not.

in_vain : (why : SessionFault) (ended : Bool) (answered : ℕ) (first now last : CourseRecord) → HasCome first ended now
    → TellsBroken (record { answered = answered; fault = fault.Write }) first now
    → (why ≡ fault.Write) × HandsOnPart now last → IsLeft (Err (record { answered = answered; fault = why })) first last
in_vain why ended answered first now last come told (is, hands) =
    subst (λ (w : SessionFault). IsLeft (Err (record { answered = answered; fault = w })) first last) (sym is) (
      subst (λ (c : SpeakingRecord). AreAlike first.client.token c.token) (sym hands.client) come.alike,
      record {
        text = told_by now;
        is = rw (hands.client, hands.unread) told;
        written = (part_on _ _ _ _ _ come.wrote hands.written, λ other. absurd (other refl));
      },
      (
        ended,
        last.held,
        conversation_goes_on ended (number_in first) first.client now last hands.client hands.passed come.conversed,
        λ other. absurd (other refl),
      ),
    )

pub served_in_vain : (why : SessionFault) (served : Served) (first now last : CourseRecord)
    → IsServedHeld served first now → (why ≡ fault.Write) × HandsOnPart now last
    → IsLeft (Err (record { answered = served.answered; fault = why })) first last
served_in_vain why served first now last held hands =
    let is = held.told in
    let all = answered_at served.ending is.requests is.rest in
    let many = sym (as_many _ _ _ all is.replies is.answered) ∙ is.count in
    in_vain why true served.answered first now last held.come (record {
      bytes = is.bytes;
      read = is.read;
      requests = is.requests;
      rest = is.rest;
      cut = is.cut;
      between = now.client;
      replies = is.replies;
      answered = subst (λ all. AreAnswered (number_in first) first.client all is.replies now.client)
          (sym (first_answered served.ending is.requests is.rest served.answered many)) is.answered;
      count = is.count;
      line = last_line now.client.format served.ending;
      breaks = (
        omega (arith, many, answered_are_more served.ending is.requests is.rest),
        inl refl,
        last_is now.client.format served.ending first.wire.unread is.bytes is.rest is.ends,
      );
      told = is.told;
    }) hands

pub broken_in_vain : (why : SessionFault) (error : SessionError) (first now last : CourseRecord)
    → (error.fault ≡ fault.Write → ⊥) → HasAnswered (Err error) first now → (why ≡ fault.Write) × HandsOnPart now last
    → IsLeft (Err (record { answered = error.answered; fault = why })) first last
broken_in_vain why error first now last other (inl there) hands = absurd (other there.0)
broken_in_vain why error first now last other (inr held) hands =
    let is = held.told in
    in_vain why held.ended error.answered first now last held.come (record {
      bytes = is.bytes;
      read = is.read;
      requests = is.requests;
      rest = is.rest;
      cut = is.cut;
      between = is.between;
      replies = is.replies;
      answered = is.answered;
      count = is.count;
      line = is.line;
      breaks = breaks_likewise error.fault (number_in first) is.requests is.rest error.answered is.between now.client is.line
          is.breaks;
      told = is.told;
    }) hands

-- The step with which it ends.

-- what came of the last bytes is the last
last_is_last : (this : Step) → (this ≡ step.Request → ⊥) → is_last (Ok this) ≡ true
last_is_last step.Request other = absurd (other refl)
last_is_last step.Rest other = refl
last_is_last step.Nothing other = refl
last_is_last step.TooLong other = refl

pub has_served : (this is : Step) (number done : ℕ) (first old new : CourseRecord) → this ≡ is
    → (is ≡ step.Request → ⊥) → number ≡ number_in first → HasCome first false old
    → length (texts_taken old.wire.events) ≡ done → Steps (Ok this) number old new
    → IsServedHeld (served_of is done) first new
has_served this is number done first old new one other same come many (inl failed) =
    absurd (no_fault this fault.Write failed.0)
has_served this is number done first old new one other same come many (inr taken) =
    let to = comes_to (Ok this) number first old new same come taken in
    let next = subst (λ (s : Step). TakesNext (Ok s) (number_in first) taken.between new) one to.next in
    record {
      come = subst (λ (b : Bool). HasCome first b new) (last_is_last is other)
          (comes (Ok is) first taken.between new to.come next);
      told = subst (λ (n : ℕ). TellsServed (served_of is n) first new) (to.many ∙ many)
          (served is first taken.between new other to.come next);
    }

fault_is : (result : Result Step SessionFault) (why other : SessionFault) → result ≡ Err why → result ≡ Err other
    → why ≡ other
fault_is result why other one is = cc

-- what was held could not be handed on before a step
stopped : (why : SessionFault) (first old new : CourseRecord) → HasCome first false old
    → (why ≡ fault.Write) × HandsOnPart old new
    → IsLeft (Err (record { answered = length (texts_taken old.wire.events); fault = why })) first new
stopped why first old new come failed =
    in_vain why false (length (texts_taken old.wire.events)) first old new come
    (broken_behind fault.Write first old old.wire.unread old.client [] come (Consumes-nil _) nothing_is_unfinished
    (omega arith, inl refl, inl refl)) failed

no_write : (why : SessionFault) (number : ℕ) (old new : CourseRecord) → TakesNext (Err why) number old new
    → why ≡ fault.Write → ⊥
no_write why number old new next is =
    let same = subst (λ (w : SessionFault). TakesNext (Err w) number old new) is next in same.so

pub has_broken : (why : SessionFault) (number done : ℕ) (first old new : CourseRecord) → number ≡ number_in first
    → HasCome first false old → length (texts_taken old.wire.events) ≡ done → Steps (Err why) number old new
    → HasAnswered (Err (record { answered = done; fault = why })) first new
has_broken why number done first old new same come many (inl failed) =
    let is = fault_is (Err why) why fault.Write refl failed.0 in
    inl (
      is,
      subst (λ (n : ℕ). IsLeft (Err (record { answered = n; fault = why })) first new) many
          (stopped why first old new come (is, failed.1)),
    )
has_broken why number done first old new same come many (inr taken) =
    let to = comes_to (Err why) number first old new same come taken in
    inr (record {
      other = no_write why (number_in first) taken.between new to.next;
      ended = true;
      come = comes (Err why) first taken.between new to.come to.next;
      told = subst (λ (n : ℕ). TellsBroken (record { answered = n; fault = why }) first new) (to.many ∙ many)
          (broke why first taken.between new to.come to.next);
    })

-- no more requests are served than can be counted
pub ends_at_bound : (first now : CourseRecord) (done : ℕ) → HasCome first false now
    → length (texts_taken now.wire.events) ≡ done
    → HasAnswered (Err (record { answered = done; fault = fault.Read })) first now
ends_at_bound first now done come many = inr (record {
  other = λ is. cc;
  ended = false;
  come = come;
  told = subst (λ (n : ℕ). TellsBroken (record { answered = n; fault = fault.Read }) first now) many
      (broken_behind fault.Read first now now.wire.unread now.client [] come (Consumes-nil _) nothing_is_unfinished
      (refl, refl, refl));
})
