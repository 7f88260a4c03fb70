-- Serving one request after another.
use Rattle.std.proofs.Common.{◌≡◌, ℕ, ◌+◌, ◌<◌, ◌≤◌, false, List, [], ◌∷◌, ◌++◌, length, take, flat_map, Option}
use Rattle.std.proofs.Common.{Some, None, Result, Ok, Err, refl, sym, ◌∙◌, ap, subst, append_assoc, append-nil}
use Rattle.std.proofs.Common.{length-append, arith}
use Rattle.std.proofs.Math.Seq.{take-append-add, take-append_seam}
use Rattle.std.proofs.lemmas.List.Concat.{flat_map-append}
use Rattle.std.specs.Prelude.{IfSome}
use Rattle.std.specs.Option.{is_some}
use Rattle.ssb_schema.specs.declared.refresh.Action.{Action}
use Rattle.row_store.specs.declared.commit.Receipt.{Receipt}
use Rattle.row_store.specs.declared.refusal.RefreshError.{RefreshError}
use Rattle.row_store.specs.declared.refusal.RefreshError.TheVariants as refusal
use Rattle.history.specs.Tokens.{TokenRecord, IsSound}
use Rattle.history.specs.Members.{number_of}
use Rattle.ssb_script.specs.Requests.{RequestRecord, Refresh, Ask, Order, Abort}
use Rattle.ssb_report.specs.declared.order.ShownOrder.{ShownOrder}
use Rattle.ssb_report.specs.declared.order.ShownOrder.TheVariants as order
use Rattle.ssb_report.specs.Replies.{Reply, Refreshed, Answered, Listed, Shown, Aborted}
use Rattle.ssb_text.proofs.WrittenLaws.{appends_none, appends_both}
use Rattle.ssb_clients.specs.Clients as client
use Rattle.row_store.specs.History.{CommitRecord}
use Rattle.std.proofs.lemmas.List.{length-map}
use Rattle.history_core.specs.declared.response.Response.{Response}
use Rattle.history_core.specs.declared.response.Response.TheVariants.{Rows, Unserved}
use Rattle.history_core.specs.Events.{Questions}
use Rattle.history_core.specs.Responses.{answers_in, answers_with, asked_in}
use Rattle.history.specs.declared.request.PostedRequest.{PostedRequest}
use Rattle.history.specs.Words.{IsRight, request}
use Rattle.ssb_answers.specs.declared.answer.Answer.{Answer}
use Rattle.ssb_answers.specs.declared.answer.Answer.TheVariants as variant
use Rattle.ssb_answers.specs.declared.answer.ResultRow.{ResultRow}
use Rattle.stream_sessions.specs.Keeping.{KeepsMore, answer_count, question_count}
use Rattle.stream_sessions.specs.Served.{IsAnswered, IsServed, IsShown, AreServed, Serves, StopsAfter, Ends, told_of}
use Rattle.stream_sessions.specs.OneRequest.{ServesOne, ServesInPart, StopsIn, AreAlike, error_after}
use Rattle.stream_sessions.specs.declared.serve_error.ServeStop.{ServeStop}
use Rattle.stream_sessions.specs.declared.serve_error.ServeStop.TheVariants.{Write, OutOfMemory}
use Rattle.ssb_audit.specs.declared.trace.Told.{Told}

-- nothing is asked where no question is outstanding
pub asks_nothing : {X : Type 0} (asked : Option X) → is_some asked ≡ false → asked ≡ None
asks_nothing None none = refl
asks_nothing (Some x) none = absurd cc

-- a refresh leaves the client what it is
pub refreshed_alike : (before : TokenRecord) (number : ℕ) (actions : List Action) (reply : Result Receipt RefreshError)
    (after : TokenRecord)
    → client.Refreshed before number actions reply after → is_some before.asked ≡ false → AreAlike before after
refreshed_alike before number actions (Ok receipt) after refreshed quiet = grind (arith, asks_nothing)
refreshed_alike before number actions (Err (refusal.Refused at action cause)) after refreshed quiet = grind (arith, asks_nothing)
refreshed_alike before number actions (Err refusal.OutOfMemory) after refreshed quiet = grind (arith, asks_nothing)

-- where an order is shown, the client saw more, and nothing else of it changed
pub shown_hands : (before : TokenRecord) (key : ℕ) (shown : ShownOrder) (after : TokenRecord)
    → IsShown before key shown after → client.HandsBack before after
shown_hands before key (order.Lines shown at lines) after is = is.3
shown_hands before key (order.Unserved shown) after is = is.1

-- that leaves it what it is, too
pub handed_alike : (before after : TokenRecord) → client.HandsBack before after → is_some before.asked ≡ false
    → AreAlike before after
handed_alike before after handed quiet = grind (arith, asks_nothing)

pub alike_itself : (old : TokenRecord) → is_some old.asked ≡ false → AreAlike old old
alike_itself old quiet = record { table = refl; who = refl; quiet = asks_nothing old.asked quiet }

-- one client after another call
pub alike_both : (a b c : TokenRecord) → AreAlike a b → AreAlike b c → AreAlike a c
alike_both a b c first second = grind arith

pub asked_nothing : {X : Type 0} (asked : Option X) → asked ≡ None → is_some asked ≡ false
asked_nothing asked none = ap is_some none

-- questions, and the answers to them
pub answered : (before asking after : TokenRecord) (questions : Questions) (response : Response) (answers : List Answer)
    → client.Asks before questions asking → IsSound asking → client.Polls asking response after → IsSound after
    → answers ≡ answers_in response → IsAnswered before questions answers after
answered before asking after questions response answers asked between polled sound are = record {
  asking = asking;
  asked = asked;
  asking_sound = between;
  response = response;
  polled = polled;
  sound = sound;
  answers_are = are;
}

-- the response is to the questions that were asked
right_asks : (t : TokenRecord) (history : List CommitRecord) (asked : PostedRequest) (response : Response)
    → IsRight t.table.base history asked response → asked_in response ≡ asked.questions
right_asks t history asked (Rows questions at rows) right = right.0
right_asks t history asked (Unserved questions cause) right = right.0

-- it has no more answers than questions
few_with : (at : ℕ) (questions : Questions) (rows : List (List ResultRow))
    → length (answers_with at questions rows) ≤ length questions
few_with at [] rows = omega arith
few_with at (question ∷ questions) [] = omega arith
few_with at (question ∷ questions) (list ∷ rows) = omega (arith, few_with at questions rows)

pub few_answers : (response : Response) → length (answers_in response) ≤ length (asked_in response)
few_answers (Rows questions at rows) = few_with at questions rows
few_answers (Unserved questions cause) =
    omega (arith, length-map questions (λ question. variant.Unserved question cause))

some_is : {X : Type 0} {a b : X} → Some a ≡ Some b → a ≡ b
some_is e = cc

-- what is answered is what was asked, with what the client saw then as floor
pub asked_is : (before asking after : TokenRecord) (questions : Questions) (response : Response)
    → (asked : client.Asks before questions asking) → (polled : client.Polls asking response after)
    → polled.asked ≡ request questions (length asking.seen)
asked_is before asking after questions response asked polled =
    some_is (sym polled.was ∙ ap (λ (t : TokenRecord). t.asked) asked.now)

pub asked_same : (before asking after : TokenRecord) (questions : Questions) (response : Response)
    → client.Asks before questions asking → client.Polls asking response after → asked_in response ≡ questions
asked_same before asking after questions response asked polled =
    right_asks asking after.seen polled.asked response polled.right
    ∙ ap (λ (r : PostedRequest). r.questions) (asked_is before asking after questions response asked polled)

pub answered_alike : (before asking after : TokenRecord) (questions : Questions) (response : Response)
    → client.Asks before questions asking → client.Polls asking response after → AreAlike before after
answered_alike before asking after questions response asked polled = grind arith

-- as many replies as requests
same_count : (number : ℕ) (old new : TokenRecord) (requests : List RequestRecord) (replies : List Reply)
    → AreServed number old requests replies new → length replies ≡ length requests
same_count number old new [] [] are = grind arith
same_count number old new [] (reply ∷ replies) are = grind arith
same_count number old new (request ∷ requests) [] are = grind arith
same_count number old new (request ∷ requests) (reply ∷ replies) are = grind (arith, same_count number are.0 new requests replies are.2)

-- one request more
pub served_more : (number : ℕ) (old mid new : TokenRecord) (requests : List RequestRecord) (replies : List Reply)
    (request : RequestRecord)
    (reply : Reply)
    → AreServed number old requests replies mid → IsServed number mid request reply new
    → AreServed number old (requests ++ request ∷ []) (replies ++ reply ∷ []) new
served_more number old mid new [] [] request reply are next =
    (new, subst (λ t. IsServed number t request reply new) are next, refl)
served_more number old mid new [] (other ∷ replies) request reply are next = absurd are
served_more number old mid new (other ∷ requests) [] request reply are next = absurd are
served_more number old mid new (first ∷ requests) (answer ∷ replies) request reply are next =
    (are.0, are.1, served_more number are.0 mid new requests replies request reply are.2 next)

-- nothing more is kept of nothing
keeps_none : (told : Option (List Told)) → KeepsMore told told []
keeps_none None = tt
keeps_none (Some told) = sym (append-nil told)

keeps_both : (told_old told_mid told_new : Option (List Told)) (first more : List Told)
    → KeepsMore told_old told_mid first → KeepsMore told_mid told_new more → KeepsMore told_old told_new (first ++ more)
keeps_both None None None first more was is = grind arith
keeps_both None None (Some new) first more was is = grind arith
keeps_both None (Some mid) new first more was is = grind arith
keeps_both (Some old) None new first more was is = grind arith
keeps_both (Some old) (Some mid) None first more was is = grind arith
keeps_both (Some old) (Some mid) (Some new) first more was is = grind (arith, append_assoc)

-- what is kept of one reply more
kept_more : (number : ℕ) (replies : List Reply) (reply : Reply) (told_old told_mid told_new : Option (List Told))
    → KeepsMore told_old told_mid (flat_map (told_of number) replies)
    → KeepsMore told_mid told_new (told_of number reply)
    → KeepsMore told_old told_new (flat_map (told_of number) (replies ++ reply ∷ []))
kept_more number replies reply told_old told_mid told_new so_far more = grind (arith, flat_map-append, append-nil, keeps_both)

-- a reply has no more answers than its request has questions
pub few_replies : (number : ℕ) (old new : TokenRecord) (request : RequestRecord) (reply : Reply)
    → IsServed number old request reply new → answer_count reply ≤ question_count request
few_replies number old new (Refresh actions) (Refreshed result) is = grind arith
few_replies number old new (Ask asking) (Answered answers) is = grind (arith, asked_same, few_answers)
few_replies number old new (Ask asking) (Listed answers listing) is = grind (arith, asked_same, few_answers)
few_replies number old new (Order key) (Shown shown) is = grind arith
few_replies number old new Abort Aborted is = grind arith
few_replies number old new request reply is = absurd is

-- room for many is room for few, where anything is kept
pub room_for : {X : Type 0} (kept : Option X) (count room : X → ℕ) (few many : ℕ) → few ≤ many
    → IfSome kept (λ k. count k + many ≤ room k) → IfSome kept (λ k. count k + few ≤ room k)
room_for None count room few many less is = tt
room_for (Some k) count room few many less is = omega (arith, less, is)

-- no request
pub serves_none : (number : ℕ) (old : TokenRecord) (told : Option (List Told)) (before : Option (List ℕ))
    → Serves number old old [] told told before before
serves_none number old told before = grind (arith, keeps_none, appends_none)

-- one request more
pub serves_more : (number : ℕ) (old mid new : TokenRecord) (requests : List RequestRecord) (request : RequestRecord)
    (told_old told_mid told_new : Option (List Told)) (a b c : Option (List ℕ))
    → Serves number old mid requests told_old told_mid a b → ServesOne number mid new request told_mid told_new b c
    → Serves number old new (requests ++ request ∷ []) told_old told_new a c
serves_more number old mid new requests request told_old told_mid told_new a b c served next = grind (arith, served_more, kept_more, flat_map-append, append-nil, appends_both)

-- the same by the number of the client, who is still the same
pub serves_more_still : (old mid new : TokenRecord) (requests : List RequestRecord) (request : RequestRecord)
    (told_old told_mid told_new : Option (List Told)) (a b c : Option (List ℕ))
    → Serves (number_of old.who) old mid requests told_old told_mid a b → mid.who ≡ old.who
    → ServesOne (number_of mid.who) mid new request told_mid told_new b c
    → Serves (number_of old.who) old new (requests ++ request ∷ []) told_old told_new a c
serves_more_still old mid new requests request told_old told_mid told_new a b c served same next =
    serves_more (number_of old.who) old mid new requests request told_old told_mid told_new a b c served
    (subst (λ who. ServesOne (number_of who) mid new request told_mid told_new b c) same next)

-- the first requests and one that follows
take_next : (front rest : List RequestRecord) (request : RequestRecord) → take (length front + 1) (front ++ request ∷ rest) ≡ front
    ++ request ∷ []
take_next front rest request = take-append-add front (request ∷ rest) 1

stops_there : (number : ℕ) (old mid new : TokenRecord) (front rest : List RequestRecord) (request : RequestRecord)
    (told_old told_mid told_new : Option (List Told)) (a b c : Option (List ℕ))
    → Serves number old mid front told_old told_mid a b → ServesInPart number mid new request told_mid told_new b c
    → StopsAfter (length front) number old new (front ++ request ∷ rest) told_old told_new a c
stops_there number old mid new front rest request told_old told_mid told_new a b c served next = grind (arith, take_next, same_count, served_more, kept_more, appends_both)

-- serving stops before a request
stops_short : (number : ℕ) (old mid new : TokenRecord) (front rest : List RequestRecord) (request : RequestRecord)
    (told_old told_mid told_new : Option (List Told)) (a b c : Option (List ℕ))
    → Serves number old mid front told_old told_mid a b
    → StopsIn OutOfMemory number mid new request told_mid told_new b c
    → (length front < length (front ++ request ∷ rest))
    × Serves number old new (take (length front) (front ++ request ∷ rest)) told_old told_new a c
stops_short number old mid new front rest request told_old told_mid told_new a b c served stopped = grind (arith, length-append, take-append_seam)

-- how a run ends at a request
pub ends_there : (stop : ServeStop) (number : ℕ) (old mid new : TokenRecord) (front rest : List RequestRecord) (request : RequestRecord)
    (told_old told_mid told_new : Option (List Told)) (a b c : Option (List ℕ))
    → Serves number old mid front told_old told_mid a b → StopsIn stop number mid new request told_mid told_new b c
    → Ends (error_after stop (length front)) number old new (front ++ request ∷ rest) told_old told_new a c
ends_there Write number old mid new front rest request told_old told_mid told_new a b c served stopped =
    stops_there number old mid new front rest request told_old told_mid told_new a b c served stopped
ends_there OutOfMemory number old mid new front rest request told_old told_mid told_new a b c served stopped =
    stops_short number old mid new front rest request told_old told_mid told_new a b c served stopped

-- the same by the number of the client, who is still the same
pub ends_there_still : (stop : ServeStop) (old mid new : TokenRecord) (front rest : List RequestRecord) (request : RequestRecord)
    (told_old told_mid told_new : Option (List Told)) (a b c : Option (List ℕ))
    → Serves (number_of old.who) old mid front told_old told_mid a b → mid.who ≡ old.who
    → StopsIn stop (number_of mid.who) mid new request told_mid told_new b c
    → Ends (error_after stop (length front)) (number_of old.who) old new (front ++ request ∷ rest) told_old told_new a c
ends_there_still stop old mid new front rest request told_old told_mid told_new a b c served same stopped =
    ends_there stop (number_of old.who) old mid new front rest request told_old told_mid told_new a b c served
    (subst (λ who. StopsIn stop (number_of who) mid new request told_mid told_new b c) same stopped)
