-- Requests leave the hand one after another, and each is given an answer.
use Rattle.std.proofs.Common.{◌≡◌, ℕ, ◌+◌, cond, List, [], ◌∷◌, ◌++◌, length, map, Some, refl, ap, sym, subst}
use Rattle.std.proofs.Common.{◌∙◌, arith, append_assoc}
use Rattle.std.proofs.lemmas.Bool.{eq-eqb}
use Rattle.std.proofs.lemmas.List.{take_all, append-nil, length_push, map_push}
use Rattle.std.proofs.lemmas.List.Elements.{All-push, All-head}
use Rattle.std.specs.Prelude.{All}
use Rattle.row_store.specs.History.{CommitRecord}
use Rattle.ssb_base.specs.Base.{Tables}
use Rattle.history_core.specs.Events.{Questions}
use Rattle.ssb_server.specs.declared.passes.RequestRows.{RequestRows}
use Rattle.ssb_answers.specs.declared.answer.ResultRow.{ResultRow}
use Rattle.history_core.specs.declared.response.Response.{Response}
use Rattle.history_core.specs.declared.response.Response.TheVariants as response
use Rattle.ssb_answers.specs.declared.answer.Unserved.{Unserved}
use Rattle.history_core.specs.World.{all_rows_after}
use Rattle.history_core.specs.declared.event.EventReply.TheVariants.{Done}
use Rattle.history_core.specs.Events as event
use Rattle.history_core.specs.Deeds.{Deed}
use Rattle.history.specs.declared.request.PostedRequest.{PostedRequest}
use Rattle.history.specs.declared.request.Grabbed.{Grabbed}
use Rattle.history.specs.Members.{number_of, answer_named}
use Rattle.history_core.specs.declared.dispatcher.Given.{Given}
use Rattle.history_core.specs.declared.dispatcher.Outcome.{Outcome}
use Rattle.history.specs.Tokens.{TokenRecord, MayAnswer, Answers, request_of, without}
use Rattle.history.specs.Words.{IsCause, IsFresh, given_to, outcome_of}
use Rattle.ssb_server.specs.Hand.{Hand, no_hand, clients_of, requests_of, Keeps}
use Rattle.ssb_server.specs.Turns.{answers_after, HasInHand, Answered, GaveOne, Gave}
use Rattle.ssb_server.specs.Deeds as deeds
use Rattle.ssb_server.proofs.HandLaws.{with_one, not_empty}

found_first : (grabbed : List Grabbed) (client : ℕ) (newest : Grabbed) (others : List Grabbed)
    → grabbed ≡ newest ∷ others → newest.client ≡ client → request_of client grabbed ≡ Some newest.request
found_first grabbed client newest others is e = ap (request_of client) is
    ∙ ap (λ b. cond b (Some newest.request) (request_of client others)) (eq-eqb newest.client client e)

without_first : (grabbed : List Grabbed) (client : ℕ) (newest : Grabbed) (others : List Grabbed)
    → grabbed ≡ newest ∷ others → newest.client ≡ client → without client grabbed ≡ others
without_first grabbed client newest others is e = ap (without client) is
    ∙ ap (λ b. cond b others (newest ∷ without client others)) (eq-eqb newest.client client e)

-- the rows at the length of what was seen serve the newest request
pub may_serve : (t : TokenRecord) (client at : ℕ) (questions : Questions) (rows : List (List ResultRow))
    → HasInHand t.grabbed client questions → at ≡ length t.seen → t.version ≡ Some at
    → rows ≡ all_rows_after t.table.base questions t.seen
    → MayAnswer t client (response.Rows questions at rows)
may_serve t client at questions rows has e version is = grind (arith, found_first, take_all)

pub may_give_up : (t : TokenRecord) (client : ℕ) (questions : Questions) (cause : Unserved)
    → HasInHand t.grabbed client questions → IsCause cause → MayAnswer t client (response.Unserved questions cause)
may_give_up t client questions cause has is = grind (arith, found_first)

some_is : {X : Type 0} {a b : X} → Some a ≡ Some b → a ≡ b
some_is e = cc

-- the event and the entry of an answer to the newest request
named_newest : (number client : ℕ) (reply : Response) (newest : Grabbed) → newest.client ≡ client
    → answer_named number client reply ≡ deeds.answer_of number (outcome_of reply) newest
named_newest number client (response.Rows questions at rows) newest e = ap (λ c. event.Answer number c) (sym e)
named_newest number client (response.Unserved questions cause) newest e = ap (λ c. event.GiveUp number c cause) (sym e)

given_newest : (client : ℕ) (asked : PostedRequest) (reply : Response) (newest : Grabbed) → newest.client ≡ client
    → asked ≡ newest.request
    → given_to client asked reply ∷ [] ≡ deeds.given_to_all (outcome_of reply) (newest ∷ [])
given_newest client asked reply newest e is =
    ap (λ c. given_to c asked reply ∷ []) (sym e) ∙ ap (λ a. given_to newest.client a reply ∷ []) is

-- an answer to the newest request
pub gave_one : (t : TokenRecord) (client : ℕ) (questions : Questions) (reply : Response) (after : TokenRecord)
    → HasInHand t.grabbed client questions → Answers t client reply after → GaveOne t (outcome_of reply) after
gave_one t client questions reply after has answers = grind (arith, some_is, found_first, given_newest, named_newest, without_first)

snoc_inj : {X : Type 0} (xs ys : List X) (x y : X) → xs ++ x ∷ [] ≡ ys ++ y ∷ [] → (xs ≡ ys) × (x ≡ y)
snoc_inj [] [] x y e = (refl, cc)
snoc_inj [] (b ∷ ys) x y e = let t : ys ++ y ∷ [] ≡ [] = cc in absurd (not_empty ys y t)
snoc_inj (a ∷ xs) [] x y e = let t : xs ++ x ∷ [] ≡ [] = cc in absurd (not_empty xs x t)
snoc_inj (a ∷ xs) (b ∷ ys) x y e = let h : a ≡ b = cc in let t : xs ++ x ∷ [] ≡ ys ++ y ∷ [] = cc in let r =
    snoc_inj xs ys x y t in let l : xs ≡ ys = r.0 in (cc, r.1)

-- the last of the hand is the newest request, and the rest of the hand is the others
pub record Popped (hand : Hand) (grabbed : List Grabbed) (client : ℕ) (questions : Questions) : Type 0 where
  pub has : HasInHand grabbed client questions
  pub keeps : Keeps hand has.others

pub popped : (hand : Hand) (grabbed : List Grabbed) (client : ℕ) (questions : Questions)
    → Keeps (with_one hand client questions) grabbed → Popped hand grabbed client questions
popped hand [] client questions keeps = absurd (not_empty hand.clients client keeps.clients)
popped hand (newest ∷ others) client questions keeps =
    let c = snoc_inj hand.clients (clients_of others) client newest.client keeps.clients in
    let q = snoc_inj hand.requests (requests_of others) questions newest.request.questions keeps.requests in
    record {
      has = record { newest = newest; others = others; grabbed_is = refl; client_is = sym c.1; questions_is = sym q.1 };
      keeps = record { clients = c.0; requests = q.0 };
    }

-- no hand, no requests
pub none_grabbed : (grabbed : List Grabbed) → Keeps no_hand grabbed → grabbed ≡ []
none_grabbed [] keeps = refl
none_grabbed (newest ∷ others) keeps = absurd (not_empty (clients_of others) newest.client (sym keeps.clients))

pub gave_none : (t : TokenRecord) (outcome : Outcome) → Gave t 0 outcome t
gave_none t outcome = grind (arith, append-nil)

pub gave_more : (before t after : TokenRecord) (count : ℕ) (outcome : Outcome) → Gave before count outcome t
    → GaveOne t outcome after → Gave before (count + 1) outcome after
gave_more before t after count outcome gave one =
    let n : length gave.left ≡ count = gave.count_is in
    let number = number_of before.who in
    let given_of : Grabbed → Given = λ (request : Grabbed). record {
      client = request.client;
      floor = request.request.floor;
      outcome = outcome;
    } in
    let deed_of : Grabbed → Deed = λ request. deeds.deed (deeds.answer_of number outcome request) Done in
    let others : after.grabbed ≡ one.others = ap (λ (u : TokenRecord). u.grabbed) one.now in
    let given : (before.given ++ deeds.given_to_all outcome gave.left) ++ deeds.given_to_all outcome (one.newest ∷ [])
    ≡ before.given ++ deeds.given_to_all outcome (gave.left ++ one.newest ∷ []) =
    append_assoc before.given (deeds.given_to_all outcome gave.left) (deeds.given_to_all outcome (one.newest ∷ []))
    ∙ ap (λ gs. before.given ++ gs) (sym (map_push given_of gave.left one.newest)) in
    let did : (before.did ++ deeds.answered number outcome gave.left) ++ deeds.answered number outcome (one.newest ∷ [])
    ≡ before.did ++ deeds.answered number outcome (gave.left ++ one.newest ∷ []) =
    append_assoc before.did (deeds.answered number outcome gave.left)
    (deeds.answered number outcome (one.newest ∷ []))
    ∙ ap (λ ds. before.did ++ ds) (sym (map_push deed_of gave.left one.newest)) in
    record {
      left = gave.left ++ one.newest ∷ [];
      count_is = omega (arith, length_push gave.left one.newest);
      grabbed_is = gave.grabbed_is ∙ (ap (λ gs. gave.left ++ gs) (one.grabbed_is
          ∙ ap (λ gs. one.newest ∷ gs) (sym others)) ∙ sym (append_assoc gave.left (one.newest ∷ []) after.grabbed));
      fresh = subst (All IsFresh) (sym (map_push given_of gave.left one.newest))
          (All-push IsFresh (map given_of gave.left) (given_of one.newest) gave.fresh
          (All-head IsFresh (given_of one.newest) [] one.fresh));
      now = one.now ∙ (ap (λ (u : TokenRecord). record u {
        grabbed = one.others;
        given = u.given ++ deeds.given_to_all outcome (one.newest ∷ []);
        did = u.did ++ deeds.answered (number_of u.who) outcome (one.newest ∷ []);
      }) gave.now ∙ (ap (λ gs. record before {
        grabbed = one.others;
        given = gs;
        did = (before.did ++ deeds.answered number outcome gave.left)
            ++ deeds.answered number outcome (one.newest ∷ []);
      }) given ∙ (ap (λ ds. record before {
        grabbed = one.others;
        given = before.given ++ deeds.given_to_all outcome (gave.left ++ one.newest ∷ []);
        did = ds;
      }) did ∙ ap (λ gs. record before {
        grabbed = gs;
        given = before.given ++ deeds.given_to_all outcome (gave.left ++ one.newest ∷ []);
        did = before.did ++ deeds.answered number outcome (gave.left ++ one.newest ∷ []);
      }) (sym others))));
    }

pub left_keeps : (t : TokenRecord) (outcome : Outcome) (after : TokenRecord) (hand : Hand) (client : ℕ)
    (questions : Questions) → GaveOne t outcome after → Popped hand t.grabbed client questions
    → Keeps hand after.grabbed
left_keeps t outcome after hand client questions one last = grind arith

-- the last of the rows answers the last of the questions
pub record RowsPopped (base : Tables) (seen : List CommitRecord) (requests : List Questions)
    (questions : Questions) (rest : List RequestRows) (found : RequestRows) : Type 0 where
  pub rest_is : rest ≡ answers_after base seen requests
  pub questions_is : found.questions ≡ questions
  pub answered : Answered base seen found

pub rows_popped : (base : Tables) (seen : List CommitRecord) (requests : List Questions)
    (questions : Questions) (rows rest : List RequestRows) (found : RequestRows)
    → rows ≡ answers_after base seen (requests ++ questions ∷ []) → rows ≡ rest ++ found ∷ []
    → RowsPopped base seen requests questions rest found
rows_popped base seen requests questions rows rest found is ends = grind (arith, snoc_inj, map_push)

pub in_hand_of : (grabbed : List Grabbed) (client : ℕ) (questions other : Questions) → other ≡ questions
    → HasInHand grabbed client questions → HasInHand grabbed client other
in_hand_of grabbed client questions other e has = subst (λ q. HasInHand grabbed client q) (sym e) has
