-- What clients were told is a legal trace.
use Rattle.std.proofs.Common.{◌≡◌, ◌≢◌, ℕ, ◌≤◌, zero, suc, List, [], ◌∷◌, ◌++◌, length, take, map, flat_map, Some, None}
use Rattle.std.proofs.Common.{Result, Ok, Err, refl, sym, ◌∙◌, ap, subst, append-nil, length-append, arith}
use Rattle.std.specs.Prelude.{slice_get}
use Rattle.std.specs.List.{AllByRecursion}
use Rattle.std.proofs.lemmas.List.{take-append-le}
use Rattle.ssb_base.specs.Base.{Tables}
use Rattle.ssb_schema.specs.declared.refresh.Action.{Action}
use Rattle.ssb_answers.specs.declared.answer.Answer.{Answer}
use Rattle.ssb_answers.specs.declared.answer.Answer.TheVariants as answer
use Rattle.ssb_answers.specs.declared.answer.ResultRow.{ResultRow}
use Rattle.ssb_answers.specs.declared.answer.Unserved.{Unserved as Cause}
use Rattle.history_core.specs.declared.response.Response.{Response}
use Rattle.history_core.specs.declared.response.Response.TheVariants.{Rows, Unserved}
use Rattle.history_core.specs.Events.{Questions}
use Rattle.history_core.specs.Responses.{answers_in, answers_with}
use Rattle.history_core.specs.World.{all_rows_after}
use Rattle.row_store.specs.declared.commit.Receipt.{Receipt}
use Rattle.row_store.specs.declared.refusal.RefreshError.{RefreshError}
use Rattle.row_store.specs.declared.refusal.RefreshError.TheVariants as refusal
use Rattle.row_store.specs.History.{CommitRecord, IsPrefix}
use Rattle.row_store.proofs.PrefixLaws.{prefix_longer}
use Rattle.history.specs.Tokens.{TokenRecord}
use Rattle.history.specs.Words.{request}
use Rattle.history.specs.declared.request.PostedRequest.{PostedRequest as Asked}
use Rattle.history.proofs.HistoryLaws.{prefix_trans}
use Rattle.ssb_script.specs.Requests.{RequestRecord, Refresh, Ask, Order, Abort, questions_in}
use Rattle.ssb_report.specs.Replies.{Reply, Refreshed, Answered, Listed, Shown, Aborted}
use Rattle.ssb_audit.specs.declared.trace.Told.{Told}
use Rattle.ssb_audit.specs.Legal.{IsTrueOf, NeverGoBack}
use Rattle.ssb_clients.specs.Clients as client
use Rattle.stream_sessions.specs.Served.{IsAnswered, IsServed, AreServed, told_by, told_of}
use Rattle.stream_sessions.proofs.RequestLaws.{shown_hands}
use Rattle.run_command.specs.Traces.{WasTold, WereTold, RunsAreLegal}

-- what is true of the first commits is true of all
true_longer : (base : Tables) (shorter longer : List CommitRecord) (told : Told) → IsPrefix shorter longer
    → IsTrueOf base shorter told → IsTrueOf base longer told
true_longer base shorter longer told begins is = grind (arith, length-append, take-append-le)

longer_length : (shorter longer : List CommitRecord) → IsPrefix shorter longer → length shorter ≤ length longer
longer_length shorter longer begins = omega (arith, ap length begins.whole, length-append shorter begins.rest)

-- the token is of the same table, and sees more
record Goes (before after : TokenRecord) : Type 0 where
  table : after.table ≡ before.table
  begins : IsPrefix before.seen after.seen

goes_on : (a b c : TokenRecord) → Goes a b → Goes b c → Goes a c
goes_on a b c first second = grind (arith, prefix_trans)

goes_nowhere : (a : TokenRecord) → Goes a a
goes_nowhere a = record { table = refl; begins = record { rest = []; whole = sym (append-nil a.seen) } }

-- an answer that the client of this number was told between two tokens
record IsBetween (base : Tables) (number : ℕ) (before after : TokenRecord) (told : Told) : Type 0 where
  client : told.client ≡ number
  since : length before.seen ≤ told.at
  is_true : IsTrueOf base after.seen told

refreshed_goes : (before : TokenRecord) (number : ℕ) (actions : List Action) (reply : Result Receipt RefreshError)
    (after : TokenRecord)
    → client.Refreshed before number actions reply after → Goes before after
refreshed_goes before number actions (Ok receipt) after refreshed = grind (arith, prefix_longer)
refreshed_goes before number actions (Err (refusal.Refused at action cause)) after refreshed = grind arith
refreshed_goes before number actions (Err refusal.OutOfMemory) after refreshed = grind arith

answered_goes : (before : TokenRecord) (questions : Questions) (answers : List Answer) (after : TokenRecord)
    → IsAnswered before questions answers after → Goes before after
answered_goes before questions answers after answered = goes_on before answered.asking after
    (record { table = ap (λ (t : TokenRecord). t.table) answered.asked.now; begins = answered.asked.begins })
    (record { table = ap (λ (t : TokenRecord). t.table) answered.polled.now; begins = answered.polled.begins })

-- the answers to a request, all of them after one number of commits
with_rows : (base : Tables) (number : ℕ) (before after : TokenRecord) (at : ℕ) (questions : Questions)
    → length before.seen ≤ at → at ≤ length after.seen
    → AllByRecursion (IsBetween base number before after)
    (flat_map (told_by number) (answers_with at questions (all_rows_after base questions (take at after.seen))))
with_rows base number before after at [] low high = grind arith
with_rows base number before after at (question ∷ questions) low high = grind (arith, with_rows base number before after at questions low high)

without_rows : (number : ℕ) (cause : Cause) (questions : Questions)
    → flat_map (told_by number) (map (λ question. answer.Unserved question cause) questions) ≡ []
without_rows number cause [] = refl
without_rows number cause (question ∷ questions) = without_rows number cause questions

of_response : (base : Tables) (number : ℕ) (before asking after : TokenRecord) (questions : Questions)
    (response : Response) → before.table.base ≡ base → client.Asks before questions asking
    → client.Polls asking response after
    → AllByRecursion (IsBetween base number before after) (flat_map (told_by number) (answers_in response))
of_response base number before asking after questions (Rows asked_for at rows) over asked polled =
    let right = polled.right in
    let was : Some polled.asked ≡ Some (request questions (length asking.seen)) =
    sym polled.was ∙ ap (λ (t : TokenRecord). t.asked) asked.now in
    let floor : polled.asked.floor ≡ length asking.seen = floor_of was in
    let over_asking : asking.table.base ≡ base = ap (λ (t : TokenRecord). t.table.base) asked.now ∙ over in
    let rows_are : rows ≡ all_rows_after base asked_for (take at after.seen) =
    right.3 ∙ ap (λ b. all_rows_after b asked_for (take at after.seen)) over_asking in
    subst (λ l. AllByRecursion (IsBetween base number before after)
    (flat_map (told_by number) (answers_with at asked_for l))) (sym rows_are)
    (with_rows base number before after at asked_for
    (omega (arith, right.1, floor, longer_length before.seen asking.seen asked.begins)) right.2)
  where
    floor_of : {a b : Asked} → Some a ≡ Some b → a.floor ≡ b.floor
    floor_of e = cc
of_response base number before asking after questions (Unserved asked_for cause) over asked polled =
    subst (AllByRecursion (IsBetween base number before after)) (sym (without_rows number cause asked_for)) tt

answers_between : (base : Tables) (number : ℕ) (before : TokenRecord) (questions : Questions) (answers : List Answer)
    (after : TokenRecord) → before.table.base ≡ base → IsAnswered before questions answers after
    → AllByRecursion (IsBetween base number before after) (flat_map (told_by number) answers)
answers_between base number before questions answers after over answered =
    subst (λ l. AllByRecursion (IsBetween base number before after) (flat_map (told_by number) l))
    (sym answered.answers_are)
    (of_response base number before answered.asking after questions answered.response over answered.asked answered.polled)

-- a request goes on, and what it told is between
one_goes : (number : ℕ) (before : TokenRecord) (request : RequestRecord) (reply : Reply) (after : TokenRecord)
    → IsServed number before request reply after → Goes before after
one_goes number before (Refresh actions) (Refreshed reply) after served =
    refreshed_goes before number actions reply after served.0
one_goes number before (Ask asking) (Answered answers) after served =
    answered_goes before (questions_in asking) answers after served.1
one_goes number before (Ask asking) (Listed answers listing) after served =
    answered_goes before (questions_in asking) answers after served.1
one_goes number before (Order key) (Shown shown) after served =
    let handed = shown_hands before key shown after served.0 in
    record { table = ap (λ (t : TokenRecord). t.table) handed.now; begins = handed.begins }
one_goes number before Abort Aborted after served = subst (Goes before) (sym served) (goes_nowhere before)
one_goes number before request reply after served = absurd served

one_told : (base : Tables) (number : ℕ) (before : TokenRecord) (request : RequestRecord) (reply : Reply) (after : TokenRecord)
    → before.table.base ≡ base → IsServed number before request reply after
    → AllByRecursion (IsBetween base number before after) (told_of number reply)
one_told base number before (Refresh actions) (Refreshed reply) after over served = tt
one_told base number before (Ask asking) (Answered answers) after over served =
    answers_between base number before (questions_in asking) answers after over served.1
one_told base number before (Ask asking) (Listed answers listing) after over served =
    answers_between base number before (questions_in asking) answers after over served.1
one_told base number before (Order key) (Shown shown) after over served = tt
one_told base number before Abort Aborted after over served = tt
one_told base number before request reply after over served = absurd served

-- lists of answers
all_append : {X : Type 0} (P : X → Type 0) (xs ys : List X) → AllByRecursion P xs → AllByRecursion P ys
    → AllByRecursion P (xs ++ ys)
all_append P [] ys first second = second
all_append P (x ∷ xs) ys first second = (first.0, all_append P xs ys first.1 second)

all_weaken : {X : Type 0} (P Q : X → Type 0) (xs : List X) → ((x : X) → P x → Q x) → AllByRecursion P xs
    → AllByRecursion Q xs
all_weaken P Q [] more all = tt
all_weaken P Q (x ∷ xs) more all = (more x all.0, all_weaken P Q xs more all.1)

all_at : {X : Type 0} (P : X → Type 0) (xs : List X) (i : ℕ) (x : X) → AllByRecursion P xs → slice_get xs i ≡ Some x
    → P x
all_at P [] i x all at = grind arith
all_at P (y ∷ ys) zero x all at = grind arith
all_at P (y ∷ ys) (suc i) x all at = grind (arith, all_at P ys i x all.1 at)

-- a later answer to the same client is after no fewer commits
abbrev IsNoEarlier : Told → Told → Type 0
IsNoEarlier told later = told.client ≡ later.client → told.at ≤ later.at

abbrev Orderly : List Told → Type 0
Orderly [] = Unit {0}
Orderly (told ∷ later) = AllByRecursion (IsNoEarlier told) later × Orderly later

orderly_append : (xs ys : List Told) → Orderly xs → Orderly ys
    → AllByRecursion (λ x. AllByRecursion (IsNoEarlier x) ys) xs → Orderly (xs ++ ys)
orderly_append [] ys first second across = second
orderly_append (x ∷ xs) ys first second across = (
  all_append (IsNoEarlier x) xs ys first.0 across.0,
  orderly_append xs ys first.1 second across.1,
)

never_back : (answers : List Told) → Orderly answers → NeverGoBack answers
never_back [] orderly i j earlier later lt at_i at_j same = absurd (cc_none at_i)
  where
    cc_none : None ≡ Some earlier → ⊥
    cc_none e = cc
never_back (told ∷ answers) orderly i zero earlier later lt at_i at_j same = absurd (omega (arith, lt))
never_back (told ∷ answers) orderly zero (suc j) earlier later lt at_i at_j same =
    all_at (IsNoEarlier earlier) answers j later (subst (λ t. AllByRecursion (IsNoEarlier t) answers) (some_is at_i)
    orderly.0) at_j same
  where
    some_is : Some told ≡ Some earlier → told ≡ earlier
    some_is e = cc
never_back (told ∷ answers) orderly (suc i) (suc j) earlier later lt at_i at_j same =
    never_back answers orderly.1 i j earlier later (omega (arith, lt)) at_i at_j same

-- answers after one number of commits
orderly_at : (at : ℕ) (told : List Told) → AllByRecursion (λ (t : Told). t.at ≡ at) told → Orderly told
orderly_at at [] all = tt
orderly_at at (first ∷ told) all = (
  all_weaken (λ (t : Told). t.at ≡ at) (IsNoEarlier first) told (λ t is same. omega (arith, is, all.0)) all.1,
  orderly_at at told all.1,
)

all_of_moment : (number at : ℕ) (questions : Questions) (rows : List (List ResultRow))
    → AllByRecursion (λ (t : Told). t.at ≡ at) (flat_map (told_by number) (answers_with at questions rows))
all_of_moment number at [] rows = tt
all_of_moment number at (question ∷ questions) [] = tt
all_of_moment number at (question ∷ questions) (list ∷ rows) = (refl, all_of_moment number at questions rows)

response_orderly : (number : ℕ) (response : Response) → Orderly (flat_map (told_by number) (answers_in response))
response_orderly number (Rows questions at rows) = orderly_at at _ (all_of_moment number at questions rows)
response_orderly number (Unserved questions cause) = subst Orderly (sym (without_rows number cause questions)) tt

one_orderly : (number : ℕ) (before : TokenRecord) (request : RequestRecord) (reply : Reply) (after : TokenRecord)
    → IsServed number before request reply after → Orderly (told_of number reply)
one_orderly number before (Refresh actions) (Refreshed reply) after served = tt
one_orderly number before (Ask asking) (Answered answers) after served =
    subst (λ l. Orderly (flat_map (told_by number) l)) (sym served.1.answers_are)
    (response_orderly number served.1.response)
one_orderly number before (Ask asking) (Listed answers listing) after served =
    subst (λ l. Orderly (flat_map (told_by number) l)) (sym served.1.answers_are)
    (response_orderly number served.1.response)
one_orderly number before (Order key) (Shown shown) after served = tt
one_orderly number before Abort Aborted after served = tt
one_orderly number before request reply after served = absurd served

-- what a client was told between two tokens
record AreBetween (base : Tables) (number : ℕ) (before after : TokenRecord) (told : List Told) : Type 0 where
  goes : Goes before after
  each : AllByRecursion (IsBetween base number before after) told
  orderly : Orderly told

are_between : (base : Tables) (number : ℕ) (before after : TokenRecord) (requests : List RequestRecord) (replies : List Reply)
    → before.table.base ≡ base
    → AreServed number before requests replies after → AreBetween base number before after
    (flat_map (told_of number) replies)
are_between base number before after [] [] over served =
    record { goes = subst (Goes before) (sym served) (goes_nowhere before); each = tt; orderly = tt }
are_between base number before after [] (reply ∷ replies) over served = absurd served
are_between base number before after (request ∷ requests) [] over served = absurd served
are_between base number before after (request ∷ requests) (reply ∷ replies) over served =
    let between = served.0 in
    let first = one_goes number before request reply between served.1 in
    let head = one_told base number before request reply between over served.1 in
    let rest = are_between base number between after requests replies (ap (λ h. h.base) first.table ∙ over) served.2 in
    let earlier = longer_length before.seen between.seen first.begins in
    record {
      goes = goes_on before between after first rest.goes;
      each = all_append (IsBetween base number before after) (told_of number reply) (flat_map (told_of number) replies)
          (all_weaken (IsBetween base number before between) (IsBetween base number before after) (told_of number reply)
          (λ told is. record {
            client = is.client;
            since = is.since;
            is_true = true_longer base between.seen after.seen told rest.goes.begins is.is_true;
          }) head)
          (all_weaken (IsBetween base number between after) (IsBetween base number before after)
          (flat_map (told_of number) replies)
          (λ told is. record { client = is.client; since = omega (arith, earlier, is.since); is_true = is.is_true })
          rest.each);
      orderly = orderly_append (told_of number reply) (flat_map (told_of number) replies)
          (one_orderly number before request reply between served.1)
          rest.orderly
          (all_weaken (IsBetween base number before between)
          (λ x. AllByRecursion (IsNoEarlier x) (flat_map (told_of number) replies)) (told_of number reply)
          (λ told is. all_weaken (IsBetween base number between after) (IsNoEarlier told)
          (flat_map (told_of number) replies)
          (λ later after_it same. omega (arith, is.is_true.within, after_it.since)) rest.each) head);
    }

-- what one client was told is of its number, true of the log, and in order
record AreOfRun (base : Tables) (log : List CommitRecord) (number : ℕ) (told : List Told) : Type 0 where
  own : AllByRecursion (λ (t : Told). t.client ≡ number) told
  are_true : AllByRecursion (IsTrueOf base log) told
  orderly : Orderly told

are_of_run : (base : Tables) (log : List CommitRecord) (number : ℕ) (told : List Told) → WasTold base log number told
    → AreOfRun base log number told
are_of_run base log number told run =
    let between = are_between base number run.opened run.closed run.requests run.replies run.over run.served in
    subst (AreOfRun base log number) (sym run.all) (record {
      own = all_weaken (IsBetween base number run.opened run.closed) (λ (t : Told). t.client ≡ number) _
          (λ t is. is.client) between.each;
      are_true = all_weaken (IsBetween base number run.opened run.closed) (IsTrueOf base log) _
          (λ t is. true_longer base run.closed.seen log t run.begins is.is_true) between.each;
      orderly = between.orderly;
    })

-- the clients after the first
rest_told : (base : Tables) (log : List CommitRecord) (first : ℕ × List Told) (told : List (ℕ × List Told))
    → WereTold base log (first ∷ told) → WereTold base log told
rest_told base log first told are = record {
  each = λ i c at. are.each (suc i) c at;
  once = λ i j a b lt at_i at_j. are.once (suc i) (suc j) a b (omega (arith, lt)) at_i at_j;
}

-- what clients of other numbers were told is of other numbers
all_other : (base : Tables) (log : List CommitRecord) (number : ℕ) (told : List (ℕ × List Told)) → WereTold base log told
    → ((i : ℕ) (c : ℕ × List Told) → slice_get told i ≡ Some c → number ≢ c.0)
    → AllByRecursion (λ (t : Told). number ≢ t.client) (flat_map (λ c. c.1) told)
all_other base log number [] are other = tt
all_other base log number (first ∷ told) are other =
    all_append (λ (t : Told). number ≢ t.client) first.1 (flat_map (λ c. c.1) told)
    (all_weaken (λ (t : Told). t.client ≡ first.0) (λ (t : Told). number ≢ t.client) first.1
    (λ t is same. other 0 first refl (same ∙ is))
    (are_of_run base log first.0 first.1 (are.each 0 first refl)).own)
    (all_other base log number told (rest_told base log first told are) (λ i c at. other (suc i) c at))

record AreLegal (base : Tables) (log : List CommitRecord) (answers : List Told) : Type 0 where
  are_true : AllByRecursion (IsTrueOf base log) answers
  orderly : Orderly answers

all_legal : (base : Tables) (log : List CommitRecord) (told : List (ℕ × List Told)) → WereTold base log told
    → AreLegal base log (flat_map (λ c. c.1) told)
all_legal base log [] are = record { are_true = tt; orderly = tt }
all_legal base log (first ∷ told) are =
    let own = are_of_run base log first.0 first.1 (are.each 0 first refl) in
    let others = rest_told base log first told are in
    let rest = all_legal base log told others in
    let apart = all_other base log first.0 told others (λ i c at. are.once 0 (suc i) first c (omega arith) refl at) in
    record {
      are_true = all_append (IsTrueOf base log) first.1 (flat_map (λ c. c.1) told) own.are_true rest.are_true;
      orderly = orderly_append first.1 (flat_map (λ c. c.1) told) own.orderly rest.orderly
          (all_weaken (λ (t : Told). t.client ≡ first.0)
          (λ x. AllByRecursion (IsNoEarlier x) (flat_map (λ c. c.1) told)) first.1
          (λ t is. all_weaken (λ (u : Told). first.0 ≢ u.client) (IsNoEarlier t) (flat_map (λ c. c.1) told)
          (λ later apart_from same. absurd (apart_from (sym is ∙ same))) apart)
          own.own);
    }

pub runs_are_legal : RunsAreLegal
runs_are_legal base log told legal are =
    let all = all_legal base log told are in
    record {
      commits = legal;
      answers = λ i t at. all_at (IsTrueOf base log) (flat_map (λ c. c.1) told) i t all.are_true at;
      order = never_back (flat_map (λ c. c.1) told) all.orderly;
    }
