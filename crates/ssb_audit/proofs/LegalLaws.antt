-- Nothing speaks against a trace exactly where it is legal.
use Rattle.std.proofs.Common.{◌≡◌, ℕ, zero, suc, ◌+◌, ◌<◌, ◌≤◌, ◌⊎◌, inl, inr, Bool, true, false, List, [], ◌∷◌, ◌++◌}
use Rattle.std.proofs.Common.{length, take, refl, ap, sym, subst, ◌∙◌, arith, add-one, eqb-true, eq-eqb}
use Rattle.std.specs.Prelude.{Option, Some, None, slice_get, nat_lt, find, if◌then◌else◌}
use Rattle.std.specs.Option.{option_or, option_map, option_map_or}
use Rattle.std.specs.Cmp.Lexicographic.{pointwise}
use Rattle.std.proofs.lemmas.Bool.{ltb-false, le-ltb}
use Rattle.std.proofs.lemmas.List.{reverse-append}
use Rattle.std.proofs.Math.Nat.{eq-or-lt_of_le}
use Rattle.std.proofs.lemmas.Slice.Eq.{slice_eq-Decides}
use Rattle.ssb_schema.proofs.FirstFaultLaws.{take_with_element}
use Rattle.ssb_base.specs.Base.{Tables}
use Rattle.ssb_answers.specs.AnswerEq.{row_eq}
use Rattle.ssb_answers.specs.AnswerEqLaws.{row_Decides}
use Rattle.row_store.specs.History.{CommitRecord}
use Rattle.row_store.specs.Refusals.{refusal_of}
use Rattle.ssb_audit.specs.Legal.{IsTrueOf, NeverGoBack, IsLegalTrace, NoFaultIsLegal}
use Rattle.ssb_audit.specs.Traces.{first_from, commit_fault, is_to, turn_of, last_of, went_back, order_fault}
use Rattle.ssb_audit.specs.Traces.{rows_after, rows_fault, fault_after, answer_fault, trace_fault}
use Rattle.ssb_audit.specs.declared.fault.AuditFault.{AuditFault}
use Rattle.ssb_audit.specs.declared.fault.AuditFault.TheVariants.{CommitRefused, WrongRows, WentBack, AtTooLarge}
use Rattle.ssb_audit.specs.declared.trace.Told.{Told}
use Rattle.ssb_audit.specs.declared.trace.Trace.{Trace}

-- no fault of two: none of the first, and none of the second
none_first : (a b : Option AuditFault) → option_or a b ≡ None → a ≡ None
none_first None b none = refl
none_first (Some e) b none = none

none_second : (a b : Option AuditFault) → option_or a b ≡ None → b ≡ None
none_second None b none = none
none_second (Some e) b none = cc

pub none_both : (a b : Option AuditFault) → a ≡ None → b ≡ None → option_or a b ≡ None
none_both a b first second = ap (λ o. option_or o b) first ∙ second

-- where a list has no first fault, no element has one
each_clear : {X : Type 0} (judge : ℕ → X → Option AuditFault) (n : ℕ) (xs : List X) → first_from judge n xs ≡ None
    → (i : ℕ) (x : X) → slice_get xs i ≡ Some x → judge (n + i) x ≡ None
each_clear judge n [] none i x is = grind arith
each_clear judge n (y ∷ ys) none zero x is = grind (arith, none_first)
each_clear judge n (y ∷ ys) none (suc i) x is = grind (arith, none_second, each_clear judge (n + 1) ys (none_second (judge n y) (first_from judge (n + 1) ys) none) i x is)

-- where no element has a fault, the list has no first one
all_clear : {X : Type 0} (judge : ℕ → X → Option AuditFault) (n : ℕ) (xs : List X)
    → ((i : ℕ) (x : X) → slice_get xs i ≡ Some x → judge (n + i) x ≡ None) → first_from judge n xs ≡ None
all_clear judge n [] each = refl
all_clear judge n (y ∷ ys) each =
    let place : n + 0 ≡ n = omega arith in
    none_both (judge n y) (first_from judge (n + 1) ys) (ap (λ m. judge m y) (sym place) ∙ each 0 y refl)
    (all_clear judge (n + 1) ys (λ i x is. let next : (n + 1) + i ≡ n + suc i = omega arith in
    ap (λ m. judge m x) next ∙ each (suc i) x is))

-- the same of a list judged from its beginning
pub clear_at : {X : Type 0} (judge : ℕ → X → Option AuditFault) (xs : List X) → first_from judge 0 xs ≡ None
    → (i : ℕ) (x : X) → slice_get xs i ≡ Some x → judge i x ≡ None
clear_at judge xs none i x is = let place : i ≡ 0 + i = omega arith in
    ap (λ m. judge m x) place ∙ each_clear judge 0 xs none i x is

all_clear_at : {X : Type 0} (judge : ℕ → X → Option AuditFault) (xs : List X)
    → ((i : ℕ) (x : X) → slice_get xs i ≡ Some x → judge i x ≡ None) → first_from judge 0 xs ≡ None
all_clear_at judge xs each = all_clear judge 0 xs (λ i x is. let place : 0 + i ≡ i = omega arith in
    ap (λ m. judge m x) place ∙ each i x is)

-- no refusal is no fault
none_mapped : {X : Type 0} (f : X → AuditFault) (o : Option X) → option_map f o ≡ None → o ≡ None
none_mapped f None none = refl
none_mapped f (Some x) none = cc

-- the client's last answer, with one answer more
last_here : (client : ℕ) (xs : List Told) (x : Told) → last_of client
    (xs ++ x ∷ []) ≡ (if is_to client x then Some x else last_of client xs)
last_here client xs x = ap (find (is_to client)) (reverse-append xs (x ∷ []))

last_after : (client : ℕ) (answers : List Told) (n : ℕ) (x : Told) (b : Bool) → slice_get answers n ≡ Some x
    → is_to client x ≡ b
    → last_of client (take (n + 1) answers) ≡ (if b then Some x else last_of client (take n answers))
last_after client answers n x b here to =
    ap (last_of client) (take_with_element answers n x here) ∙ last_here client (take n answers) x
    ∙ ap (λ t. if t then Some x else last_of client (take n answers)) to

-- past the end there is no answer more
take_past : (answers : List Told) (n : ℕ) → slice_get answers n ≡ None → take (n + 1) answers ≡ take n answers
take_past answers n past = rw add-one (past_end answers n past)
  where
    past_end : (answers : List Told) (n : ℕ) → slice_get answers n ≡ None → take (suc n) answers ≡ take n answers
    past_end [] zero past = refl
    past_end [] (suc n) past = refl
    past_end (x ∷ xs) zero past = cc
    past_end (x ∷ xs) (suc n) past = ap (λ t. x ∷ t) (past_end xs n past)

at_or_before : (i n : ℕ) → i < n + 1 → (i ≡ n) ⊎ (i < n)
at_or_before i n within = let le : i ≤ n = omega arith in eq-or-lt_of_le le

no_both : (b : Bool) → b ≡ true → b ≡ false → ⊥
no_both b is_true is_false = let two : true ≡ false = sym is_true ∙ is_false in cc

no_some : {X : Type 0} (o : Option X) (x : X) → o ≡ None → o ≡ Some x → ⊥
no_some o x none some = let h : ◌≡◌ {A = Option _} None (Some x) = sym none ∙ some in cc

-- each of a client's first answers is after no more commits than its last one
abbrev Bounded : List Told → ℕ → ℕ → Type 0
Bounded answers client n = (i : ℕ) (told : Told) → i < n → slice_get answers i ≡ Some told → told.client ≡ client
    → (last : Told) × (last_of client (take n answers) ≡ Some last) × (told.at ≤ last.at)

-- the client's last answer stands somewhere
abbrev Stands : List Told → ℕ → ℕ → Type 0
Stands answers client n = (last : Told) → last_of client (take n answers) ≡ Some last
    → (i : ℕ) × (i < n) × (slice_get answers i ≡ Some last) × (last.client ≡ client)

-- an answer that did not go back is after no fewer commits than its client's last one
not_back : (earlier : List Told) (told last : Told) → last_of told.client earlier ≡ Some last
    → went_back earlier told ≡ false → last.at ≤ told.at
not_back earlier told last is not =
    ltb-false told.at last.at (sym (ap (λ o. option_map_or (λ (l : Told). nat_lt told.at l.at) o false) is) ∙ not)

same_told : (answers : List Told) (n i : ℕ) (x told : Told) → slice_get answers n ≡ Some x
    → slice_get answers i ≡ Some told → i ≡ n → told ≡ x
same_told answers n i x told here is at = let two : ◌≡◌ {A = Option Told} (Some told) (Some x) =
    sym is ∙ ap (slice_get answers) at ∙ here in cc

bounded_by_it : (answers : List Told) (client n : ℕ) (x : Told) → slice_get answers n ≡ Some x → x.client ≡ client
    → went_back (take n answers) x ≡ false
    → Bounded answers client n → (i : ℕ) (told : Told) → (i ≡ n) ⊎ (i < n) → slice_get answers i ≡ Some told
    → told.client ≡ client → told.at ≤ x.at
bounded_by_it answers client n x here his not before i told (inl at) is to = grind (arith, same_told)
bounded_by_it answers client n x here his not before i told (inr lt) is to = grind (arith, not_back)

bounded_more : (answers : List Told) (client n : ℕ) (x : Told) (b : Bool) → slice_get answers n ≡ Some x
    → is_to client x ≡ b → went_back (take n answers) x ≡ false
    → Bounded answers client n → Bounded answers client (n + 1)
bounded_more answers client n x true here to not before i told within is his = (
  x,
  last_after client answers n x true here to,
  bounded_by_it answers client n x here (eqb-true x.client client to) not before i told (at_or_before i n within) is
      his,
)
bounded_more answers client n x false here to not before i told within is his =
    passed (at_or_before i n within)
  where
    passed : (i ≡ n) ⊎ (i < n) → (last : Told) × (last_of client (take (n + 1) answers) ≡ Some last)
        × (told.at ≤ last.at)
    passed (inl at) =
        let same : told ≡ x = same_told answers n i x told here is at in
        let is_his : is_to client x ≡ true = eq-eqb x.client client (ap (λ (t : Told). t.client) (sym same) ∙ his) in
        absurd (no_both (is_to client x) is_his to)
    passed (inr lt) =
        let (last, found, le) = before i told lt is his in
        (last, last_after client answers n x false here to ∙ found, le)

bounded_past : (answers : List Told) (client n : ℕ) → slice_get answers n ≡ None → Bounded answers client n
    → Bounded answers client (n + 1)
bounded_past answers client n past before i told within is his = grind (arith, at_or_before, no_some, take_past)

bounded : (answers : List Told) (client : ℕ) → ((i : ℕ) (told : Told) → slice_get answers i ≡ Some told
    → went_back (take i answers) told ≡ false)
    → (n : ℕ) → Bounded answers client n
bounded answers client not zero = λ i told within is his. absurd (omega (arith, within))
bounded answers client not (suc n) = subst (Bounded answers client) (add-one n)
    (more (bounded answers client not n) (slice_get answers n) refl)
  where
    more : Bounded answers client n → (o : Option Told) → slice_get answers n ≡ o → Bounded answers client (n + 1)
    more before None past = bounded_past answers client n past before
    more before (Some x) here = bounded_more answers client n x (is_to client x) here refl (not n x here) before

-- no client's answers go back where none is after fewer commits than the one before
pub never_back : (answers : List Told) → ((i : ℕ) (told : Told) → slice_get answers i ≡ Some told
    → went_back (take i answers) told ≡ false) → NeverGoBack answers
never_back answers not i j earlier later before first second same =
    let (last, found, le) = bounded answers later.client not j i earlier before first same in
    omega (arith, le, not_back (take j answers) later last found (not j later second))

-- a client's last answer among the first ones stands at a place before
stands_more : (answers : List Told) (client n : ℕ) (x : Told) (b : Bool) → slice_get answers n ≡ Some x
    → is_to client x ≡ b → Stands answers client n → Stands answers client (n + 1)
stands_more answers client n x true here to before last found =
    let same : ◌≡◌ {A = Option Told} (Some last) (Some x) = sym found ∙ last_after client answers n x true here to in
    let is : last ≡ x = cc in
    (n, omega arith, here ∙ ap Some (sym is), ap (λ (t : Told). t.client) is ∙ eqb-true x.client client to)
stands_more answers client n x false here to before last found =
    let (i, lt, is, his) = before last (sym (last_after client answers n x false here to) ∙ found) in
    (i, omega arith, is, his)

stands_past : (answers : List Told) (client n : ℕ) → slice_get answers n ≡ None → Stands answers client n
    → Stands answers client (n + 1)
stands_past answers client n past before last found =
    let (i, lt, is, his) = before last (ap (last_of client) (sym (take_past answers n past)) ∙ found) in
    (i, omega arith, is, his)

stands : (answers : List Told) (client n : ℕ) → Stands answers client n
stands answers client zero = λ last found. cc
stands answers client (suc n) = subst (Stands answers client) (add-one n)
    (more (stands answers client n) (slice_get answers n) refl)
  where
    more : Stands answers client n → (o : Option Told) → slice_get answers n ≡ o → Stands answers client (n + 1)
    more before None past = stands_past answers client n past before
    more before (Some x) here = stands_more answers client n x (is_to client x) here refl before

-- where no answers go back, none is after fewer commits than the one before
none_back : (answers : List Told) → NeverGoBack answers → (i : ℕ) (told : Told) → slice_get answers i ≡ Some told
    → went_back (take i answers) told ≡ false
none_back answers never i told is = grind (arith, stands, le-ltb)

-- an answer without a fault of order
pub order_clear : (count : ℕ) (earlier : List Told) (told : Told) → order_fault count earlier told ≡ None
    → (told.at ≤ count) × (went_back earlier told ≡ false)
order_clear count earlier told none = grind (arith, no_some, ltb-false)

-- and one without a fault of its rows
pub rows_clear : (base : Tables) (history : List CommitRecord) (earlier : List Told) (told : Told)
    → rows_fault base history earlier told ≡ None → told.rows ≡ rows_after base history told
rows_clear base history earlier told none = cases (pointwise row_eq told.rows (rows_after base history told)) refl
  where
    cases : (b : Bool) → pointwise row_eq told.rows (rows_after base history told) ≡ b
        → told.rows ≡ rows_after base history told
    cases true same = (slice_eq-Decides row_Decides told.rows (rows_after base history told) _ refl).0 same
    cases false other =
        absurd (no_some (rows_fault base history earlier told) (WrongRows told.client (turn_of told.client earlier))
        none
        (ap (λ b. if b then None else Some (WrongRows told.client (turn_of told.client earlier))) other))

-- where nothing speaks against a trace, it is legal
legal_without_fault : (base : Tables) (trace : Trace) → trace_fault base trace ≡ None → IsLegalTrace base trace
legal_without_fault base trace none =
    let of_commits = none_first (first_from (commit_fault base trace.commits) 0 trace.commits)
    (first_from (answer_fault base trace.commits trace.answers) 0 trace.answers) none in
    let of_answers = none_second (first_from (commit_fault base trace.commits) 0 trace.commits)
    (first_from (answer_fault base trace.commits trace.answers) 0 trace.answers) none in
    let order : (i : ℕ) (told : Told) → slice_get trace.answers i ≡ Some told
    → order_fault (length trace.commits) (take i trace.answers) told ≡ None =
    λ i told is. none_first _ (rows_fault base (take told.at trace.commits) (take i trace.answers) told)
    (clear_at (answer_fault base trace.commits trace.answers) trace.answers of_answers i told is) in
    let rows : (i : ℕ) (told : Told) → slice_get trace.answers i ≡ Some told
    → rows_fault base (take told.at trace.commits) (take i trace.answers) told ≡ None =
    λ i told is. none_second (order_fault (length trace.commits) (take i trace.answers) told) _
    (clear_at (answer_fault base trace.commits trace.answers) trace.answers of_answers i told is) in
    record {
      commits = record {
        accepted = λ i commit is. none_mapped (λ _. CommitRefused (i + 1))
            (refusal_of base (take i trace.commits) commit.actions)
            (clear_at (commit_fault base trace.commits) trace.commits of_commits i commit is);
      };
      answers = λ i told is. record {
        within = (order_clear (length trace.commits) (take i trace.answers) told (order i told is)).0;
        rows = rows_clear base (take told.at trace.commits) (take i trace.answers) told (rows i told is);
      };
      order = never_back trace.answers (λ i told is. (order_clear (length trace.commits) (take i trace.answers) told
          (order i told is)).1);
    }

-- nothing speaks against a legal trace
no_fault_where_legal : (base : Tables) (trace : Trace) → IsLegalTrace base trace → trace_fault base trace ≡ None
no_fault_where_legal base trace legal =
    let commit_clear : (i : ℕ) (commit : CommitRecord) → slice_get trace.commits i ≡ Some commit
    → commit_fault base trace.commits i commit ≡ None =
    λ i commit is. ap (option_map (λ _. CommitRefused (i + 1))) (legal.commits.accepted i commit is) in
    let answer_clear : (i : ℕ) (told : Told) → slice_get trace.answers i ≡ Some told
    → answer_fault base trace.commits trace.answers i told ≡ None =
    λ i told is. clear_of base trace.commits (take i trace.answers) told (legal.answers i told is)
    (none_back trace.answers legal.order i told is) in
    none_both (first_from (commit_fault base trace.commits) 0 trace.commits)
    (first_from (answer_fault base trace.commits trace.answers) 0 trace.answers)
    (all_clear_at (commit_fault base trace.commits) trace.commits commit_clear)
    (all_clear_at (answer_fault base trace.commits trace.answers) trace.answers answer_clear)
  where
    clear_of : (base : Tables) (commits : List CommitRecord) (earlier : List Told) (told : Told)
        → IsTrueOf base commits told → went_back earlier told ≡ false → fault_after base commits earlier told ≡ None
    clear_of base commits earlier told is not =
        none_both (order_fault (length commits) earlier told) (rows_fault base (take told.at commits) earlier told)
        (ap (λ b. if b then Some (AtTooLarge told.client (turn_of told.client earlier)) else
        (if went_back earlier told then Some (WentBack told.client (turn_of told.client earlier)) else None))
        (le-ltb (length commits) told.at is.within)
        ∙ ap (λ b. if b then Some (WentBack told.client (turn_of told.client earlier)) else None) not)
        (ap (λ b. if b then None else Some (WrongRows told.client (turn_of told.client earlier)))
        ((slice_eq-Decides row_Decides told.rows (rows_after base (take told.at commits) told) _ refl).1 is.rows))

pub no_fault_is_legal : NoFaultIsLegal
no_fault_is_legal base trace = (legal_without_fault base trace, no_fault_where_legal base trace)
