-- What every plan promises, and what is true of the constants that `star` takes.
use Rattle.std.proofs.Common.{◌≡◌, ◌∙◌, ℕ, zero, suc, ◌+◌, ◌-◌, ◌<◌, ◌≤◌, max, Bool, true, false, not, ◌&&◌, cond}
use Rattle.std.proofs.Common.{nat_eq, nat_lt, nat_le, List, [], ◌∷◌, length, take, Option, Some, None, refl, sym, ap}
use Rattle.std.proofs.Common.{arith}
use Rattle.std.specs.Prelude.{if◌then◌else◌, find, option_and_then, option_map, slice_get}
use Rattle.std.specs.List.{AllByRecursion, filter_map, cons_option, range_with_len}
use Rattle.std.specs.Cmp.{second_so}
use Rattle.std.proofs.lemmas.Bool.{cases_Bool}
use Rattle.std.proofs.lemmas.Bool.Decides.{nat_tests}
use Rattle.ssb_schema.specs.Columns.{query_columns}
use Rattle.ssb_schema.specs.declared.column.Column.{Column}
use Rattle.ssb_questions.proofs.ColumnLaws.{customer_tests, date_tests, part_tests, star_groups_read, supplier_tests}
use Rattle.ssb_questions.specs.Clause.{Clause, Sums, GroupsBy, Is, IsNot, FromTo, QuantityIn, DiscountIn, BySum}
use Rattle.ssb_questions.specs.Clauses.{clause_said, clauses_of, first_bad, may_stand, may_stand_at, subject}
use Rattle.ssb_questions.specs.Clauses.{subject_of}
use Rattle.ssb_questions.specs.Clauses.{subjects_of}
use Rattle.ssb_questions.specs.Members.{Has}
use Rattle.ssb_questions.specs.Plan.{IsOverColumns}
use Rattle.ssb_questions.specs.Queries.{plan_over}
use Rattle.ssb_questions.specs.Question.{constants_fault}
use Rattle.ssb_questions.specs.Star.{group_in}
use Rattle.ssb_questions.specs.declared.clauses.Subject.{Subject}
use Rattle.ssb_questions.specs.declared.question.ConstantsFault.TheVariants.{BadConstant}
use Rattle.ssb_questions.specs.declared.query.Query.{Query}
use Rattle.ssb_questions.specs.declared.query.Query.TheVariants.{Q1_1, Q1_2, Q1_3, Q2_1, Q2_2, Q2_3, Q3_1, Q3_2, Q3_3}
use Rattle.ssb_questions.specs.declared.query.Query.TheVariants.{Q3_4}
use Rattle.ssb_questions.specs.declared.query.Query.TheVariants.{Q4_1, Q4_2, Q4_3, Star}
use Rattle.ssb_questions.specs.declared.value.Value.{Value}

pub over_columns : (query : Query) (constants : List Value) → IsOverColumns (plan_over query constants)
over_columns Q1_1 constants = grind arith
over_columns Q1_2 constants = grind arith
over_columns Q1_3 constants = grind arith
over_columns Q2_1 constants = grind arith
over_columns Q2_2 constants = grind arith
over_columns Q2_3 constants = grind arith
over_columns Q3_1 constants = grind arith
over_columns Q3_2 constants = grind arith
over_columns Q3_3 constants = grind arith
over_columns Q3_4 constants = grind arith
over_columns Q4_1 constants = grind arith
over_columns Q4_2 constants = grind arith
over_columns Q4_3 constants = grind arith
over_columns Star constants = grind (arith, customer_tests, supplier_tests, part_tests, date_tests, star_groups_read)

pub groups_read : (query : Query) (constants : List Value)
    → AllByRecursion (Has query_columns) (plan_over query constants).groups
groups_read query constants = (over_columns query constants).groups

-- where no place is bad, each constant may stand at its place
not_found : (here : Bool) (a : ℕ) (later : Option ℕ) → cond here (Some a) later ≡ None → (here ≡ false) × (later ≡ None)
not_found false a later e = (refl, e)
not_found true a later e = absurd cc

nowhere : (p : ℕ → Bool) (n a : ℕ) → find p (range_with_len a n) ≡ None → (place : ℕ) → place < n
    → p (a + place) ≡ false
nowhere p zero a none place lt = absurd (omega (arith, lt))
nowhere p (suc n) a none zero lt =
    let here : p a ≡ false = (not_found (p a) a (find p (range_with_len (a + 1) n)) none).0 in
    let same : a + zero ≡ a = omega arith in
    rw same here
nowhere p (suc n) a none (suc place) lt =
    let later = (not_found (p a) a (find p (range_with_len (a + 1) n)) none).1 in
    let there : p (a + 1 + place) ≡ false = nowhere p n (a + 1) later place (omega (arith, lt)) in
    let same : a + suc place ≡ a + 1 + place = omega arith in
    rw same there

not_not : (b : Bool) → not b ≡ false → b ≡ true
not_not true e = refl
not_not false e = absurd cc

no_place : (place : Option ℕ) → option_map (λ n. BadConstant (n + 1)) place ≡ None → place ≡ None
no_place None e = refl
no_place (Some n) e = absurd cc

may : (constants : List Value) → constants_fault Star constants ≡ None → (place : ℕ) → place < length constants
    → may_stand constants place ≡ true
may constants none place lt =
    let found : first_bad constants ≡ None = no_place (first_bad constants) none in
    let bad = λ (n : ℕ). not (may_stand constants n) in
    let there : bad (0 + place) ≡ false =
    nowhere bad (max 1 (length constants)) 0 found place (omega (arith, lt)) in
    let same : 0 + place ≡ place = omega arith in
    not_not (may_stand constants place) (rw (← same) there)

within : {X : Type 0} (xs : List X) (i : ℕ) (x : X) → slice_get xs i ≡ Some x → i < length xs
within [] i x e = absurd cc
within (y ∷ xs) zero x e = omega arith
within (y ∷ xs) (suc i) x e = let later = within xs i x e in omega (arith, later)

pub stands : (constants : List Value) → constants_fault Star constants ≡ None → (i : ℕ) (v : Value)
    → slice_get constants i ≡ Some v
    → may_stand_at i (subjects_of (take i constants)) (option_map subject (clause_said v)) ≡ true
stands constants none i v at =
    let m = second_so (nat_lt i 64) _ (may constants none i (within constants i v at)) in
    ap (λ (o : Option Value). may_stand_at i (subjects_of (take i constants)) (option_and_then subject_of o)) (sym at)
    ∙ m

-- a group column stands at the second to fifth place
behind : (i : ℕ) (first second : Bool) → (if nat_eq i 0 then false else (nat_le i 4 && first && second)) ≡ true
    → (1 ≤ i) × (i ≤ 4)
behind i first second e = grind (arith, cases_Bool, nat_eq, nat_le, nat_tests)

group_place : (i : ℕ) (earlier : List Subject) (o : Option Clause) (column : Column)
    → may_stand_at i earlier (option_map subject o) ≡ true → option_and_then group_in o ≡ Some column
    → (1 ≤ i) × (i ≤ 4)
group_place i earlier None column may e = absurd cc
group_place i earlier (Some (GroupsBy c)) column may e = behind i _ _ may
group_place i earlier (Some (Sums m)) column may e = absurd cc
group_place i earlier (Some (Is c v)) column may e = absurd cc
group_place i earlier (Some (IsNot c v)) column may e = absurd cc
group_place i earlier (Some (FromTo c from to)) column may e = absurd cc
group_place i earlier (Some (QuantityIn range)) column may e = absurd cc
group_place i earlier (Some (DiscountIn range)) column may e = absurd cc
group_place i earlier (Some BySum) column may e = absurd cc

one_of : (o : Option Column) (columns : List Column) (a : ℕ)
    → ((column : Column) → o ≡ Some column → (1 ≤ a + 0) × (a + 0 ≤ 4)) → length columns ≤ 5 - max 1 (a + 1)
    → length (cons_option o columns) ≤ 5 - max 1 a
one_of None columns a h few = omega (arith, few)
one_of (Some column) columns a h few = let at = h column refl in omega (arith, few, at)

one_more : (o : Option Clause) (clauses : List Clause) (a : ℕ)
    → ((column : Column) → option_and_then group_in o ≡ Some column → (1 ≤ a + 0) × (a + 0 ≤ 4))
    → length (filter_map group_in clauses) ≤ 5 - max 1 (a + 1)
    → length (filter_map group_in (cons_option o clauses)) ≤ 5 - max 1 a
one_more None clauses a h few = omega (arith, few)
one_more (Some c) clauses a h few = one_of (group_in c) (filter_map group_in clauses) a h few

few_from : (xs : List Value) (a : ℕ)
    → ((i : ℕ) (v : Value) (column : Column) → slice_get xs i ≡ Some v
    → option_and_then group_in (clause_said v) ≡ Some column → (1 ≤ a + i) × (a + i ≤ 4))
    → length (filter_map group_in (clauses_of xs)) ≤ 5 - max 1 a
few_from [] a h = omega arith
few_from (v ∷ xs) a h =
    one_more (clause_said v) (clauses_of xs) a (λ column e. h 0 v column refl e)
    (few_from xs (a + 1) (λ i w column at e. let there = h (suc i) w column at e in
    (omega (arith, there.0), omega (arith, there.1))))

few_star_groups : (constants : List Value) → constants_fault Star constants ≡ None
    → length (filter_map group_in (clauses_of constants)) ≤ 4
few_star_groups constants none =
    let few = few_from constants 0 (λ i v column at e.
    let place = group_place i (subjects_of (take i constants)) (clause_said v) column
    (stands constants none i v at) e in
    (omega (arith, place.0), omega (arith, place.1))) in
    omega (arith, few)

pub few_groups : (query : Query) (constants : List Value) → constants_fault query constants ≡ None
    → length (plan_over query constants).groups ≤ 4
few_groups Q1_1 constants none = omega arith
few_groups Q1_2 constants none = omega arith
few_groups Q1_3 constants none = omega arith
few_groups Q2_1 constants none = omega arith
few_groups Q2_2 constants none = omega arith
few_groups Q2_3 constants none = omega arith
few_groups Q3_1 constants none = omega arith
few_groups Q3_2 constants none = omega arith
few_groups Q3_3 constants none = omega arith
few_groups Q3_4 constants none = omega arith
few_groups Q4_1 constants none = omega arith
few_groups Q4_2 constants none = omega arith
few_groups Q4_3 constants none = omega arith
few_groups Star constants none = few_star_groups constants none

-- `star` takes 1 to 64 constants
pub some_clause : (constants : List Value) → constants_fault Star constants ≡ None → 1 ≤ length constants
some_clause [] none = absurd cc
some_clause (v ∷ constants) none = omega arith

-- and each says something
some_said : (i : ℕ) (earlier : List Subject) (o : Option Clause) → may_stand_at i earlier (option_map subject o) ≡ true
    → (clause : Clause) × (o ≡ Some clause)
some_said i earlier None may = absurd cc
some_said i earlier (Some clause) may = (clause, refl)

pub says : (constants : List Value) → constants_fault Star constants ≡ None → (i : ℕ) (v : Value)
    → slice_get constants i ≡ Some v → (clause : Clause) × (clause_said v ≡ Some clause)
says constants none i v at =
    some_said i (subjects_of (take i constants)) (clause_said v) (stands constants none i v at)
