-- Rows from dense totals.
use Rattle.std.proofs.Common.{ℕ, zero, suc, ◌≡◌, ◌≢◌, ◌+◌, ◌<◌, ◌≤◌, List, [], ◌∷◌, length, map, Bool, true, false}
use Rattle.std.proofs.Common.{cond, Option, Some, None, sym, refl, ap, ◌∙◌, subst, arith, inl, inr}
use Rattle.std.specs.Prelude.{nat_eq, nat_lt, filter, IsPermutation, ℤ}
use Rattle.std.specs.List.{range_with_len, AllByRecursion}
use Rattle.std.specs.List.Sorted.{IsSorted}
use Rattle.std.specs.Cmp.{unsigned_Decides, tied_itself}
use Rattle.std.specs.declared.cmp.Ordering.TheVariants.{Equal}
use Rattle.std.specs.Ordering.{is_eq}
use Rattle.std.proofs.lemmas.Bool.{lt-ltb, ltb-true}
use Rattle.std.proofs.lemmas.List.{length-map}
use Rattle.ssb_questions.specs.declared.value.Value.{Value}
use Rattle.ssb_questions.specs.declared.plan.Measure.{Measure}
use Rattle.ssb_questions.specs.declared.plan.Plan.{Plan}
use Rattle.ssb_questions.specs.Members.{Has}
use Rattle.ssb_questions.specs.Plan.{OrdersAllGroups, IsGrouped}
use Rattle.ssb_answers.specs.Combination.{Combination, value_at}
use Rattle.ssb_answers.specs.Answer.{sum_over, in_group, group_of, groups_cmp, row_of, row_cmp, rows_over}
use Rattle.ssb_answers.specs.declared.answer.ResultRow.{ResultRow}
use Rattle.ssb_answers.proofs.MemberLaws.{has_map, has_from_map, has_filter, same_members_permutation}
use Rattle.ssb_answers.proofs.OrderLaws.{tied_by_test, groups_cmp_total, groups_cmp-same, row_cmp_total}
use Rattle.ssb_answers.proofs.OrderLaws.{same_groups_from_tie}
use Rattle.ssb_answers.proofs.PermutationLaws.{NoTies, strict_from_sort}
use Rattle.ssb_answers.proofs.RowLaws.{no_other_rows, total_is_one_row}
use Rattle.scan_kernel.specs.Dense.{numbered, total, AreDenseTotals, live, dense_row, dense_rows}

first_or_rest : {X : Type 0} (p : X → Bool) (y x : X) (ys kept : List X) → p y ≡ true
    → (Has kept x → (p x ≡ true) × Has ys x) → Has (y ∷ kept) x → (p x ≡ true) × Has (y ∷ ys) x
first_or_rest p y x ys kept t rest (inl e) = (ap p e ∙ t, inl e)
first_or_rest p y x ys kept t rest (inr h) = let r = rest h in (r.0, inr r.1)

pub has_from_filter : {X : Type 0} (p : X → Bool) (xs : List X) (x : X) → Has (filter p xs) x → (p x ≡ true) × Has xs x
has_from_filter p [] x h = absurd h
has_from_filter p (y ∷ ys) x h =
    elim (p y) as (λ b. p y ≡ b → Has (cond b (y ∷ filter p ys) (filter p ys)) x → (p x ≡ true) × Has (y ∷ ys) x) [
      | true ↦ λ t i. first_or_rest p y x ys (filter p ys) t (has_from_filter p ys x) i
      | false ↦ λ _ i. let rest = has_from_filter p ys x i in (rest.0, inr rest.1)
    ] refl h

length_of_member : {X : Type 0} (xs : List X) (x : X) → Has xs x → 0 < length xs
length_of_member [] x h = absurd h
length_of_member (y ∷ xs) x h = omega arith

member_of_length : {X : Type 0} (xs : List X) → 0 < length xs → (x : X) × Has xs x
member_of_length [] h = absurd (omega (arith, h))
member_of_length (x ∷ xs) h = (x, inl refl)

pub filter_agree_on : {X : Type 0} (p q : X → Bool) (xs : List X) → ((x : X) → Has xs x → p x ≡ q x)
    → filter p xs ≡ filter q xs
filter_agree_on p q [] same = grind arith
filter_agree_on p q (x ∷ xs) same = grind (arith, filter_agree_on p q xs (λ y h. same y (inr h)))

sum_over_some : (measure : Measure) (found : List Combination) → 0 < length found
    → sum_over measure found ≡ Some (total measure found)
sum_over_some measure [] h = absurd (omega (arith, h))
sum_over_some measure (c ∷ found) h = refl

-- which numbers are in a range
pub has_range : (n a g : ℕ) → a ≤ g → g < a + n → Has (range_with_len a n) g
has_range zero a g from to = absurd (omega (arith, from, to))
has_range (suc n) a g from to =
    elim (nat_eq g a) as (λ b. nat_eq g a ≡ b → Has (a ∷ range_with_len (a + 1) n) g) [
      | true ↦ λ t. inl ((unsigned_Decides g a).0 t)
      | false ↦ λ f. inr (has_range n (a + 1) g (let other : g ≢ a = λ e. let t :
          nat_eq g a ≡ true = (unsigned_Decides g a).1 e in cc in omega (arith, from, other)) (omega (arith, to)))
    ] refl

pub range_has : (n a g : ℕ) → Has (range_with_len a n) g → (a ≤ g) × (g < a + n)
range_has zero a g h = absurd h
range_has (suc n) a g (inl e) = (omega (arith, e), omega (arith, e))
range_has (suc n) a g (inr h) = let rest = range_has n (a + 1) g h in (omega (arith, rest), omega (arith, rest))

-- no element is twice in the list
abbrev pub Once : List ℕ → Type 0
Once [] = Unit {0}
Once (x ∷ xs) = AllByRecursion (λ y. x ≢ y) xs × Once xs

all_of : {X : Type 0} (P : X → Type 0) (xs : List X) → ((x : X) → Has xs x → P x) → AllByRecursion P xs
all_of P [] h = tt
all_of P (x ∷ xs) h = (h x (inl refl), all_of P xs (λ y i. h y (inr i)))

once_range : (n a : ℕ) → Once (range_with_len a n)
once_range zero a = grind arith
once_range (suc n) a = grind (arith, all_of, range_has, once_range n (a + 1))

all_filter : {X : Type 0} (P : X → Type 0) (p : X → Bool) (xs : List X) → AllByRecursion P xs
    → AllByRecursion P (filter p xs)
all_filter P p [] h = tt
all_filter P p (x ∷ xs) h = elim (p x) as (λ b. AllByRecursion P (cond b (x ∷ filter p xs) (filter p xs)))
    [ true ↦ (h.0, all_filter P p xs h.1) | false ↦ all_filter P p xs h.1 ]

pub once_filter : (p : ℕ → Bool) (xs : List ℕ) → Once xs → Once (filter p xs)
once_filter p [] h = tt
once_filter p (x ∷ xs) h = elim (p x) as (λ b. Once (cond b (x ∷ filter p xs) (filter p xs)))
    [ true ↦ (all_filter _ p xs h.0, once_filter p xs h.1) | false ↦ once_filter p xs h.1 ]

module _ (plan : Plan) (found : List Combination) (number : Combination → ℕ) (size : ℕ) (groups : ℕ → List Value)
    (count : ℕ → ℕ) (sum : ℕ → ℤ) (dense : AreDenseTotals plan found number size groups count sum) where
  -- a combination is of the group of its number alone
  same_group : (g : ℕ) → g < size → in_group plan (groups g) found ≡ numbered number g found
  same_group g g_below = filter_agree_on _ _ found (λ c h.
      elim (nat_eq (number c) g) as
      (λ b. nat_eq (number c) g ≡ b → is_eq (groups_cmp (group_of plan c) (groups g)) ≡ b) [
        | true ↦ λ t. let same : group_of plan c ≡ groups g =
            sym (dense.named c h) ∙ ap groups ((unsigned_Decides (number c) g).0 t) in
            ap (λ (v : List Value). is_eq (groups_cmp v (groups g))) same
            ∙ ap is_eq (tied_itself groups_cmp_total (groups g))
        | false ↦ λ f. not_tied c h f (is_eq (groups_cmp (group_of plan c) (groups g))) refl
      ] refl)
    where
      not_tied : (c : Combination) → Has found c → nat_eq (number c) g ≡ false → (b : Bool)
          → is_eq (groups_cmp (group_of plan c) (groups g)) ≡ b → b ≡ false
      not_tied c h f false e = refl
      not_tied c h f true e =
          let same : group_of plan c ≡ groups g = groups_cmp-same _ _ (tied_by_test _ e) in
          let one : number c ≡ g = dense.apart (number c) g (dense.below c h) g_below (dense.named c h ∙ same) in
          let t : nat_eq (number c) g ≡ true = (unsigned_Decides (number c) g).1 one in
          cc

  -- a number with combinations has one of them
  live_has : (g : ℕ) → Has (live size count) g → (g < size) × (c : Combination) × Has found c × (number c ≡ g)
  live_has g h =
      let in_range = has_from_filter (λ k. nat_lt 0 (count k)) (range_with_len 0 size) g h in
      let g_below : g < size = omega (arith, (range_has size 0 g in_range.1).1) in
      let some : 0 < length (numbered number g found) =
      subst (λ n. 0 < n) (dense.counts g g_below) (ltb-true 0 (count g) in_range.0) in
      let member = member_of_length (numbered number g found) some in
      let is = has_from_filter (λ c. nat_eq (number c) g) found member.0 member.1 in
      (g_below, member.0, is.1, (unsigned_Decides (number member.0) g).0 is.0)

  has_live : (c : Combination) → Has found c → Has (live size count) (number c)
  has_live c h =
      let g = number c in
      let member : Has (numbered number g found) c = has_filter (λ d. nat_eq (number d) g) found c
      ((unsigned_Decides g g).1 refl) h in
      let some : 0 < count g = subst (λ n. 0 < n) (sym (dense.counts g (dense.below c h))) (length_of_member _ c member)
      in
      has_filter (λ k. nat_lt 0 (count k)) (range_with_len 0 size) g (lt-ltb 0 (count g) some)
      (has_range size 0 g (omega arith) (omega (arith, dense.below c h)))

  -- the row of a combination's number is the row of its group
  row_is : (c : Combination) → Has found c → dense_row groups sum (number c) ≡ row_of plan found (group_of plan c)
  row_is c h =
      let g = number c in
      let member : Has (numbered number g found) c = has_filter (λ d. nat_eq (number d) g) found c
      ((unsigned_Decides g g).1 refl) h in
      let sum_is : Some (sum g) ≡ sum_over plan.measure (in_group plan (groups g) found) =
      ap Some (dense.sums g (dense.below c h)) ∙ sym (sum_over_some plan.measure (numbered number g found)
      (length_of_member _ c member)) ∙ ap (sum_over plan.measure) (sym (same_group g (dense.below c h))) in
      ap (λ (s : Option ℤ). record { groups = groups g; sum = s }) sum_is ∙ ap (row_of plan found) (dense.named c h)

  length_of_row : (g : ℕ) → Has (live size count) g → length (groups g) ≡ length plan.groups
  length_of_row g h =
      let member = live_has g h in
      ap (λ (k : ℕ). length (groups k)) (sym member.3) ∙ ap length (dense.named member.1 member.2)
      ∙ length-map plan.groups (λ column. value_at column member.1)

  module _ (orders : OrdersAllGroups plan) where
    no_tie : (g h : ℕ) → Has (live size count) g → Has (live size count) h → g ≢ h
        → row_cmp plan.order (dense_row groups sum g) (dense_row groups sum h) ≢ Equal
    no_tie g h g_live h_live other tie =
        other (dense.apart g h (live_has g g_live).0 (live_has h h_live).0
        (same_groups_from_tie plan.order (length plan.groups) orders (dense_row groups sum g) (dense_row groups sum h)
        (length_of_row g g_live) (length_of_row h h_live) tie))

    apart_rows : (g : ℕ) → Has (live size count) g → (gs : List ℕ) → ((h : ℕ) → Has gs h → Has (live size count) h)
        → AllByRecursion (λ h. g ≢ h) gs
        → AllByRecursion (λ y. row_cmp plan.order (dense_row groups sum g) y ≢ Equal) (map (dense_row groups sum) gs)
    apart_rows g g_live [] among others = tt
    apart_rows g g_live (h ∷ gs) among others = (
      no_tie g h g_live (among h (inl refl)) others.0,
      apart_rows g g_live gs (λ k i. among k (inr i)) others.1,
    )

    no_ties : (gs : List ℕ) → ((h : ℕ) → Has gs h → Has (live size count) h) → Once gs
        → NoTies (row_cmp plan.order) (map (dense_row groups sum) gs)
    no_ties [] among once = tt
    no_ties (g ∷ gs) among once = (
      apart_rows g (among g (inl refl)) gs (λ k i. among k (inr i)) once.0,
      no_ties gs (λ k i. among k (inr i)) once.1,
    )

    -- the rows of the numbers that have combinations, in whatever order they were found
    pub sorted_some_answer : (gs : List ℕ) (rows : List ResultRow) → IsGrouped plan → Once gs
        → ((g : ℕ) → Has gs g → Has (live size count) g) → ((g : ℕ) → Has (live size count) g → Has gs g)
        → IsPermutation (map (dense_row groups sum) gs) rows → IsSorted (row_cmp plan.order) rows
        → rows ≡ rows_over plan found
    sorted_some_answer gs rows grouped once among all moved sorted =
        let made = map (dense_row groups sum) gs in
        let members = same_members_permutation made rows moved in
        no_other_rows plan found orders grouped rows (record {
          of_groups = λ row h.
              let g = has_from_map (dense_row groups sum) gs row (members.back row h) in
              let member = live_has g.0 (among g.0 g.1) in
              (member.1, member.2, g.2 ∙ ap (dense_row groups sum) (sym member.3) ∙ row_is member.1 member.2);
          each_group = λ c h.
              subst (Has rows) (row_is c h) (members.forth _
              (has_map (dense_row groups sum) gs (number c) (all (number c) (has_live c h))));
          ordered = strict_from_sort (row_cmp_total plan.order) made rows (no_ties gs among once) moved sorted;
        })

    pub sorted_rows_answer : (rows : List ResultRow) → IsGrouped plan
        → IsPermutation (dense_rows size groups count sum) rows → IsSorted (row_cmp plan.order) rows
        → rows ≡ rows_over plan found
    sorted_rows_answer rows grouped moved sorted = sorted_some_answer (live size count) rows grouped
        (once_filter _ _ (once_range size 0)) (λ g h. h) (λ g h. h) moved sorted

pub one_row_answers : (plan : Plan) (found : List Combination) (count : ℕ) (sum : ℤ) → plan.groups ≡ []
    → count ≡ length found → sum ≡ total plan.measure found
    → record { groups = []; sum = cond (nat_lt 0 count) (Some sum) None } ∷ [] ≡ rows_over plan found
one_row_answers plan found count sum none counts sums = grind (arith, total_is_one_row, lt-ltb)

filter_whole : {X : Type 0} (p : X → Bool) (xs : List X) → ((x : X) → Has xs x → p x ≡ true) → filter p xs ≡ xs
filter_whole p [] all = refl
filter_whole p (x ∷ xs) all = ap (λ (b : Bool). cond b (x ∷ filter p xs) (filter p xs)) (all x (inl refl))
    ∙ ap (λ ys. x ∷ ys) (filter_whole p xs (λ y h. all y (inr h)))

-- where there is one number alone, it has all combinations
pub one_row_of_dense : (plan : Plan) (found : List Combination) (number : Combination → ℕ) (size : ℕ)
    (groups : ℕ → List Value) (count : ℕ → ℕ) (sum : ℕ → ℤ) → plan.groups ≡ [] → size ≡ 1
    → AreDenseTotals plan found number size groups count sum
    → record { groups = []; sum = cond (nat_lt 0 (count 0)) (Some (sum 0)) None } ∷ [] ≡ rows_over plan found
one_row_of_dense plan found number size groups count sum none one dense = grind (arith, filter_whole, one_row_answers)
