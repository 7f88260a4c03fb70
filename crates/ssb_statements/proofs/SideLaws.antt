-- The answers to a statement's questions have one row for each group, and the same groups in the same order.
use Rattle.std.proofs.Common.{◌≡◌, ◌∙◌, ap, refl, arith, ℕ, ◌+◌, ℤ, pos, ◌+ℤ◌, Bool, true, false, List, [], ◌∷◌}
use Rattle.std.proofs.Common.{length, map, Option, None, Some, slice_get, if◌then◌else◌, ◌<◌, zero, suc, sym, subst}
use Rattle.std.specs.Prelude.{All, filter, option_map, unwrap_or, ◌&&◌}
use Rattle.std.specs.Option.{option_and_then}
use Rattle.std.proofs.lemmas.List.Elements.{All-head, All-tail}
use Rattle.std.proofs.lemmas.List.{length-map}
use Rattle.std.specs.List.{fold, range_with_len}
use Rattle.std.specs.declared.cmp.Ordering.{Ordering}
use Rattle.std.specs.Ordering.{is_lt, is_eq, ordering_then}
use Rattle.ssb_base.specs.Base.{Dimensions}
use Rattle.ssb_schema.specs.declared.fact.Fact.{Fact}
use Rattle.ssb_questions.specs.StarMeaning.{by_columns}
use Rattle.ssb_questions.specs.declared.plan.Measure.{Measure}
use Rattle.ssb_questions.specs.declared.plan.Measure.TheVariants.{Lines}
use Rattle.ssb_questions.specs.declared.plan.OrderKey.TheVariants as by
use Rattle.ssb_questions.specs.declared.plan.Plan.{Plan}
use Rattle.ssb_questions.specs.declared.value.Value.{Value}
use Rattle.ssb_answers.specs.Answer.{amount, answer, group_of, groups_among, in_group, key_cmp, row_cmp, row_of, sum_over}
use Rattle.ssb_answers.specs.Combination.{Combination, combinations}
use Rattle.ssb_answers.specs.Ordered.{in_order, put}
use Rattle.ssb_answers.specs.declared.answer.ResultRow.{ResultRow}
use Rattle.ssb_answers.specs.declared.answer.Answer.{Answer}
use Rattle.ssb_sql.specs.declared.statement.Shown.{Shown}
use Rattle.ssb_sql.specs.declared.statement.Shown.TheVariants as shown
use Rattle.ssb_sql.specs.declared.statement.GroupTest.{GroupTest}
use Rattle.ssb_statements.specs.Arranged.{cell_at, cells_at, count_at, is_kept_at, number_of, row_at, row_count, rows_in}
use Rattle.ssb_statements.specs.Arranged.{sum_at}
use Rattle.ssb_statements.specs.Laws.{StatementsAreTheirQuestions}
use Rattle.ssb_statements.specs.SideBySide.{AreAnswers, IsPrinted, IsTested, item_of, plan_for, test_of}
use Rattle.ssb_statements.specs.Statement.{average, cell, group_cmp, groups_found, is_kept, passes, passes_test, row}
use Rattle.ssb_statements.specs.declared.cell.StatementCell.TheVariants.{Plain, Number, Decimal}
use Rattle.std.proofs.lemmas.Option.{slice_get-map, slice_get_within}

-- ---- an order that looks at what was mapped alone

chosen : {X Y : Type 0} (f : X → Y) (less same : Bool) (x y : X) (ys zs : List X) (others : List Y)
    → others ≡ map f zs
    → (if less then f x ∷ f y ∷ map f ys else if same then f y ∷ map f ys else (f y ∷ others))
    ≡ map f (if less then x ∷ y ∷ ys else if same then y ∷ ys else (y ∷ zs))
chosen f true same x y ys zs others h = refl
chosen f false true x y ys zs others h = refl
chosen f false false x y ys zs others h = ap (λ rest. f y ∷ rest) h

put_mapped : {X Y : Type 0} (f : X → Y) (cmp : X → X → Ordering) (of_rows : Y → Y → Ordering)
    → ((a b : X) → of_rows (f a) (f b) ≡ cmp a b) → (x : X) (ys : List X)
    → put of_rows (f x) (map f ys) ≡ map f (put cmp x ys)
put_mapped f cmp of_rows same x [] = refl
put_mapped f cmp of_rows same x (y ∷ ys) =
    rw (same x y)
    (chosen f (is_lt (cmp x y)) (is_eq (cmp x y)) x y ys (put cmp x ys) (put of_rows (f x) (map f ys))
    (put_mapped f cmp of_rows same x ys))

mapped_in_order : {X Y : Type 0} (f : X → Y) (cmp : X → X → Ordering) (of_rows : Y → Y → Ordering)
    → ((a b : X) → of_rows (f a) (f b) ≡ cmp a b) → (xs : List X)
    → in_order of_rows (map f xs) ≡ map f (in_order cmp xs)
mapped_in_order f cmp of_rows same [] = refl
mapped_in_order f cmp of_rows same (x ∷ xs) =
    ap (put of_rows (f x)) (mapped_in_order f cmp of_rows same xs)
    ∙ put_mapped f cmp of_rows same x (in_order cmp xs)

-- ---- the rows of an answer by its groups

-- keys of the order that are group columns look at no sum
by_groups : (places : List ℕ) (a b : List Value) (m n k l : Option ℤ)
    → row_cmp (map by.Group places) (record { groups = a; sum = m }) (record { groups = b; sum = n })
    ≡ row_cmp (map by.Group places) (record { groups = a; sum = k }) (record { groups = b; sum = l })
by_groups [] a b m n k l = refl
by_groups (place ∷ places) a b m n k l =
    ap (ordering_then (key_cmp (by.Group place) (record { groups = a; sum = m }) (record { groups = b; sum = n })))
    (by_groups places a b m n k l)

-- each of them is one row for each group, and the groups are the same for each sum
answer_rows : (plan : Plan) (measure : Measure) (dimensions : Dimensions) (facts : List Fact)
    → answer (plan_for plan measure) dimensions facts
    ≡ map (row_of (plan_for plan measure) (combinations plan dimensions facts))
    (groups_found plan (combinations plan dimensions facts))
answer_rows plan measure dimensions facts =
    let found = combinations plan dimensions facts in
    mapped_in_order (row_of (plan_for plan measure) found) (group_cmp plan) (row_cmp (by_columns (length plan.groups)))
    (λ a b. by_groups (range_with_len 0 (length plan.groups)) a b (sum_over measure (in_group plan a found))
    (sum_over measure (in_group plan b found)) None None)
    (groups_among plan.groups (group_of plan) found)

-- ---- rows by their numbers

chosen_same : {X Y : Type 0} (f : ℕ → Y) (h : X → Y) (kept : Bool) (a : ℕ) (x : X) (ns : List ℕ) (xs : List X)
    → f a ≡ h x → map f ns ≡ map h xs
    → map f (if kept then a ∷ ns else ns) ≡ map h (if kept then x ∷ xs else xs)
chosen_same f h true a x ns xs first rest = ap (λ y. y ∷ map f ns) first ∙ ap (λ ys. h x ∷ ys) rest
chosen_same f h false a x ns xs first rest = rest

chosen_maps : {X Y : Type 0} (f : ℕ → Y) (h : X → Y) (kept own : Bool) (a : ℕ) (x : X) (ns : List ℕ) (xs : List X)
    → kept ≡ own → f a ≡ h x → map f ns ≡ map h xs
    → map f (if kept then a ∷ ns else ns) ≡ map h (if own then x ∷ xs else xs)
chosen_maps f h kept own a x ns xs same first rest =
    subst (λ is. map f (if kept then a ∷ ns else ns) ≡ map h (if is then x ∷ xs else xs)) same
    (chosen_same f h kept a x ns xs first rest)

-- functions of numbers that are those of the elements there: a value, and whether they are kept
by_places : {X Y : Type 0} (f : ℕ → Y) (h : X → Y) (p : ℕ → Bool) (q : X → Bool) (xs : List X) (a : ℕ)
    → ((i : ℕ) (x : X) → slice_get xs i ≡ Some x → f (a + i) ≡ h x)
    → ((i : ℕ) (x : X) → slice_get xs i ≡ Some x → p (a + i) ≡ q x)
    → map f (filter p (range_with_len a (length xs))) ≡ map h (filter q xs)
by_places f h p q [] a same kept = refl
by_places f h p q (x ∷ xs) a same kept =
    let first : f a ≡ h x = subst (λ n. f n ≡ h x) (omega arith) (same 0 x refl) in
    let stays : p a ≡ q x = subst (λ n. p n ≡ q x) (omega arith) (kept 0 x refl) in
    let rest : map f (filter p (range_with_len (a + 1) (length xs))) ≡ map h (filter q xs) = by_places f h p q xs (a + 1)
    (λ i y here. subst (λ n. f n ≡ h y) (omega arith) (same (suc i) y here))
    (λ i y here. subst (λ n. p n ≡ q y) (omega arith) (kept (suc i) y here)) in
    chosen_maps f h (p a) (q x) a x (filter p (range_with_len (a + 1) (length xs))) (filter q xs) stays first rest

-- adding 1 for each line counts the lines
fold_counts : (members : List Combination) (n : ℕ)
    → fold (λ sum combination. sum +ℤ amount Lines combination.fact) (pos n) members ≡ pos (n + length members)
fold_counts [] n = ap pos (omega arith)
fold_counts (c ∷ members) n = fold_counts members (n + 1) ∙ ap pos (omega arith)

counted : (members : List Combination) → unwrap_or (sum_over Lines members) (pos 0) ≡ pos (length members)
counted [] = refl
counted (c ∷ members) = fold_counts (c ∷ members) 0 ∙ ap pos (omega arith)

-- an element stands at each place of a list
has : {X : Type 0} (xs : List X) (i : ℕ) → i < length xs → (x : X) × (slice_get xs i ≡ Some x)
has [] i low = absurd (omega (arith, low))
has (x ∷ xs) zero low = (x, refl)
has (x ∷ xs) (suc i) low = has xs i (omega (arith, low))

-- ---- what stands in the row of a number

module _ (plan : Plan) (measures : List Measure) (dimensions : Dimensions) (facts : List Fact) (answers : List Answer)
    (are : AreAnswers plan measures dimensions facts answers) where
  abbrev found : List Combination
  found = combinations plan dimensions facts

  abbrev groups : List (List Value)
  groups = groups_found plan found

  row_there : (place i : ℕ) (m : Measure) (a : Answer) (group : List Value) → slice_get answers place ≡ Some a
      → slice_get measures place ≡ Some m → slice_get groups i ≡ Some group
      → row_at answers place i ≡ Some (row_of (plan_for plan m) found group)
  row_there place i m a group there asked here =
      ap (option_and_then (λ a. slice_get (rows_in a) i)) there
      ∙ (ap (λ rows. slice_get rows i) (are.each place m a asked there ∙ answer_rows plan m dimensions facts)
      ∙ (slice_get-map (row_of (plan_for plan m) found) groups i ∙ ap (option_map (row_of (plan_for plan m) found)) here))

  -- there is an answer to each question, with a row for each group
  answer_at : (place i : ℕ) (m : Measure) (group : List Value) → slice_get measures place ≡ Some m
      → slice_get groups i ≡ Some group → row_at answers place i ≡ Some (row_of (plan_for plan m) found group)
  answer_at place i m group asked here =
      let within : place < length measures = slice_get_within measures place m asked in
      let there = has answers place (subst (λ n. place < n) (sym are.count) within) in
      row_there place i m there.0 group there.1 asked here

  sum_is : (place i : ℕ) (m : Measure) (group : List Value) → slice_get measures place ≡ Some m
      → slice_get groups i ≡ Some group → sum_at answers place i ≡ sum_over m (in_group plan group found)
  sum_is place i m group asked here = ap (option_and_then (λ row. row.sum)) (answer_at place i m group asked here)

  cell_is : 0 < length measures → (i : ℕ) (group : List Value) → slice_get groups i ≡ Some group → (one : Shown)
      → IsPrinted measures one → cell_at answers i one ≡ cell (in_group plan group found) group (item_of measures one)
  cell_is some i group here (shown.Group place) is =
      let first = has measures 0 some in
      ap (λ o. Plain (option_and_then (λ row. slice_get row.groups place) o))
      (answer_at 0 i first.0 group first.1 here)
  cell_is some i group here (shown.Sum place) is =
      let asked = has measures place is in
      ap Number (sum_is place i asked.0 group asked.1 here
      ∙ ap (λ m. sum_over m (in_group plan group found)) (ap (λ o. unwrap_or o Lines) (sym asked.1)))
  cell_is some i group here (shown.Count place) is =
      ap (λ o. Number (Some (unwrap_or o (pos 0)))) (sum_is place i Lines group is here)
      ∙ ap (λ n. Number (Some n)) (counted (in_group plan group found))
  cell_is some i group here (shown.Average sum lines) is =
      let asked = has measures sum is.0 in
      let total : sum_at answers sum i
      ≡ sum_over (unwrap_or (slice_get measures sum) Lines) (in_group plan group found) =
      sum_is sum i asked.0 group asked.1 here
      ∙ ap (λ m. sum_over m (in_group plan group found)) (ap (λ o. unwrap_or o Lines) (sym asked.1)) in
      let count : count_at answers lines i ≡ pos (length (in_group plan group found)) =
      ap (λ o. unwrap_or o (pos 0)) (sum_is lines i Lines group is.1 here) ∙ counted (in_group plan group found) in
      ap (λ s. Decimal (average s (count_at answers lines i))) total
      ∙ ap (λ n. Decimal (average (sum_over (unwrap_or (slice_get measures sum) Lines) (in_group plan group found)) n))
      count

  tests_are : 0 < length measures → (i : ℕ) (group : List Value) → slice_get groups i ≡ Some group
      → (tests : List GroupTest) → All (IsTested measures) tests
      → is_kept_at answers tests i ≡ is_kept plan (map (test_of measures) tests) found group
  tests_are some i group here [] are = refl
  tests_are some i group here (one ∷ tests) tested =
      ap (λ c. passes one.comparison (number_of one.number) c && is_kept_at answers tests i)
      (cell_is some i group here one.shown (All-head (IsTested measures) one tests tested))
      ∙ ap (λ kept. passes_test (in_group plan group found) group (test_of measures one) && kept)
      (tests_are some i group here tests (All-tail (IsTested measures) one tests tested))

  cells_are : 0 < length measures → (i : ℕ) (group : List Value) → slice_get groups i ≡ Some group
      → (all : List Shown) → All (IsPrinted measures) all
      → cells_at answers all i ≡ row plan (map (item_of measures) all) found group
  cells_are some i group here [] are = refl
  cells_are some i group here (one ∷ all) printed =
      let first : cell_at answers i one ≡ cell (in_group plan group found) group (item_of measures one) =
      cell_is some i group here one (All-head (IsPrinted measures) one all printed) in
      let rest : cells_at answers all i ≡ row plan (map (item_of measures) all) found group =
      cells_are some i group here all (All-tail (IsPrinted measures) one all printed) in
      grind arith

  none_left : answers ≡ [] → 0 < length measures → ⊥
  none_left is some =
      let none : length answers ≡ 0 = ap length is in
      let count = are.count in omega (arith, none, count, some)

  count_is : (all : List Answer) → answers ≡ all → 0 < length measures → row_count all ≡ length groups
  count_is [] is some = absurd (none_left is some)
  count_is (first ∷ others) is some =
      let asked = has measures 0 some in
      ap length (are.each 0 asked.0 first asked.1 (ap (λ xs. slice_get xs 0) is) ∙ answer_rows plan asked.0 dimensions facts)
      ∙ length-map groups (row_of (plan_for plan asked.0) found)

pub sides : StatementsAreTheirQuestions
sides plan measures shown having dimensions facts answers are some printed tested =
    ap (λ n. map (cells_at answers shown) (filter (is_kept_at answers having) (range_with_len 0 n)))
    (count_is plan measures dimensions facts answers are answers refl some)
    ∙ by_places (cells_at answers shown) (row plan (map (item_of measures) shown) (combinations plan dimensions facts))
    (is_kept_at answers having)
    (is_kept plan (map (test_of measures) having) (combinations plan dimensions facts))
    (groups_found plan (combinations plan dimensions facts)) 0
    (λ i group here. subst (λ n. cells_at answers shown n
    ≡ row plan (map (item_of measures) shown) (combinations plan dimensions facts) group) (omega arith)
    (cells_are plan measures dimensions facts answers are some i group here shown printed))
    (λ i group here. subst (λ n. is_kept_at answers having n
    ≡ is_kept plan (map (test_of measures) having) (combinations plan dimensions facts) group) (omega arith)
    (tests_are plan measures dimensions facts answers are some i group here having tested))
