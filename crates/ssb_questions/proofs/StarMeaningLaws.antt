-- The plan of the constants that `star` takes means what their clauses say.
use Rattle.std.proofs.Common.{◌≡◌, ◌≢◌, ◌∙◌, ℕ, Bool, true, false, not, ◌&&◌, ◌||◌, cond, nat_eq, nat_le, List, []}
use Rattle.std.proofs.Common.{◌∷◌, ◌++◌}
use Rattle.std.proofs.Common.{length, map, Option, Some, None, refl, sym, ap, subst, arith, inl, inr}
use Rattle.std.specs.Prelude.{IfSome, option_map, slice_get, filter, ◌↔◌}
use Rattle.std.specs.List.{AllByRecursion, filter_map, cons_option, list_any}
use Rattle.std.specs.Option.{unwrap_or}
use Rattle.std.specs.Cmp.{first_so, second_so}
use Rattle.std.proofs.lemmas.Bool.Decides.{nat_tests}
use Rattle.std.proofs.lemmas.Slice.Eq.{bytes_eq-Decides}
use Rattle.ssb_schema.specs.Columns.{column_name, query_columns}
use Rattle.ssb_schema.specs.declared.column.Column.{Column}
use Rattle.ssb_questions.proofs.ColumnLaws.{IsRead, at, clauses_read, customers_read, dates_read}
use Rattle.ssb_questions.proofs.ColumnLaws.{parts_read, same_is, suppliers_read}
use Rattle.ssb_questions.proofs.OnceLaws.{Bars, IsOf, IsOfKind, Pairs, Speaks, alone, barred, clauses_of_kind}
use Rattle.ssb_questions.proofs.OnceLaws.{discount_discount, none_of, one_range, quantity_quantity, range_one}
use Rattle.ssb_questions.proofs.OnceLaws.{range_range}
use Rattle.ssb_questions.proofs.SomeLaws.{all_any, all_append, all_left, all_right, some_map}
use Rattle.ssb_questions.proofs.StarLaws.{some_clause, stands}
use Rattle.ssb_questions.specs.Clause.{Clause, Sums, GroupsBy, Is, IsNot, FromTo, QuantityIn, DiscountIn, BySum}
use Rattle.ssb_questions.specs.Clause.{kind_in}
use Rattle.ssb_questions.specs.Clauses.{clause_said, clauses_of, may_stand_at, same_column, subject}
use Rattle.ssb_questions.specs.Cond.{holds}
use Rattle.ssb_questions.specs.Members.{Has}
use Rattle.ssb_questions.specs.Question.{constants_fault}
use Rattle.ssb_questions.specs.Star.{cond_by, cond_of, customer_columns, date_columns, discount_in, first_in, group_in}
use Rattle.ssb_questions.specs.Star.{exclusion_by, exclusion_of, exclusion_test, is_order, none_of_numbers}
use Rattle.ssb_questions.specs.Star.{none_of_texts, number_cond, number_in, number_out, numbers_in, text_out}
use Rattle.ssb_questions.specs.Star.{order_of, part_columns, quantity_in, star_plan_over, sum_in, supplier_columns}
use Rattle.ssb_questions.specs.Star.{test_of, tests_of, text_cond, text_in, texts_in}
use Rattle.ssb_questions.specs.StarMeaning.{ClausesPass, IsInRange, LiesIn, PlanPasses, StarPlanMeans}
use Rattle.ssb_questions.specs.StarMeaning.{Tested, TestsHold, is_group}
use Rattle.ssb_questions.specs.Text.{text_eq, text_le}
use Rattle.ssb_questions.specs.declared.clauses.Subject.{Subject}
use Rattle.ssb_questions.specs.declared.clauses.Subject.TheVariants.{OneValue, Range, Quantity, Discount}
use Rattle.ssb_questions.specs.declared.cond.Cond.{Cond}
use Rattle.ssb_questions.specs.declared.cond.Test.{Test}
use Rattle.ssb_questions.specs.declared.kind.ConstantKind.{ConstantKind}
use Rattle.ssb_questions.specs.declared.kind.ConstantKind.TheVariants as kind
use Rattle.ssb_questions.specs.declared.plan.Measure.TheVariants as measure
use Rattle.ssb_questions.specs.declared.plan.NumberRange.{NumberRange}
use Rattle.ssb_questions.specs.declared.query.Query.TheVariants.{Star}
use Rattle.ssb_questions.specs.declared.value.Value.{Value}
use Rattle.ssb_questions.specs.declared.value.Value.TheVariants.{Text, Number}

-- members of what is kept
kept_step : {X Y : Type 0} (f : X → Option Y) (x : X) (xs : List X) (y : Y)
    → (Has (filter_map f xs) y → (z : X) × Has xs z × (f z ≡ Some y)) → (o : Option Y) → f x ≡ o
    → Has (cons_option o (filter_map f xs)) y → (z : X) × Has (x ∷ xs) z × (f z ≡ Some y)
kept_step f x xs y later None e has = let found = later has in (found.0, inr found.1, found.2)
kept_step f x xs y later (Some z) e (inl is) = (x, inl refl, e ∙ ap Some (sym is))
kept_step f x xs y later (Some z) e (inr has) = let found = later has in (found.0, inr found.1, found.2)

kept_in : {X Y : Type 0} (f : X → Option Y) (xs : List X) (y : Y) → Has (filter_map f xs) y
    → (x : X) × Has xs x × (f x ≡ Some y)
kept_in f [] y has = absurd has
kept_in f (x ∷ xs) y has = kept_step f x xs y (λ h. kept_in f xs y h) (f x) refl has

has_kept : {Y : Type 0} (o : Option Y) (ys : List Y) (y : Y) → Has ys y → Has (cons_option o ys) y
has_kept None ys y has = has
has_kept (Some z) ys y has = inr has

has_this : {Y : Type 0} (o : Option Y) (ys : List Y) (y : Y) → o ≡ Some y → Has (cons_option o ys) y
has_this None ys y e = absurd cc
has_this (Some z) ys y e = inl cc

in_kept : {X Y : Type 0} (f : X → Option Y) (xs : List X) (x : X) (y : Y) → Has xs x → f x ≡ Some y
    → Has (filter_map f xs) y
in_kept f [] x y has e = absurd has
in_kept f (z ∷ xs) x y (inl is) e = has_this (f z) (filter_map f xs) y (ap f (sym is) ∙ e)
in_kept f (z ∷ xs) x y (inr has) e = has_kept (f z) (filter_map f xs) y (in_kept f xs x y has e)

-- the clauses of one column let a value pass
record ColumnPasses (clauses : List Clause) (column : Column) (v : Value) : Type 0 where
  values : (w : Value) → Has clauses (Is column w) → Has clauses (Is column v)
  ranges : (from to : Value) → Has clauses (FromTo column from to) → LiesIn from to v

abbrev Holds : Value → Cond → Type 0
Holds v c = holds c v ≡ true

-- how values of one kind are said and looked for
record Reads (X : Type 0) (column : Column) : Type 0 where
  wrap : X → Value
  one_in : Clause → Option X
  ends_in : Clause → Option (X × X)
  looks : Option (X × X) → List X → Option Cond
  one_is : (c : Clause) (x : X) → IsRead c → one_in c ≡ Some x → c ≡ Is column (wrap x)
  is_one : (x : X) → one_in (Is column (wrap x)) ≡ Some x
  ends_are : (c : Clause) (e : X × X) → IsRead c → ends_in c ≡ Some e → c ≡ FromTo column (wrap e.0) (wrap e.1)
  are_ends : (e : X × X) → ends_in (FromTo column (wrap e.0) (wrap e.1)) ≡ Some e
  apart : (c : Clause) (e : X × X) → ends_in c ≡ Some e → one_in c ≡ None
  between : (e : X × X) (xs : List X) (v : Value) → IfSome (looks (Some e) xs) (Holds v)
      ↔ LiesIn (wrap e.0) (wrap e.1) v
  nothing : (v : Value) → IfSome (looks None []) (Holds v)
  among : (x : X) (xs : List X) (v : Value) → IfSome (looks None (x ∷ xs)) (Holds v)
      ↔ ((y : X) × (v ≡ wrap y) × Has (x ∷ xs) y)

module _ (X : Type 0) (column : Column) (reads : Reads X column) (clauses : List Clause)
    (wrapped : (v : Value) → Has clauses (Is column v) → (x : X) × (v ≡ reads.wrap x))
    (wrapped_ends : (from to : Value) → Has clauses (FromTo column from to)
    → (e : X × X) × (from ≡ reads.wrap e.0) × (to ≡ reads.wrap e.1)) where
  by_cases : (ends : List (X × X)) (ones : List X)
      → ((e : X × X) → Has ends e → Has clauses (FromTo column (reads.wrap e.0) (reads.wrap e.1)))
      → ((e : X × X) → Has clauses (FromTo column (reads.wrap e.0) (reads.wrap e.1)) → Has ends e)
      → ((x : X) → Has ones x → Has clauses (Is column (reads.wrap x)))
      → ((x : X) → Has clauses (Is column (reads.wrap x)) → Has ones x)
      → ((e : X × X) → Has ends e → ends ≡ e ∷ []) → ((e : X × X) → Has ends e → ones ≡ [])
      → (v : Value) → IfSome (reads.looks (slice_get ends 0) ones) (Holds v) ↔ ColumnPasses clauses column v
  by_cases [] [] ends_at at_ends ones_at at_ones alone none v = (
    λ _. record {
      values = λ w has. let x = wrapped w has in
          absurd (at_ones x.0 (subst (λ (u : Value). Has clauses (Is column u)) x.1 has));
      ranges = λ from to has. let e = wrapped_ends from to has in
          absurd (at_ends e.0 (subst (λ (u : Value). Has clauses (FromTo column (reads.wrap (e.0).0) u)) e.2
          (subst (λ (u : Value). Has clauses (FromTo column u to)) e.1 has)));
    },
    λ _. reads.nothing v,
  )
  by_cases [] (x ∷ ones) ends_at at_ends ones_at at_ones alone none v = (
    λ passes. record {
      values = λ w has. let y = (reads.among x ones v).0 passes in
          subst (λ (u : Value). Has clauses (Is column u)) (sym y.1) (ones_at y.0 y.2);
      ranges = λ from to has. let e = wrapped_ends from to has in
          absurd (at_ends e.0 (subst (λ (u : Value). Has clauses (FromTo column (reads.wrap (e.0).0) u)) e.2
          (subst (λ (u : Value). Has clauses (FromTo column u to)) e.1 has)));
    },
    λ passes. let has = passes.values (reads.wrap x) (ones_at x (inl refl)) in
        let y = wrapped v has in
        (reads.among x ones v).1
        (y.0, y.1, at_ones y.0 (subst (λ (u : Value). Has clauses (Is column u)) y.1 has)),
  )
  by_cases (e ∷ ends) ones ends_at at_ends ones_at at_ones alone none v = (
    λ passes. record {
      values = λ w has. let y = wrapped w has in
          absurd (subst (λ (xs : List X). Has xs y.0) (none e (inl refl))
          (at_ones y.0 (subst (λ (u : Value). Has clauses (Is column u)) y.1 has)));
      ranges = λ from to has. let f = wrapped_ends from to has in
          let has_f = at_ends f.0 (subst (λ (u : Value). Has clauses (FromTo column (reads.wrap (f.0).0) u)) f.2
          (subst (λ (u : Value). Has clauses (FromTo column u to)) f.1 has)) in
          let same : e ∷ ends ≡ f.0 ∷ [] = alone f.0 has_f in
          let is : e ≡ f.0 = cc in
          let lies = (reads.between e ones v).0 passes in
          subst (λ (u : Value). LiesIn from u v) (sym f.2)
          (subst (λ (u : Value). LiesIn u (reads.wrap (f.0).1) v) (sym f.1)
          (subst (λ (g : X × X). LiesIn (reads.wrap g.0) (reads.wrap g.1) v) is lies));
    },
    λ passes. (reads.between e ones v).1
        (passes.ranges (reads.wrap e.0) (reads.wrap e.1) (ends_at e (inl refl))),
  )

module _ (constants : List Value) (fit : constants_fault Star constants ≡ None) where
  abbrev said : List Clause
  said = clauses_of constants

  is_read : (c : Clause) → Has said c → IsRead c
  is_read c has = at IsRead said c (clauses_read constants) has

  of_kind : (c : Clause) → Has said c → IsOfKind c
  of_kind c has = at IsOfKind said c (clauses_of_kind constants) has

  column_means : (X : Type 0) (column : Column) (reads : Reads X column)
      → ((v : Value) → Has said (Is column v) → (x : X) × (v ≡ reads.wrap x))
      → ((from to : Value) → Has said (FromTo column from to)
      → (e : X × X) × (from ≡ reads.wrap e.0) × (to ≡ reads.wrap e.1))
      → (v : Value)
      → IfSome (reads.looks (first_in reads.ends_in said) (filter_map reads.one_in said)) (Holds v)
      ↔ ColumnPasses said column v
  column_means X column reads wrapped wrapped_ends v =
      let one_said : Speaks reads.one_in (OneValue column) =
      λ c x has e. ap subject (reads.one_is c x has e) in
      let ends_said : Speaks reads.ends_in (Range column) =
      λ c e has is. ap subject (reads.ends_are c e has is) in
      by_cases X column reads said wrapped wrapped_ends (filter_map reads.ends_in said) (filter_map reads.one_in said)
      (λ e has. let found = kept_in reads.ends_in said e has in
      subst (λ (c : Clause). Has said c) (reads.ends_are found.0 e (is_read found.0 found.1) found.2) found.1)
      (λ e has. in_kept reads.ends_in said (FromTo column (reads.wrap e.0) (reads.wrap e.1)) e has (reads.are_ends e))
      (λ x has. let found = kept_in reads.one_in said x has in
      subst (λ (c : Clause). Has said c) (reads.one_is found.0 x (is_read found.0 found.1) found.2) found.1)
      (λ x has. in_kept reads.one_in said (Is column (reads.wrap x)) x has (reads.is_one x))
      (alone reads.ends_in said
      (barred reads.ends_in reads.ends_in (Range column) (Range column) ends_said ends_said (range_range column)
      constants fit))
      (none_of reads.ends_in reads.one_in said reads.apart
      (barred reads.ends_in reads.one_in (Range column) (OneValue column) ends_said one_said (range_one column)
      constants fit)
      (barred reads.one_in reads.ends_in (OneValue column) (Range column) one_said ends_said (one_range column)
      constants fit))
      v

if_some : {X : Type 0} (b : Bool) (x y : X) → cond b (Some x) None ≡ Some y → (b ≡ true) × (x ≡ y)
if_some true x y e = (refl, cc)
if_some false x y e = absurd cc

itself : (column : Column) → same_column column column ≡ true
itself column = (bytes_eq-Decides (column_name column) (column_name column)).1 refl

where_true : {X : Type 0} (b : Bool) (x : X) → b ≡ true → cond b (Some x) None ≡ Some x
where_true true x e = refl
where_true false x e = absurd cc

any_step : {X : Type 0} (x v : X) (xs : List X) (b later : Bool) → (b ≡ true → x ≡ v) → (later ≡ true → Has xs v)
    → (b || later) ≡ true → Has (x ∷ xs) v
any_step x v xs true later here there e = inl (sym (here refl))
any_step x v xs false later here there e = inr (there e)

any_has : {X : Type 0} (same : X → X → Bool) → ((a b : X) → same a b ≡ true → a ≡ b) → (v : X) (xs : List X)
    → list_any (λ x. same x v) xs ≡ true → Has xs v
any_has same tells v [] e = absurd cc
any_has same tells v (x ∷ xs) e =
    any_step x v xs (same x v) (list_any (λ y. same y v) xs) (tells x v) (λ f. any_has same tells v xs f) e

or_true : (b c : Bool) → c ≡ true → (b || c) ≡ true
or_true true c e = refl
or_true false c e = e

has_any : {X : Type 0} (same : X → X → Bool) → ((a : X) → same a a ≡ true) → (v : X) (xs : List X) → Has xs v
    → list_any (λ x. same x v) xs ≡ true
has_any same itself v [] has = grind arith
has_any {X} same itself v (x ∷ xs) (inl is) = grind arith
has_any same itself v (x ∷ xs) (inr has) = grind (arith, or_true, has_any same itself v xs has)

text_tells : (a b : List ℕ) → text_eq a b ≡ true → a ≡ b
text_tells a b e = (bytes_eq-Decides a b).0 e

text_itself : (a : List ℕ) → text_eq a a ≡ true
text_itself a = (bytes_eq-Decides a a).1 refl

nat_tells : (a b : ℕ) → nat_eq a b ≡ true → a ≡ b
nat_tells a b e = grind (arith, e, nat_tests)

nat_itself : (a : ℕ) → nat_eq a a ≡ true
nat_itself a = grind (arith, nat_tests)

both_true : (a b : Bool) → a ≡ true → b ≡ true → (a && b) ≡ true
both_true a b p q = ap (λ (c : Bool). c && b) p ∙ q

module _ (column : Column) (has : Has query_columns column) where
  text_is : (c : Clause) (x : List ℕ) → IsRead c → text_in column c ≡ Some x → c ≡ Is column (Text x)
  text_is (Is own (Text text)) x is e =
      let found = if_some (same_column own column) text x e in
      let named : own ≡ column = same_is own column is has found.0 in
      let same : text ≡ x = found.1 in cc
  text_is (Is own (Number n)) x is e = absurd cc
  text_is (Sums m) x is e = absurd cc
  text_is (GroupsBy c) x is e = absurd cc
  text_is (IsNot c v) x is e = absurd cc
  text_is (FromTo c from to) x is e = absurd cc
  text_is (QuantityIn range) x is e = absurd cc
  text_is (DiscountIn range) x is e = absurd cc
  text_is BySum x is e = absurd cc

  number_is : (c : Clause) (x : ℕ) → IsRead c → number_in column c ≡ Some x → c ≡ Is column (Number x)
  number_is (Is own (Number n)) x is e =
      let found = if_some (same_column own column) n x e in
      let named : own ≡ column = same_is own column is has found.0 in
      let same : n ≡ x = found.1 in cc
  number_is (Is own (Text text)) x is e = absurd cc
  number_is (Sums m) x is e = absurd cc
  number_is (GroupsBy c) x is e = absurd cc
  number_is (IsNot c v) x is e = absurd cc
  number_is (FromTo c from to) x is e = absurd cc
  number_is (QuantityIn range) x is e = absurd cc
  number_is (DiscountIn range) x is e = absurd cc
  number_is BySum x is e = absurd cc

  texts_are : (c : Clause) (e : List ℕ × List ℕ) → IsRead c → texts_in column c ≡ Some e
      → c ≡ FromTo column (Text e.0) (Text e.1)
  texts_are (FromTo own (Text from) (Text to)) e is at_e =
      let found = if_some (same_column own column) (from, to) e at_e in
      let named : own ≡ column = same_is own column is has found.0 in
      let first : from ≡ e.0 = ap (λ (g : List ℕ × List ℕ). g.0) found.1 in
      let last : to ≡ e.1 = ap (λ (g : List ℕ × List ℕ). g.1) found.1 in cc
  texts_are (FromTo own (Text from) (Number to)) e is at_e = absurd cc
  texts_are (FromTo own (Number from) to) e is at_e = absurd cc
  texts_are (Is own v) e is at_e = absurd cc
  texts_are (IsNot own v) e is at_e = absurd cc
  texts_are (Sums m) e is at_e = absurd cc
  texts_are (GroupsBy c) e is at_e = absurd cc
  texts_are (QuantityIn range) e is at_e = absurd cc
  texts_are (DiscountIn range) e is at_e = absurd cc
  texts_are BySum e is at_e = absurd cc

  numbers_are : (c : Clause) (e : ℕ × ℕ) → IsRead c → numbers_in column c ≡ Some e
      → c ≡ FromTo column (Number e.0) (Number e.1)
  numbers_are (FromTo own (Number from) (Number to)) e is at_e =
      let found = if_some (same_column own column) (from, to) e at_e in
      let named : own ≡ column = same_is own column is has found.0 in
      let first : from ≡ e.0 = ap (λ (g : ℕ × ℕ). g.0) found.1 in
      let last : to ≡ e.1 = ap (λ (g : ℕ × ℕ). g.1) found.1 in cc
  numbers_are (FromTo own (Number from) (Text to)) e is at_e = absurd cc
  numbers_are (FromTo own (Text from) to) e is at_e = absurd cc
  numbers_are (Is own v) e is at_e = absurd cc
  numbers_are (IsNot own v) e is at_e = absurd cc
  numbers_are (Sums m) e is at_e = absurd cc
  numbers_are (GroupsBy c) e is at_e = absurd cc
  numbers_are (QuantityIn range) e is at_e = absurd cc
  numbers_are (DiscountIn range) e is at_e = absurd cc
  numbers_are BySum e is at_e = absurd cc

  texts_apart : (c : Clause) (e : List ℕ × List ℕ) → texts_in column c ≡ Some e → text_in column c ≡ None
  texts_apart (Is own v) e at_e = absurd cc
  texts_apart (IsNot own v) e at_e = refl
  texts_apart (FromTo own from to) e at_e = refl
  texts_apart (Sums m) e at_e = refl
  texts_apart (GroupsBy c) e at_e = refl
  texts_apart (QuantityIn range) e at_e = refl
  texts_apart (DiscountIn range) e at_e = refl
  texts_apart BySum e at_e = refl

  numbers_apart : (c : Clause) (e : ℕ × ℕ) → numbers_in column c ≡ Some e → number_in column c ≡ None
  numbers_apart (Is own v) e at_e = absurd cc
  numbers_apart (IsNot own v) e at_e = refl
  numbers_apart (FromTo own from to) e at_e = refl
  numbers_apart (Sums m) e at_e = refl
  numbers_apart (GroupsBy c) e at_e = refl
  numbers_apart (QuantityIn range) e at_e = refl
  numbers_apart (DiscountIn range) e at_e = refl
  numbers_apart BySum e at_e = refl

  texts_between : (e : List ℕ × List ℕ) (xs : List (List ℕ)) (v : Value)
      → IfSome (text_cond (Some e) xs) (Holds v) ↔ LiesIn (Text e.0) (Text e.1) v
  texts_between e xs (Text v) = (
    λ h. (first_so (text_le e.0 v) (text_le v e.1) h, second_so (text_le e.0 v) (text_le v e.1) h),
    λ lies. both_true (text_le e.0 v) (text_le v e.1) lies.0 lies.1,
  )
  texts_between e xs (Number n) = (λ h. absurd cc, λ lies. absurd lies)

  numbers_between : (e : ℕ × ℕ) (xs : List ℕ) (v : Value)
      → IfSome (number_cond (Some e) xs) (Holds v) ↔ LiesIn (Number e.0) (Number e.1) v
  numbers_between e xs (Number v) = (
    λ h. (
      let from : nat_le e.0 v ≡ true = first_so (nat_le e.0 v) (nat_le v e.1) h in grind (arith, from, nat_tests),
      let to : nat_le v e.1 ≡ true = second_so (nat_le e.0 v) (nat_le v e.1) h in grind (arith, to, nat_tests),
    ),
    λ lies. both_true (nat_le e.0 v) (nat_le v e.1) (grind (arith, lies.0, nat_tests)) (grind (arith, lies.1, nat_tests)),
  )
  numbers_between e xs (Text text) = (λ h. absurd cc, λ lies. absurd lies)

  text_value : (y v : List ℕ) → Text v ≡ Text y → v ≡ y
  text_value y v e = cc

  number_value : (y v : ℕ) → Number v ≡ Number y → v ≡ y
  number_value y v e = cc

  texts_among : (x : List ℕ) (xs : List (List ℕ)) (v : Value)
      → IfSome (text_cond None (x ∷ xs)) (Holds v) ↔ ((y : List ℕ) × (v ≡ Text y) × Has (x ∷ xs) y)
  texts_among x [] (Text v) = (
    λ h. (v, refl, inl (text_tells v x h)),
    λ found. elim (found.2) [
      | inl is ↦ ap (λ (t : List ℕ). text_eq t x) (text_value found.0 v found.1 ∙ is) ∙ text_itself x
      | inr never ↦ absurd never
    ],
  )
  texts_among x (z ∷ xs) (Text v) = (
    λ h. (v, refl, any_has text_eq text_tells v (x ∷ z ∷ xs) h),
    λ found. has_any text_eq text_itself v (x ∷ z ∷ xs)
        (subst (λ (t : List ℕ). Has (x ∷ z ∷ xs) t) (sym (text_value found.0 v found.1)) found.2),
  )
  texts_among x [] (Number n) = (λ h. absurd cc, λ found. let e = found.1 in absurd cc)
  texts_among x (z ∷ xs) (Number n) = (λ h. absurd cc, λ found. let e = found.1 in absurd cc)

  numbers_among : (x : ℕ) (xs : List ℕ) (v : Value)
      → IfSome (number_cond None (x ∷ xs)) (Holds v) ↔ ((y : ℕ) × (v ≡ Number y) × Has (x ∷ xs) y)
  numbers_among x [] (Number v) = (
    λ h. (v, refl, inl (nat_tells v x h)),
    λ found. elim (found.2) [
      | inl is ↦ ap (λ (t : ℕ). nat_eq t x) (number_value found.0 v found.1 ∙ is) ∙ nat_itself x
      | inr never ↦ absurd never
    ],
  )
  numbers_among x (z ∷ xs) (Number v) = (
    λ h. (v, refl, any_has nat_eq nat_tells v (x ∷ z ∷ xs) h),
    λ found. has_any nat_eq nat_itself v (x ∷ z ∷ xs)
        (subst (λ (t : ℕ). Has (x ∷ z ∷ xs) t) (sym (number_value found.0 v found.1)) found.2),
  )
  numbers_among x [] (Text text) = (λ h. absurd cc, λ found. let e = found.1 in absurd cc)
  numbers_among x (z ∷ xs) (Text text) = (λ h. absurd cc, λ found. let e = found.1 in absurd cc)

  texts : Reads (List ℕ) column
  texts = record {
    wrap = Text;
    one_in = text_in column;
    ends_in = texts_in column;
    looks = text_cond;
    one_is = text_is;
    is_one = λ x. where_true (same_column column column) x (itself column);
    ends_are = texts_are;
    are_ends = λ e. where_true (same_column column column) e (itself column);
    apart = texts_apart;
    between = texts_between;
    nothing = λ v. tt;
    among = texts_among;
  }

  numbers : Reads ℕ column
  numbers = record {
    wrap = Number;
    one_in = number_in column;
    ends_in = numbers_in column;
    looks = number_cond;
    one_is = number_is;
    is_one = λ x. where_true (same_column column column) x (itself column);
    ends_are = numbers_are;
    are_ends = λ e. where_true (same_column column column) e (itself column);
    apart = numbers_apart;
    between = numbers_between;
    nothing = λ v. tt;
    among = numbers_among;
  }

-- a column has none of the values that are excluded
no_both : (b : Bool) → not b ≡ true → b ≡ true → ⊥
no_both true e f = absurd cc
no_both false e f = absurd cc

not_so : (b : Bool) → (b ≡ true → ⊥) → not b ≡ true
not_so true h = absurd (h refl)
not_so false h = refl

none_of_texts_means : (xs : List (List ℕ)) (v : Value)
    → IfSome (none_of_texts xs) (Holds v) ↔ ((x : List ℕ) → Has xs x → v ≢ Text x)
none_of_texts_means [] v = (λ h x has e. has, λ h. tt)
none_of_texts_means (x ∷ xs) (Text v) = (
  λ h y has e. let same : v ≡ y = cc in
      no_both (list_any (λ t. text_eq t v) (x ∷ xs)) h
      (has_any text_eq text_itself v (x ∷ xs) (subst (λ (t : List ℕ). Has (x ∷ xs) t) (sym same) has)),
  λ h. not_so (list_any (λ t. text_eq t v) (x ∷ xs)) (λ found. h v (any_has text_eq text_tells v (x ∷ xs) found) refl),
)
none_of_texts_means (x ∷ xs) (Number n) = (λ h y has e. absurd cc, λ h. refl)

none_of_numbers_means : (xs : List ℕ) (v : Value)
    → IfSome (none_of_numbers xs) (Holds v) ↔ ((x : ℕ) → Has xs x → v ≢ Number x)
none_of_numbers_means [] v = (λ h x has e. has, λ h. tt)
none_of_numbers_means (x ∷ xs) (Number v) = (
  λ h y has e. let same : v ≡ y = cc in
      no_both (list_any (λ t. nat_eq t v) (x ∷ xs)) h
      (has_any nat_eq nat_itself v (x ∷ xs) (subst (λ (t : ℕ). Has (x ∷ xs) t) (sym same) has)),
  λ h. not_so (list_any (λ t. nat_eq t v) (x ∷ xs)) (λ found. h v (any_has nat_eq nat_tells v (x ∷ xs) found) refl),
)
none_of_numbers_means (x ∷ xs) (Text text) = (λ h y has e. absurd cc, λ h. refl)

text_out_is : (column : Column) → Has query_columns column → (c : Clause) (x : List ℕ) → IsRead c
    → text_out column c ≡ Some x → c ≡ IsNot column (Text x)
text_out_is column has (IsNot own (Text text)) x is e =
    let found = if_some (same_column own column) text x e in
    let named : own ≡ column = same_is own column is has found.0 in
    let same : text ≡ x = found.1 in cc
text_out_is column has (IsNot own (Number n)) x is e = absurd cc
text_out_is column has (Sums m) x is e = absurd cc
text_out_is column has (GroupsBy c) x is e = absurd cc
text_out_is column has (Is c v) x is e = absurd cc
text_out_is column has (FromTo c from to) x is e = absurd cc
text_out_is column has (QuantityIn range) x is e = absurd cc
text_out_is column has (DiscountIn range) x is e = absurd cc
text_out_is column has BySum x is e = absurd cc

number_out_is : (column : Column) → Has query_columns column → (c : Clause) (x : ℕ) → IsRead c
    → number_out column c ≡ Some x → c ≡ IsNot column (Number x)
number_out_is column has (IsNot own (Number n)) x is e =
    let found = if_some (same_column own column) n x e in
    let named : own ≡ column = same_is own column is has found.0 in
    let same : n ≡ x = found.1 in cc
number_out_is column has (IsNot own (Text text)) x is e = absurd cc
number_out_is column has (Sums m) x is e = absurd cc
number_out_is column has (GroupsBy c) x is e = absurd cc
number_out_is column has (Is c v) x is e = absurd cc
number_out_is column has (FromTo c from to) x is e = absurd cc
number_out_is column has (QuantityIn range) x is e = absurd cc
number_out_is column has (DiscountIn range) x is e = absurd cc
number_out_is column has BySum x is e = absurd cc

is_text : (c : Column) (v : Value) → IsOf (kind.Text c) v → (x : List ℕ) × (v ≡ Text x)
is_text c (Text x) of = (x, refl)
is_text c (Number n) of = absurd of

is_number : (v : Value) → IsOf kind.Number v → (x : ℕ) × (v ≡ Number x)
is_number (Number n) of = (n, refl)
is_number (Text x) of = absurd of

module _ (constants : List Value) (fit : constants_fault Star constants ≡ None) where
  kind_means : (column : Column) → Has query_columns column → (k : ConstantKind) → kind_in column ≡ k → (v : Value)
      → IfSome (cond_by k column (clauses_of constants)) (Holds v) ↔ ColumnPasses (clauses_of constants) column v
  unfolding texts numbers
  kind_means column has (kind.Text own) e v =
      column_means constants fit (List ℕ) column (texts column has)
      (λ w at_w. is_text own w (subst (λ (k : ConstantKind). IsOf k w) e (of_kind constants fit (Is column w) at_w)))
      (λ from to at_e. let both = of_kind constants fit (FromTo column from to) at_e in
      let first = is_text own from (subst (λ (k : ConstantKind). IsOf k from) e both.0) in
      let last = is_text own to (subst (λ (k : ConstantKind). IsOf k to) e both.1) in
      ((first.0, last.0), first.1, last.1))
      v
  kind_means column has kind.Number e v =
      column_means constants fit ℕ column (numbers column has)
      (λ w at_w. is_number w (subst (λ (k : ConstantKind). IsOf k w) e (of_kind constants fit (Is column w) at_w)))
      (λ from to at_e. let both = of_kind constants fit (FromTo column from to) at_e in
      let first = is_number from (subst (λ (k : ConstantKind). IsOf k from) e both.0) in
      let last = is_number to (subst (λ (k : ConstantKind). IsOf k to) e both.1) in
      ((first.0, last.0), first.1, last.1))
      v

  -- what clauses exclude of a column
  abbrev Excludes : (Column → Value) → Column → Type 0
  Excludes value column = (w : Value) → Has (clauses_of constants) (IsNot column w) → value column ≢ w

  out_means : (X : Type 0) (column : Column) (wrap : X → Value) (out : Clause → Option X)
      → ((x : X) → out (IsNot column (wrap x)) ≡ Some x)
      → ((c : Clause) (x : X) → IsRead c → out c ≡ Some x → c ≡ IsNot column (wrap x))
      → ((w : Value) → Has (clauses_of constants) (IsNot column w) → (x : X) × (w ≡ wrap x)) → (v : Value)
      → ((x : X) → Has (filter_map out (clauses_of constants)) x → v ≢ wrap x)
      ↔ ((w : Value) → Has (clauses_of constants) (IsNot column w) → v ≢ w)
  out_means X column wrap out is_out out_is wrapped v = (
    λ h w has e. let x = wrapped w has in
        h x.0 (in_kept out (clauses_of constants) (IsNot column (wrap x.0)) x.0
        (subst (λ (u : Value). Has (clauses_of constants) (IsNot column u)) x.1 has) (is_out x.0)) (e ∙ x.1),
    λ h x has e. let found = kept_in out (clauses_of constants) x has in
        h (wrap x) (subst (λ (c : Clause). Has (clauses_of constants) c)
        (out_is found.0 x (is_read constants fit found.0 found.1) found.2) found.1) e,
  )

  exclusion_means : (column : Column) → Has query_columns column → (k : ConstantKind) → kind_in column ≡ k → (v : Value)
      → IfSome (exclusion_by k column (clauses_of constants)) (Holds v)
      ↔ ((w : Value) → Has (clauses_of constants) (IsNot column w) → v ≢ w)
  exclusion_means column has (kind.Text own) e v =
      let some = none_of_texts_means (filter_map (text_out column) (clauses_of constants)) v in
      let said = out_means (List ℕ) column Text (text_out column)
      (λ x. where_true (same_column column column) x (itself column)) (text_out_is column has)
      (λ w at_w. is_text own w (subst (λ (k : ConstantKind). IsOf k w) e (of_kind constants fit (IsNot column w) at_w)))
      v in
      (λ h. said.0 (some.0 h), λ h. some.1 (said.1 h))
  exclusion_means column has kind.Number e v =
      let some = none_of_numbers_means (filter_map (number_out column) (clauses_of constants)) v in
      let said = out_means ℕ column Number (number_out column)
      (λ x. where_true (same_column column column) x (itself column)) (number_out_is column has)
      (λ w at_w. is_number w (subst (λ (k : ConstantKind). IsOf k w) e (of_kind constants fit (IsNot column w) at_w)))
      v in
      (λ h. said.0 (some.0 h), λ h. some.1 (said.1 h))

  -- the tests of columns, one after another
  abbrev Passes : (Column → Value) → Column → Type 0
  Passes value column = ColumnPasses (clauses_of constants) column (value column)

  tested : (column : Column) (value : Column → Value) (o : Option Cond)
      → IfSome {T = Test} (option_map (λ cond. record { column = column; cond = cond }) o)
      (λ test. holds test.cond (value test.column) ≡ true) → IfSome o (Holds (value column))
  tested column value None h = tt
  tested column value (Some c) h = h

  no_longer : {X : Type 0} (P : X → Type 0) (o : Option X) (xs : List X) → AllByRecursion P (cons_option o xs)
      → IfSome o P × AllByRecursion P xs
  no_longer P None xs all = (tt, all)
  no_longer P (Some x) xs all = all

  kept_one : {X : Type 0} (P : X → Type 0) (o : Option X) (xs : List X) → IfSome o P → AllByRecursion P xs
      → AllByRecursion P (cons_option o xs)
  kept_one P None xs some all = all
  kept_one P (Some x) xs some all = (some, all)

  abbrev HoldsOf : (Column → Value) → Test → Type 0
  HoldsOf value test = holds test.cond (value test.column) ≡ true

  test_with : (Column → Option Cond) → Column → Option Test
  test_with asks column = option_map (λ cond. record { column = column; cond = cond }) (asks column)

  hold_forth : (asks : Column → Option Cond) (value : Column → Value) (Means : Column → Type 0)
      → ((column : Column) → Has query_columns column → IfSome (asks column) (Holds (value column)) → Means column)
      → (columns : List Column) → AllByRecursion (Has query_columns) columns
      → TestsHold (filter_map (test_with asks) columns) value → AllByRecursion Means columns
  unfolding test_with
  hold_forth asks value Means h [] has hold = tt
  hold_forth asks value Means h (column ∷ columns) has hold =
      let parts = no_longer (HoldsOf value) (test_with asks column) (filter_map (test_with asks) columns) hold in
      (h column has.0 (tested column value (asks column) parts.0), hold_forth asks value Means h columns has.1 parts.1)

  hold_back : (asks : Column → Option Cond) (value : Column → Value) (Means : Column → Type 0)
      → ((column : Column) → Has query_columns column → Means column → IfSome (asks column) (Holds (value column)))
      → (columns : List Column) → AllByRecursion (Has query_columns) columns → AllByRecursion Means columns
      → TestsHold (filter_map (test_with asks) columns) value
  unfolding test_with
  hold_back asks value Means h [] has pass = tt
  hold_back asks value Means h (column ∷ columns) has pass =
      kept_one (HoldsOf value) (test_with asks column) (filter_map (test_with asks) columns)
      (some_map (HoldsOf value) (λ cond. record { column = column; cond = cond }) (asks column)
      (h column has.0 pass.0))
      (hold_back asks value Means h columns has.1 pass.1)

  columns_pass : (value : Column → Value) (columns : List Column) → AllByRecursion (Has query_columns) columns
      → TestsHold (tests_of (clauses_of constants) columns) value
      → AllByRecursion (Passes value) columns × AllByRecursion (Excludes value) columns
  unfolding test_with
  columns_pass value columns has hold =
      let asked = filter_map (test_of (clauses_of constants)) columns in
      let excluded = filter_map (exclusion_test (clauses_of constants)) columns in (
        hold_forth (cond_of (clauses_of constants)) value (Passes value)
            (λ column own. (kind_means column own (kind_in column) refl (value column)).0) columns has
            (all_left (HoldsOf value) asked excluded hold),
        hold_forth (exclusion_of (clauses_of constants)) value (Excludes value)
            (λ column own. (exclusion_means column own (kind_in column) refl (value column)).0) columns has
            (all_right (HoldsOf value) asked excluded hold),
      )

  tests_hold : (value : Column → Value) (columns : List Column) → AllByRecursion (Has query_columns) columns
      → ((column : Column) → Passes value column) → ((column : Column) → Excludes value column)
      → TestsHold (tests_of (clauses_of constants) columns) value
  unfolding test_with
  tests_hold value columns has pass exclude =
      all_append (HoldsOf value) (filter_map (test_of (clauses_of constants)) columns)
      (filter_map (exclusion_test (clauses_of constants)) columns)
      (hold_back (cond_of (clauses_of constants)) value (Passes value)
      (λ column own. (kind_means column own (kind_in column) refl (value column)).1) columns has
      (all_any (Passes value) pass columns))
      (hold_back (exclusion_of (clauses_of constants)) value (Excludes value)
      (λ column own. (exclusion_means column own (kind_in column) refl (value column)).1) columns has
      (all_any (Excludes value) exclude columns))

  -- a range of the line itself
  ranged : (finds : Clause → Option NumberRange) (says : NumberRange → Clause)
      → ((c : Clause) (range : NumberRange) → finds c ≡ Some range → c ≡ says range)
      → ((range : NumberRange) → finds (says range) ≡ Some range)
      → Pairs (Bars finds finds) (clauses_of constants) → (n : ℕ)
      → IfSome (first_in finds (clauses_of constants)) (λ range. IsInRange range n)
      ↔ ((range : NumberRange) → Has (clauses_of constants) (says range) → IsInRange range n)
  ranged finds says is_said said_is once n = (
    λ some range has. let there = in_kept finds (clauses_of constants) (says range) range has (said_is range) in
        let only = alone finds (clauses_of constants) once range there in
        subst (λ (ranges : List NumberRange). IfSome (slice_get ranges 0) (λ r. IsInRange r n)) only some,
    λ h. first (filter_map finds (clauses_of constants)) (λ range has.
        let found = kept_in finds (clauses_of constants) range has in
        h range (subst (λ (c : Clause). Has (clauses_of constants) c) (is_said found.0 range found.2) found.1)),
  )
    where
      first : (ranges : List NumberRange) → ((range : NumberRange) → Has ranges range → IsInRange range n)
          → IfSome (slice_get ranges 0) (λ range. IsInRange range n)
      first [] h = tt
      first (range ∷ ranges) h = h range (inl refl)

  quantity_is : (c : Clause) (range : NumberRange) → quantity_in c ≡ Some range → c ≡ QuantityIn range
  quantity_is (QuantityIn r) range e = let same : r ≡ range = cc in cc
  quantity_is (DiscountIn r) range e = absurd cc
  quantity_is (Sums m) range e = absurd cc
  quantity_is (GroupsBy c) range e = absurd cc
  quantity_is (Is c v) range e = absurd cc
  quantity_is (IsNot c v) range e = absurd cc
  quantity_is (FromTo c from to) range e = absurd cc
  quantity_is BySum range e = absurd cc

  discount_is : (c : Clause) (range : NumberRange) → discount_in c ≡ Some range → c ≡ DiscountIn range
  discount_is (DiscountIn r) range e = let same : r ≡ range = cc in cc
  discount_is (QuantityIn r) range e = absurd cc
  discount_is (Sums m) range e = absurd cc
  discount_is (GroupsBy c) range e = absurd cc
  discount_is (Is c v) range e = absurd cc
  discount_is (IsNot c v) range e = absurd cc
  discount_is (FromTo c from to) range e = absurd cc
  discount_is BySum range e = absurd cc

  quantity_means : (n : ℕ) → IfSome (first_in quantity_in (clauses_of constants)) (λ range. IsInRange range n)
      ↔ ((range : NumberRange) → Has (clauses_of constants) (QuantityIn range) → IsInRange range n)
  quantity_means n =
      let speaks : Speaks quantity_in Quantity = λ c range is e. ap subject (quantity_is c range e) in
      ranged quantity_in QuantityIn quantity_is (λ range. refl)
      (barred quantity_in quantity_in Quantity Quantity speaks speaks quantity_quantity constants fit) n

  discount_means : (n : ℕ) → IfSome (first_in discount_in (clauses_of constants)) (λ range. IsInRange range n)
      ↔ ((range : NumberRange) → Has (clauses_of constants) (DiscountIn range) → IsInRange range n)
  discount_means n =
      let speaks : Speaks discount_in Discount = λ c range is e. ap subject (discount_is c range e) in
      ranged discount_in DiscountIn discount_is (λ range. refl)
      (barred discount_in discount_in Discount Discount speaks speaks discount_discount constants fit) n

  -- of the columns of each dimension, hence of all
  all_four : (P : Column → Type 0) → AllByRecursion P customer_columns → AllByRecursion P supplier_columns
      → AllByRecursion P part_columns → AllByRecursion P date_columns → AllByRecursion P query_columns
  all_four P customers suppliers parts dates =
      all_append P customer_columns (supplier_columns ++ (part_columns ++ date_columns)) customers
      (all_append P supplier_columns (part_columns ++ date_columns) suppliers
      (all_append P part_columns date_columns parts dates))

  passes_means : (line : Tested) → PlanPasses (star_plan_over constants) line ↔ ClausesPass (clauses_of constants) line
  passes_means line = (
    λ pass.
        let c = columns_pass line.value customer_columns customers_read pass.customers in
        let s = columns_pass line.value supplier_columns suppliers_read pass.suppliers in
        let p = columns_pass line.value part_columns parts_read pass.parts in
        let d = columns_pass line.value date_columns dates_read pass.dates in
        let all = all_four (Passes line.value) c.0 s.0 p.0 d.0 in
        let none = all_four (Excludes line.value) c.1 s.1 p.1 d.1 in
        record {
          values = λ column v has.
              (at (Passes line.value) query_columns column all (is_read constants fit (Is column v) has)).values v has;
          ranges = λ column from to has.
              (at (Passes line.value) query_columns column all
              (is_read constants fit (FromTo column from to) has)).ranges from to has;
          exclusions = λ column v has.
              at (Excludes line.value) query_columns column none (is_read constants fit (IsNot column v) has) v has;
          quantity = (quantity_means line.quantity).0 pass.quantity;
          discount = (discount_means line.discount).0 pass.discount;
        },
    λ pass.
        let one = λ (column : Column). let is : Passes line.value column = record {
          values = λ w has. pass.values column w has;
          ranges = λ from to has. pass.ranges column from to has;
        } in is in
        let none = λ (column : Column). let is : Excludes line.value column =
        λ w has. pass.exclusions column w has in is in
        record {
          customers = tests_hold line.value customer_columns customers_read one none;
          suppliers = tests_hold line.value supplier_columns suppliers_read one none;
          parts = tests_hold line.value part_columns parts_read one none;
          dates = tests_hold line.value date_columns dates_read one none;
          quantity = (quantity_means line.quantity).1 pass.quantity;
          discount = (discount_means line.discount).1 pass.discount;
        },
  )

-- the measure stands first
sums_first : (earlier : List Subject) (o : Option Clause) (clauses : List Clause)
    → may_stand_at 0 earlier (option_map subject o) ≡ true
    → slice_get (cons_option o clauses) 0
    ≡ Some (Sums (unwrap_or (first_in sum_in (cons_option o clauses)) measure.Lines))
sums_first earlier None clauses may = absurd cc
sums_first earlier (Some (Sums m)) clauses may = refl
sums_first earlier (Some (GroupsBy c)) clauses may = absurd cc
sums_first earlier (Some (Is c v)) clauses may = absurd cc
sums_first earlier (Some (IsNot c v)) clauses may = absurd cc
sums_first earlier (Some (FromTo c from to)) clauses may = absurd cc
sums_first earlier (Some (QuantityIn range)) clauses may = absurd cc
sums_first earlier (Some (DiscountIn range)) clauses may = absurd cc
sums_first earlier (Some BySum) clauses may = absurd cc

measure_means : (constants : List Value) → constants_fault Star constants ≡ None
    → slice_get (clauses_of constants) 0 ≡ Some (Sums (star_plan_over constants).measure)
measure_means [] fit = absurd (let some = some_clause [] fit in omega (arith, some))
measure_means (v ∷ constants) fit =
    sums_first [] (clause_said v) (clauses_of constants) (stands (v ∷ constants) fit 0 v refl)

groups_mean : (clauses : List Clause) → map GroupsBy (filter_map group_in clauses) ≡ filter is_group clauses
groups_mean [] = refl
groups_mean (GroupsBy column ∷ clauses) = ap (λ (cs : List Clause). GroupsBy column ∷ cs) (groups_mean clauses)
groups_mean (Sums m ∷ clauses) = groups_mean clauses
groups_mean (Is c v ∷ clauses) = groups_mean clauses
groups_mean (IsNot c v ∷ clauses) = groups_mean clauses
groups_mean (FromTo c from to ∷ clauses) = groups_mean clauses
groups_mean (QuantityIn range ∷ clauses) = groups_mean clauses
groups_mean (DiscountIn range ∷ clauses) = groups_mean clauses
groups_mean (BySum ∷ clauses) = groups_mean clauses

has_order : (clauses : List Clause) → Has clauses BySum → list_any is_order clauses ≡ true
has_order [] has = grind arith
has_order (c ∷ clauses) (inl is) = grind arith
has_order (c ∷ clauses) (inr has) = grind (arith, or_true, has_order clauses has)

order_has : (clauses : List Clause) → list_any is_order clauses ≡ true → Has clauses BySum
order_has [] e = absurd cc
order_has (BySum ∷ clauses) e = inl refl
order_has (Sums m ∷ clauses) e = inr (order_has clauses e)
order_has (GroupsBy c ∷ clauses) e = inr (order_has clauses e)
order_has (Is c v ∷ clauses) e = inr (order_has clauses e)
order_has (IsNot c v ∷ clauses) e = inr (order_has clauses e)
order_has (FromTo c from to ∷ clauses) e = inr (order_has clauses e)
order_has (QuantityIn range ∷ clauses) e = inr (order_has clauses e)
order_has (DiscountIn range ∷ clauses) e = inr (order_has clauses e)

not_true : (b : Bool) → (b ≡ true → ⊥) → b ≡ false
not_true true h = absurd (h refl)
not_true false h = refl

pub star_plan_means : StarPlanMeans
star_plan_means constants fit = record {
  passes = passes_means constants fit;
  measure = measure_means constants fit;
  groups = groups_mean (clauses_of constants);
  by_sum = λ has. ap (λ (b : Bool). order_of b (length (filter_map group_in (clauses_of constants))))
      (has_order (clauses_of constants) has);
  by_groups = λ none. ap (λ (b : Bool). order_of b (length (filter_map group_in (clauses_of constants))))
      (not_true (list_any is_order (clauses_of constants)) (λ e. none (order_has (clauses_of constants) e)));
}
