-- Of the constants that `star` takes, each range is the only one of its kind, a column with a range has no value, and
-- the values are of their column's kind.
use Rattle.std.proofs.Common.{◌≡◌, ◌∙◌, ℕ, zero, suc, ◌+◌, ◌<◌, ◌≤◌, Bool, true, false, ◌&&◌, cond, nat_eq, nat_lt}
use Rattle.std.proofs.Common.{List}
use Rattle.std.proofs.Common.{[], ◌∷◌, take, Option, Some, None, refl, ap, subst, arith, inl, inr}
use Rattle.std.specs.Prelude.{IfSome, codes, option_and_then, option_map, slice_get}
use Rattle.std.specs.List.{AllByRecursion, filter_map, cons_option, fold}
use Rattle.std.specs.Cmp.{second_so}
use Rattle.std.proofs.lemmas.Bool.Decides.{nat_tests}
use Rattle.std.proofs.lemmas.Slice.Eq.{bytes_eq-Decides}
use Rattle.ssb_schema.specs.Columns.{column_name}
use Rattle.ssb_schema.specs.declared.column.Column.{Column}
use Rattle.ssb_questions.proofs.ColumnLaws.{IsRead, clauses_read}
use Rattle.ssb_questions.proofs.SomeLaws.{all_any, all_kept, some_and_then, some_any, some_if, some_map, some_or}
use Rattle.ssb_questions.proofs.SomeLaws.{some_weaker, some_where}
use Rattle.ssb_questions.proofs.StarLaws.{stands}
use Rattle.ssb_questions.specs.Clause.{Clause, Is, IsNot, FromTo, QuantityIn, DiscountIn}
use Rattle.ssb_questions.specs.Clause.{clause_parted, column_exclusion, column_named, column_test, exclusion_clause}
use Rattle.ssb_questions.specs.Clause.{kind_in, most_in, named_clause}
use Rattle.ssb_questions.specs.Clause.{parted, range_spelled, spelled_as, test_clause, value_for, word_clause}
use Rattle.ssb_questions.specs.Clauses.{clause_said, clauses_of, count_of, is_absent, may_follow, may_stand_at}
use Rattle.ssb_questions.specs.Clauses.{same_column, same_subject, subject, subjects_of}
use Rattle.ssb_questions.specs.Members.{Has}
use Rattle.ssb_questions.specs.Question.{constants_fault}
use Rattle.ssb_questions.specs.Text.{text_eq}
use Rattle.ssb_questions.specs.declared.clauses.Subject.{Subject}
use Rattle.ssb_questions.specs.declared.clauses.Subject.TheVariants.{OneValue, Range, Quantity, Discount, Order}
use Rattle.ssb_questions.specs.declared.kind.ConstantKind.{ConstantKind}
use Rattle.ssb_questions.specs.declared.kind.ConstantKind.TheVariants as kind
use Rattle.ssb_questions.specs.declared.query.Query.TheVariants.{Star}
use Rattle.ssb_questions.specs.declared.value.Value.{Value}
use Rattle.ssb_questions.specs.declared.value.Value.TheVariants as value

-- what is counted among subjects is not absent
counted_from : (p : Subject → Bool) (xs : List Subject) (a : ℕ) → a ≤ fold (λ n x. n + cond (p x) 1 0) a xs
counted_from p [] a = omega arith
counted_from p (x ∷ xs) a = let later = counted_from p xs (a + cond (p x) 1 0) in omega (arith, later)

counted : (p : Subject → Bool) (xs : List Subject) (s : Subject) (a : ℕ) → Has xs s → p s ≡ true
    → 1 ≤ fold (λ n x. n + cond (p x) 1 0) a xs
counted p [] s a has e = grind arith
counted p (x ∷ xs) s a (inl is) e = grind (arith, counted_from)
counted p (x ∷ xs) s a (inr has) e = grind (arith, counted p xs s (a + cond (p x) 1 0) has e)

not_none : (n : ℕ) → 1 ≤ n → nat_eq n 0 ≡ true → ⊥
not_none n some e = let none : n ≡ 0 = grind (arith, e, nat_tests) in omega (arith, some, none)

present : (wanted : Subject) (xs : List Subject) → same_subject wanted wanted ≡ true → Has xs wanted
    → is_absent wanted xs ≡ true → ⊥
present wanted xs same has absent =
    not_none (count_of wanted xs) (counted (same_subject wanted) xs wanted 0 has same) absent

itself : (column : Column) → same_column column column ≡ true
itself column = (bytes_eq-Decides (column_name column) (column_name column)).1 refl

-- what may stand behind others, and is not the measure
behind : (first : Bool) (other : Bool) → cond first false other ≡ true → other ≡ true
behind true other e = absurd cc
behind false other e = e

range_follows : (place : ℕ) (earlier : List Subject) (column : Column)
    → may_stand_at place earlier (Some (Range column)) ≡ true
    → (is_absent (Range column) earlier ≡ true) × (is_absent (OneValue column) earlier ≡ true)
range_follows place earlier column may = grind (arith, behind, nat_eq)

one_follows : (place : ℕ) (earlier : List Subject) (column : Column)
    → may_stand_at place earlier (Some (OneValue column)) ≡ true → is_absent (Range column) earlier ≡ true
one_follows place earlier column may = grind (arith, behind, nat_eq, nat_lt)

quantity_follows : (place : ℕ) (earlier : List Subject) → may_stand_at place earlier (Some Quantity) ≡ true
    → is_absent Quantity earlier ≡ true
quantity_follows place earlier may =
    second_so (is_absent Order earlier) (is_absent Quantity earlier)
    (behind (nat_eq place 0) (may_follow place earlier Quantity) may)

discount_follows : (place : ℕ) (earlier : List Subject) → may_stand_at place earlier (Some Discount) ≡ true
    → is_absent Discount earlier ≡ true
discount_follows place earlier may =
    second_so (is_absent Order earlier) (is_absent Discount earlier)
    (behind (nat_eq place 0) (may_follow place earlier Discount) may)

-- a subject that may not stand behind another
abbrev pub MayNotFollow : Subject → Subject → Type 0
MayNotFollow a b = (place : ℕ) (earlier : List Subject) → Has earlier a → may_stand_at place earlier (Some b) ≡ true → ⊥

pub range_range : (column : Column) → MayNotFollow (Range column) (Range column)
range_range column place earlier has may =
    present (Range column) earlier (itself column) has (range_follows place earlier column may).0

pub one_range : (column : Column) → MayNotFollow (OneValue column) (Range column)
one_range column place earlier has may =
    present (OneValue column) earlier (itself column) has (range_follows place earlier column may).1

pub range_one : (column : Column) → MayNotFollow (Range column) (OneValue column)
range_one column place earlier has may =
    present (Range column) earlier (itself column) has (one_follows place earlier column may)

pub quantity_quantity : MayNotFollow Quantity Quantity
quantity_quantity place earlier has may = present Quantity earlier refl has (quantity_follows place earlier may)

pub discount_discount : MayNotFollow Discount Discount
discount_discount place earlier has may = present Discount earlier refl has (discount_follows place earlier may)

-- each two of the clauses, the earlier one first
abbrev pub Pairs : (Clause → Clause → Type 0) → List Clause → Type 0
Pairs R [] = Unit {0}
Pairs R (c ∷ clauses) = AllByRecursion (R c) clauses × Pairs R clauses

put : (P : Clause → Type 0) (o : Option Clause) (clauses : List Clause) → ((d : Clause) → o ≡ Some d → P d)
    → AllByRecursion P clauses → AllByRecursion P (cons_option o clauses)
put P None clauses h all = all
put P (Some d) clauses h all = (h d refl, all)

put_pairs : (R : Clause → Clause → Type 0) (o : Option Clause) (clauses : List Clause)
    → ((c : Clause) → o ≡ Some c → AllByRecursion (R c) clauses) → Pairs R clauses → Pairs R (cons_option o clauses)
put_pairs R None clauses h all = all
put_pairs R (Some c) clauses h all = (h c refl, all)

all_after : (P : Clause → Type 0) (xs : List Value)
    → ((i : ℕ) (w : Value) (d : Clause) → slice_get xs i ≡ Some w → clause_said w ≡ Some d → P d)
    → AllByRecursion P (clauses_of xs)
all_after P [] h = tt
all_after P (v ∷ xs) h =
    put P (clause_said v) (clauses_of xs) (λ d e. h 0 v d refl e)
    (all_after P xs (λ i w d at e. h (suc i) w d at e))

pairs_from : (R : Clause → Clause → Type 0) (xs : List Value)
    → ((i j : ℕ) (v w : Value) (c d : Clause) → i < j → slice_get xs i ≡ Some v → slice_get xs j ≡ Some w
    → clause_said v ≡ Some c → clause_said w ≡ Some d → R c d)
    → Pairs R (clauses_of xs)
pairs_from R [] h = tt
pairs_from R (v ∷ xs) h =
    put_pairs R (clause_said v) (clauses_of xs)
    (λ c e. all_after (R c) xs (λ j w d at f. h 0 (suc j) v w c d (omega arith) refl at e f))
    (pairs_from R xs (λ i j a b c d lt at_a at_b e f. h (suc i) (suc j) a b c d (omega (arith, lt)) at_a at_b e f))

-- the subject of an earlier constant
has_more : (o : Option Subject) (xs : List Subject) (s : Subject) → Has xs s → Has (cons_option o xs) s
has_more None xs s has = has
has_more (Some x) xs s has = inr has

has_first : (o : Option Subject) (xs : List Subject) (s : Subject) → o ≡ Some s → Has (cons_option o xs) s
has_first None xs s e = absurd cc
has_first (Some x) xs s e = inl cc

earlier_has : (xs : List Value) (i j : ℕ) (v : Value) (c : Clause) → i < j → slice_get xs i ≡ Some v
    → clause_said v ≡ Some c → Has (subjects_of (take j xs)) (subject c)
earlier_has [] i j v c lt at e = grind arith
earlier_has (x ∷ xs) i zero v c lt at e = grind arith
earlier_has (x ∷ xs) zero (suc j) v c lt at e = grind (arith, has_first)
earlier_has (x ∷ xs) (suc i) (suc j) v c lt at e = grind (arith, has_more, earlier_has xs i j v c (omega (arith, lt)) at e)

said_is_read : (v : Value) (c : Clause) → clause_said v ≡ Some c → IsRead c
said_is_read v c e = (subst (λ (o : Option Clause). AllByRecursion IsRead (cons_option o [])) e (clauses_read (v ∷ []))).0

-- where the first says something, the second says nothing
abbrev pub Bars : {X Y : Type 0} → (Clause → Option X) → (Clause → Option Y) → Clause → Clause → Type 0
Bars {X} {Y} p q c d = (x : X) → p c ≡ Some x → q d ≡ None

-- what a clause says is of a subject
abbrev pub Speaks : {X : Type 0} → (Clause → Option X) → Subject → Type 0
Speaks {X} p s = (c : Clause) (x : X) → IsRead c → p c ≡ Some x → subject c ≡ s

no_some : {Y : Type 0} (o : Option Y) → ((y : Y) → o ≡ Some y → ⊥) → o ≡ None
no_some None h = refl
no_some (Some y) h = absurd (h y refl)

pub barred : {X Y : Type 0} (p : Clause → Option X) (q : Clause → Option Y) (a b : Subject) → Speaks p a → Speaks q b
    → MayNotFollow a b → (constants : List Value) → constants_fault Star constants ≡ None
    → Pairs (Bars p q) (clauses_of constants)
barred p q a b says_a says_b clash constants none =
    pairs_from (Bars p q) constants
    (λ i j v w c d lt at_v at_w e f x is. no_some (q d) (λ y also.
    clash j (subjects_of (take j constants))
    (subst (λ (s : Subject). Has (subjects_of (take j constants)) s) (says_a c x (said_is_read v c e) is)
    (earlier_has constants i j v c lt at_v e))
    (subst (λ (s : Subject). may_stand_at j (subjects_of (take j constants)) (Some s) ≡ true)
    (says_b d y (said_is_read w d f) also)
    (subst (λ (o : Option Clause). may_stand_at j (subjects_of (take j constants)) (option_map subject o) ≡ true) f
    (stands constants none j w at_w)))))

-- hence it is said once, and nothing else with it
no_more : {X Y : Type 0} (p : Clause → Option X) (q : Clause → Option Y) (c : Clause) (x : X) (clauses : List Clause)
    → p c ≡ Some x → AllByRecursion (Bars p q c) clauses → filter_map q clauses ≡ []
no_more p q c x [] e all = refl
no_more {X} {Y} p q c x (d ∷ clauses) e all =
    ap (λ (o : Option Y). cons_option o (filter_map q clauses)) (all.0 x e) ∙ no_more p q c x clauses e all.1

alone_step : {X : Type 0} (o : Option X) (rest : List X) (x : X) → ((y : X) → o ≡ Some y → rest ≡ [])
    → (Has rest x → rest ≡ x ∷ []) → Has (cons_option o rest) x → cons_option o rest ≡ x ∷ []
alone_step None rest x nothing h has = h has
alone_step (Some y) rest x nothing h (inl is) = let none : rest ≡ [] = nothing y refl in cc
alone_step {X} (Some y) rest x nothing h (inr has) =
    absurd (subst (λ (r : List X). Has r x) (nothing y refl) has)

pub alone : {X : Type 0} (p : Clause → Option X) (clauses : List Clause) → Pairs (Bars p p) clauses → (x : X)
    → Has (filter_map p clauses) x → filter_map p clauses ≡ x ∷ []
alone p [] pairs x has = absurd has
alone p (c ∷ clauses) pairs x has =
    alone_step (p c) (filter_map p clauses) x (λ y e. no_more p p c y clauses e pairs.0) (alone p clauses pairs.1 x) has

none_step : {X Y : Type 0} (o : Option X) (r : Option Y) (ps : List X) (qs : List Y) (x : X)
    → ((y : X) → o ≡ Some y → (r ≡ None) × (qs ≡ [])) → ((y : Y) → r ≡ Some y → ps ≡ []) → (Has ps x → qs ≡ [])
    → Has (cons_option o ps) x → cons_option r qs ≡ []
none_step {X} {Y} (Some z) r ps qs x first second h has =
    let both = first z refl in
    ap (λ (a : Option Y). cons_option a qs) both.0 ∙ both.1
none_step None None ps qs x first second h has = h has
none_step {X} None (Some y) ps qs x first second h has =
    absurd (subst (λ (r : List X). Has r x) (second y refl) has)

pub none_of : {X Y : Type 0} (p : Clause → Option X) (q : Clause → Option Y) (clauses : List Clause)
    → ((c : Clause) (x : X) → p c ≡ Some x → q c ≡ None) → Pairs (Bars p q) clauses → Pairs (Bars q p) clauses
    → (x : X) → Has (filter_map p clauses) x → filter_map q clauses ≡ []
none_of p q [] self forth back x has = absurd has
none_of p q (c ∷ clauses) self forth back x has =
    none_step (p c) (q c) (filter_map p clauses) (filter_map q clauses) x
    (λ y e. (self c y e, no_more p q c y clauses e forth.0))
    (λ y e. no_more q p c y clauses e back.0) (none_of p q clauses self forth.1 back.1 x) has

-- a value of a kind
abbrev pub IsOf : ConstantKind → Value → Type 0
IsOf (kind.Text column) (value.Text text) = Unit {0}
IsOf kind.Number (value.Number number) = Unit {0}
IsOf _ _ = ⊥

-- what is looked for in a column is of its kind
abbrev pub IsOfKind : Clause → Type 0
IsOfKind (Is column v) = IsOf (kind_in column) v
IsOfKind (IsNot column v) = IsOf (kind_in column) v
IsOfKind (FromTo column from to) = IsOf (kind_in column) from × IsOf (kind_in column) to
IsOfKind _ = Unit {0}

spelled_of : (k : ConstantKind) (most : ℕ) (bytes : List ℕ) → IfSome (spelled_as k most bytes) (IsOf k)
spelled_of (kind.Text column) most bytes = grind (arith, some_where)
spelled_of kind.Number most bytes = grind (arith, some_map, some_any)

column_test_of : (column : Column) (bytes : List ℕ) (ends : Option (List ℕ × List ℕ))
    → IfSome (column_test column bytes ends) IsOfKind
column_test_of column bytes None =
    some_map IsOfKind (Is column) (value_for column bytes) (spelled_of (kind_in column) (most_in column) bytes)
column_test_of column bytes (Some ends) =
    some_and_then IsOfKind (λ from. option_map (FromTo column from) (value_for column ends.1)) (value_for column ends.0)
    (some_weaker (IsOf (kind_in column))
    (λ from. IfSome (option_map (FromTo column from) (value_for column ends.1)) IsOfKind)
    (λ from is. some_map IsOfKind (FromTo column from) (value_for column ends.1)
    (some_weaker (IsOf (kind_in column)) (λ to. IsOfKind (FromTo column from to)) (λ to also. (is, also))
    (value_for column ends.1) (spelled_of (kind_in column) (most_in column) ends.1)))
    (value_for column ends.0) (spelled_of (kind_in column) (most_in column) ends.0))

column_clause_of : (name bytes : List ℕ)
    → IfSome (option_and_then (λ column. column_test column bytes (parted (codes "..") bytes)) (column_named name))
    IsOfKind
column_clause_of name bytes = grind (arith, some_and_then, some_any, column_test_of)

test_of_kind : (name bytes : List ℕ) → IfSome (test_clause name bytes) IsOfKind
test_of_kind name bytes =
    some_if IsOfKind (text_eq name (codes "LO_QUANTITY")) (option_map QuantityIn (range_spelled bytes)) _
    (some_map IsOfKind QuantityIn (range_spelled bytes)
    (some_any (λ range. IsOfKind (QuantityIn range)) (λ range. tt) (range_spelled bytes)))
    (some_if IsOfKind (text_eq name (codes "LO_DISCOUNT")) (option_map DiscountIn (range_spelled bytes)) _
    (some_map IsOfKind DiscountIn (range_spelled bytes)
    (some_any (λ range. IsOfKind (DiscountIn range)) (λ range. tt) (range_spelled bytes)))
    (column_clause_of name bytes))

exclusion_of_column : (column : Column) (bytes : List ℕ) (ends : Option (List ℕ × List ℕ))
    → IfSome (column_exclusion column bytes ends) IsOfKind
exclusion_of_column column bytes None =
    some_map IsOfKind (IsNot column) (value_for column bytes) (spelled_of (kind_in column) (most_in column) bytes)
exclusion_of_column column bytes (Some ends) = tt

exclusion_of_kind : (name bytes : List ℕ) → IfSome (exclusion_clause name bytes) IsOfKind
exclusion_of_kind name bytes = grind (arith, some_and_then, some_any, exclusion_of_column)

named_of_kind : (name bytes : List ℕ) (parts : Option (List ℕ × List ℕ))
    → IfSome (named_clause name bytes parts) IsOfKind
named_of_kind name bytes None = test_of_kind name bytes
named_of_kind name bytes (Some (own, [])) = exclusion_of_kind own bytes
named_of_kind name bytes (Some (own, b ∷ rest)) = tt

word_of_kind : (word : List ℕ) → IfSome (word_clause word) IsOfKind
word_of_kind word = grind (arith, some_or, some_map, some_any)

parted_of_kind : (bytes : List ℕ) (parts : Option (List ℕ × List ℕ)) → IfSome (clause_parted bytes parts) IsOfKind
parted_of_kind bytes None = word_of_kind bytes
parted_of_kind bytes (Some parts) = named_of_kind parts.0 parts.1 (parted (codes "!") parts.0)

said_of_kind : (v : Value) → IfSome (clause_said v) IsOfKind
said_of_kind (value.Text bytes) = grind (arith, some_if, parted_of_kind)
said_of_kind (value.Number number) = grind arith

pub clauses_of_kind : (constants : List Value) → AllByRecursion IsOfKind (clauses_of constants)
clauses_of_kind constants =
    all_kept IsOfKind clause_said constants (all_any (λ v. IfSome (clause_said v) IsOfKind) said_of_kind constants)
