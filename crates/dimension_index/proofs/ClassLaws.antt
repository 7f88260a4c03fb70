-- The classes of rows, from their codes.
use Rattle.std.proofs.Common.{◌≡◌, ℕ, ◌+◌, ◌<◌, ◌≤◌, inl, inr, Bool, true, false, cond, List, [], ◌∷◌, ◌++◌, length, map, get_or}
use Rattle.std.proofs.Common.{Some, None, zero, suc, sym, refl, ap, ◌∙◌, arith, unwrap_or, take}
use Rattle.std.specs.Prelude.{◌&&◌, if◌then◌else◌}
use Rattle.std.specs.List.{position, position_from, range_with_len}
use Rattle.std.specs.Option.{option_or}
use Rattle.std.specs.Cmp.{first_so}
use Rattle.std.proofs.lemmas.Bool.{eq-eqb}
use Rattle.std.proofs.lemmas.List.{length-map, length-take-le, take_more}
use Rattle.std.proofs.lemmas.List.FromFn.{get_or-map-range_with_len, length-map-range_with_len}
use Rattle.std.proofs.lemmas.Iterator.Adapters.{position_from-zero}
use Rattle.ssb_base.specs.Base.{Dimensions, Tables, has_key_of}
use Rattle.ssb_schema.specs.FirstFault.{AreDistinct}
use Rattle.ssb_schema.specs.Keys.{date_key}
use Rattle.ssb_schema.specs.declared.date.DateFields.{DateFields}
use Rattle.ssb_schema.specs.declared.table.Table.{Table}
use Rattle.ssb_schema.specs.declared.table.Table.TheVariants as table
use Rattle.ssb_questions.proofs.ValueLaws.{value_Decides}
use Rattle.ssb_questions.specs.declared.value.Value.{Value}
use Rattle.ssb_questions.specs.declared.value.Value.TheVariants.{Number}
use Rattle.dimension_index.specs.Codes.{codes_of, is_same}
use Rattle.dimension_index.specs.Keys.{keys_of}
use Rattle.dimension_index.specs.Classes.{are_alike, class_at, classes_by, classes_of, telling_columns, read_columns}
use Rattle.dimension_index.specs.Classes.{rows_in}
use Rattle.dimension_index.specs.Values.{values_of}
use Rattle.ssb_schema.specs.declared.column.Column.{Column}
use Rattle.dimension_index.specs.Told.{RowCodes, same_told, told_at, told_rows, first_in}
use Rattle.dimension_index.proofs.AlikeLaws.{class_found, order}
use Rattle.dimension_index.proofs.CodeLaws.{same_codes}
use Rattle.dimension_index.proofs.KeyLaws.{keys_apart}

-- the first place in a list with one element more
position_push : {X : Type 0} (test : X → Bool) (a : ℕ) (xs : List X) (y : X)
    → position_from test a (xs ++ y ∷ []) ≡ option_or (position_from test a xs)
    (cond (test y) (Some (a + length xs)) None)
position_push test a [] y = grind arith
position_push test a (x ∷ xs) y = grind (arith, position_push test (a + 1) xs y)

pub first_push : (other : RowCodes) (rows : List RowCodes) (told : RowCodes)
    → position (λ own. same_told own other) (rows ++ told ∷ []) ≡ option_or (position (λ own. same_told own other) rows)
    (if same_told told other then Some (length rows) else None)
first_push other rows told = grind (arith, position_from-zero, position_push)

-- a test and what it tests, place by place
positions_agree : {X : Type 0} (f : ℕ → X) (test : X → Bool) (other : ℕ → Bool) (a n b : ℕ)
    → ((j : ℕ) → j < a + n → test (f j) ≡ other j)
    → position_from test b (map f (range_with_len a n)) ≡ position_from other b (range_with_len a n)
positions_agree f test other a zero b same = refl
positions_agree f test other a (suc n) b same = λ i. cond (same a (omega arith) i) (Some b)
    (positions_agree f test other (a + 1) n (b + 1) (λ j h. same j (omega (arith, h))) i)

maps_agree : {X Y : Type 0} (f : ℕ → X) (g : X → Y) (h : ℕ → Y) (a n : ℕ) → ((j : ℕ) → j < a + n → g (f j) ≡ h j)
    → map g (map f (range_with_len a n)) ≡ map h (range_with_len a n)
maps_agree f g h a zero same = refl
maps_agree f g h a (suc n) same = λ i. same a (omega arith) i ∷ maps_agree f g h (a + 1) n
    (λ j lt. same j (omega (arith, lt))) i

four : (a b c d : Bool) → (((a && b) && c) && d) ≡ (a && (b && (c && (d && true))))
four false b c d = refl
four true false c d = refl
four true true false d = refl
four true true true false = refl
four true true true true = refl

-- the first places of rows' codes are the rows' classes
pub classes_told : (a b c d : List Value) → length b ≡ length a → length c ≡ length a → length d ≡ length a
    → map (first_in (told_rows (codes_of a) (codes_of b) (codes_of c) (codes_of d)))
    (told_rows (codes_of a) (codes_of b) (codes_of c) (codes_of d)) ≡ classes_by (a ∷ b ∷ c ∷ d ∷ []) (length a)
classes_told a b c d like_b like_c like_d =
    maps_agree told (first_in rows) (class_at columns count) 0 count each
    ∙ ap (λ n. map (class_at columns n) (range_with_len 0 n)) long
  where
    columns : List (List Value)
    columns = a ∷ b ∷ c ∷ d ∷ []

    told : ℕ → RowCodes
    told = told_at (codes_of a) (codes_of b) (codes_of c) (codes_of d)

    rows : List RowCodes
    rows = told_rows (codes_of a) (codes_of b) (codes_of c) (codes_of d)

    count : ℕ
    count = length (codes_of a)

    long : count ≡ length a
    long = length-map a _

    same_at : List Value → ℕ → ℕ → Bool
    same_at column p q = is_same (get_or column p (Number 0)) (get_or column q (Number 0))

    alike : (p q : ℕ) → p < count → q < count → same_told (told q) (told p) ≡ are_alike columns p q
    alike p q at_p at_q =
        let in_a = same_codes a p q (omega (arith, at_p, long)) (omega (arith, at_q, long)) in
        let in_b = same_codes b p q (omega (arith, at_p, long, like_b)) (omega (arith, at_q, long, like_b)) in
        let in_c = same_codes c p q (omega (arith, at_p, long, like_c)) (omega (arith, at_q, long, like_c)) in
        let in_d = same_codes d p q (omega (arith, at_p, long, like_d)) (omega (arith, at_q, long, like_d)) in
        (λ i. ((in_a i && in_b i) && in_c i) && in_d i)
        ∙ four (same_at a p q) (same_at b p q) (same_at c p q) (same_at d p q)

    each : (p : ℕ) → p < 0 + count → first_in rows (told p) ≡ class_at columns count p
    each p at_p =
        let test : RowCodes → Bool = λ own. same_told own (told p) in
        ap (λ o. unwrap_or o 0) (position_from-zero test rows
        ∙ positions_agree told test (are_alike columns p) 0 count 0
        (λ q at_q. alike p q (omega (arith, at_p)) (omega (arith, at_q)))
        ∙ sym (position_from-zero (are_alike columns p) (range_with_len 0 count)))

-- each row has a class
pub classes_length : (d : Dimensions) (t : Table) → length (classes_of d t) ≡ rows_in d t
unfolding classes_of
classes_length d t = length-map-range_with_len (class_at (read_columns d t) (rows_in d t)) 0 (rows_in d t)

-- the values of four columns of a base
abbrev four_of : Tables → List Column → Column → List (List Value)
four_of base columns d =
    values_of base (get_or columns 0 d) ∷ values_of base (get_or columns 1 d) ∷ values_of base (get_or columns 2 d)
    ∷ values_of base (get_or columns 3 d) ∷ []

classes_read : (base : Tables) (t : Table) (d : Column) → length (telling_columns t) ≤ 4
    → classes_by (four_of base (telling_columns t) d) (length (values_of base (get_or (telling_columns t) 0 d)))
    ≡ classes_of base.dimensions t
unfolding classes_of
classes_read base table.Customer d few = grind (arith, length-map)
classes_read base table.Supplier d few = grind (arith, length-map)
classes_read base table.Part d few = grind (arith, length-map)
classes_read base table.Date d few = absurd (omega (arith, few))
classes_read base table.Lineorder d few = grind arith

-- the columns that queries read tell the classes, where there are four
pub classes_kept : (base : Tables) (t : Table) (columns : List Column) (d : Column) → length (telling_columns t) ≤ 4
    → columns ≡ telling_columns t
    → classes_by (four_of base columns d) (length (values_of base (get_or columns 0 d))) ≡ classes_of base.dimensions t
classes_kept base t columns d few is =
    ap (λ l. classes_by (four_of base l d) (length (values_of base (get_or l 0 d)))) is
    ∙ classes_read base t d few

-- rows that have distinct keys are each of a class of its own
map_same : (f : ℕ → ℕ) (a n : ℕ) → ((j : ℕ) → j < a + n → f j ≡ j)
    → map (λ p. p) (range_with_len a n) ≡ map f (range_with_len a n)
map_same f a zero same = refl
map_same f a (suc n) same = λ i. sym (same a (omega arith)) i ∷ map_same f (a + 1) n
    (λ j lt. same j (omega (arith, lt))) i

own_class : (d : Dimensions) → AreDistinct (has_key_of date_key) d.dates → (p : ℕ) → p < length d.dates
    → class_at (read_columns d table.Date) (length d.dates) p ≡ p
own_class d distinct p within =
    let columns = read_columns d table.Date in
    let found = class_found columns (length d.dates) p within in
    let class : ℕ = class_at columns (length d.dates) p in
    let is : get_or (classes_by columns (length d.dates)) p 0 ≡ class =
    get_or-map-range_with_len (class_at columns (length d.dates)) 0 (length d.dates) p p 0 within (omega arith) in
    let not_after : class ≤ p = omega (arith, found.0, is) in
    let alike : are_alike columns p class ≡ true = ap (are_alike columns p) (sym is) ∙ found.1 in
    let key_values : List Value = map (λ (row : DateFields). Number row.key) d.dates in
    let here : get_or key_values p (Number 0) ≡ get_or key_values class (Number 0) =
    (value_Decides (get_or key_values p (Number 0)) (get_or key_values class (Number 0))).0
    (first_so _ _ alike) in
    let same_keys : get_or (map date_key d.dates) class 0 ≡ get_or (map date_key d.dates) p 0 =
    sym (same_key d.dates p class within (omega (arith, within, not_after)) here) in
    let not_before : class < p → ⊥ =
    λ before. keys_apart date_key d.dates distinct class p before within same_keys in
    elim (order class p) [
      | inl before ↦ absurd (not_before before)
      | inr after ↦ omega (arith, after, not_after)
    ]
  where
    number_is : {m n : ℕ} → Number m ≡ Number n → m ≡ n
    number_is e = cc

    keyed : (rows : List DateFields) (p : ℕ) → p < length rows
        → Number (get_or (map date_key rows) p 0) ≡ get_or (map (λ (row : DateFields). Number row.key) rows) p (Number 0)
    keyed [] p at = absurd (omega (arith, at))
    keyed (row ∷ rows) zero at = refl
    keyed (row ∷ rows) (suc p) at = keyed rows p (omega (arith, at))

    same_key : (rows : List DateFields) (p q : ℕ) → p < length rows → q < length rows
        → get_or (map (λ (row : DateFields). Number row.key) rows) p (Number 0)
        ≡ get_or (map (λ (row : DateFields). Number row.key) rows) q (Number 0)
        → get_or (map date_key rows) p 0 ≡ get_or (map date_key rows) q 0
    same_key rows p q at_p at_q e =
        number_is (keyed rows p at_p ∙ e ∙ sym (keyed rows q at_q))

pub dates_apart : (d : Dimensions) → AreDistinct (has_key_of date_key) d.dates
    → map (λ p. p) (range_with_len 0 (length d.dates)) ≡ classes_of d table.Date
unfolding classes_of
dates_apart d distinct =
    map_same (class_at (read_columns d table.Date) (length d.dates)) 0 (length d.dates)
    (λ p lt. own_class d distinct p (omega (arith, lt)))

-- there are as many classes as keys
pub classes_keys : (base : Tables) (t : Table) → length (classes_of base.dimensions t) ≡ length (keys_of base t)
classes_keys base table.Customer = grind (arith, classes_length, length-map)
classes_keys base table.Supplier = grind (arith, classes_length, length-map)
classes_keys base table.Part = grind (arith, classes_length, length-map)
classes_keys base table.Date = grind (arith, classes_length, length-map)
classes_keys base table.Lineorder = grind (arith, classes_length)

first_at : {X : Type 0} (test : X → Bool) (a other : ℕ) (xs : List X) (i : ℕ) (d : X) → i < length xs
    → test (get_or xs i d) ≡ true
    → unwrap_or (position_from test a xs) other ≡ unwrap_or (position_from test a (take i xs)) (a + i)
first_at test a other [] i d within passes = grind arith
first_at test a other (x ∷ xs) zero d within passes = grind (arith, unwrap_or)
first_at test a other (x ∷ xs) (suc i) d within passes = grind (arith, unwrap_or, first_at test (a + 1) other xs i d (omega (arith, within)) passes)

same_self : (x : RowCodes) → same_told x x ≡ true
same_self x = λ i. ((eq-eqb x.0 x.0 refl i && eq-eqb x.1 x.1 refl i) && eq-eqb x.2 x.2 refl i) && eq-eqb x.3 x.3 refl i

-- where codes stand first is known from the rows before them
pub first_known : (rows : List RowCodes) (i : ℕ) (told : RowCodes) → i < length rows → told ≡ get_or rows i told
    → first_in rows told ≡ unwrap_or (position (λ own. same_told own told) (take i rows)) i
first_known rows i told within is =
    let test : RowCodes → Bool = λ own. same_told own told in
    let start : 0 + i ≡ i = omega arith in
    ap (λ o. unwrap_or o 0) (position_from-zero test rows)
    ∙ first_at test 0 0 rows i told within (ap test (sym is) ∙ same_self told)
    ∙ (λ j. unwrap_or (sym (position_from-zero test (take i rows)) j) (start j))

-- one row more is noted
pub noted_more : (rows : List RowCodes) (i : ℕ) (told other : RowCodes) → i < length rows → told ≡ get_or rows i told
    → option_or (position (λ own. same_told own other) (take i rows))
    (if same_told told other then Some i else None) ≡ position (λ own. same_told own other) (take (i + 1) rows)
noted_more rows i told other within is =
    let before : List RowCodes = take i rows in
    let long : length before ≡ i = length-take-le i rows (omega (arith, within)) in
    ap (λ n. option_or (position (λ own. same_told own other) before) (if same_told told other then Some n else None))
    (sym long)
    ∙ sym (first_push other before told)
    ∙ ap (λ l. position (λ own. same_told own other) l)
    (ap (λ x. before ++ x ∷ []) is ∙ sym (take_more rows i told within))
