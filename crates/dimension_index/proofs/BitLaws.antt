-- Rows that are narrowed, one by one.
use Rattle.std.proofs.Common.{◌≡◌, ℕ, ◌+◌, ◌<◌, ◌≤◌, Bool, true, List, [], ◌∷◌, ◌++◌, length, get_or, map, take, drop}
use Rattle.std.proofs.Common.{set, suc, zero, refl, sym, ap, ◌∙◌, add-zero, replicate, arith}
use Rattle.std.specs.Prelude.{◌&&◌}
use Rattle.std.proofs.lemmas.List.{get_or-drop, drop-drop, drop-set-lt, take_more_set, take_more, take_all}
use Rattle.std.proofs.lemmas.List.{get_or-map, length-map}
use Rattle.ssb_questions.specs.declared.value.Value.{Value}
use Rattle.ssb_questions.specs.declared.value.Value.TheVariants.{Number}
use Rattle.dimension_index.specs.CodedColumns.{values_in}
use Rattle.std.proofs.lemmas.List.Folds.{list_all_more}
use Rattle.ssb_schema.specs.declared.table.Table.{Table}
use Rattle.ssb_schema.specs.declared.table.Table.TheVariants as table
use Rattle.ssb_base.specs.Base.{Tables, customer_key, supplier_key, part_key, date_key}
use Rattle.ssb_questions.specs.declared.cond.Test.{Test}
use Rattle.ssb_questions.specs.Cond.{holds}
use Rattle.ssb_answers.specs.RowValues.{customer_value, supplier_value, part_value, date_value, pass}
use Rattle.dimension_index.specs.Keys.{keys_of}
use Rattle.dimension_index.specs.Values.{values_at}
use Rattle.dimension_index.specs.Bitmaps.{narrowed, bits_of}

-- the first places have what is wanted, the others what stood there
pub record WrittenUpTo {X : Type 0} (wanted old : List X) (i : ℕ) (now : List X) : Type 0 where
  pub written : take i now ≡ take i wanted
  pub rest : drop i now ≡ drop i old

-- one place more is written
pub written_more : {X : Type 0} (wanted old now : List X) (i : ℕ) (x : X) → i < length now → i < length wanted
    → x ≡ get_or wanted i x → WrittenUpTo wanted old i now → WrittenUpTo wanted old (i + 1) (set now i x)
written_more wanted old now i x within there is so_far = record {
  written = take_more_set now i x within ∙ ap (λ l. l ++ x ∷ []) so_far.written ∙ ap (λ y. take i wanted ++ y ∷ []) is
      ∙ sym (take_more wanted i x there);
  rest = drop-set-lt (i + 1) now i x (omega arith) ∙ sym (drop-drop 1 i now) ∙ ap (λ l. drop 1 l) so_far.rest
      ∙ drop-drop 1 i old;
}

-- what stands at a place that is not yet written
pub not_yet : {X : Type 0} (wanted old now : List X) (i : ℕ) (d : X) → WrittenUpTo wanted old i now
    → get_or now i d ≡ get_or old i d
not_yet {X = X} wanted old now i d so_far = sym (here now) ∙ ap (λ l. get_or l 0 d) so_far.rest ∙ here old
  where
    here : (l : List X) → get_or (drop i l) 0 d ≡ get_or l i d
    here l = get_or-drop i l 0 d ∙ ap (λ n. get_or l n d) (add-zero i)

pub length_narrowed : (rows passes : List Bool) → length rows ≡ length passes
    → length (narrowed rows passes) ≡ length rows
length_narrowed [] passes same = refl
length_narrowed (row ∷ rows) [] same = absurd (cc)
length_narrowed (row ∷ rows) (pass ∷ passes) same = ap suc (length_narrowed rows passes (omega (arith, same)))

pub narrowed_at : (rows passes : List Bool) (i : ℕ) (d : Bool) → length rows ≡ length passes → i < length rows
    → get_or (narrowed rows passes) i d ≡ (get_or rows i d && get_or passes i d)
narrowed_at [] passes i d same within = grind arith
narrowed_at (row ∷ rows) [] i d same within = grind arith
narrowed_at (row ∷ rows) (pass ∷ passes) zero d same within = grind arith
narrowed_at (row ∷ rows) (pass ∷ passes) (suc i) d same within = grind (arith, narrowed_at rows passes i d (omega (arith, same)) (omega (arith, within)))

-- what a test says of a row's value is what it says of its code's
pub passes_at : (test : Value → Bool) (dictionary values : List Value) (codes : List ℕ) (row : ℕ) (d : Bool)
    → values_in dictionary codes ≡ values → row < length codes → get_or codes row 0 < length dictionary
    → get_or (map test values) row d ≡ get_or (map test dictionary) (get_or codes row 0) d
passes_at test dictionary values codes row d are within known =
    let value : ℕ → Value = λ code. get_or dictionary code (Number 0) in
    ap (λ l. get_or (map test l) row d) (sym are)
    ∙ get_or-map test (values_in dictionary codes) row (Number 0) d (omega (arith, within, length-map codes value))
    ∙ ap test (get_or-map value codes row 0 (Number 0) within)
    ∙ sym (get_or-map test dictionary (get_or codes row 0) (Number 0) d known)

-- before the first test every row is left
pub bits_none : (base : Tables) (t : Table) → replicate (length (keys_of base t)) true ≡ bits_of base t []
bits_none base t = elim t as (λ t. replicate (length (keys_of base t)) true ≡ bits_of base t []) [
  | table.Customer ↦ all base.dimensions.customers customer_key
  | table.Supplier ↦ all base.dimensions.suppliers supplier_key
  | table.Part ↦ all base.dimensions.parts part_key
  | table.Date ↦ all base.dimensions.dates date_key
  | table.Lineorder ↦ refl
]
  where
    all : {R : Type 0} (rows : List R) (key : R → ℕ) → replicate (length (map key rows)) true ≡ map (λ row. true) rows
    all [] key = refl
    all (row ∷ rows) key = ap (λ l. true ∷ l) (all rows key)

-- one test more
rows_more : {R : Type 0} (value : ℕ → R → Value) (rows : List R) (tests : List Test) (i : ℕ) (test : Test)
    → i < length tests → test ≡ get_or tests i test
    → narrowed (map (λ row. pass (take i tests) (λ place. value place row)) rows)
    (map (holds test.cond) (map (value test.column.place) rows)) ≡ map
    (λ row. pass (take (i + 1) tests) (λ place. value place row)) rows
rows_more value [] tests i test within is = refl
rows_more {R = R} value (row ∷ rows) tests i test within is = λ k. one k ∷ rows_more value rows tests i test within is k
  where
    one : (pass (take i tests) (λ place. value place row) && holds test.cond (value test.column.place row)) ≡ pass
        (take (i + 1) tests) (λ place. value place row)
    one =
        ap (λ (t : Test). pass (take i tests) (λ place. value place row) && holds t.cond (value t.column.place row)) is
        ∙ sym (list_all_more (λ test. holds test.cond (value test.column.place row)) tests i test within)

pub bits_more : (base : Tables) (t : Table) (tests : List Test) (i : ℕ) (test : Test) → i < length tests
    → test ≡ get_or tests i test
    → narrowed (bits_of base t (take i tests)) (map (holds test.cond) (values_at base t test.column.place)) ≡ bits_of
    base t (take (i + 1) tests)
bits_more base table.Customer tests i test within is =
    rows_more customer_value base.dimensions.customers tests i test within is
bits_more base table.Supplier tests i test within is =
    rows_more supplier_value base.dimensions.suppliers tests i test within is
bits_more base table.Part tests i test within is = rows_more part_value base.dimensions.parts tests i test within is
bits_more base table.Date tests i test within is = rows_more date_value base.dimensions.dates tests i test within is
bits_more base table.Lineorder tests i test within is = refl

-- all places are written
pub written_all : {X : Type 0} (wanted old now : List X) (i : ℕ) → length now ≤ i → length wanted ≤ i
    → WrittenUpTo wanted old i now → now ≡ wanted
written_all wanted old now i past end all = sym (take_all i now past) ∙ all.written ∙ take_all i wanted end
