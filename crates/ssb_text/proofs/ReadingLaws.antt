-- What is known of a table's text while it is read.
use Rattle.std.proofs.Common.{suc, ◌≡◌, ℕ, ◌+◌, ◌≤◌, true, false, List, [], ◌∷◌, ◌++◌, Option, Some, None, Ok, Err}
use Rattle.std.proofs.Common.{length, refl, ap, ◌⊎◌, inl, inr, arith}
use Rattle.std.specs.List.{AllZip}
use Rattle.std.specs.Option.{IfSome}
use Rattle.csv.specs.declared.reader.Reader.{Reader}
use Rattle.ssb_schema.specs.Columns.{Value}
use Rattle.ssb_schema.specs.declared.table.Table.{Table}
use Rattle.ssb_schema.specs.declared.fault.SchemaFault.TheVariants as schema
use Rattle.ssb_text.specs.Records.{GivesNext, HasGiven}
use Rattle.ssb_text.specs.Row.{row_of, Fails}
use Rattle.ssb_text.specs.Tables.{in_row, IsFirstFault, IsReadFault, SpellsRow, SpellsRows}
use Rattle.ssb_text.specs.declared.error.LineFault.{LineFault}
use Rattle.ssb_text.specs.declared.error.LineFault.TheVariants as fault
use Rattle.ssb_text.specs.declared.error.LoadError.{LoadError}
use Rattle.ssb_text.specs.declared.error.LoadError.TheVariants as errors

-- the records that a reader has given of a text spell these rows
pub record HasRead {R : Type 0} (remaining : R → Option (List ℕ)) (t : Table) (text : List ℕ) (reader : Reader R)
    (rows : List (List Value)) : Type 0 where
  pub records : List (List (List ℕ))
  pub given : HasGiven remaining text reader records
  pub spelled : AllZip (SpellsRow t) records rows

-- the same, of whatever text is known
abbrev pub HasReadKnown : {R : Type 0} → (R → Option (List ℕ)) → Table → Option (List ℕ) → Reader R → List (List Value)
    → Type 0
HasReadKnown remaining t known reader rows = (text : List ℕ) → known ≡ Some text → HasRead remaining t text reader rows

-- what is so of a text wherever it is known
pub if_known : (known : Option (List ℕ)) (P : List ℕ → Type 0) → ((text : List ℕ) → known ≡ Some text → P text)
    → IfSome known P
if_known None P h = tt
if_known (Some text) P h = h text refl

-- a pair more at the ends
pub AllZip-push : {A B : Type 0} (P : A → B → Type 0) (xs : List A) (ys : List B) (x : A) (y : B) → AllZip P xs ys → P x y
    → AllZip P (xs ++ x ∷ []) (ys ++ y ∷ [])
AllZip-push P [] [] x y all here = (here, tt)
AllZip-push P [] (b ∷ ys) x y all here = absurd all
AllZip-push P (a ∷ xs) [] x y all here = absurd all
AllZip-push P (a ∷ xs) (b ∷ ys) x y all here = (all.0, AllZip-push P xs ys x y all.1 here)

pub length-AllZip : {A B : Type 0} (P : A → B → Type 0) (xs : List A) (ys : List B) → AllZip P xs ys → length xs ≡ length ys
length-AllZip P [] [] all = refl
length-AllZip P [] (b ∷ ys) all = absurd all
length-AllZip P (a ∷ xs) [] all = absurd all
length-AllZip P (a ∷ xs) (b ∷ ys) all = ap suc (length-AllZip P xs ys all.1)

-- at the start nothing was read
pub read_nothing : {R : Type 0} (remaining : R → Option (List ℕ)) (t : Table) (text : List ℕ) (reader : Reader R)
    → HasGiven remaining text reader [] → HasRead remaining t text reader []
read_nothing remaining t text reader given = record { records = []; given = given; spelled = tt }

-- one more record was read, and it spells a row
pub read_more : {R : Type 0} (remaining : R → Option (List ℕ)) (t : Table) (text : List ℕ) (old new : Reader R)
    (rows : List (List Value)) (fields : List (List ℕ)) (row : List Value)
    → HasRead remaining t text old rows → GivesNext remaining old new true fields → row_of t fields ≡ Ok row
    → HasRead remaining t text new (rows ++ row ∷ [])
read_more remaining t text old new rows fields row so_far next spells = record {
  records = so_far.records ++ fields ∷ [];
  given = next text so_far.records so_far.given;
  spelled = AllZip-push (SpellsRow t) so_far.records rows fields row so_far.spelled spells;
}

-- there was no more record, so that the text spells the rows
pub read_all : {R : Type 0} (remaining : R → Option (List ℕ)) (t : Table) (limit : ℕ) (known : Option (List ℕ))
    (old new : Reader R) (rows : List (List Value))
    → HasReadKnown remaining t known old rows → GivesNext remaining old new false [] → length rows ≤ limit
    → IfSome known (λ text. SpellsRows t limit text rows)
read_all remaining t limit known old new rows so_far next few =
    if_known known (λ text. SpellsRows t limit text rows) (λ text is.
    let read = so_far text is in
    record {
      records = read.records;
      all = next text read.records read.given;
      spelled = read.spelled;
      few = omega (arith, few, length-AllZip (SpellsRow t) read.records rows read.spelled);
    })

-- records that spell rows, and then one with a fault
first_fault : {R : Type 0} (remaining : R → Option (List ℕ)) (t : Table) (limit : ℕ) (text : List ℕ)
    (old new : Reader R) (rows : List (List Value)) (fields : List (List ℕ)) (e : LoadError)
    → HasRead remaining t text old rows → GivesNext remaining old new true fields
    → ((length rows + 1 ≤ limit) × (why : LineFault) × (row_of t fields ≡ Err why)
    × (e ≡ in_row t (length rows + 1) why)) ⊎ ((length rows + 1 ≡ limit + 1)
    × (e ≡ errors.Row t (length rows + 1) (schema.TooManyRows t)))
    → IsFirstFault t limit text e
first_fault remaining t limit text old new rows fields e so_far next bad =
    let given = next text so_far.records so_far.given in
    let count : length so_far.records ≡ length rows = length-AllZip (SpellsRow t) so_far.records rows so_far.spelled in
    record {
      before = so_far.records;
      fields = fields;
      begins = (_, given.unread, given.reached);
      rows = rows;
      spelled = so_far.spelled;
      has_fault = rw count (elim bad [ inl row ↦ inr row | inr many ↦ inl many ]);
    }

-- what the fault of a row says, unless memory ran out
pub fault_in_row : {R : Type 0} (remaining : R → Option (List ℕ)) (t : Table) (limit : ℕ) (known : Option (List ℕ))
    (old new : Reader R) (rows : List (List Value)) (fields : List (List ℕ)) (why : LineFault)
    → HasReadKnown remaining t known old rows → GivesNext remaining old new true fields → length rows + 1 ≤ limit
    → Fails why (row_of t fields)
    → IsReadFault t (in_row t (length rows + 1) why) ⊎ IfSome known
    (λ text. IsFirstFault t limit text (in_row t (length rows + 1) why))
fault_in_row {R} remaining t limit known old new rows fields why so_far next few bad = by why bad
  where
    first : (why : LineFault) → row_of t fields ≡ Err why
        → IfSome known (λ text. IsFirstFault t limit text (in_row t (length rows + 1) why))
    first why is = if_known known (λ text. IsFirstFault t limit text (in_row t (length rows + 1) why)) (λ text same.
        first_fault remaining t limit text old new rows fields (in_row t (length rows + 1) why) (so_far text same) next
        (inl (few, why, is, refl)))

    by : (why : LineFault) → Fails why (row_of t fields) → IsReadFault t (in_row t (length rows + 1) why)
        ⊎ IfSome known (λ text. IsFirstFault t limit text (in_row t (length rows + 1) why))
    by fault.OutOfMemory is = inl tt
    by fault.FieldCount is = inr (first fault.FieldCount is)
    by (fault.NotUtf8 column) is = inr (first (fault.NotUtf8 column) is)
    by (fault.NotANumber column) is = inr (first (fault.NotANumber column) is)
    by (fault.Refused refused) is = inr (first (fault.Refused refused) is)

-- one record more than the limit is the first fault
pub too_many : {R : Type 0} (remaining : R → Option (List ℕ)) (t : Table) (limit : ℕ) (known : Option (List ℕ))
    (old new : Reader R) (rows : List (List Value)) (fields : List (List ℕ))
    → HasReadKnown remaining t known old rows → GivesNext remaining old new true fields → length rows ≡ limit
    → IfSome known (λ text. IsFirstFault t limit text (errors.Row t (limit + 1) (schema.TooManyRows t)))
too_many remaining t limit known old new rows fields so_far next full =
    if_known known (λ text. IsFirstFault t limit text (errors.Row t (limit + 1) (schema.TooManyRows t))) (λ text same.
    first_fault remaining t limit text old new rows fields (errors.Row t (limit + 1) (schema.TooManyRows t))
    (so_far text same) next (inr (omega (arith, full), rw full refl)))
