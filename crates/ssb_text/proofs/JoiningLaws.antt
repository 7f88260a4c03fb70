-- What the lines of a block say of the text before it, with it and behind it.
use Rattle.std.proofs.Common.{◌≡◌, ◌<◌, ◌≤◌, ◌+◌, ℕ, zero, suc, List, [], ◌∷◌, ◌++◌, append-nil, append_assoc, length}
use Rattle.std.proofs.Common.{take, drop, get_or, Option, Some, None, refl, sym, ap, ◌∙◌, ◌⊎◌, inr, arith}
use Rattle.std.specs.List.{AllZip}
use Rattle.std.proofs.lemmas.List.{length-take-le, take-append-drop, take_more}
use Rattle.rayon.proofs.ListFacts.{AllZip-append}
use Rattle.ssb_schema.specs.Columns.{Value}
use Rattle.ssb_schema.specs.declared.table.Table.TheVariants as table
use Rattle.ssb_schema.specs.declared.fault.SchemaFault.TheVariants as schema
use Rattle.ssb_text.specs.Records.{BeginsWith, HasRecords}
use Rattle.ssb_text.specs.Blocks.{AreCut, Follows, joined}
use Rattle.ssb_text.proofs.BlockLaws.{follows_block, line_follows}
use Rattle.ssb_text.proofs.RecordLaws.{BeginsWith-first, HasRecords-begins, begins-append, begins-longer}
use Rattle.ssb_text.proofs.RecordLaws.{records-append}
use Rattle.ssb_text.specs.Row.{Fails, row_of}
use Rattle.ssb_text.specs.Tables.{IsFirstFault, IsReadFault, SpellsRow, in_row}
use Rattle.ssb_text.specs.declared.error.LineFault.{LineFault}
use Rattle.ssb_text.specs.declared.error.LineFault.TheVariants as fault
use Rattle.ssb_text.specs.declared.error.LoadError.{LoadError}
use Rattle.ssb_text.specs.declared.error.LoadError.TheVariants as errors
use Rattle.ssb_text.specs.Joining.{Joins, Stops}
use Rattle.ssb_text.specs.Lines.{SpellsAll, SpellsUntil, StopsAt}
use Rattle.ssb_text.proofs.ReadingLaws.{length-AllZip}

abbrev SpellRows : List (List (List ℕ)) → List (List Value) → Type 0
SpellRows records rows = AllZip (SpellsRow table.Lineorder) records rows

AllZip-take : {A B : Type 0} (P : A → B → Type 0) (n : ℕ) (xs : List A) (ys : List B) → AllZip P xs ys
    → AllZip P (take n xs) (take n ys)
AllZip-take P zero xs ys all = tt
AllZip-take P (suc n) [] [] all = tt
AllZip-take P (suc n) [] (b ∷ ys) all = absurd all
AllZip-take P (suc n) (a ∷ xs) [] all = absurd all
AllZip-take P (suc n) (a ∷ xs) (b ∷ ys) all = (all.0, AllZip-take P n xs ys all.1)

-- the lines of a text and of a block behind it
pub spells_more : (done block : List ℕ) (old more : List (List Value)) → Follows done block → SpellsAll done old
    → SpellsAll block more → SpellsAll (done ++ block) (old ++ more)
spells_more done block old more follows first last = record {
  records = first.records ++ last.records;
  all = records-append done block first.records last.records follows first.all last.all;
  spelled = AllZip-append (SpellsRow table.Lineorder) first.records last.records old more first.spelled last.spelled;
}

-- the first records of a text spell these lines
abbrev Begun : List ℕ → List (List Value) → Type 0
Begun text rows = (records : List (List (List ℕ))) × BeginsWith text records × SpellRows records rows

pub begun_until : (text : List ℕ) (rows : List (List Value)) (o : Option LineFault) → SpellsUntil text rows o
    → Begun text rows
begun_until text rows None is = (is.records, HasRecords-begins text is.records is.all, is.spelled)
begun_until text rows (Some why) is =
    (is.records, BeginsWith-first text is.records (is.fields ∷ []) is.begins, is.spelled)

-- one record more than the limit
too_many_at : (limit : ℕ) (text : List ℕ) (before : List (List (List ℕ))) (fields : List (List ℕ))
    (rows : List (List Value))
    → BeginsWith text (before ++ fields ∷ []) → SpellRows before rows → length before ≡ limit
    → IsFirstFault table.Lineorder limit text (errors.Row table.Lineorder (limit + 1) (schema.TooManyRows table.Lineorder))
too_many_at limit text before fields rows begins spelled full = grind arith

too_many_of : (limit : ℕ) (text : List ℕ) (records : List (List (List ℕ))) (rows : List (List Value))
    → BeginsWith text records → SpellRows records rows → limit < length records
    → IsFirstFault table.Lineorder limit text (errors.Row table.Lineorder (limit + 1) (schema.TooManyRows table.Lineorder))
too_many_of limit text records rows begins spelled many =
    let whole : BeginsWith text (take (limit + 1) records ++ drop (limit + 1) records) =
    rw (take-append-drop (limit + 1) records) begins in
    let first : BeginsWith text (take limit records ++ get_or records limit [] ∷ []) =
    rw (← take_more records limit [] many)
    (BeginsWith-first text (take (limit + 1) records) (drop (limit + 1) records) whole) in
    too_many_at limit text (take limit records) (get_or records limit []) (take limit rows) first
    (AllZip-take (SpellsRow table.Lineorder) limit records rows spelled) (length-take-le limit records (omega arith))

-- the records of a text and the first ones of a block behind it, whatever stands behind the block
begins_in : (done block rest : List ℕ) (rs ss : List (List (List ℕ))) → Follows done block
    → Follows (done ++ block) rest → HasRecords done rs → BeginsWith block ss
    → BeginsWith (done ++ (block ++ rest)) (rs ++ ss)
begins_in done block rest rs ss follows behind first last =
    rw (← append_assoc done block rest) (begins-longer (done ++ block) rest (rs ++ ss) behind
    (begins-append done block rs ss follows first last))

-- the one block of which something was parsed
one_block : {X : Type 0} (R : List ℕ → X → Type 0) (x : X) (blocks : List (List ℕ)) → AllZip R blocks (x ∷ [])
    → (block : List ℕ) × (blocks ≡ block ∷ []) × R block x
one_block R x [] zipped = absurd zipped
one_block R x (b ∷ []) zipped = (b, refl, zipped.0)
one_block R x (b ∷ c ∷ bs) zipped = absurd zipped.1

-- the same, with what is known of the text before it and behind it
abbrev pub OneBlock : {X : Type 0} → (List ℕ → X → Type 0) → X → List ℕ → List ℕ → List (List ℕ) → Type 0
OneBlock R x done rest blocks = (block : List ℕ) × (joined blocks ≡ block) × R block x × Follows done block
    × Follows (done ++ block) rest

in_text : {X : Type 0} (R : List ℕ → X → Type 0) (x : X) (done rest : List ℕ) (blocks : List (List ℕ))
    → Follows done (joined blocks ++ rest) → AreCut blocks rest → AllZip R blocks (x ∷ [])
    → OneBlock R x done rest blocks
in_text R x done rest blocks follows cut zipped = grind (arith, one_block, append-nil, follows_block, line_follows)

pub joins_one : {X : Type 0} (R : List ℕ → X → Type 0) (x : X) (old more : List (List Value))
    → ((block : List ℕ) → R block x → SpellsAll block more) → Joins R (x ∷ []) old (old ++ more)
joins_one R x old more is done rest blocks follows cut zipped spelled = grind (arith, in_text, spells_more)

pub stops_many : {X : Type 0} (R : List ℕ → X → Type 0) (x : X) (limit : ℕ) (old more : List (List Value))
    → ((block : List ℕ) → R block x → Begun block more) → limit < length (old ++ more)
    → Stops R (x ∷ []) limit old (errors.Row table.Lineorder (limit + 1) (schema.TooManyRows table.Lineorder))
stops_many R x limit old more is many done rest blocks follows cut zipped spelled =
    let one = in_text R x done rest blocks follows cut zipped in
    let begun = is one.0 one.2 in
    let records = spelled.records ++ begun.0 in
    let all : SpellRows records (old ++ more) =
    AllZip-append (SpellsRow table.Lineorder) spelled.records begun.0 old more spelled.spelled begun.2 in
    let over : limit < length records =
    omega (arith, many, length-AllZip (SpellsRow table.Lineorder) records (old ++ more) all) in
    rw one.1 (inr (too_many_of limit (done ++ (one.0 ++ rest)) records (old ++ more)
    (begins_in done one.0 rest spelled.records begun.0 one.3 one.4 spelled.all begun.1) all over))

-- the first records of the text, up to one with a fault
record Stopped (text : List ℕ) (rows : List (List Value)) (why : LineFault) : Type 0 where
  records : List (List (List ℕ))
  fields : List (List ℕ)
  begins : BeginsWith text (records ++ fields ∷ [])
  spelled : SpellRows records rows
  fails : Fails why (row_of table.Lineorder fields)

stopped : (done block rest : List ℕ) (old more : List (List Value)) (why : LineFault) → Follows done block
    → Follows (done ++ block) rest → SpellsAll done old → StopsAt block more why
    → Stopped (done ++ (block ++ rest)) (old ++ more) why
stopped done block rest old more why follows behind first last = record {
  records = first.records ++ last.records;
  fields = last.fields;
  begins = rw (append_assoc first.records last.records (last.fields ∷ [])) (begins_in done block rest first.records
      (last.records ++ last.fields ∷ []) follows behind first.all last.begins);
  spelled = AllZip-append (SpellsRow table.Lineorder) first.records last.records old more first.spelled last.spelled;
  fails = last.fails;
}

pub stops_at_limit : {X : Type 0} (R : List ℕ → X → Type 0) (x : X) (limit : ℕ) (old more : List (List Value))
    (why : LineFault)
    → ((block : List ℕ) → R block x → StopsAt block more why) → length (old ++ more) ≡ limit
    → Stops R (x ∷ []) limit old (errors.Row table.Lineorder (limit + 1) (schema.TooManyRows table.Lineorder))
stops_at_limit R x limit old more why is full done rest blocks follows cut zipped spelled =
    let one = in_text R x done rest blocks follows cut zipped in
    let all = stopped done one.0 rest old more why one.3 one.4 spelled (is one.0 one.2) in
    let count : length all.records ≡ limit =
    length-AllZip (SpellsRow table.Lineorder) all.records (old ++ more) all.spelled ∙ full in
    rw one.1 (inr (too_many_at limit (done ++ (one.0 ++ rest)) all.records all.fields (old ++ more) all.begins
    all.spelled count))

-- the fault of a row, unless memory ran out
row_fault_first : (limit : ℕ) (text : List ℕ) (rows : List (List Value)) (why : LineFault) → length rows + 1 ≤ limit
    → Stopped text rows why
    → IsReadFault table.Lineorder (in_row table.Lineorder (length rows + 1) why)
    ⊎ IsFirstFault table.Lineorder limit text (in_row table.Lineorder (length rows + 1) why)
row_fault_first limit text rows why few all = grind (arith, length-AllZip)

pub stops_in_row : {X : Type 0} (R : List ℕ → X → Type 0) (x : X) (limit : ℕ) (old more : List (List Value))
    (why : LineFault)
    → ((block : List ℕ) → R block x → StopsAt block more why) → length (old ++ more) + 1 ≤ limit
    → Stops R (x ∷ []) limit old (in_row table.Lineorder (length (old ++ more) + 1) why)
stops_in_row R x limit old more why is few done rest blocks follows cut zipped spelled = grind (arith, in_text, stopped, row_fault_first)

same_behind : (b bs rest : List ℕ) → (b ++ bs) ++ rest ≡ (b ++ []) ++ (bs ++ rest)
same_behind b bs rest = append_assoc b bs rest ∙ ap (λ (front : List ℕ). front ++ (bs ++ rest)) (sym (append-nil b))

-- nothing was parsed of no block
pub joins_none : {X : Type 0} (R : List ℕ → X → Type 0) (old : List (List Value)) → Joins R [] old old
joins_none R old done rest [] follows cut zipped spelled = rw (append-nil done) spelled
joins_none R old done rest (b ∷ bs) follows cut zipped spelled = absurd zipped

-- a block, and then the ones behind it
pub joins_more : {X : Type 0} (R : List ℕ → X → Type 0) (x : X) (xs : List X) (old mid new : List (List Value))
    → Joins R (x ∷ []) old mid → Joins R xs mid new → Joins R (x ∷ xs) old new
joins_more R x xs old mid new first later done rest [] follows cut zipped spelled = absurd zipped
joins_more R x xs old mid new first later done rest (b ∷ bs) follows cut zipped spelled =
    let near : Follows done ((b ++ []) ++ (joined bs ++ rest)) = rw (← same_behind b (joined bs) rest) follows in
    let one : SpellsAll (done ++ (b ++ [])) mid =
    first done (joined bs ++ rest) (b ∷ []) near (cut.0, tt) (zipped.0, tt) spelled in
    let here : SpellsAll (done ++ b) mid = rw (append-nil b) at one in
    rw (← append_assoc done b (joined bs)) (later (done ++ b) rest bs
    (line_follows (done ++ b) (joined bs ++ rest) cut.0) cut.1 zipped.1 here)

pub stops_later : {X : Type 0} (R : List ℕ → X → Type 0) (x : X) (xs : List X) (limit : ℕ) (old mid : List (List Value))
    (e : LoadError)
    → Joins R (x ∷ []) old mid → Stops R xs limit mid e → Stops R (x ∷ xs) limit old e
stops_later R x xs limit old mid e first later done rest [] follows cut zipped spelled = absurd zipped
stops_later R x xs limit old mid e first later done rest (b ∷ bs) follows cut zipped spelled =
    let near : Follows done ((b ++ []) ++ (joined bs ++ rest)) = rw (← same_behind b (joined bs) rest) follows in
    let one : SpellsAll (done ++ (b ++ [])) mid =
    first done (joined bs ++ rest) (b ∷ []) near (cut.0, tt) (zipped.0, tt) spelled in
    let here : SpellsAll (done ++ b) mid = rw (append-nil b) at one in
    let text : done ++ ((b ++ joined bs) ++ rest) ≡ (done ++ b) ++ (joined bs ++ rest) =
    ap (λ (behind : List ℕ). done ++ behind) (append_assoc b (joined bs) rest)
    ∙ sym (append_assoc done b (joined bs ++ rest)) in
    rw text (later (done ++ b) rest bs (line_follows (done ++ b) (joined bs ++ rest) cut.0) cut.1 zipped.1 here)

pub stops_now : {X : Type 0} (R : List ℕ → X → Type 0) (x : X) (xs : List X) (limit : ℕ) (old : List (List Value))
    (e : LoadError) → Stops R (x ∷ []) limit old e → Stops R (x ∷ xs) limit old e
stops_now R x xs limit old e first done rest [] follows cut zipped spelled = absurd zipped
stops_now R x xs limit old e first done rest (b ∷ bs) follows cut zipped spelled =
    let near : Follows done ((b ++ []) ++ (joined bs ++ rest)) = rw (← same_behind b (joined bs) rest) follows in
    rw (same_behind b (joined bs) rest)
    (first done (joined bs ++ rest) (b ∷ []) near (cut.0, tt) (zipped.0, tt) spelled)

-- the same of a block, known by another fact
zipped_as : {X Y : Type 0} (R : List ℕ → X → Type 0) (S : List ℕ → Y → Type 0) (x : X) (y : Y)
    → ((block : List ℕ) → S block y → R block x) → (blocks : List (List ℕ)) → AllZip S blocks (y ∷ [])
    → AllZip R blocks (x ∷ [])
zipped_as R S x y means [] zipped = absurd zipped
zipped_as R S x y means (b ∷ []) zipped = (means b zipped.0, tt)
zipped_as R S x y means (b ∷ c ∷ bs) zipped = absurd zipped.1

pub joins_as : {X Y : Type 0} (R : List ℕ → X → Type 0) (S : List ℕ → Y → Type 0) (x : X) (y : Y)
    (old new : List (List Value)) → ((block : List ℕ) → S block y → R block x) → Joins R (x ∷ []) old new
    → Joins S (y ∷ []) old new
joins_as R S x y old new means joins done rest blocks follows cut zipped spelled = grind (arith, zipped_as)

pub stops_as : {X Y : Type 0} (R : List ℕ → X → Type 0) (S : List ℕ → Y → Type 0) (x : X) (y : Y)
    (limit : ℕ) (old : List (List Value)) (e : LoadError) → ((block : List ℕ) → S block y → R block x)
    → Stops R (x ∷ []) limit old e → Stops S (y ∷ []) limit old e
stops_as R S x y limit old e means stops done rest blocks follows cut zipped spelled = grind (arith, zipped_as)

pub no_items : {X : Type 0} (xs : List X) → length xs ≡ 0 → xs ≡ []
no_items [] none = refl
no_items (x ∷ xs) none = absurd (omega (arith, none))
