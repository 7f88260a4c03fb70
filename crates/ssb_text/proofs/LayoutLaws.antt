-- What bars in the place of delimiters are to known bytes.
use Rattle.std.proofs.Common.{◌≡◌, ◌∙◌, ◌++◌, ◌<◌, ◌≤◌, ℕ, Bool, true, false, List, [], ◌∷◌, take, drop, length}
use Rattle.std.proofs.Common.{Option, Some, None, refl, sym, ap, subst, arith}
use Rattle.std.proofs.lemmas.Bool.{eqb-true}
use Rattle.std.proofs.lemmas.List.{length-append, length-drop, length-map, length-take-le, map-append, take_at}
use Rattle.std.specs.Prelude.{◌==◌, if◌then◌else◌, option_map}
use Rattle.std.specs.Io.KnownBytes.{Consumes, IsAtEnd, Keeps}
use Rattle.ssb_schema.specs.Columns.{kinds_of}
use Rattle.ssb_schema.specs.declared.table.Table.{Table}
use Rattle.ssb_text.specs.Layouts.{AreBelow, HasHeads, IsRowsText, as_bar, benchmark_layout, with_bars}
use Rattle.ssb_text.specs.declared.layout.Delimiter.{Delimiter}
use Rattle.ssb_text.specs.declared.layout.TableLayout.{TableLayout}
use Rattle.ssb_text.proofs.HeadsLaws.{one_rows}

either_way : (is : Bool) (a b : ℕ) → (is ≡ true → a ≡ b) → (if is then a else b) ≡ b
either_way true a b same = same refl
either_way false a b same = refl

-- where bars part fields, each byte stays
bar_kept : (delimiter : Delimiter) (b : ℕ) → delimiter.byte ≡ 124 → as_bar delimiter b ≡ b
bar_kept delimiter b bar = either_way (b == delimiter.byte) 124 b (λ is. sym (eqb-true b delimiter.byte is ∙ bar))

pub bars_kept : (delimiter : Delimiter) (bytes : List ℕ) → delimiter.byte ≡ 124 → bytes ≡ with_bars delimiter bytes
bars_kept delimiter [] bar = grind arith
bars_kept delimiter (b ∷ bytes) bar = grind (arith, bar_kept, bars_kept delimiter bytes bar)

-- what was read of known bytes, and what is left
pub barred_consumed : (delimiter : Delimiter) (old new : Option (List ℕ)) (bytes : List ℕ) → Consumes old new bytes
    → Consumes (option_map (with_bars delimiter) old) (option_map (with_bars delimiter) new) (with_bars delimiter bytes)
barred_consumed delimiter None new bytes consumed = grind arith
barred_consumed delimiter (Some all) None bytes consumed = grind arith
barred_consumed delimiter (Some all) (Some rest) bytes consumed = grind (arith, map-append)

pub barred_end : (delimiter : Delimiter) (known : Option (List ℕ)) → IsAtEnd known
    → IsAtEnd (option_map (with_bars delimiter) known)
barred_end delimiter None ended = tt
barred_end delimiter (Some all) ended = ap (with_bars delimiter) ended

pub barred_kept : (delimiter : Delimiter) (old new : Option (List ℕ)) → Keeps old new
    → Keeps (option_map (with_bars delimiter) old) (option_map (with_bars delimiter) new)
barred_kept delimiter None new kept = tt
barred_kept delimiter (Some all) None kept = absurd kept
barred_kept delimiter (Some all) (Some rest) kept = ap (with_bars delimiter) kept

-- the bytes of a read, of which the first were put bars in
pub front_barred : (delimiter : Delimiter) (bytes : List ℕ) (count : ℕ) → count ≤ length bytes
    → take count (with_bars delimiter (take count bytes) ++ drop count bytes) ≡ with_bars delimiter (take count bytes)
front_barred delimiter bytes count few = grind (arith, take_at, length-map, length-take-le)

-- what a read gave, with bars, was read of the bytes with bars
pub barred_read : (delimiter : Delimiter) (old new : Option (List ℕ)) (bytes : List ℕ) (count : ℕ)
    → count ≤ length bytes → Consumes old new (take count bytes) → (count ≡ 0 → 0 < length bytes → IsAtEnd new)
    → Consumes (option_map (with_bars delimiter) old) (option_map (with_bars delimiter) new)
    (take count (with_bars delimiter (take count bytes) ++ drop count bytes))
    × (count ≡ 0 → 0 < length (with_bars delimiter (take count bytes) ++ drop count bytes)
    → IsAtEnd (option_map (with_bars delimiter) new))
barred_read delimiter old new bytes count few consumed ended = grind (arith, length-append, length-map, length-take-le, length-drop, front_barred, barred_consumed, barred_end)

-- files as the benchmark's generator writes them have the texts of their rows
pub benchmark_rows : (t : Table) (known : Option (List ℕ)) (text : List ℕ) → known ≡ Some text
    → IsRowsText benchmark_layout t known text
benchmark_rows t known text is = grind (arith, bars_kept)

-- what stands below the heads is what was left when they were read
pub below_heads : (layout : TableLayout) (t : Table) (known left : Option (List ℕ)) (text : List ℕ)
    → layout.has_heads ≡ true
    → ((file : List ℕ) → known ≡ Some file → (rows : List ℕ) × (left ≡ Some rows)
    × HasHeads layout.delimiter (length (kinds_of t)) file rows)
    → IsRowsText layout t known text → option_map (with_bars layout.delimiter) left ≡ Some text
below_heads layout t known left text has read is =
    let here = read is.file is.is in
    let columns = length (kinds_of t) in
    let below : HasHeads layout.delimiter columns is.file is.rows =
    subst (λ (b : Bool). AreBelow b layout.delimiter columns is.file is.rows) has is.below in
    let same : here.0 ≡ is.rows = one_rows layout.delimiter columns is.file here.0 is.rows here.2 below in
    ap (option_map (with_bars layout.delimiter)) here.1
    ∙ ap Some (ap (with_bars layout.delimiter) same ∙ sym is.barred)

-- a file without heads has its rows from its beginning on
pub below_none : (layout : TableLayout) (t : Table) (known : Option (List ℕ)) (text : List ℕ)
    → layout.has_heads ≡ false → IsRowsText layout t known text
    → option_map (with_bars layout.delimiter) known ≡ Some text
below_none layout t known text none is = grind arith

-- where no line of heads is, there are no rows
pub no_rows : (layout : TableLayout) (t : Table) (known : Option (List ℕ)) → layout.has_heads ≡ true
    → ((file rows : List ℕ) → known ≡ Some file
    → HasHeads layout.delimiter (length (kinds_of t)) file rows → ⊥)
    → (text : List ℕ) → IsRowsText layout t known text → ⊥
no_rows layout t known has none text is = grind arith
