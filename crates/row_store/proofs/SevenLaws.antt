-- Lines of one key with distinct numbers from 1 to 7 are at most seven.
use Rattle.std.proofs.Common.{◌≡◌, ℕ, suc, ◌+◌, ◌<◌, ◌≤◌, Bool, true, false, cond, ◌&&◌, ◌||◌, eqb, ne_eqb, List, []}
use Rattle.std.proofs.Common.{◌∷◌, length, map, take, get_or, All, slice_get, Some, sym, refl, subst, arith}
use Rattle.std.specs.List.{IsDistinct, AllByRecursion, list_any}
use Rattle.std.proofs.lemmas.Bool.{eqb-true}
use Rattle.std.proofs.lemmas.Bool.Decides.{nat_tests}
use Rattle.std.proofs.lemmas.List.{length-map, take_more}
use Rattle.std.proofs.lemmas.List.Elements.{All-head, All-tail, All-cons, All-append}
use Rattle.std.proofs.lemmas.Map.Steps.{length-le_from_distinct_below}
use Rattle.ssb_schema.specs.declared.line.LineFields.{LineFields}
use Rattle.ssb_base.specs.Base.{is_same_line}
use Rattle.ssb_schema.specs.FirstFault.{AreDistinct}
use Rattle.ssb_schema.specs.Rows.{IsWithinLimits}
use Rattle.row_store.specs.Lines.{is_of, lines_of}

abbrev number : LineFields → ℕ
number line = line.line_number

abbrev numbers : ℕ → List LineFields → List ℕ
numbers key lines = map number (lines_of key lines)

-- a line is not the same as one of these
abbrev IsApart : LineFields → List LineFields → Type 0
IsApart line lines = (j : ℕ) (later : LineFields) → slice_get lines j ≡ Some later → is_same_line line later ≡ false

other_number : (a b : Bool) → (a && b) ≡ false → a ≡ true → b ≡ false
other_number true b e t = e
other_number false b e t = absurd (cc)

apart_numbers : (key : ℕ) (line : LineFields) (lines : List LineFields) → line.order_key ≡ key → IsApart line lines
    → AllByRecursion (λ n. eqb (number line) n ≡ false) (numbers key lines)
apart_numbers key line [] same apart = tt
apart_numbers key line (other ∷ lines) same apart =
    let rest = apart_numbers key line lines same (λ j later there. apart (suc j) later there) in
    let step : (b : Bool) → is_of key other ≡ b → AllByRecursion (λ n. eqb (number line) n ≡ false)
    (map number (cond b (other ∷ lines_of key lines) (lines_of key lines))) =
    elim [
      | true ↦ λ is.
          let alike : eqb line.order_key other.order_key ≡ true = let k = eqb-true other.order_key key is in
          grind (arith, nat_tests) in
          (other_number _ _ (apart 0 other refl) alike, rest)
      | false ↦ λ is. rest
    ] in
    step (is_of key other) refl

distinct_numbers : (key : ℕ) (lines : List LineFields) → AreDistinct is_same_line lines
    → IsDistinct eqb (numbers key lines)
unfolding IsDistinct
distinct_numbers key [] apart = tt
distinct_numbers key (line ∷ lines) apart =
    let rest = distinct_numbers key lines (λ i j earlier later h one other. apart (suc i) (suc j) earlier later
    (omega (arith, h)) one other) in
    let step : (b : Bool) → is_of key line ≡ b → IsDistinct eqb
    (map number (cond b (line ∷ lines_of key lines) (lines_of key lines))) =
    elim [
      | true ↦ λ is. (
        apart_numbers key line lines (eqb-true line.order_key key is)
            (λ j later there. apart 0 (suc j) line later (omega arith) refl there),
        rest,
      )
      | false ↦ λ is. rest
    ] in
    step (is_of key line) refl

-- no number is 0, and each is below 8
some_numbers : (key : ℕ) (lines : List LineFields) → All IsWithinLimits lines
    → AllByRecursion (λ n. eqb 0 n ≡ false) (numbers key lines)
some_numbers key [] within = tt
some_numbers key (line ∷ lines) within =
    let rest = some_numbers key lines (All-tail IsWithinLimits line lines within) in
    let first = (All-head IsWithinLimits line lines within).line_number.0 in
    let step : (b : Bool) → AllByRecursion (λ n. eqb 0 n ≡ false)
    (map number (cond b (line ∷ lines_of key lines) (lines_of key lines))) =
    elim [
      | true ↦ (ne_eqb 0 line.line_number (λ e. omega (arith, e, first)), rest)
      | false ↦ rest
    ] in
    step (is_of key line)

numbers_below : (key : ℕ) (lines : List LineFields) → All IsWithinLimits lines → (q : ℕ)
    → list_any (eqb q) (numbers key lines) ≡ true → q < 8
numbers_below key [] within q = λ found. absurd (cc)
numbers_below key (line ∷ lines) within q =
    let rest = numbers_below key lines (All-tail IsWithinLimits line lines within) q in
    let last = (All-head IsWithinLimits line lines within).line_number.1 in
    let here : (b : Bool) → eqb q line.line_number ≡ b → (b || list_any (eqb q) (numbers key lines)) ≡ true → q < 8 =
    elim [
      | true ↦ λ is found. let e = eqb-true q line.line_number is in omega (arith, e, last)
      | false ↦ λ is found. rest found
    ] in
    let step : (b : Bool) → list_any (eqb q) (map number (cond b (line ∷ lines_of key lines) (lines_of key lines)))
    ≡ true → q < 8 =
    elim [
      | true ↦ here (eqb q line.line_number) refl
      | false ↦ rest
    ] in
    step (is_of key line)

pub at_most_seven : (lines : List LineFields) → AreDistinct is_same_line lines → All IsWithinLimits lines → (key : ℕ)
    → length (lines_of key lines) ≤ 7
unfolding IsDistinct
at_most_seven lines apart within key =
    let below : (q : ℕ) → list_any (eqb q) (0 ∷ numbers key lines) ≡ true → q < 8 =
    λ q. elim (eqb q 0) as (λ b. eqb q 0 ≡ b → (b || list_any (eqb q) (numbers key lines)) ≡ true → q < 8) [
      | true ↦ λ is found. let e = eqb-true q 0 is in omega (arith, e)
      | false ↦ λ is found. numbers_below key lines within q found
    ] refl in
    let count = length-le_from_distinct_below (0 ∷ numbers key lines) 8
    (some_numbers key lines within, distinct_numbers key lines apart) below in
    omega (arith, count, length-map (lines_of key lines) number)

-- one line more is within its limits
pub within_more : (lines : List LineFields) (i : ℕ) (line : LineFields) → i < length lines → line ≡ get_or lines i line
    → IsWithinLimits line → All IsWithinLimits (take i lines) → All IsWithinLimits (take (i + 1) lines)
within_more lines i line here is within before =
    subst (All IsWithinLimits) (sym (take_more lines i line here))
    (All-append IsWithinLimits (take i lines) (get_or lines i line ∷ []) before
    (All-cons IsWithinLimits (get_or lines i line) [] (subst IsWithinLimits is within)
    (λ k d none. absurd (omega (arith, none)))))
