-- The values of rows that pass tests, one row more, and how many of them are distinct.
use Rattle.std.proofs.Common.{◌≡◌, ◌∙◌, ℕ, ◌+◌, ◌*◌, ◌<◌, ◌≤◌, Bool, true, false, cond, List, [], ◌∷◌, ◌++◌, length}
use Rattle.std.proofs.Common.{map, filter, take, get_or, sym, ap, arith}
use Rattle.std.proofs.Math.Nat.{min-le_right}
use Rattle.std.proofs.lemmas.List.{length-map, length-take, map-append, take_more}
use Rattle.std.proofs.lemmas.List.Elements.{filter-append}
use Rattle.std.proofs.lemmas.List.Sums.{length-filter, count_by-le-length}
use Rattle.dimension_index.specs.Codes.{distinct}
use Rattle.shared_scan.proofs.DistinctLaws.{distinct_few}
use Rattle.scan_kernel.specs.Groups.{size_of}
use Rattle.shared_scan.specs.GroupCounts.{values_passing}
use Rattle.ssb_answers.specs.RowValues.{pass}
use Rattle.ssb_questions.specs.declared.cond.Test.{Test}
use Rattle.ssb_questions.specs.declared.value.Value.{Value}

module _ {F : Type 0} (tests : List Test) (value_of : ℕ → F → Value) where
  abbrev passes : F → Bool
  passes row = pass tests (λ place. value_of place row)

  -- of one row there is its value, where it passes
  pub one_taken : (row : F) (place : ℕ) → true ≡ passes row
      → value_of place row ∷ [] ≡ values_passing tests value_of (row ∷ []) place
  one_taken row place passed = ap (λ (b : Bool). map (value_of place) (cond b (row ∷ []) [])) passed

  pub none_taken : (row : F) (place : ℕ) → false ≡ passes row → [] ≡ values_passing tests value_of (row ∷ []) place
  none_taken row place failed = ap (λ (b : Bool). map (value_of place) (cond b (row ∷ []) [])) failed

  -- one row more
  pub values_more : (rows : List F) (i : ℕ) (row : F) (place : ℕ) → i < length rows → row ≡ get_or rows i row
      → values_passing tests value_of (take i rows) place ++ values_passing tests value_of (row ∷ []) place
      ≡ values_passing tests value_of (take (i + 1) rows) place
  values_more rows i row place lt is = sym (
      ap (λ (rs : List F). values_passing tests value_of rs place)
      (take_more rows i row lt ∙ ap (λ (r : F). take i rows ++ r ∷ []) (sym is))
      ∙ ap (map (value_of place)) (filter-append passes (take i rows) (row ∷ []))
      ∙ map-append (value_of place) (filter passes (take i rows)) (filter passes (row ∷ [])))

  -- no more distinct values than rows
  pub values_few : (rows : List F) (place : ℕ)
      → length (distinct (values_passing tests value_of rows place)) ≤ length rows
  values_few rows place = omega (
    arith,
    distinct_few (values_passing tests value_of rows place),
    length-map (filter passes rows) (value_of place),
    length-filter passes rows,
    count_by-le-length passes rows,
  )

  -- nor than there are rows of which some were looked at
  pub known_few : (known : List Value) (rows : List F) (i place : ℕ)
      → known ≡ distinct (values_passing tests value_of (take i rows) place) → length known ≤ length rows
  known_few known rows i place are = omega (
    arith,
    ap (λ (values : List Value). length values) are,
    values_few (take i rows) place,
    length-take i rows,
    min-le_right i (length rows),
  )

-- one number more
pub size_more : (ns : List ℕ) (n : ℕ) → size_of (ns ++ n ∷ []) ≡ size_of ns * n
size_more [] n = omega arith
size_more (m ∷ ns) n = ap (λ (p : ℕ). m * p) (size_more ns n) ∙ grind arith
