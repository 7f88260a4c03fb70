-- Numbers of groups: mixed radix.
use Rattle.std.proofs.Common.{ℕ, zero, suc, ◌≡◌, ◌+◌, ◌*◌, ◌/◌, ◌%◌, ◌<◌, List, [], ◌∷◌, map, get_or, sym, refl, ap}
use Rattle.std.proofs.Common.{◌∙◌, subst, arith, zero-add}
use Rattle.std.proofs.Math.Nat.{add-mul-mod_self_left, add-mul-div_left, mod-eq_of_lt, div-eq_of_lt, mod-add-div}
use Rattle.std.proofs.Math.Nat.{mod-lt, div-lt_iff_lt-mul, mul_comm, mul_assoc, one-mul, mul-add, mul-zero, zero-mul}
use Rattle.std.proofs.lemmas.Nat.{mul-add-lt}
use Rattle.std.specs.List.{AllByRecursion}
use Rattle.ssb_questions.specs.declared.value.Value.{Value}
use Rattle.ssb_questions.specs.declared.value.Value.TheVariants.{Number}
use Rattle.std.proofs.lemmas.Option.{slice_get_within, get_or_from_slice_get}
use Rattle.ssb_schema.specs.declared.column.Column.{Column}
use Rattle.ssb_answers.specs.Combination.{Combination, value_at}
use Rattle.scan_kernel.specs.Groups.{ListValues, group_codes, CodesNumberGroups, size_of, number_of}
use Rattle.scan_kernel.specs.Groups.{sum_of_parts, codes_of, AreCodes, NumbersAreCodes, values_of, counts_of}
use Rattle.scan_kernel.specs.Groups.{group_values, AreApart}

below : (counts codes : List ℕ) → AreCodes counts codes → number_of counts codes < size_of counts
below [] [] h = omega arith
below [] (code ∷ codes) h = absurd h
below (count ∷ counts) [] h = absurd h
below (count ∷ counts) (code ∷ codes) h =
    omega (
      arith,
      mul-add-lt (number_of counts codes) count code (size_of counts) (below counts codes h.1) h.0,
      mul_comm count (number_of counts codes),
    )

back : (counts codes : List ℕ) → AreCodes counts codes → codes_of counts (number_of counts codes) ≡ codes
back [] [] h = grind arith
back [] (code ∷ codes) h = grind arith
back (count ∷ counts) [] h = grind arith
back (count ∷ counts) (code ∷ codes) h = grind (arith, add-mul-mod_self_left, mod-eq_of_lt, add-mul-div_left, div-eq_of_lt, zero-add, back counts codes h.1)

-- a product with a number below it has no factor zero
pub first_positive : (number count size : ℕ) → number < count * size → 0 < count
first_positive number zero size h = absurd (omega (arith, h, zero-mul size))
first_positive number (suc count) size h = omega arith

pub quotient_below : (number count size : ℕ) → number < count * size → number / count < size
quotient_below number count size h = (div-lt_iff_lt-mul (first_positive number count size h)).1
    (subst (λ n. number < n) (mul_comm count size) h)

are_codes : (counts : List ℕ) (number : ℕ) → number < size_of counts → AreCodes counts (codes_of counts number)
are_codes [] number h = grind arith
are_codes (count ∷ counts) number h = grind (arith, mod-lt, first_positive, quotient_below, are_codes counts (number / count) (quotient_below number count (size_of counts) h))

forth : (counts : List ℕ) (number : ℕ) → number < size_of counts → number_of counts (codes_of counts number) ≡ number
forth [] number h = grind arith
forth (count ∷ counts) number h = grind (arith, quotient_below, mod-add-div, forth counts (number / count) (quotient_below number count (size_of counts) h))

parts_are : (step : ℕ) (counts codes : List ℕ) → sum_of_parts step counts codes ≡ step * number_of counts codes
parts_are step [] codes = grind (arith, mul-zero)
parts_are step (count ∷ counts) [] = grind (arith, mul-zero)
parts_are step (count ∷ counts) (code ∷ codes) = grind (arith, mul_assoc, mul_comm, mul-add, parts_are (step * count) counts codes)

pub codes_are_numbered : (counts : List ℕ) → NumbersAreCodes counts
codes_are_numbered counts = grind (arith, below, back, are_codes, forth, parts_are, one-mul)

-- equal values have equal codes
same_codes : (columns : List (List Value)) → AllByRecursion AreApart columns → (codes others : List ℕ)
    → AreCodes (counts_of columns) codes → AreCodes (counts_of columns) others
    → values_of columns codes ≡ values_of columns others → codes ≡ others
same_codes [] apart [] [] h k e = refl
same_codes [] apart [] (other ∷ others) h k e = absurd k
same_codes [] apart (code ∷ codes) others h k e = absurd h
same_codes (values ∷ columns) apart [] others h k e = absurd h
same_codes (values ∷ columns) apart (code ∷ codes) [] h k e = absurd k
same_codes (values ∷ columns) apart (code ∷ codes) (other ∷ others) h k e =
    let first_value : get_or values code (Number 0) ≡ get_or values other (Number 0) = cc in
    let other_values : values_of columns codes ≡ values_of columns others = cc in
    let first : code ≡ other = apart.0 code other h.0 k.0 first_value in
    let rest : codes ≡ others = same_codes columns apart.1 codes others h.1 k.1 other_values in
    λ i. first i ∷ rest i

pub groups_are_apart : (columns : List (List Value)) → AllByRecursion AreApart columns → (g h : ℕ)
    → g < size_of (counts_of columns) → h < size_of (counts_of columns)
    → group_values columns g ≡ group_values columns h → g ≡ h
groups_are_apart columns apart g h g_below h_below e =
    let counts = counts_of columns in
    sym (forth counts g g_below)
    ∙ ap (number_of counts) (same_codes columns apart (codes_of counts g) (codes_of counts h)
    (are_codes counts g g_below) (are_codes counts h h_below) e)
    ∙ forth counts h h_below

have_codes : (groups : List Column) (columns : List (List Value)) (c : Combination) → ListValues groups columns c
    → AreCodes (counts_of columns) (group_codes groups columns c)
    × (values_of columns (group_codes groups columns c) ≡ map (λ column. value_at column c) groups)
have_codes [] [] c h = grind arith
have_codes [] (values ∷ columns) c h = grind arith
have_codes (column ∷ groups) [] c h = grind arith
have_codes (column ∷ groups) (values ∷ columns) c h = grind (arith, get_or_from_slice_get, slice_get_within, have_codes groups columns c h.1)

pub codes_number_groups : CodesNumberGroups
codes_number_groups plan columns c h =
    let codes = have_codes plan.groups columns c h in
    (below (counts_of columns) _ codes.0, ap (values_of columns) (back (counts_of columns) _ codes.0) ∙ codes.1)
