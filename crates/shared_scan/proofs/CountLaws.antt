-- Two lists that have no value twice, and the same values, are equally long.
use Rattle.std.proofs.Common.{suc, ◌≡◌, ◌<◌, ◌≤◌, Bool, true, not, List, [], ◌∷◌, length, refl, sym, ap}
use Rattle.std.proofs.Common.{◌∙◌, arith, inl, inr}
use Rattle.std.specs.List.{filter}
use Rattle.std.proofs.lemmas.List.Sums.{length-filter, count_by-le-length}
use Rattle.std.proofs.lemmas.Option.{get_or_from_slice_get, slice_get_within}
use Rattle.ssb_questions.specs.Members.{Has, HaveSameMembers}
use Rattle.ssb_questions.specs.declared.value.Value.{Value}
use Rattle.ssb_questions.specs.declared.value.Value.TheVariants.{Number}
use Rattle.ssb_answers.proofs.MemberLaws.{has_filter}
use Rattle.dimension_index.specs.Codes.{is_same, distinct}
use Rattle.scan_kernel.specs.Groups.{AreApart}
use Rattle.shared_scan.proofs.DistinctLaws.{same_self, not_same, has_index, distinct_apart, distinct_has, distinct_only}

-- without one of its values a list is shorter
shorter : (x : Value) (ys : List Value) → Has ys x → length (filter (λ other. not (is_same x other)) ys) < length ys
shorter x [] h = grind arith
shorter x (y ∷ ys) (inl e) = grind (arith, same_self, length-filter, count_by-le-length)
shorter x (y ∷ ys) (inr h) = grind (arith, shorter x ys h)

-- different values that are all in a list are no more than it has
no_more : (xs ys : List Value) → AreApart xs → ((v : Value) → Has xs v → Has ys v) → length xs ≤ length ys
no_more [] ys apart all = omega arith
no_more (x ∷ xs) ys apart all =
    let differs : Value → Bool = λ other. not (is_same x other) in
    let rest : AreApart xs = λ i j i_below j_below same.
    let next : suc i ≡ suc j = apart (suc i) (suc j) (omega (arith, i_below)) (omega (arith, j_below)) same in
    omega (arith, next) in
    let other : (v : Value) → Has xs v → differs v ≡ true = λ v h.
    let found = has_index xs v h in
    let inside = slice_get_within xs found.0 v found.1 in
    ap not (not_same x v (λ same.
    let twice : 0 ≡ suc found.0 = apart 0 (suc found.0) (omega arith) (omega (arith, inside))
    (same ∙ sym (get_or_from_slice_get xs found.0 v (Number 0) found.1)) in
    omega (arith, twice))) in
    omega (
      arith,
      no_more xs (filter differs ys) rest (λ v h. has_filter differs ys v (other v h) (all v (inr h))),
      shorter x ys (all x (inl refl)),
    )

pub equally_many : (xs ys : List Value) → AreApart xs → AreApart ys → HaveSameMembers xs ys → length xs ≡ length ys
equally_many xs ys one two same = omega (arith, no_more xs ys one same.forth, no_more ys xs two same.back)

-- lists of the same values have equally many different ones
pub distinct_many : (xs ys : List Value) → HaveSameMembers xs ys → length (distinct xs) ≡ length (distinct ys)
distinct_many xs ys same = grind (arith, equally_many, distinct_apart, distinct_has, distinct_only)
