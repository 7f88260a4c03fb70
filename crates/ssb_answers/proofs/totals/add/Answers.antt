-- The map is updated at the group, and the sum that is put there is the machine's.
use Rattle.std.proofs.Common.{arith, w64, unwrap_or, ◌≡◌, ◌∙◌, ap, is_eq, Some}
use Rattle.std.specs.Prelude.{ℤ, pos, ◌+ℤ◌, if◌then◌else◌}
use Rattle.std.specs.Int.{cast_signed, cast_unsigned}
use Rattle.std.specs.BTreeMap.{get}
use Rattle.std.proofs.lemmas.Int.{ints}
use Rattle.ssb_answers.specs.Answer.{groups_cmp}
use Rattle.ssb_answers.proofs.totals.add.Goals as goal

pub returns : goal.returns
returns c = λ other.
    let before : ℤ = unwrap_or (get groups_cmp c.args.totals.now c.args.groups) (pos 0) in
    let sum_is : cast_signed w64
    (cast_unsigned w64
    (cast_signed w64 (cast_unsigned w64 c.sum_of.result) +ℤ cast_signed w64 (cast_unsigned w64 c.args.amount)))
    ≡ before +ℤ c.args.amount = omega (arith, ints) in
    c.in_ok-insert.ensures.updates.0 other
    ∙ ap (λ (v : ℤ). if is_eq
    (groups_cmp c.args.groups other) then Some v else get groups_cmp c.args.totals.now other) sum_is
