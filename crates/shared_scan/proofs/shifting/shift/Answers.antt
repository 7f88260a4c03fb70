use Rattle.std.proofs.Common.{◌<◌, length, arith, subst, sym, List, ℕ}
use Rattle.shared_scan.specs.Standing.{Shifts}
use Rattle.shared_scan.proofs.StandingLaws.{shifted_at}
use Rattle.shared_scan.proofs.shifting.shift.Goals as goal

pub returns : goal.returns
returns c =
    let within : c.args.group < length c.args.numbers.now = omega arith in
    let P : List ℕ → Type 0 = λ new. Shifts c.args.group c.args.delta c.args.numbers.now new in
    subst P (sym c.add_at.ensures) (shifted_at c.args.numbers.now c.args.group c.args.delta within)
