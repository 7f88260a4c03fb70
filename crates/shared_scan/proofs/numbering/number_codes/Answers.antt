use Rattle.std.proofs.Common.{◌<◌, get_or, length, ap, arith}
use Rattle.shared_scan.proofs.numbering.number_codes.Goals as goal

pub returns-clause-only : goal.returns-clause-only
returns-clause-only c = λ number below used.
    let kept = c.in_ok-numbering.numbering.kept.items in
    let back = c.in_ok-numbering.ensures.numbered.back number below in
    let inside : get_or kept number 0 < c.args.count = omega (
      arith,
      back.0,
      c.in_ok-numbering.ensures.len,
      c.in_ok-numbering.numbering.numbers.ok,
      c.in_ok-seen.ensures.len,
      ap length c.deref.ensures.value,
    ) in
    c.in_ok-seen.ensures.only (get_or kept number 0) c.args.question inside c.requires.question used
    (rw c.deref.ensures.value at (c.in_ok-numbering.ensures.only number below))
