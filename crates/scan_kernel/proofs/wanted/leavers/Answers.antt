use Rattle.std.proofs.Common.{◌≡◌, ◌∙◌, ap, arith, sym}
use Rattle.std.specs.Int.{bit_at}
use Rattle.std.proofs.lemmas.Nat.Bits.{bit_at_ones}
use Rattle.scan_kernel.specs.Places.{mask_in}
use Rattle.scan_kernel.proofs.wanted.leavers.Goals as goal

pub returns-in-None : goal.returns-in-None
returns-in-None c = λ row k is few lacks.
    let never : 0 ≡ 1 = sym (ap (λ masks. bit_at (mask_in masks row) k) (sym c.in-None.is) ∙ lacks) ∙ bit_at_ones 16 k few in
    absurd (omega (arith, never))
