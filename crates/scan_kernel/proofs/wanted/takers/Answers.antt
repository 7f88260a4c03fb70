use Rattle.std.proofs.Common.{◌-◌, ◌^◌, arith}
use Rattle.std.proofs.lemmas.List.{get_or-replicate}
use Rattle.std.proofs.lemmas.Nat.Bits.{bit_at_ones}
use Rattle.scan_kernel.specs.Zones.{coarse}
use Rattle.scan_kernel.proofs.wanted.takers.Goals as goal

pub returns-in-None : goal.returns-in-None
returns-in-None c = λ row k few passes.
    rw (get_or-replicate 64 (coarse c.args.codes.now row) (2 ^ 16 - 1) 0 (omega arith)) (bit_at_ones 16 k few)
