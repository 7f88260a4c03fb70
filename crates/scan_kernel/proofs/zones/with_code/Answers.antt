use Rattle.std.proofs.Common.{◌≡◌, ◌≢◌, ◌⊎◌, inl, inr, true, false, eqb, ◌*◌, ◌%◌, ◌^◌, bit_or, ◌∙◌}
use Rattle.std.specs.Int.{w64}
use Rattle.std.proofs.lemmas.Bool.Decides.{eqb_tells}
use Rattle.std.proofs.lemmas.Nat.Bits.{bit_at_set_same, bit_at_set_other}
use Rattle.scan_kernel.specs.Zones.{HasCode}
use Rattle.scan_kernel.proofs.zones.with_code.Goals as goal

pub returns-clause-here : goal.returns-clause-here
returns-clause-here c = bit_at_set_same w64 c.args.set c.args.code c.requires

pub returns-clause-kept : goal.returns-clause-kept
returns-clause-kept c = λ other has. split other has (eqb_tells other c.args.code) where
  split : (other : _) → HasCode c.args.set other → ((eqb other c.args.code ≡ true) × (other ≡ c.args.code))
      ⊎ ((eqb other c.args.code ≡ false) × (other ≢ c.args.code))
      → HasCode (bit_or c.args.set (1 * 2 ^ c.args.code % 2 ^ 64)) other
  split other has (inl both) = rw both.1 (bit_at_set_same w64 c.args.set c.args.code c.requires)
  split other has (inr both) = bit_at_set_other w64 c.args.set c.args.code c.requires other both.1 ∙ has
