use Rattle.std.proofs.Common.{◌≡◌, ℕ, [], drop, take}
use Rattle.std.specs.List.{list_any}
use Rattle.std.specs.HashSet as set
use Rattle.ssb_base.specs.Base.{Dimensions, line_fault}
use Rattle.ssb_schema.specs.FirstFault.{rows_fault}
use Rattle.ssb_base.specs.Indexed.{AreIndexesOf}
use Rattle.ssb_base.proofs.PairLaws.{same_pair, line_key}
use Rattle.ssb_base.proofs.base.check_any_lines.Given as goal

abbrev pub invariant-loop-i : goal.invariant-loop-i
invariant-loop-i l =
    record {
      rest : (dimensions : Dimensions) → AreIndexesOf l.indexes dimensions
          → rows_fault (line_fault dimensions) (take l.i l.lines) (drop l.i l.lines)
          ≡ rows_fault (line_fault dimensions) [] l.lines;
      seen : (q : ℕ × ℕ)
          → set.contains same_pair l.seen q ≡ list_any (λ e. same_pair (line_key e) q) (take l.i l.lines);
    }
