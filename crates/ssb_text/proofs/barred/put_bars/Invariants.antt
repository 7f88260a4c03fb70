use Rattle.std.proofs.Common.{◌≡◌, ◌<◌, ◌≤◌, ℕ, get_or}
use Rattle.ssb_text.specs.Layouts.{as_bar}
use Rattle.ssb_text.proofs.barred.put_bars.Given as goal

abbrev pub invariant-loop-byte : goal.invariant-loop-byte
invariant-loop-byte l = record {
  done : (k : ℕ) → k < l.byte-index → get_or l.bytes k 0 ≡ as_bar l.delimiter (get_or l.fn.bytes k 0);
  left : (k : ℕ) → l.byte-index ≤ k → get_or l.bytes k 0 ≡ get_or l.fn.bytes k 0;
}
