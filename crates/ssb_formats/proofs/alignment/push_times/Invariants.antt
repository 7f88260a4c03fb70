use Rattle.std.proofs.Common.{◌≡◌, ◌++◌, replicate}
use Rattle.ssb_formats.proofs.alignment.push_times.Given as goal

abbrev pub invariant-loop-pushed : goal.invariant-loop-pushed
invariant-loop-pushed l = l.text.items ≡ l.fn.text.items ++ replicate l._pushed l.byte
