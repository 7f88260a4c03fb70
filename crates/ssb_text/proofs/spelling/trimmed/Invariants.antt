use Rattle.std.proofs.Common.{◌≡◌, ◌≤◌, length, take}
use Rattle.ssb_text.specs.Spelling.{without_spaces}
use Rattle.ssb_text.proofs.spelling.trimmed.Given as goal

abbrev pub invariant-loop-end : goal.invariant-loop-end
invariant-loop-end l = record {
  within : l.end ≤ length l.field;
  same : without_spaces (take l.end l.field) ≡ without_spaces l.field;
}

abbrev pub decreases-loop-end : goal.decreases-loop-end
decreases-loop-end l = l.end
