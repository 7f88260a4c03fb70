use Rattle.std.proofs.Common.{◌≡◌, ◌+◌, ◌%◌, ◌^◌, drop}
use Rattle.shared_scan.specs.Standing.{parts_of_line}
use Rattle.shared_scan.proofs.of_line.parts_of_line.Given as goal

abbrev pub invariant-loop-at : goal.invariant-loop-at
invariant-loop-at l = (l.group + parts_of_line l.index (drop l.at l.columns) (drop l.at l.parts) l.line) % 2 ^ 64
    ≡ parts_of_line l.index l.columns l.parts l.line % 2 ^ 64
