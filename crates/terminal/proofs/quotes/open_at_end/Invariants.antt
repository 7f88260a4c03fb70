use Rattle.std.proofs.Common.{◌≡◌, drop}
use Rattle.terminal.specs.Typed.{open_behind}
use Rattle.terminal.proofs.quotes.open_at_end.Given as goal

abbrev pub invariant-loop-byte : goal.invariant-loop-byte
invariant-loop-byte l = open_behind l.quote (drop l.byte-index l.text) ≡ open_behind 0 l.text
