use Rattle.std.proofs.Common.{◌≡◌, ◌++◌, drop}
use Rattle.terminal.specs.Typed.{unquoted}
use Rattle.terminal.proofs.quotes.unquoted.Given as goal

-- what the bytes so far stand for, and those that are left
abbrev pub invariant-loop-byte : goal.invariant-loop-byte
invariant-loop-byte l = l.meant.items ++ unquoted l.quote (drop l.byte-index l.text) ≡ unquoted 0 l.text
