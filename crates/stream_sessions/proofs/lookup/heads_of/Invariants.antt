use Rattle.std.proofs.Common.{◌≡◌, map, take}
use Rattle.stream_sessions.proofs.lookup.heads_of.Given as goal

abbrev pub invariant-loop-name : goal.invariant-loop-name
invariant-loop-name l = l.heads.items ≡ map (λ name. name.now) (take l.name-index l.names)
