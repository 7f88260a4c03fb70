use Rattle.std.proofs.Common.{◌≡◌, ◌+◌, ◌≤◌, ◌++◌, length, flat_map, vec_len, vec_capacity}
use Rattle.stream_sessions.specs.Served.{told_by}
use Rattle.stream_sessions.proofs.kept.keep_all.Given as goal

abbrev pub invariant-loop-answer : goal.invariant-loop-answer
invariant-loop-answer l = record {
  room : vec_len l.told + length l.answer-iterator.rest.items ≤ vec_capacity l.told;
  kept : l.told.items ≡ l.initial.told.items ++ flat_map (told_by l.client) l.yielded;
}
