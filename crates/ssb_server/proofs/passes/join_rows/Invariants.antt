use Rattle.std.proofs.Common.{◌≡◌, map}
use Rattle.ssb_answers.specs.declared.answer.Rows.{Rows}
use Rattle.ssb_server.proofs.passes.join_rows.Given as goal

abbrev pub invariant-loop-one : goal.invariant-loop-one
invariant-loop-one l = record {
  questions : l.questions.items ≡ map (λ (one : Rows). one.question) l.yielded;
  rows : l.rows.items ≡ map (λ (one : Rows). one.list) l.yielded;
}
