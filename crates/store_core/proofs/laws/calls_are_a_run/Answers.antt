use Rattle.store_core.proofs.CallLaws.{calls_are_a_run, calls_keep_what_was_told}
use Rattle.store_core.proofs.laws.calls_are_a_run.Goals as goal

pub returns : goal.returns
returns g c = record {
  run = λ next first events may. calls_are_a_run next first events may;
  kept = λ next first events may left is_left. calls_keep_what_was_told next first events may left is_left;
}
