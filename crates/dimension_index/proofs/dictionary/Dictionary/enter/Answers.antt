use Rattle.std.proofs.Common.{sym, ap, ◌∙◌, Some}
use Rattle.ssb_questions.proofs.ValueLaws.{value_Decides}
use Rattle.dimension_index.proofs.dictionary.Dictionary.enter.Goals as goal
use Rattle.dimension_index.proofs.dictionary.Dictionary.enter.Goals.{in-Ok, in-Err}

pub returns-clause-code : goal.returns-clause-code
returns-clause-code c = elim c.match-insert_full.branch [
  | in-Ok w ↦ rw w.result-is (let stored = w.in-Ok.ensures.stored in
      stored.1 ∙ ap Some (sym ((value_Decides _ _).0 stored.2)) ∙ ap Some c.in_ok-to_value.ensures)
  | in-Err w ↦ rw w.result-is tt
]
