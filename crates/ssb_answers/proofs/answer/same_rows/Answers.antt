use Rattle.std.proofs.lemmas.Slice.Eq.{slice_eq-Decides}
use Rattle.ssb_answers.specs.AnswerEqLaws.{row_Decides}
use Rattle.ssb_answers.proofs.answer.same_rows.Goals as goal

pub returns : goal.returns
returns c = slice_eq-Decides row_Decides c.args.a.now c.args.b.now c.eq.result c.eq.ensures
