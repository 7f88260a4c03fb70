use Rattle.std.proofs.Common.{map}
use Rattle.std.proofs.lemmas.Slice.Eq.{slice_eq-Decides}
use Rattle.ssb_questions.proofs.ValueLaws.{value_Decides}
use Rattle.ssb_questions.specs.Constant.{constant_value}
use Rattle.ssb_questions.proofs.constants.is_standard.Goals as goal

pub returns : goal.returns
returns c = rw (← c.standard.ensures)
    (slice_eq-Decides value_Decides c.args.constants.now
    (map constant_value c.standard.result.now) c.equal_constants.result c.equal_constants.ensures)
