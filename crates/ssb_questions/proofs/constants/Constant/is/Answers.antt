use Rattle.std.proofs.Common.{◌∙◌}
use Rattle.std.specs.Cmp.Lexicographic.{texts_ties}
use Rattle.ssb_questions.proofs.constants.Constant.is.Goals as goal

pub returns-in-Text-Text : goal.returns-in-Text-Text
returns-in-Text-Text c =
    rw (c.in-Text-Text.is-0, c.in-Text-Text.is-1, ← c.as_str.ensures) (c.eq.ensures
    ∙ texts_ties c.as_str.result.now c.in-Text-Text.text.now)
