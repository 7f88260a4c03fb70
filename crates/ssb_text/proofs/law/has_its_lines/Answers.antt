use Rattle.ssb_text.proofs.LineLaws.{text_has_lines}
use Rattle.ssb_text.proofs.law.has_its_lines.Goals as goal

pub returns : goal.returns
returns c = text_has_lines
