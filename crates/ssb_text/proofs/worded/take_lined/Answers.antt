use Rattle.std.proofs.lemmas.Option.{IfSome_then}
use Rattle.ssb_text.proofs.WordedLaws.{lined}
use Rattle.ssb_text.proofs.worded.take_lined.Goals as goal

pub returns : goal.returns
returns c =
    IfSome_then c.take_line.result c.take_line.ensures
    (λ taken line. lined _ _ _ _ _ c.in_ok-take_first.ensures line)
