use Rattle.std.proofs.lemmas.Option.{IfSome_then}
use Rattle.ssb_text.proofs.WordedLaws.{numbered}
use Rattle.ssb_text.proofs.worded.take_numbered.Goals as goal

pub returns : goal.returns
returns c =
    IfSome_then c.take_last_number.result c.take_last_number.ensures
    (λ taken ends. numbered _ _ _ _ _ c.in_ok-take_first.ensures ends)
