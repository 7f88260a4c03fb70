use Rattle.std.proofs.lemmas.List.{nil_from_length}
use Rattle.std.proofs.lemmas.Option.{MatchOption-at_none}
use Rattle.ssb_text.proofs.cells.write_cells.Goals as goal

pub returns-in_default : goal.returns-in_default
returns-in_default g c =
    rw (nil_from_length c.args.cells.now (MatchOption-at_none _ _ c.in_default.is c.split_first.ensures.cases))
    c.write_pieces.ensures

pub returns : goal.returns
returns g c = rw c.in-Some.ensures.cases.0 c.write_joined.ensures
