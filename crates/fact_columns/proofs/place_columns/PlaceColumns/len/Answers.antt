use Rattle.std.proofs.Common.{rules}
use Rattle.fact_columns.proofs.PlaceListLaws.{long}
use Rattle.fact_columns.proofs.place_columns.PlaceColumns.len.Goals as goal

pub returns : goal.returns
returns c =
    let n = long c.self.inside c.args.self.now c.self.view_is in
    search (rules, n)
