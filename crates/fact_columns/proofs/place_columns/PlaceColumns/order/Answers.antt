use Rattle.std.proofs.Common.{arith, ◌<◌, ◌∙◌, ap, vec_len}
use Rattle.fact_columns.specs.declared.place.Place.{Place}
use Rattle.fact_columns.proofs.PlaceListLaws.{long, alike_long, element, read_at}
use Rattle.fact_columns.proofs.place_columns.PlaceColumns.order.Goals as goal

pub index-requires : goal.index-requires
index-requires c =
    let n = long c.self.inside c.args.self.now c.self.view_is in
    omega (arith, n, c.requires)

pub returns : goal.returns
returns c = λ other.
    let t = c.self.inside in
    let all = alike_long t c.self.invariant in
    let within : c.args.place < vec_len t.order = omega (arith, long t c.args.self.now c.self.view_is, c.requires) in
    element t.order.items c.args.place c.index.result.now (omega (arith, within, all.order_len)) c.index.ensures
    ∙ ap (λ (place : Place). place.order) (read_at t c.args.self.now c.self.view_is c.args.place other within)
