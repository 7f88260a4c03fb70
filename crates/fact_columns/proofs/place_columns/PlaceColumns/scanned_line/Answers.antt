use Rattle.std.proofs.Common.{arith, ap, ◌<◌, ◌∙◌, vec_len}
use Rattle.fact_columns.specs.Watching.{scanned_line}
use Rattle.fact_columns.proofs.PlaceListLaws.{long, alike_long, element, read_at}
use Rattle.fact_columns.proofs.place_columns.PlaceColumns.scanned_line.Goals as goal

pub index-requires : goal.index-requires
index-requires c =
    let n = long c.self.inside c.args.self.now c.self.view_is in
    omega (arith, n, c.requires, c.self.invariant)

pub index-requires-2 : goal.index-requires-2
index-requires-2 c =
    let n = long c.self.inside c.args.self.now c.self.view_is in
    omega (arith, n, c.requires, c.self.invariant)

pub index-requires-3 : goal.index-requires-3
index-requires-3 c =
    let n = long c.self.inside c.args.self.now c.self.view_is in
    omega (arith, n, c.requires, c.self.invariant)

pub index-requires-4 : goal.index-requires-4
index-requires-4 c =
    let n = long c.self.inside c.args.self.now c.self.view_is in
    omega (arith, n, c.requires, c.self.invariant)

pub index-requires-5 : goal.index-requires-5
index-requires-5 c =
    let n = long c.self.inside c.args.self.now c.self.view_is in
    omega (arith, n, c.requires, c.self.invariant)

pub index-requires-6 : goal.index-requires-6
index-requires-6 c =
    let n = long c.self.inside c.args.self.now c.self.view_is in
    omega (arith, n, c.requires, c.self.invariant)

pub index-requires-7 : goal.index-requires-7
index-requires-7 c =
    let n = long c.self.inside c.args.self.now c.self.view_is in
    omega (arith, n, c.requires, c.self.invariant)

pub index-requires-8 : goal.index-requires-8
index-requires-8 c =
    let n = long c.self.inside c.args.self.now c.self.view_is in
    omega (arith, n, c.requires, c.self.invariant)

pub returns : goal.returns
returns c = λ other.
    let t = c.self.inside in
    let all = alike_long t c.self.invariant in
    let within : c.args.place < vec_len t.terms = omega (arith, long t c.args.self.now c.self.view_is, c.requires) in
    let customer = element t.customer_class.items c.args.place c.index.result.now
    (omega (arith, within, all.customer_class_len)) c.index.ensures in
    let supplier = element t.supplier_class.items c.args.place c.index-2.result.now
    (omega (arith, within, all.supplier_class_len)) c.index-2.ensures in
    let part = element t.part_class.items c.args.place c.index-3.result.now
    (omega (arith, within, all.part_class_len)) c.index-3.ensures in
    let date = element t.date_class.items c.args.place c.index-4.result.now
    (omega (arith, within, all.date_class_len)) c.index-4.ensures in
    let terms = element t.terms.items c.args.place c.index-5.result.now
    (omega (arith, within, all.terms_len)) c.index-5.ensures in
    let price = element t.price.items c.args.place c.index-6.result.now
    (omega (arith, within, all.price_len)) c.index-6.ensures in
    let revenue = element t.revenue.items c.args.place c.index-7.result.now
    (omega (arith, within, all.revenue_len)) c.index-7.ensures in
    let cost = element t.cost.items c.args.place c.index-8.result.now
    (omega (arith, within, all.cost_len)) c.index-8.ensures in
    (λ i. record {
      customer = customer i;
      supplier = supplier i;
      part = part i;
      date = date i;
      terms = terms i;
      price = price i;
      revenue = revenue i;
      cost = cost i;
    })
    ∙ ap scanned_line (read_at t c.args.self.now c.self.view_is c.args.place other within)
