use Rattle.ssb_schema.specs.Facts.{fact_of}
use Rattle.fact_columns.proofs.PositionLaws.{code_of}
use Rattle.fact_columns.proofs.coding.coded.Goals as goal

pub returns : goal.returns
returns c =
    let customer = c.in_ok-customer in
    let supplier = c.in_ok-supplier in
    let part = c.in_ok-part in
    let date = c.in_ok-date in
    code_of c.args.index.now c.fact-fact.result (fact_of c.args.line.now) customer.customer supplier.supplier part.part
    date.date c.terms.result customer.customer_class supplier.supplier_class part.part_class date.date_class
    customer.ensures.class supplier.ensures.class part.ensures.class date.ensures.class customer.ensures.position
    supplier.ensures.position part.ensures.position date.ensures.position c.terms.ensures.quantity
    c.terms.ensures.discount c.fact-fact.ensures.ranges c.fact-fact.ensures.value
