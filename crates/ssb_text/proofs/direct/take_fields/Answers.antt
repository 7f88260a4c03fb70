use Rattle.std.proofs.Common.{◌≡◌, arith}
use Rattle.ssb_schema.specs.Texts.{texts_of}
use Rattle.ssb_text.proofs.DirectLaws.{begins_with_row, last_text, number_then, text_then}
use Rattle.ssb_text.proofs.direct.take_fields.Goals as goal

pub returns : goal.returns
returns c =
    let texts : c.in_ok-texts.texts ≡ texts_of c.in_ok-order_priority.order_priority.now
    c.in_ok-ship_priority.ship_priority.now c.in_ok-ship_mode.ship_mode.now = grind arith in
    rw texts (begins_with_row c.in_ok-order_key.ensures
    (number_then c.in_ok-line_number.ensures
    (number_then c.in_ok-customer_key.ensures
    (number_then c.in_ok-part_key.ensures
    (number_then c.in_ok-supplier_key.ensures
    (number_then c.in_ok-order_date.ensures
    (text_then c.in_ok-order_priority.ensures
    (text_then c.in_ok-ship_priority.ensures
    (number_then c.in_ok-quantity.ensures
    (number_then c.in_ok-extended_price.ensures
    (number_then c.in_ok-order_total_price.ensures
    (number_then c.in_ok-discount.ensures
    (number_then c.in_ok-revenue.ensures
    (number_then c.in_ok-supply_cost.ensures
    (number_then c.in_ok-tax.ensures
    (number_then c.in_ok-commit_date.ensures
    (last_text c.in_ok-ship_mode.ensures)))))))))))))))))
