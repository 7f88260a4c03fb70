use Rattle.std.proofs.Common.{arith, ◌≡◌, ◌∙◌, sym, ap, map, length, get_or, ◌<◌}
use Rattle.std.proofs.lemmas.List.{get_or-map, length-map}
use Rattle.ssb_questions.specs.Cond.{column_value}
use Rattle.ssb_questions.specs.declared.value.Value.{Value}
use Rattle.dimension_index.proofs.CodeLaws.{coded_none, coded_more}
use Rattle.dimension_index.proofs.coded.CodedColumn.of.Goals as goal

pub loop-row-init : goal.loop-row-init
loop-row-init g c = coded_none (map (g.F.QueryFields.value_of c.args.place) c.args.rows.now) c.new-dictionary.result
    c.reserve.new.self.items c.new-dictionary.ensures (c.reserve.ensures.items ∙ c.new-codes.ensures.items)

pub loop-row-preserved : goal.loop-row-preserved
loop-row-preserved g c =
    let value = g.F.QueryFields.value_of c.args.place in
    let rows = c.args.rows.now in
    let i = c.loop-row.row-index in
    let v : Value = column_value c.value.result in
    let inside : i < length (map value rows) = omega (arith, c.loop-row-test.true, length-map rows value) in
    let is : v ≡ get_or (map value rows) i v = c.value.ensures ∙ ap value c.row-item.is
    ∙ sym (get_or-map value rows i c.row-item.result v c.loop-row-test.true) in
    rw c.in_ok-push.ensures.items (coded_more (map value rows) i v v c.loop-row.dictionary c.enter.new.self
    c.loop-row.codes.items c.in_ok-code.code inside is c.in_ok-code.ensures.values c.in_ok-code.ensures.code
    c.loop-row.invariant)
