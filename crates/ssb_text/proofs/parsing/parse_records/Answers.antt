use Rattle.std.proofs.Common.{◌≡◌, ◌∷◌, [], true, map, refl, rules}
use Rattle.std.proofs.lemmas.List.{map-append}
use Rattle.std.specs.Result.{is_ok}
use Rattle.ssb_schema.specs.Rows.{line_values}
use Rattle.ssb_schema.specs.declared.table.Table.TheVariants as table
use Rattle.ssb_text.proofs.ReadingLaws.{read_nothing, read_more}
use Rattle.ssb_text.proofs.ParsingLaws.{parsed_until, slice_bytes}
use Rattle.ssb_text.proofs.parsing.parse_records.Goals as goal

pub loop-init : goal.loop-init
loop-init c =
    let made = c.record_reader-reader.ensures in
    rw c.clear.ensures.items (record {
      ready = made.ready;
      so_far = read_nothing slice_bytes table.Lineorder c.args.block.now c.record_reader-reader.result
          (made.start c.args.block.now refl);
    })

pub returns-in-Err : goal.returns-in-Err
returns-in-Err c =
    let next = rw c.if-not-branch.false at c.in_ok-next_record.ensures.next in
    parsed_until c.args.block.now c.loop.reader c.next_record.new.reader (map line_values c.loop.lines.items) _
    c.in-Err.fault c.loop.invariant.so_far next c.in-Err.ensures

pub loop-preserved : goal.loop-preserved
loop-preserved c =
    let lines = c.loop.lines.items in
    let good : is_ok c.push.result ≡ true = search rules in
    let items = rw good at c.push.ensures.items in
    let next = rw c.if-not-branch.false at c.in_ok-next_record.ensures.next in
    rw (items, map-append line_values lines (c.in-Ok.line ∷ [])) (record {
      ready = c.in_ok-next_record.ensures.ready;
      so_far = read_more slice_bytes table.Lineorder c.args.block.now c.loop.reader c.next_record.new.reader
          (map line_values lines) _ _ c.loop.invariant.so_far next c.in-Ok.ensures;
    })
