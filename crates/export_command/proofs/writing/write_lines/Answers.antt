use Rattle.std.proofs.Common.{◌≡◌, ◌++◌, nat_eq, ap, sym, subst}
use Rattle.std.specs.HashMap.{get}
use Rattle.std.specs.HashSet.{contains}
use Rattle.ssb_base.specs.Base.{Tables}
use Rattle.ssb_text.specs.Written.{StopsShort}
use Rattle.export_command.specs.Standing.{WritesLines, left_of_added, left_of_loaded}
use Rattle.export_command.proofs.WritingLaws.{HasWritten, all_written, lines_text, stopped_before, writes_behind}
use Rattle.export_command.proofs.WritingLaws.{writes_part}
use Rattle.export_command.proofs.writing.write_lines.Goals as goal

pub returns-in_err-write_loaded : goal.returns-in_err-write_loaded
returns-in_err-write_loaded g c =
    let contents = g.W.Write.contents in
    let old = contents c.args.out.now in
    let new = contents c.write_loaded.new.out in
    let base = c.tables.inside.base.value in
    let orders = c.tables.inside.orders in
    let first = left_of_loaded (contains nat_eq orders.gone) base.lines in
    let later = left_of_added (get nat_eq orders.numbers) orders.added.items in
    let whole : c.args.tables.now.lines ≡ first ++ later =
    ap (λ (tables : Tables). tables.lines) (sym c.tables.view_is) in
    let are : c.lines.result.now ≡ base.lines = cc in
    let part : StopsShort old new (lines_text first) =
    subst (λ lines. StopsShort old new (lines_text (left_of_loaded (contains nat_eq orders.gone) lines))) are
    c.in_err-write_loaded.ensures.text in
    writes_part _ c.from_residual.result old new c.args.tables.now.lines c.from_residual.ensures.1
    (subst (λ lines. StopsShort old new (lines_text lines)) (sym whole) (stopped_before old new first later part))

pub returns : goal.returns
returns g c =
    let contents = g.W.Write.contents in
    let old = contents c.args.out.now in
    let mid = contents c.write_loaded.new.out in
    let new = contents c.write_added.new.out in
    let base = c.tables.inside.base.value in
    let orders = c.tables.inside.orders in
    let first = left_of_loaded (contains nat_eq orders.gone) base.lines in
    let later = left_of_added (get nat_eq orders.numbers) orders.added.items in
    let whole : c.args.tables.now.lines ≡ first ++ later =
    ap (λ (tables : Tables). tables.lines) (sym c.tables.view_is) in
    let are : c.lines.result.now ≡ base.lines = cc in
    let front : HasWritten old mid first =
    subst (λ lines. HasWritten old mid (left_of_loaded (contains nat_eq orders.gone) lines)) are
    (all_written old mid _ (left_of_loaded (contains nat_eq orders.gone) c.lines.result.now)
    c.in_ok-write_loaded.ensures) in
    subst (λ lines. WritesLines old new c.write_added.result lines) (sym whole)
    (writes_behind old mid new c.write_added.result first later front c.write_added.ensures)
