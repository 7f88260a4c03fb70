use Rattle.std.proofs.Common.{◌≡◌, ◌≤◌, ◌+◌, ◌∷◌, [], true, map, length, refl, inr, rules, arith}
use Rattle.std.specs.Result.{is_ok}
use Rattle.std.proofs.lemmas.List.{length-map, map-append, length-append}
use Rattle.ssb_text.specs.Tables.{in_row}
use Rattle.ssb_text.proofs.ReadingLaws.{read_nothing, read_more, read_all, fault_in_row, too_many}
use Rattle.ssb_text.proofs.table.read_table.Goals as goal

pub loop-number-init : goal.loop-number-init
loop-number-init g c =
    let made = c.record_reader-reader.ensures in
    rw c.new-rows.ensures.items (record {
      ready = made.ready;
      count = refl;
      so_far = λ text known. read_nothing g.R.Read.remaining g.T.TableRow.of_table text c.record_reader-reader.result
          (made.start text known);
    })

pub loop-number-preserved : goal.loop-number-preserved
loop-number-preserved g c =
    let inv = c.loop-number.invariant in
    let rows = c.loop-number.rows.items in
    let good : is_ok c.push.result ≡ true = search rules in
    let items = rw good at c.push.ensures.items in
    let next = rw c.if-not-branch.false at c.in_ok-next_row.ensures.next in
    record {
      ready = c.in_ok-next_row.ensures.ready;
      count = rw items (omega (arith, length-append rows (c.in-Ok.row ∷ []), inv.count));
      so_far = λ text known. rw (items, map-append g.T.TableRow.values rows (c.in-Ok.row ∷ []))
          (read_more g.R.Read.remaining g.T.TableRow.of_table text c.loop-number.reader c.next_row.new.reader
          (map g.T.TableRow.values rows) _ _ (inv.so_far text known) next c.in-Ok.ensures);
    }

pub returns-then-not-branch-clause-rows : goal.returns-then-not-branch-clause-rows
returns-then-not-branch-clause-rows g c =
    let inv = c.loop-number.invariant in
    let rows = map g.T.TableRow.values c.loop-number.rows.items in
    let next = rw c.if-not-branch.true at c.in_ok-next_row.ensures.next in
    let few : length rows ≤ c.args.limit = omega (
      arith,
      length-map c.loop-number.rows.items g.T.TableRow.values,
      inv.count,
      c.loop-number-test.true,
    ) in
    read_all g.R.Read.remaining g.T.TableRow.of_table c.args.limit (g.R.Read.remaining c.args.source)
    c.loop-number.reader c.next_row.new.reader rows inv.so_far next few

pub returns-clause-rows : goal.returns-clause-rows
returns-clause-rows g c =
    let inv = c.loop-number.invariant in
    let rows = map g.T.TableRow.values c.loop-number.rows.items in
    let next = rw c.if-branch.false at c.in_ok-next_row-2.ensures.next in
    let few : length rows ≤ c.args.limit = omega (
      arith,
      length-map c.loop-number.rows.items g.T.TableRow.values,
      inv.count,
      c.loop-number.auto.number-end,
    ) in
    read_all g.R.Read.remaining g.T.TableRow.of_table c.args.limit (g.R.Read.remaining c.args.source)
    c.loop-number.reader c.next_row-2.new.reader rows inv.so_far next few

pub returns-in-Err-clause-fault : goal.returns-in-Err-clause-fault
returns-in-Err-clause-fault g c =
    let inv = c.loop-number.invariant in
    let rows = map g.T.TableRow.values c.loop-number.rows.items in
    let next = rw c.if-not-branch.false at c.in_ok-next_row.ensures.next in
    let count : length rows + 1 ≡ c.loop-number.number + 1 =
    omega (arith, length-map c.loop-number.rows.items g.T.TableRow.values, inv.count) in
    let few : length rows + 1 ≤ c.args.limit = omega (arith, count, c.loop-number-test.true) in
    let is : c.in_row.result ≡ in_row g.T.TableRow.of_table (length rows + 1) c.in-Err.fault =
    rw (count, ← c.table-in-Err.ensures) c.in_row.ensures in
    rw is (fault_in_row g.R.Read.remaining g.T.TableRow.of_table c.args.limit (g.R.Read.remaining c.args.source)
    c.loop-number.reader c.next_row.new.reader rows _ c.in-Err.fault inv.so_far next few c.in-Err.ensures)

pub returns-then-branch-clause-fault : goal.returns-then-branch-clause-fault
returns-then-branch-clause-fault g c =
    let inv = c.loop-number.invariant in
    let rows = map g.T.TableRow.values c.loop-number.rows.items in
    let next = rw c.if-branch.true at c.in_ok-next_row-2.ensures.next in
    let full : length rows ≡ c.args.limit = omega (
      arith,
      length-map c.loop-number.rows.items g.T.TableRow.values,
      inv.count,
      c.loop-number.auto.number-end,
      c.loop-number-test.false,
    ) in
    inr (rw (c.table-then-branch.ensures, c.table-then-branch-2.ensures)
    (too_many g.R.Read.remaining g.T.TableRow.of_table c.args.limit (g.R.Read.remaining c.args.source)
    c.loop-number.reader c.next_row-2.new.reader rows _ inv.so_far next full))
