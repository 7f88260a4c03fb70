use Rattle.std.proofs.Common.{◌≡◌, ◌≤◌, ◌+◌, Err, arith, inr, refl, rules, subst}
use Rattle.csv.specs.Records.{fields_of}
use Rattle.query_command.specs.Board.{IsBoardFault}
use Rattle.query_command.specs.declared.board.BoardFault.TheVariants as board
use Rattle.query_command.specs.declared.board.BoardLineFault.TheVariants as line
use Rattle.query_command.proofs.BoardLaws.{first_bad, read_all, read_more, read_none, read_nothing, refused_line}
use Rattle.query_command.proofs.board.read_board.Goals as goal

pub loop-before-init : goal.loop-before-init
loop-before-init g c =
    let made = c.record_reader-reader.ensures in
    rw (c.new-titles.ensures.items, c.new-asked.ensures.items) (record {
      ready = made.ready;
      so_far = λ text known.
          read_nothing g.R.Read.remaining text c.record_reader-reader.result (made.start text known);
    })

pub loop-before-preserved : goal.loop-before-preserved
loop-before-preserved g c =
    let next = rw c.if-not-branch.false at c.in_ok-next_record.ensures.next in
    rw (c.in_ok-push.ensures.items, c.in_ok-push-2.ensures.items) (record {
      ready = c.in_ok-next_record.ensures.ready;
      so_far = λ text known. read_more g.R.Read.remaining text c.loop-before.reader c.next_record.new.reader
          c.loop-before.before c.loop-before.titles.items c.loop-before.asked.items
          (fields_of c.next_record.new.next) c.in_ok-line.line.title c.in_ok-line.line.asked
          (c.loop-before.invariant.so_far text known) next c.in_ok-line.ensures.line;
    })

pub returns-then-is_first-clause-fault : goal.returns-then-is_first-clause-fault
returns-then-is_first-clause-fault g c = λ text known.
    let next = rw c.if-not-branch.true at c.in_ok-next_record.ensures.next in
    read_none g.R.Read.remaining text c.loop-before.reader c.next_record.new.reader c.loop-before.before
    c.loop-before.titles.items c.loop-before.asked.items (fields_of c.next_record.new.next)
    (c.loop-before.invariant.so_far text known) next (c.if-is_first.ensures.yes (search rules))

pub returns-then-not-branch-clause-board : goal.returns-then-not-branch-clause-board
returns-then-not-branch-clause-board g c = λ text known.
    let next = rw c.if-not-branch.true at c.in_ok-next_record.ensures.next in
    let few : c.loop-before.before ≤ 64 = omega (arith, c.loop-before-test.true) in
    read_all g.R.Read.remaining text c.loop-before.reader c.next_record.new.reader c.loop-before.before
    c.loop-before.titles.items c.loop-before.asked.items (fields_of c.next_record.new.next)
    (c.loop-before.invariant.so_far text known) next (c.if-is_first.ensures.no (search rules)) few

pub returns-in_err-line-clause-fault : goal.returns-in_err-line-clause-fault
returns-in_err-line-clause-fault g c =
    let next = rw c.if-not-branch.false at c.in_ok-next_record.ensures.next in
    let is : c.from_residual-in_err-line.result ≡ Err c.in_err-line.field-0.0 = search rules in
    rw is (λ text known. refused_line g.R.Read.remaining text c.loop-before.reader c.next_record.new.reader
    c.loop-before.before c.loop-before.titles.items c.loop-before.asked.items
    (fields_of c.next_record.new.next) c.in_err-line.field-0.0 (c.loop-before.invariant.so_far text known) next
    c.in_err-line.ensures.fault)

pub returns-then-branch-clause-fault : goal.returns-then-branch-clause-fault
returns-then-branch-clause-fault g c = λ text known.
    let next = rw c.if-branch.true at c.in_ok-next_record-2.ensures.next in
    let all : c.loop-before.before ≡ 64 = omega (arith, c.loop-before-test.false, c.loop-before.auto.before-end) in
    subst (λ n. IsBoardFault text (board.Line (n + 1) line.TooManyReports)) all
    (first_bad g.R.Read.remaining text c.loop-before.reader c.next_record-2.new.reader c.loop-before.before
    c.loop-before.titles.items c.loop-before.asked.items (fields_of c.next_record-2.new.next)
    line.TooManyReports (c.loop-before.invariant.so_far text known) next (inr (refl, all)))

pub returns-clause-board : goal.returns-clause-board
returns-clause-board g c = λ text known.
    let next = rw c.if-branch.false at c.in_ok-next_record-2.ensures.next in
    let all : c.loop-before.before ≡ 64 = omega (arith, c.loop-before-test.false, c.loop-before.auto.before-end) in
    read_all g.R.Read.remaining text c.loop-before.reader c.next_record-2.new.reader c.loop-before.before
    c.loop-before.titles.items c.loop-before.asked.items (fields_of c.next_record-2.new.next)
    (c.loop-before.invariant.so_far text known) next (omega (arith, all)) (omega (arith, all))
