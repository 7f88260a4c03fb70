use Rattle.std.proofs.Common.{◌≡◌, ◌≤◌, ◌<◌, ◌+◌, refl, inl, inr, rules, arith, Err}
use Rattle.std.proofs.lemmas.Result.{err_from_is_err_and}
use Rattle.csv.specs.Records.{fields_of}
use Rattle.ssb_trace.proofs.ReadingLaws.{found_fault, read_more, read_nothing, read_trace_all, read_trace_ends}
use Rattle.ssb_trace.proofs.ReadingLaws.{too_long_fault}
use Rattle.ssb_trace.proofs.trace.read_trace.Goals as goal

pub loop-before-init : goal.loop-before-init
loop-before-init g c =
    let made = c.record_reader-reader.ensures in
    rw (c.new-commits.ensures.items, c.new-answers.ensures.items) (record {
      ready = made.ready;
      unfinished = tt;
      so_far = λ text known. read_nothing g.R.Read.remaining text c.record_reader-reader.result (made.start text known);
    })

pub loop-before-preserved : goal.loop-before-preserved
loop-before-preserved g c =
    let inv = c.loop-before.invariant in
    let next = rw c.if-not-branch.false at c.in_ok-next_record.ensures.next in
    let step = c.in_ok-entry.ensures.step in
    let kept = c.in_ok-keep.ensures in
    record {
      ready = c.in_ok-next_record.ensures.ready;
      unfinished = step.2.unfinished;
      so_far = λ text known. rw (kept.commits, kept.answers)
          (read_more g.R.Read.remaining text c.loop-before.reader c.next_record.new.reader c.loop-before.before
          c.loop-before.commits.items c.loop-before.answers.items c.loop-before.begun (fields_of c.next_record.new.next)
          c.in_ok-entry.field-0 (inv.so_far text known) next step);
    }

pub returns-then-not-branch-clause-trace : goal.returns-then-not-branch-clause-trace
returns-then-not-branch-clause-trace g c =
    let next = rw c.if-not-branch.true at c.in_ok-next_record.ensures.next in
    let few : c.loop-before.before ≤ c.args.max_records = omega (arith, c.loop-before-test.true) in
    read_trace_all g.R.Read.remaining c.args.max_records (g.R.Read.remaining c.args.source) c.loop-before.reader
    c.next_record.new.reader c.loop-before.before c.loop-before.commits.items c.loop-before.answers.items
    c.loop-before.begun (fields_of c.next_record.new.next) c.trace_of.result c.loop-before.invariant.so_far next few
    c.trace_of.ensures.trace

pub returns-then-not-branch-clause-fault : goal.returns-then-not-branch-clause-fault
returns-then-not-branch-clause-fault g c =
    let next = rw c.if-not-branch.true at c.in_ok-next_record.ensures.next in
    let few : c.loop-before.before ≤ c.args.max_records = omega (arith, c.loop-before-test.true) in
    read_trace_ends g.R.Read.remaining c.args.max_records (g.R.Read.remaining c.args.source) c.loop-before.reader
    c.next_record.new.reader c.loop-before.before c.loop-before.commits.items c.loop-before.answers.items
    c.loop-before.begun (fields_of c.next_record.new.next) c.trace_of.result c.loop-before.invariant.so_far next few
    c.trace_of.ensures.fault

pub returns-in_err-entry-clause-fault : goal.returns-in_err-entry-clause-fault
returns-in_err-entry-clause-fault g c =
    let next = rw c.if-not-branch.false at c.in_ok-next_record.ensures.next in
    let is : c.from_residual-in_err-entry.result ≡ Err c.in_err-entry.field-0.0 = search rules in
    rw is (found_fault g.R.Read.remaining c.args.max_records (g.R.Read.remaining c.args.source) c.loop-before.reader
    c.next_record.new.reader c.loop-before.before c.loop-before.commits.items c.loop-before.answers.items
    c.loop-before.begun (fields_of c.next_record.new.next) c.in_err-entry.field-0.0 c.loop-before.invariant.so_far
    next c.loop-before-test.true c.in_err-entry.ensures.fault)

pub returns-in_err-keep-clause-fault : goal.returns-in_err-keep-clause-fault
returns-in_err-keep-clause-fault g c =
    let p = err_from_is_err_and c.from_residual-in_err-keep.result c.from_residual-in_err-keep.ensures.1 in
    rw (p.1, p.2) (λ text known. inr (inl refl))

pub returns-then-branch-clause-fault : goal.returns-then-branch-clause-fault
returns-then-branch-clause-fault g c =
    let next = rw c.if-branch.true at c.in_ok-next_record-2.ensures.next in
    let few : c.loop-before.before ≤ c.args.max_records = c.loop-before.auto.before-end in
    let past : c.args.max_records < c.loop-before.before + 1 = omega (arith, c.loop-before-test.false) in
    too_long_fault g.R.Read.remaining c.args.max_records (g.R.Read.remaining c.args.source) c.loop-before.reader
    c.next_record-2.new.reader c.loop-before.before c.loop-before.commits.items c.loop-before.answers.items
    c.loop-before.begun (fields_of c.next_record-2.new.next) c.loop-before.invariant.so_far next few past

pub returns-clause-trace : goal.returns-clause-trace
returns-clause-trace g c =
    let next = rw c.if-branch.false at c.in_ok-next_record-2.ensures.next in
    let few : c.loop-before.before ≤ c.args.max_records = c.loop-before.auto.before-end in
    read_trace_all g.R.Read.remaining c.args.max_records (g.R.Read.remaining c.args.source) c.loop-before.reader
    c.next_record-2.new.reader c.loop-before.before c.loop-before.commits.items c.loop-before.answers.items
    c.loop-before.begun (fields_of c.next_record-2.new.next) c.trace_of-2.result c.loop-before.invariant.so_far next
    few c.trace_of-2.ensures.trace

pub returns-clause-fault : goal.returns-clause-fault
returns-clause-fault g c =
    let next = rw c.if-branch.false at c.in_ok-next_record-2.ensures.next in
    let few : c.loop-before.before ≤ c.args.max_records = c.loop-before.auto.before-end in
    read_trace_ends g.R.Read.remaining c.args.max_records (g.R.Read.remaining c.args.source) c.loop-before.reader
    c.next_record-2.new.reader c.loop-before.before c.loop-before.commits.items c.loop-before.answers.items
    c.loop-before.begun (fields_of c.next_record-2.new.next) c.trace_of-2.result c.loop-before.invariant.so_far next
    few c.trace_of-2.ensures.fault
