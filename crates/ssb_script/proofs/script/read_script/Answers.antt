use Rattle.std.proofs.Common.{◌≡◌, ◌≤◌, ◌<◌, ◌+◌, ◌++◌, map, refl, inl, inr, rules, arith, Err}
use Rattle.std.proofs.lemmas.Result.{err_from_is_err_and}
use Rattle.csv.specs.Records.{fields_of}
use Rattle.ssb_script.specs.Requests.{request_of}
use Rattle.ssb_script.specs.Steps.{asked, begun_in}
use Rattle.ssb_script.specs.declared.error.ScriptError.TheVariants.{TooLong}
use Rattle.ssb_script.proofs.ReadingLaws.{first_fault, found_fault, read_more, read_nothing, read_script_all}
use Rattle.ssb_script.proofs.ReadingLaws.{read_script_ends, too_many}
use Rattle.ssb_script.proofs.script.read_script.Goals as goal

pub loop-before-init : goal.loop-before-init
loop-before-init g c =
    let made = c.record_reader-reader.ensures in
    rw c.new-requests.ensures.items (record {
      ready = made.ready;
      room = tt;
      so_far = λ text known. read_nothing g.R.Read.remaining text c.record_reader-reader.result (made.start text known);
    })

pub loop-before-preserved : goal.loop-before-preserved
loop-before-preserved g c =
    let inv = c.loop-before.invariant in
    let next = rw c.if-not-branch.false at c.in_ok-next_record.ensures.next in
    let step = c.in_ok-request.ensures.step in
    let kept : map request_of c.keep.new.requests.items ≡ map request_of c.loop-before.requests.items
    ++ asked c.in_ok-request.field-0 = c.in_ok-keep.ensures in
    record {
      ready = c.in_ok-next_record.ensures.ready;
      room = step.2.room;
      so_far = λ text known. rw kept (read_more g.R.Read.remaining text c.loop-before.reader c.next_record.new.reader
          c.loop-before.before (map request_of c.loop-before.requests.items) (begun_in c.loop-before.begun)
          (fields_of c.next_record.new.next) step.0 c.in_ok-request.field-0 (inv.so_far text known) next step.1 step.2);
    }

pub returns-then-not-branch-clause-script : goal.returns-then-not-branch-clause-script
returns-then-not-branch-clause-script g c =
    let next = rw c.if-not-branch.true at c.in_ok-next_record.ensures.next in
    let few : c.loop-before.before ≤ c.args.max_records = omega (arith, c.loop-before-test.true) in
    read_script_all g.R.Read.remaining c.args.max_records (g.R.Read.remaining c.args.source) c.loop-before.reader
    c.next_record.new.reader c.loop-before.before (map request_of c.loop-before.requests.items)
    (begun_in c.loop-before.begun) (fields_of c.next_record.new.next) c.script_of.result
    c.loop-before.invariant.so_far next few c.script_of.ensures.script

pub returns-then-not-branch-clause-fault : goal.returns-then-not-branch-clause-fault
returns-then-not-branch-clause-fault g c =
    let next = rw c.if-not-branch.true at c.in_ok-next_record.ensures.next in
    let few : c.loop-before.before ≤ c.args.max_records = omega (arith, c.loop-before-test.true) in
    read_script_ends g.R.Read.remaining c.args.max_records (g.R.Read.remaining c.args.source) c.loop-before.reader
    c.next_record.new.reader c.loop-before.before (map request_of c.loop-before.requests.items)
    (begun_in c.loop-before.begun) (fields_of c.next_record.new.next) c.script_of.result
    c.loop-before.invariant.so_far next few c.script_of.ensures.fault

pub returns-in_err-request-clause-fault : goal.returns-in_err-request-clause-fault
returns-in_err-request-clause-fault g c =
    let next = rw c.if-not-branch.false at c.in_ok-next_record.ensures.next in
    let is : c.from_residual-in_err-request.result ≡ Err c.in_err-request.field-0.0 = search rules in
    rw is (found_fault g.R.Read.remaining c.args.max_records (g.R.Read.remaining c.args.source) c.loop-before.reader
    c.next_record.new.reader c.loop-before.before (map request_of c.loop-before.requests.items)
    (begun_in c.loop-before.begun) (fields_of c.next_record.new.next) c.in_err-request.field-0.0
    c.loop-before.invariant.so_far next c.loop-before-test.true c.in_err-request.ensures.fault)

pub returns-in_err-keep-clause-fault : goal.returns-in_err-keep-clause-fault
returns-in_err-keep-clause-fault g c =
    let p = err_from_is_err_and c.from_residual-in_err-keep.result c.from_residual-in_err-keep.ensures.1 in
    rw (p.1, p.2) (λ text known. inr (inl refl))

pub returns-then-branch-clause-fault : goal.returns-then-branch-clause-fault
returns-then-branch-clause-fault g c = λ text known.
    let next = rw c.if-branch.true at c.in_ok-next_record-2.ensures.next in
    let few : c.loop-before.before ≤ c.args.max_records = c.loop-before.auto.before-end in
    let past : c.args.max_records < c.loop-before.before + 1 = omega (arith, c.loop-before-test.false) in
    inr (inr (inl (first_fault g.R.Read.remaining c.args.max_records text c.loop-before.reader
    c.next_record-2.new.reader c.loop-before.before (map request_of c.loop-before.requests.items)
    (begun_in c.loop-before.begun) (fields_of c.next_record-2.new.next) TooLong
    (c.loop-before.invariant.so_far text known) next few
    (inl (too_many c.args.max_records (c.loop-before.before + 1) (begun_in c.loop-before.begun)
    (fields_of c.next_record-2.new.next) past)))))

pub returns-clause-script : goal.returns-clause-script
returns-clause-script g c =
    let next = rw c.if-branch.false at c.in_ok-next_record-2.ensures.next in
    let few : c.loop-before.before ≤ c.args.max_records = c.loop-before.auto.before-end in
    read_script_all g.R.Read.remaining c.args.max_records (g.R.Read.remaining c.args.source) c.loop-before.reader
    c.next_record-2.new.reader c.loop-before.before (map request_of c.loop-before.requests.items)
    (begun_in c.loop-before.begun) (fields_of c.next_record-2.new.next) c.script_of-2.result
    c.loop-before.invariant.so_far next few c.script_of-2.ensures.script

pub returns-clause-fault : goal.returns-clause-fault
returns-clause-fault g c =
    let next = rw c.if-branch.false at c.in_ok-next_record-2.ensures.next in
    let few : c.loop-before.before ≤ c.args.max_records = c.loop-before.auto.before-end in
    read_script_ends g.R.Read.remaining c.args.max_records (g.R.Read.remaining c.args.source) c.loop-before.reader
    c.next_record-2.new.reader c.loop-before.before (map request_of c.loop-before.requests.items)
    (begun_in c.loop-before.begun) (fields_of c.next_record-2.new.next) c.script_of-2.result
    c.loop-before.invariant.so_far next few c.script_of-2.ensures.fault
