use Rattle.std.proofs.Common.{◌≡◌, ◌≤◌, Err, arith, inl, inr, rules}
use Rattle.csv.specs.Records.{fields_of}
use Rattle.ssb_script.proofs.QuestionsLaws.{asked_all, asked_more, asked_never, asked_nothing, asked_whole, first_other}
use Rattle.ssb_script.proofs.QuestionsLaws.{record_fault}
use Rattle.ssb_script.proofs.questions.read_questions.Goals as goal

pub loop-before-init : goal.loop-before-init
loop-before-init g c =
    let made = c.record_reader-reader.ensures in
    rw c.new-questions.ensures.items (record {
      ready = made.ready;
      so_far = λ text known.
          asked_nothing g.R.Read.remaining text c.record_reader-reader.result (made.start text known);
    })

pub loop-before-preserved : goal.loop-before-preserved
loop-before-preserved g c =
    let next = rw c.if-not-branch.false at c.in_ok-next_record.ensures.next in
    let adds = c.in_ok-add_record.ensures.added in
    rw adds.added (record {
      ready = c.in_ok-next_record.ensures.ready;
      so_far = λ text known. asked_more g.R.Read.remaining text c.loop-before.reader c.next_record.new.reader
          c.loop-before.before c.loop-before.questions.items (fields_of c.next_record.new.next) adds.asking
          (c.loop-before.invariant.so_far text known) next adds.asks (rw adds.added at adds.few);
    })

pub returns-then-not-branch-clause-questions : goal.returns-then-not-branch-clause-questions
returns-then-not-branch-clause-questions g c =
    let next = rw c.if-not-branch.true at c.in_ok-next_record.ensures.next in
    let few : c.loop-before.before ≤ 64 = omega (arith, c.loop-before-test.true) in
    asked_whole g.R.Read.remaining (g.R.Read.remaining c.args.source) c.loop-before.reader c.next_record.new.reader
    c.loop-before.before (λ some. some.items) c.loop-before.questions.items (fields_of c.next_record.new.next)
    c.some_of.result c.loop-before.invariant.so_far next few c.some_of.ensures.some

pub returns-then-not-branch-clause-fault : goal.returns-then-not-branch-clause-fault
returns-then-not-branch-clause-fault g c =
    let next = rw c.if-not-branch.true at c.in_ok-next_record.ensures.next in
    asked_never g.R.Read.remaining (g.R.Read.remaining c.args.source) c.loop-before.reader c.next_record.new.reader
    c.loop-before.before c.loop-before.questions.items (fields_of c.next_record.new.next) c.some_of.result
    c.loop-before.invariant.so_far next c.some_of.ensures.none

pub returns-in_err-add_record-clause-fault : goal.returns-in_err-add_record-clause-fault
returns-in_err-add_record-clause-fault g c =
    let next = rw c.if-not-branch.false at c.in_ok-next_record.ensures.next in
    let is : c.from_residual-in_err-add_record.result ≡ Err c.in_err-add_record.field-0.0 = search rules in
    rw is (record_fault g.R.Read.remaining (g.R.Read.remaining c.args.source) c.loop-before.reader
    c.next_record.new.reader c.loop-before.before c.loop-before.questions.items (fields_of c.next_record.new.next)
    c.in_err-add_record.field-0.0 c.loop-before.invariant.so_far next c.in_err-add_record.ensures.fault)

pub returns-then-branch-clause-fault : goal.returns-then-branch-clause-fault
returns-then-branch-clause-fault g c = λ text known.
    let next = rw c.if-branch.true at c.in_ok-next_record-2.ensures.next in
    let all : c.loop-before.before ≡ 64 = omega (arith, c.loop-before-test.false, c.loop-before.auto.before-end) in
    inl (first_other g.R.Read.remaining text c.loop-before.reader c.next_record-2.new.reader c.loop-before.before
    c.loop-before.questions.items (fields_of c.next_record-2.new.next) _ (c.loop-before.invariant.so_far text known)
    next (omega (arith, all)) (inr (inl all)))

pub returns-clause-questions : goal.returns-clause-questions
returns-clause-questions g c = λ text known.
    let next = rw c.if-branch.false at c.in_ok-next_record-2.ensures.next in
    let all : c.loop-before.before ≡ 64 = omega (arith, c.loop-before-test.false, c.loop-before.auto.before-end) in
    asked_all g.R.Read.remaining text c.loop-before.reader c.next_record-2.new.reader c.loop-before.before
    c.loop-before.questions.items (fields_of c.next_record-2.new.next) (c.loop-before.invariant.so_far text known) next
    (omega (arith, all)) (omega (arith, all))
