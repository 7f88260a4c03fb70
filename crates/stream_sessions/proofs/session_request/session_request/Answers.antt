use Rattle.std.proofs.Common.{◌∙◌, refl, sym}
use Rattle.csv.specs.Records.{fields_of}
use Rattle.stream_sessions.proofs.SessionRequestLaws.{none_read, one_read, other_read, two_read}
use Rattle.stream_sessions.proofs.session_request.session_request.Goals as goal

pub returns-then-not-branch-clause-nothing : goal.returns-then-not-branch-clause-nothing
returns-then-not-branch-clause-nothing c =
    let next = rw c.if-not-branch.true at c.in_ok-next_record.ensures.next in
    none_read _ c.args.request.now _ c.next_record.new.reader (fields_of c.next_record.new.next)
    (c.record_reader-reader.ensures.start c.args.request.now refl) next

pub returns-in_default-clause-nothing : goal.returns-in_default-clause-nothing
returns-in_default-clause-nothing c =
    let next = rw c.if-not-branch.false at c.in_ok-next_record.ensures.next in
    other_read _ c.args.request.now _ _ (fields_of c.next_record.new.next)
    (c.record_reader-reader.ensures.start c.args.request.now refl) next (sym c.request_of.ensures ∙ c.in_default.is)

pub returns-then-branch-clause-nothing : goal.returns-then-branch-clause-nothing
returns-then-branch-clause-nothing c =
    let next = rw c.if-not-branch.false at c.in_ok-next_record.ensures.next in
    let then_next = rw c.if-branch.true at c.in_ok-next_record-2.ensures.next in
    two_read _ c.args.request.now _ _ _ (fields_of c.next_record.new.next) (fields_of c.next_record-2.new.next)
    (c.record_reader-reader.ensures.start c.args.request.now refl) next then_next

pub returns-clause-asked : goal.returns-clause-asked
returns-clause-asked c =
    let next = rw c.if-not-branch.false at c.in_ok-next_record.ensures.next in
    let ends = rw c.if-branch.false at c.in_ok-next_record-2.ensures.next in
    one_read _ c.args.request.now _ _ c.next_record-2.new.reader (fields_of c.next_record.new.next)
    (fields_of c.next_record-2.new.next)
    c.in-Some.asked (c.record_reader-reader.ensures.start c.args.request.now refl) next ends
    (sym c.request_of.ensures ∙ c.in-Some.is)
