use Rattle.std.proofs.Common.{◌≡◌, Err, List, ℕ, ap, rules}
use Rattle.journal_file.specs.Parts.{bytes_of}
use Rattle.ssb_files.specs.declared.job.JobFault.TheVariants.{Program}
use Rattle.ssb_schema.specs.declared.table.Table.{Table}
use Rattle.ssb_text.specs.Layouts.{AreRows}
use Rattle.changes_command.specs.Fed.{TellsFeedFault}
use Rattle.changes_command.specs.Streams.{given_by}
use Rattle.changes_command.proofs.FeedLaws.{feed_fault_tells, feeds_of}
use Rattle.changes_command.proofs.feeding.follow.Goals as goal

pub returns-in_err-read-clause-fault : goal.returns-in_err-read-clause-fault
returns-in_err-read-clause-fault g c =
    let is : c.from_residual.result ≡ Err (Program c.in_err-read.field-0.0) = search rules in
    let here : (texts : Table → List ℕ) → AreRows g.I.Read.remaining c.args.tables texts
    → TellsFeedFault texts (g.G.Read.remaining c.args.feed.input) c.args.feed.asked.past c.args.feed.asked.start (Program c.in_err-read.field-0.0)
    = λ texts are status. c.in_err-read.ensures.data status texts are in
    rw is here

pub returns-in-Ok-clause-written : goal.returns-in-Ok-clause-written
returns-in-Ok-clause-written g c = λ texts are.
    let remaining = g.G.Read.remaining in
    feeds_of c.args.feed.asked.format texts (remaining c.args.feed.input) (given_by remaining c.new-2.result.first.items) c.in_ok-read.read.0
    c.in_ok-base.base.value c.table_marks-marks.result (bytes_of c.in-Ok.read.found.parts.items) c.args.feed.asked.past c.args.feed.asked.start _ _
    (c.in_ok-read.ensures.base texts are) c.table_marks-marks.ensures.marks
    (c.table_marks-marks.ensures.checksums texts (c.in_ok-read.ensures.checksums texts are))
    (ap (given_by remaining) c.new-2.ensures.given) c.in-Ok.ensures.known c.in_ok-base.ensures.ok c.in-Ok.ensures.whole
    c.in-Ok.ensures.written

pub returns-in-Err-clause-fault : goal.returns-in-Err-clause-fault
returns-in-Err-clause-fault g c = λ texts are.
    let remaining = g.G.Read.remaining in
    feed_fault_tells texts (remaining c.args.feed.input) (given_by remaining c.new-2.result.first.items)
    c.in_ok-read.read.0 c.in_ok-base.base.value c.table_marks-marks.result c.args.feed.asked.past c.args.feed.asked.start c.in-Err.fault
    (c.in_ok-read.ensures.base texts are) c.table_marks-marks.ensures.marks
    (c.table_marks-marks.ensures.checksums texts (c.in_ok-read.ensures.checksums texts are))
    (ap (given_by remaining) c.new-2.ensures.given) c.in_ok-base.ensures.ok c.in-Err.ensures.fault
