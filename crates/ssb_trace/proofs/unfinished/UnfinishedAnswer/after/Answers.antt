use Rattle.std.proofs.Common.{◌≡◌, Some, sym, ◌∙◌}
use Rattle.csv.specs.Records.{fields_of}
use Rattle.ssb_trace.specs.Lines.{Row, row_after}
use Rattle.ssb_trace.specs.declared.unfinished.Unfinished.TheVariants.{Answer}
use Rattle.ssb_trace.proofs.CommitLaws.{takes_said}
use Rattle.ssb_trace.proofs.unfinished.UnfinishedAnswer.after.Goals as goal

pub returns-in-Some-clause-step : goal.returns-in-Some-clause-step
returns-in-Some-clause-step c =
    let question = c.args.self.head.question in
    let fields = fields_of c.args.fields.now in
    let says : row_after question c.args.word fields ≡ Some c.in-Some.row =
    sym c.in_ok-row.ensures ∙ c.in-Some.is in
    takes_said c.with.result c.args.number (Answer c.args.self) c.args.word fields (Row question c.in-Some.row) says
    c.with.ensures.step
