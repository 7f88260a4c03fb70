use Rattle.std.proofs.Common.{◌+◌, subst}
use Rattle.csv.specs.Records.{fields_of}
use Rattle.ssb_script.specs.Scripts.{lines_of_begun}
use Rattle.ssb_script.specs.Steps.{begun_in}
use Rattle.ssb_trace.specs.Lines.{Inside}
use Rattle.ssb_trace.specs.Steps.{Takes}
use Rattle.ssb_trace.proofs.CommitLaws.{lines-inside, stands_inside}
use Rattle.ssb_trace.proofs.unfinished.UnfinishedCommit.after.Goals as goal

pub returns-clause-step : goal.returns-clause-step
returns-clause-step c =
    let step = c.in_ok-step.ensures.step in
    let begun = begun_in c.args.self.begun in
    let stands = stands_inside c.args.word (fields_of c.args.fields.now) step.0 step.1 in (
      Inside step.0,
      step.1,
      subst (λ lines. Takes (c.args.before + 1) lines c.step_of_commit.result)
          (lines-inside c.args.self.client (lines_of_begun begun) step.0 stands)
          (c.step_of_commit.ensures (c.args.before + 1) begun step.0 c.requires.inside stands step.2),
    )
