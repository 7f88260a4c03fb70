use Rattle.std.proofs.Common.{◌≡◌, ◌∙◌, MatchResult, subst}
use Rattle.std.proofs.lemmas.Result.{err_from_is_err_and}
use Rattle.std.specs.Io.KnownBytes.{Appends}
use Rattle.ssb_files.proofs.FlushedLaws.{nothing_part}
use Rattle.ssb_formats.specs.Formats.{answers_shown}
use Rattle.ssb_text.specs.Written.{AppendsPart}
use Rattle.query_command.specs.Reported.{answers_over}
use Rattle.query_command.proofs.query.report.Goals as goal

pub returns-clause-written : goal.returns-clause-written
returns-clause-written g c =
    let old = g.W.Write.contents c.args.out.now in
    let new = g.W.Write.contents c.write.new.out in
    let are : c.as_slice.result.now ≡ answers_over c.args.sourced.base c.args.sourced.after c.args.questions.now
    = c.as_slice.ensures.value ∙ c.in_ok-answers.ensures in
    subst (λ answers. MatchResult c.write.result
    (λ _. Appends old new (answers_shown c.args.settings.format answers))
    (λ _. AppendsPart old new (answers_shown c.args.settings.format answers))) are c.write.ensures.written

pub returns-in_err-answers-clause-written : goal.returns-in_err-answers-clause-written
returns-in_err-answers-clause-written g c =
    let failed = err_from_is_err_and c.from_residual.result c.from_residual.ensures.1 in
    rw failed.1 (nothing_part (g.W.Write.contents c.args.out.now) _)
