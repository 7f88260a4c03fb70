use Rattle.std.proofs.Common.{flat_map}
use Rattle.ssb_text.proofs.WrittenLaws.{writes_stopped, part_longer}
use Rattle.ssb_trace.specs.TraceText.{commit_text, told_text}
use Rattle.ssb_trace.proofs.writing.write_all.Goals as goal

pub returns-in_err-write_commits : goal.returns-in_err-write_commits
returns-in_err-write_commits g c =
    let contents = g.W.Write.contents in
    let a = contents c.args.writer.now in
    let b = contents c.write_commits.new.writer in
    writes_stopped _ c.from_residual.result a b _ c.from_residual.ensures.1
    (part_longer a b (flat_map commit_text c.args.trace.now.commits) (flat_map told_text c.args.trace.now.answers)
    (rw c.as_slice.ensures at c.in_err-write_commits.ensures))
