use Rattle.std.proofs.Common.{rules}
use Rattle.ssb_text.proofs.WrittenLaws.{writes_stopped, part_item}
use Rattle.ssb_trace.specs.TraceText.{commit_text}
use Rattle.ssb_trace.proofs.commits.write_commits.Goals as goal

pub returns-in_err-write_commit : goal.returns-in_err-write_commit
returns-in_err-write_commit g c =
    let contents = g.W.Write.contents in
    writes_stopped _ c.from_residual.result (contents c.args.writer.now) (contents c.write_commit.new.writer) _
    c.from_residual.ensures.1
    (part_item commit_text c.args.commits.now c.loop-commit.commit-index c.commit-item.result c.commit-item.result
    (contents c.args.writer.now) (contents c.loop-commit.writer) (contents c.write_commit.new.writer)
    (search rules) c.commit-item.is c.loop-commit.invariant c.in_err-write_commit.ensures)
