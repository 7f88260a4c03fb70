use Rattle.row_store.specs.History.{CommitRecord}
use Rattle.std.proofs.Common.{◌≡◌, ap, ◌∙◌, []}
use Rattle.ssb_text.proofs.WrittenLaws.{writes_stopped, writes_next, part_longer}
use Rattle.ssb_trace.specs.TraceText.{begun_text}
use Rattle.ssb_text.specs.TableText.{record_text}
use Rattle.std.specs.Prelude.{codes}
use Rattle.ssb_trace.proofs.commits.write_commit.Goals as goal

pub returns-in_err-write_begun : goal.returns-in_err-write_begun
returns-in_err-write_begun g c =
    let contents = g.W.Write.contents in
    let a = contents c.args.writer.now in
    let b = contents c.write_begun.new.writer in
    let commit = c.args.commit.now in
    let actions : c.actions.result.now ≡ commit.actions =
    c.actions.ensures.actions ∙ c.deref.ensures ∙ ap (λ (r : CommitRecord). r.actions) c.commit.view_is in
    let client : c.commit.inside.client ≡ commit.client = ap (λ (r : CommitRecord). r.client) c.commit.view_is in
    writes_stopped _ c.from_residual.result a b _ c.from_residual.ensures.1
    (part_longer a b (begun_text commit.client commit.actions) (record_text (codes "end") [])
    (rw (actions, client) at c.in_err-write_begun.ensures))

pub returns : goal.returns
returns g c =
    let contents = g.W.Write.contents in
    let commit = c.args.commit.now in
    let actions : c.actions.result.now ≡ commit.actions =
    c.actions.ensures.actions ∙ c.deref.ensures ∙ ap (λ (r : CommitRecord). r.actions) c.commit.view_is in
    let client : c.commit.inside.client ≡ commit.client = ap (λ (r : CommitRecord). r.client) c.commit.view_is in
    writes_next (contents c.args.writer.now) (contents c.write_begun.new.writer) _
    (begun_text commit.client commit.actions) (record_text (codes "end") [])
    c.write_pieces.result (rw (actions, client) at c.in_ok-write_begun.ensures) (c.write_pieces.ensures)
