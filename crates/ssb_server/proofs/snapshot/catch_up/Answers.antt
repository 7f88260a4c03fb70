use Rattle.std.proofs.Common.{◌++◌, ◌∙◌, sym, subst}
use Rattle.std.specs.Prelude.{MatchResult}
use Rattle.twin_cell.specs.Twin.{Writing}
use Rattle.ssb_server.specs.Turns.{Knows, StandsAt, Misses, Follows}
use Rattle.ssb_server.proofs.SnapshotLaws.{renewed_follows, renewed_is}
use Rattle.ssb_server.proofs.snapshot.catch_up.Goals as goal

pub returns-then-is_err-clause-writer : goal.returns-then-is_err-clause-writer
returns-then-is_err-clause-writer g c = renewed_follows c.args.writer c.args.commits.items c.renew-writer.result.1
    c.renew-writer.result.0 c.renew-writer.ensures

pub enter-entered-requires : goal.enter-entered-requires
enter-entered-requires g c =
    let is = renewed_is c.args.writer c.args.commits.items c.renew-writer.result.1 c.renew-writer.result.0
    c.renew-writer.ensures (sym c.is_err.ensures.value ∙ c.if-is_err.false) in
    subst (λ (w : Writing). Knows w.base w.published c.args.reader) (sym is) c.requires

pub returns-clause-writer : goal.returns-clause-writer
returns-clause-writer g c = subst (λ (w : Writing). Follows c.args.writer.base
    (c.args.writer.published ++ c.args.writer.pending ++ c.args.commits.items) w) (sym c.enter-entered.ensures.kept)
    (renewed_follows c.args.writer c.args.commits.items c.renew-writer.result.1 c.renew-writer.result.0
    c.renew-writer.ensures)

pub returns-clause-entered : goal.returns-clause-entered
returns-clause-entered g c =
    let is = renewed_is c.args.writer c.args.commits.items c.renew-writer.result.1 c.renew-writer.result.0
    c.renew-writer.ensures (sym c.is_err.ensures.value ∙ c.if-is_err.false) in
    subst (λ (w : Writing). MatchResult c.enter-entered.result (StandsAt w.base w.published)
    (Misses w.base w.published)) is c.enter-entered.ensures.entered
