use Rattle.std.proofs.Common.{◌∙◌, ap, sym}
use Rattle.row_store.specs.State.{State}
use Rattle.twin_cell.specs.Twin.{Known}
use Rattle.ssb_server.proofs.SnapshotLaws.{stands_at, left_knows, ahead}
use Rattle.ssb_server.proofs.snapshot.enter.Goals as goal

pub returns-clause-entered : goal.returns-clause-entered
returns-clause-entered g c = stands_at _ _ c.learn.new.self _
    (c.learn.ensures.base ∙ ap (λ (n : Known). n.base) c.in-Ok.ensures.told)
    (c.learn.ensures.told ∙ ap (λ (n : Known). n.told) c.in-Ok.ensures.told) c.enter-guard.ensures.base
    c.enter-guard.ensures.told c.enter-guard.ensures.begins c.enter-guard.ensures.stands
    (ap (λ (s : State). s.commits) (sym c.replica.ensures.state)
    ∙ (sym c.commits-found.ensures ∙ (c.if-found-told.false ∙ c.told-told.ensures)))

pub returns-then-found-told-clause-entered : goal.returns-then-found-told-clause-entered
returns-then-found-told-clause-entered g c =
    let base = c.learn.ensures.base ∙ ap (λ (n : Known). n.base) c.in-Ok.ensures.told in
    let told = c.learn.ensures.told ∙ ap (λ (n : Known). n.told) c.in-Ok.ensures.told in
    let is = ahead _ c.learn.new.self c.enter-guard.result c.leave.result c.told-told.result c.commits-found.result told
    c.enter-guard.ensures.begins c.enter-guard.ensures.stands c.leave.ensures.last c.told-told.ensures
    (c.commits-found.ensures ∙ ap (λ (s : State). s.commits) c.replica.ensures.state) c.if-found-told.true in
    record {
      reader = left_knows _ _ c.learn.new.self c.enter-guard.result _ base told c.enter-guard.ensures.base
          c.enter-guard.ensures.told c.leave.ensures.base c.leave.ensures.told;
      cause = is.0;
      found = is.1;
    }
