use Rattle.std.proofs.Common.{[], ap, sym, subst, ◌∙◌}
use Rattle.std.specs.Prelude.{IfOk, IsPermutation}
use Rattle.std.specs.List.Sorted.{IsNonDecreasingBy}
use Rattle.row_store.specs.Legal.{IsLegal}
use Rattle.row_store.specs.State.{State, state_of}
use Rattle.ssb_base.specs.Base.{IsSound}
use Rattle.ssb_audit.specs.Visits.{visits_of, IsFirstWrong}
use Rattle.ssb_audit.specs.declared.visits.Visit.{Visit}
use Rattle.ssb_audit.proofs.walk.first_wrong.Goals as goal

pub walk-requires-clause-loaded : goal.walk-requires-clause-loaded
walk-requires-clause-loaded g c = λ κs outlives. c.in_ok-columns.ensures
    ∙ ap (λ base. state_of base []) (sym (ap (λ (s : State). s.base) c.in_ok-columns.ensures))

pub walk-requires-clause-sound : goal.walk-requires-clause-sound
walk-requires-clause-sound g c = λ κs outlives. subst IsSound
    (c.deref.ensures ∙ sym (ap (λ (s : State). s.base) c.in_ok-columns.ensures ∙ c.in_ok-index.ensures))
    c.soundness.ensures

pub walk-requires-clause-legal : goal.walk-requires-clause-legal
walk-requires-clause-legal g c = λ κs outlives. subst (λ base. IsLegal base c.args.commits.now)
    (sym (ap (λ (s : State). s.base) c.in_ok-columns.ensures ∙ c.in_ok-index.ensures)) c.requires.legal

pub walk-requires-clause-each : goal.walk-requires-clause-each
walk-requires-clause-each g c = λ κs outlives. subst (IsPermutation (visits_of c.args.answers.now))
    (sym c.as_slice.ensures.value) c.in_ok-visits.ensures.each

pub walk-requires-clause-sorted : goal.walk-requires-clause-sorted
walk-requires-clause-sorted g c = λ κs outlives. subst (IsNonDecreasingBy (λ (visit : Visit). visit.at))
    (sym c.as_slice.ensures.value) c.in_ok-visits.ensures.sorted

pub returns : goal.returns
returns g c = subst (λ base. IfOk c.walk.result (λ place. IsFirstWrong base c.args.commits.now c.args.answers.now
    place)) (ap (λ (s : State). s.base) c.in_ok-columns.ensures ∙ c.in_ok-index.ensures) c.walk.ensures
