use Rattle.std.proofs.Common.{rules, ap, sym, ◌∙◌, [], ◌∷◌, ◌++◌}
use Rattle.std.proofs.lemmas.List.Sorted.{IsNonDecreasingBy-from_sort_by_key}
use Rattle.ssb_audit.proofs.VisitLaws.{visits_more}
use Rattle.ssb_audit.specs.declared.visits.Visit.{Visit}
use Rattle.ssb_audit.proofs.visits.visits_of.Goals as goal

pub loop-place-preserved : goal.loop-place-preserved
loop-place-preserved c =
    let answers = c.args.answers.now in
    let told = c.index-answers-place.result in
    c.in_ok-push.ensures.items ∙ ap (λ visits. visits ++ record { at = told.at; place = c.loop-place.place } ∷ [])
    c.loop-place.invariant
    ∙ sym (visits_more answers c.loop-place.place told c.loop-place-test.true c.index-answers-place.is)

pub returns-clause-sorted : goal.returns-clause-sorted
returns-clause-sorted c = IsNonDecreasingBy-from_sort_by_key (λ (visit : Visit). visit.at) _
    c.in_ok-sort_by_key.ensures.sorted (λ a r q k. search rules)
