use Rattle.std.proofs.Common.{◌≡◌, ◌∙◌, ◌||◌, Bool, true, false, List, get_or, length, sym, ap, subst, arith}
use Rattle.std.specs.Prelude.{is_some}
use Rattle.std.proofs.lemmas.List.Folds.{list_any_at, list_any_more}
use Rattle.fact_columns.specs.Watching.{live_lines}
use Rattle.shared_scan.specs.Follows.{FollowsOver, position_in}
use Rattle.shared_scan.specs.declared.standing.Standing.{Standing}
use Rattle.standing_columns.proofs.questions.StandingQuestions.rows.Goals as goal

pub rows-requires-clause-follows : goal.rows-requires-clause-follows
rows-requires-clause-follows c =
    let columns = c.args.columns.now in
    let item = c.batch-item.result in
    let whole : c.deref-batch-items.result.now ≡ c.args.self.now.batches.items = c.deref-batch-items.ensures.value in
    let P : Standing → Type 0 = λ batch. FollowsOver batch columns.base (live_lines columns.places) in
    subst P (sym (c.batch-item.is ∙ ap (λ l. get_or l c.loop-batch.batch-index item) whole))
    (c.requires.follow c.loop-batch.batch-index item (omega (arith, c.loop-batch-test.true, ap length whole)))

pub returns-in-Some-clause-stands : goal.returns-in-Some-clause-stands
returns-in-Some-clause-stands c =
    let batches : List Standing = c.args.self.now.batches.items in
    let test : Standing → Bool = λ batch. is_some (position_in batch c.args.question.now) in
    let n = c.loop-batch.batch-index in
    let item = c.batch-item.result in
    let whole : c.deref-batch-items.result.now ≡ batches = c.deref-batch-items.ensures.value in
    let is : item ≡ get_or batches n item = c.batch-item.is ∙ ap (λ l. get_or l n item) whole in
    let here : test item ≡ true = ap is_some (sym c.in-Some.ensures.position) in
    sym (list_any_at test batches n item (omega (arith, c.loop-batch-test.true, ap length whole))
    (ap test (sym is) ∙ here))

pub loop-batch-preserved : goal.loop-batch-preserved
loop-batch-preserved c =
    let batches : List Standing = c.args.self.now.batches.items in
    let test : Standing → Bool = λ batch. is_some (position_in batch c.args.question.now) in
    let n = c.loop-batch.batch-index in
    let item = c.batch-item.result in
    let whole : c.deref-batch-items.result.now ≡ batches = c.deref-batch-items.ensures.value in
    let is : item ≡ get_or batches n item = c.batch-item.is ∙ ap (λ l. get_or l n item) whole in
    let here : test (get_or batches n item) ≡ false = ap test (sym is) ∙ ap is_some (sym c.position.ensures.position
    ∙ c.in_default.is) in
    list_any_more test batches n item (omega (arith, c.loop-batch-test.true, ap length whole))
    ∙ (λ j. c.loop-batch.invariant j || here j)
