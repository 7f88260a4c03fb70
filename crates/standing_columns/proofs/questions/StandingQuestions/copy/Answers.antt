use Rattle.std.proofs.Common.{◌≡◌, ℕ, ◌+◌, ◌<◌, List, [], ◌∷◌, ◌++◌, length, get_or, ap, subst, sym, ◌∙◌, arith}
use Rattle.std.proofs.lemmas.List.{length-append, get_or_default, take_all}
use Rattle.shared_scan.proofs.EachLaws.{each_more}
use Rattle.shared_scan.specs.declared.standing.Standing.{Standing}
use Rattle.standing_columns.specs.Standing.{questions_in}
use Rattle.standing_columns.proofs.StandingLaws.{Copies, all_copied, copied_more}
use Rattle.standing_columns.proofs.questions.StandingQuestions.copy.Goals as goal

pub loop-batch-preserved : goal.loop-batch-preserved
loop-batch-preserved c =
    let n = c.loop-batch.batch-index in
    let old : List Standing = c.args.self.now.batches.items in
    let copy : List Standing = c.loop-batch.batches.items in
    let item = c.batch-item.result in
    let made : Standing = c.in_ok-copy.field-0 in
    let whole : c.deref-batch-items.result.now ≡ old = c.deref-batch-items.ensures.value in
    let there : n < length old = omega (arith, c.loop-batch-test.true, ap length whole) in
    let is : item ≡ get_or old n item = c.batch-item.is ∙ ap (λ l. get_or l n item) whole in
    let items : c.push.new.self.items ≡ copy ++ made ∷ [] = c.in_ok-push.ensures.items in
    let P : ℕ → Standing → Type 0 = λ k t. (s : Standing) → Copies (get_or old k s) t in
    let here : P n made = λ s.
    let R : Standing → Type 0 = λ batch. Copies batch made in
    subst R (is ∙ get_or_default old n item s there) c.in_ok-copy.ensures.follows in
    record {
      len = ap length items ∙ length-append copy (made ∷ []) ∙ ap (λ (m : ℕ). m + 1) c.loop-batch.invariant.len;
      questions = copied_more old copy c.push.new.self.items n item made there is c.in_ok-copy.ensures.same items
          c.loop-batch.invariant.questions;
      each = λ k s t below.
          let Q : List Standing → Type 0 = λ xs. Copies (get_or old k s) (get_or xs k t) in
          subst Q (sym items) (each_more P copy n made c.loop-batch.invariant.len here
          (λ j b lt s. c.loop-batch.invariant.each j s b lt) k t below s);
    }

pub returns : goal.returns
returns c =
    let old : List Standing = c.args.self.now.batches.items in
    let count : c.loop-batch.batch-index ≡ length old = omega (arith, ap length c.deref-batch-items.ensures.value) in
    record {
      questions = c.loop-batch.invariant.questions ∙ ap questions_in (take_all c.loop-batch.batch-index old
          (omega (arith, count)));
      follow = λ base lines follow. all_copied old c.loop-batch.batches.items (c.loop-batch.invariant.len ∙ count)
          (λ k s t below. c.loop-batch.invariant.each k s t (omega (arith, below, count))) base lines follow;
    }
