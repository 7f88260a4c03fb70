use Rattle.std.proofs.Common.{rules, ◌≡◌, ℕ, ◌+◌, ◌∷◌, [], List, replicate, length, get_or, Some, None, ap, ◌∙◌, arith}
use Rattle.std.proofs.lemmas.Grind.{common_steps}
use lib.ListN.{length-replicate}
use Rattle.history.specs.declared.view.SlotValue.TheVariants.{Writer}
use Rattle.history.specs.Rule.{rows, terms_of}
use Rattle.history.proofs.SplittingLaws.{starts_with, zero_words}
use Rattle.history.proofs.shared_table.open.Goals as goal

pub new-requires : goal.new-requires
new-requires g c = let base_of = g.W.Follower.base in let opening = c.args.opening.now in let words :
    c.as_slice.result.now ≡ replicate (2 + opening.clients) 0 = first_of (search rules, grind (arith, common_steps)) in
    let over = c.loop-test.false in let under = c.loop.auto.counter-end in let all : c.loop.counter ≡ opening.clients =
    omega arith in let parts = c.requires.parts in
    starts_with base_of g.W.Follower.commits (terms_of opening) c.args.writer _ _ (parts.1, parts.2)
    (ap length words ∙ length-replicate (2 + opening.clients) 0)
    (λ i. ap (λ (ws : List ℕ). get_or ws i 0) words ∙ zero_words (2 + opening.clients) i 0)
    (c.loop.invariant ∙ ap (λ n. rows opening.base.value [] ∷ Some (Writer c.args.writer) ∷ replicate n None) all)
