use Rattle.std.proofs.Common.{rules, ◌≡◌, sym, ◌∙◌}
use Rattle.row_store.specs.History.{lines_after}
use Rattle.row_store.proofs.plain.PlainLinesReplica.copy.Goals as goal

pub invariant_of-result : goal.invariant_of-result
invariant_of-result c =
    let lines : c.in_ok-to_vec.field-0.items ≡ c.self.inside.lines.items =
    c.in_ok-to_vec.ensures.items_if_clones_equal (λ x y e. search rules) ∙ c.deref.ensures.value in
    let base : c.in_ok-try_clone.field-0.value ≡ c.self.inside.base.value = search rules in
    let log : c.in_ok-to_vec-2.field-0.items ≡ c.self.inside.log.items = search rules in
    lines ∙ c.self.invariant ∙ sym (λ i. lines_after (base i) (log i))
