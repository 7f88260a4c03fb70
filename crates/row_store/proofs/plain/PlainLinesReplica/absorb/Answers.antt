use Rattle.std.proofs.Common.{rules, ◌≡◌, [], ◌∷◌, ◌++◌, flat_map, sym, ap, ◌∙◌}
use Rattle.row_store.specs.State.{state_of}
use Rattle.row_store.specs.History.{CommitRecord, lines_after}
use Rattle.row_store.specs.Lines.{lines_after_refresh}
use Rattle.row_store.specs.Absorbing.{gone_by, lines_without_all}
use Rattle.row_store.proofs.AbsorbedLaws.{absorbed}
use Rattle.row_store.proofs.StateLaws.{lines_after-push, state_after-state_of}
use Rattle.row_store.proofs.plain.PlainLinesReplica.absorb.Goals as goal

pub invariant_of-self-2 : goal.invariant_of-self-2
invariant_of-self-2 c =
    let base = c.self.inside.base.value in
    let log = c.self.inside.log.items in
    let made : CommitRecord = c.args.commit.now in
    let longer : c.push_reserved.new.self.items ≡ log ++ made ∷ [] = search rules in
    let actions : c.actions-actions.result.now ≡ made.actions = search rules in
    let lines : c.append.new.self.items ≡ lines_without_all (flat_map gone_by c.actions-actions.result.now)
    c.self.inside.lines.items ++ lines_after_refresh [] c.actions-actions.result.now = search rules in
    lines ∙ absorbed c.self.inside.lines.items c.actions-actions.result.now
    ∙ (λ i. lines_after_refresh (c.self.invariant i) (actions i))
    ∙ sym (lines_after-push base log made)
    ∙ ap (lines_after base) (sym longer)

pub returns-clause-state : goal.returns-clause-state
returns-clause-state c =
    let same : c.self.inside.base.value ≡ c.args.self.now.base = search rules in
    let longer : c.push_reserved.new.self.items ≡ c.args.self.now.log ++ c.args.commit.now ∷ [] = search rules in
    (λ i. state_of (same i) (longer i)) ∙ sym (state_after-state_of c.args.self.now.base c.args.self.now.log
    c.args.commit.now)
