use Rattle.std.proofs.Common.{◌≡◌, false, length, ap, sym, subst, ◌∙◌}
use Rattle.history.specs.Words.{store}
use Rattle.history.specs.Tokens.{Took}
use Rattle.history.specs.TokenParts.{shown_token}
use Rattle.history.proofs.PassingLaws.{passed, took_seated, took_token}
use Rattle.history.proofs.shared_table.SharedTable.take_rows.Goals as goal

pub invariant_of-token : goal.invariant_of-token
invariant_of-token g c = let took = c.take_rows-rows.ensures in let free : c.token.inside.seat.me.0.holds_rows ≡ false =
    ap (λ t. t.has_rows) c.token.view_is ∙ c.requires.free in
    took_seated c.token.inside c.take_rows-rows.new.seat took.0 c.len.result c.token.invariant free
    (c.len.ensures.count ∙ ap (λ s. length s.log) took.1) took.3 took.2.2

pub returns-clause-rows : goal.returns-clause-rows
returns-clause-rows g c = let took = c.take_rows-rows.ensures in
    took.1 ∙ ap (λ m. store m.0.terms.base m.0.member.seen) (sym took.2.2)

pub returns-clause-took : goal.returns-clause-took
returns-clause-took g c = let took = c.take_rows-rows.ensures in let p = c.token.inside in
    subst (λ t. Took t (shown_token (passed p p.hand c.take_rows-rows.new.seat c.len.result))) c.token.view_is
    (took_token p c.take_rows-rows.new.seat took.0 c.len.result took.3 took.2.0 took.2.2)
