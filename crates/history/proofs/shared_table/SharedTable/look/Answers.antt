use Rattle.std.proofs.Common.{length, ap, sym, subst, ◌∙◌}
use Rattle.history.specs.Tokens.{Saw}
use Rattle.history.specs.TokenParts.{shown_token}
use Rattle.history.proofs.PassingLaws.{passed, looked_seated, saw_token}
use Rattle.history.proofs.shared_table.SharedTable.look.Goals as goal

pub invariant_of-token : goal.invariant_of-token
invariant_of-token g c = let saw = c.look-token-inside.ensures in
    looked_seated c.token.inside c.look-token-inside.new.seat c.token.inside.seat.me.0.beside saw.0
    c.look-token-inside.result c.token.invariant saw.1 saw.3 saw.2.2

pub returns-clause-length : goal.returns-clause-length
returns-clause-length g c = let saw = c.look-token-inside.ensures in
    saw.1 ∙ ap (λ m. length m.0.member.seen) (sym saw.2.2)

pub returns-clause-saw : goal.returns-clause-saw
returns-clause-saw g c = let saw = c.look-token-inside.ensures in let p = c.token.inside in
    subst (λ t. Saw t (shown_token (passed p p.hand c.look-token-inside.new.seat c.look-token-inside.result))) c.token.view_is
    (saw_token p c.look-token-inside.new.seat c.look-token-inside.result p.seat.me.0.beside saw.0 saw.2.0 saw.2.2
    saw.3.begins saw.3.beside)
