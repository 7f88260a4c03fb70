use Rattle.std.proofs.Common.{◌≡◌, ◌∷◌, length, sym, ap, subst, ◌∙◌}
use Rattle.std.proofs.lemmas.List.Elements.{All-head, All-tail}
use Rattle.row_store.specs.History.{IsPrefix}
use Rattle.history.specs.Plays.{Learns, looked}
use Rattle.history.specs.Tokens.{Saw}
use Rattle.history.specs.TokenParts.{shown_token}
use Rattle.history.proofs.PassingLaws.{passed, looked_seated, saw_token}
use Rattle.history.proofs.shared_table.SharedTable.meet.Goals as goal

pub look-other-inside-requires-clause-token : goal.look-other-inside-requires-clause-token
look-other-inside-requires-clause-token g c = (
  c.other.inside.place,
  ap (λ m. m.0.role) c.hear.ensures.other.2
      ∙ c.other.invariant.role,
)

pub look-token-inside-requires-clause-token : goal.look-token-inside-requires-clause-token
look-token-inside-requires-clause-token g c = (
  c.token.inside.place,
  ap (λ m. m.0.role) c.hear.ensures.own.2
      ∙ c.token.invariant.role,
)

pub invariant_of-token : goal.invariant_of-token
invariant_of-token g c = let saw = c.look-token-inside.ensures in let o = c.other.inside.seat.me.0 in let v =
    c.token.inside.seat.me.0 in
    looked_seated c.token.inside c.look-token-inside.new.seat (o.member.seen ∷ v.beside) saw.0 c.look-token-inside.result
    c.token.invariant saw.1 (subst (λ m. Learns m.0 saw.0) c.hear.ensures.own.2 saw.3)
    (saw.2.2 ∙ ap (λ m. (looked m.0 saw.0, m.1)) c.hear.ensures.own.2)

pub invariant_of-other : goal.invariant_of-other
invariant_of-other g c = let saw = c.look-other-inside.ensures in
    looked_seated c.other.inside c.look-other-inside.new.seat c.other.inside.seat.me.0.beside saw.0
    c.look-other-inside.result c.other.invariant saw.1 (subst (λ m. Learns m.0 saw.0) c.hear.ensures.other.2 saw.3)
    (saw.2.2 ∙ ap (λ m. (looked m.0 saw.0, m.1)) c.hear.ensures.other.2)

pub returns-clause-length : goal.returns-clause-length
returns-clause-length g c = let saw = c.look-token-inside.ensures in
    saw.1 ∙ ap (λ m. length m.0.member.seen) (sym saw.2.2)

pub returns-clause-met : goal.returns-clause-met
returns-clause-met g c = let saw = c.look-token-inside.ensures in let o = c.other.inside.seat.me.0 in let v =
    c.token.inside.seat.me.0 in
    let told = subst (λ m. Learns m.0 saw.0) c.hear.ensures.own.2 saw.3 in
    let heard : IsPrefix o.member.seen saw.0 = All-head (λ list. IsPrefix list saw.0) o.member.seen v.beside told.beside
    in
    let now : c.look-token-inside.new.seat.me.0.member.seen ≡ saw.0 = ap (λ m. m.0.member.seen) saw.2.2 in
    subst (IsPrefix c.args.other.now.seen) (sym now) (subst (λ t. IsPrefix t.seen saw.0) c.other.view_is heard)

pub returns-clause-saw : goal.returns-clause-saw
returns-clause-saw g c = let saw = c.look-token-inside.ensures in let o = c.other.inside.seat.me.0 in let p =
    c.token.inside in let v = p.seat.me.0 in
    let told = subst (λ m. Learns m.0 saw.0) c.hear.ensures.own.2 saw.3 in
    subst (λ t. Saw t (shown_token (passed p p.hand c.look-token-inside.new.seat c.look-token-inside.result))) c.token.view_is
    (saw_token p c.look-token-inside.new.seat c.look-token-inside.result (o.member.seen ∷ v.beside) saw.0
    (saw.2.0 ∙ c.hear.ensures.own.0) (saw.2.2 ∙ ap (λ m. (looked m.0 saw.0, m.1)) c.hear.ensures.own.2)
    told.begins (All-tail (λ list. IsPrefix list saw.0) o.member.seen v.beside told.beside))

pub returns-clause-other : goal.returns-clause-other
returns-clause-other g c = let saw = c.look-other-inside.ensures in let p = c.other.inside in let told =
    subst (λ m. Learns m.0 saw.0) c.hear.ensures.other.2 saw.3 in
    subst (λ t. Saw t (shown_token (passed p p.hand c.look-other-inside.new.seat c.look-other-inside.result))) c.other.view_is
    (saw_token p c.look-other-inside.new.seat c.look-other-inside.result p.seat.me.0.beside saw.0
    (saw.2.0 ∙ c.hear.ensures.other.0) (saw.2.2 ∙ ap (λ m. (looked m.0 saw.0, m.1)) c.hear.ensures.other.2)
    told.begins told.beside)
