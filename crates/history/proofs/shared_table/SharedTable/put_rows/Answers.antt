use Rattle.std.proofs.Common.{◌≡◌, true, ap, sym, subst, ◌∙◌}
use Rattle.history.specs.Tokens.{MayPut, Put}
use Rattle.history.specs.TokenParts.{IsSeated, shown_token}
use Rattle.history.proofs.PassingLaws.{passed, put_seated, put_token, put_adds, put_same}
use Rattle.history.proofs.shared_table.SharedTable.put_rows.Goals.{then-length-token, else-length-token}
use Rattle.history.proofs.shared_table.SharedTable.put_rows.Goals as goal

pub put_back-requires-clause-rows : goal.put_back-requires-clause-rows
put_back-requires-clause-rows g c = let may : MayPut (shown_token c.token.inside) c.args.rows =
    subst (λ t. MayPut t c.args.rows) (sym c.token.view_is) c.requires.rows in
    put_same c.token.inside c.args.rows c.token.invariant may (sym c.len-length.ensures.count ∙ c.if-length-token.true)

pub put_commit-requires-clause-rows : goal.put_commit-requires-clause-rows
put_commit-requires-clause-rows g c = let may : MayPut (shown_token c.token.inside) c.args.rows =
    subst (λ t. MayPut t c.args.rows) (sym c.token.view_is) c.requires.rows in (
      may.0,
      put_adds c.token.inside c.args.rows c.token.invariant may
          (λ e. c.if-length-token.false (c.len-length.ensures.count ∙ e)),
    )

pub invariant_of-token : goal.invariant_of-token
invariant_of-token g c = let may : MayPut (shown_token c.token.inside) c.args.rows =
    subst (λ t. MayPut t c.args.rows) (sym c.token.view_is) c.requires.rows in let held :
    c.token.inside.seat.me.0.holds_rows ≡ true = ap (λ t. t.has_rows) c.token.view_is ∙ c.requires.taken in
    elim c.if-length-token.branch [
      | then-length-token w ↦ subst (λ p. IsSeated (passed p p.hand p.seat c.len-length.result)) (sym w.token-inside-is)
          (put_seated c.token.inside w.put_back.new.seat c.args.rows c.len-length.result c.token.invariant held may
          c.len-length.ensures.count w.put_back.ensures.2)
      | else-length-token w ↦ subst (λ p. IsSeated (passed p p.hand p.seat c.len-length.result)) (sym w.token-inside-is)
          (put_seated c.token.inside w.put_commit.new.seat c.args.rows c.len-length.result c.token.invariant held may
          c.len-length.ensures.count w.put_commit.ensures.2)
    ]

pub returns : goal.returns
returns g c = record {
  put = let p = c.token.inside in elim c.if-length-token.branch [
    | then-length-token w ↦ subst (λ q. Put c.args.token.now c.args.rows
        (shown_token (passed q q.hand q.seat c.len-length.result))) (sym w.token-inside-is)
        (subst (λ t. Put t c.args.rows (shown_token (passed p p.hand w.put_back.new.seat c.len-length.result))) c.token.view_is
        (put_token p w.put_back.new.seat c.args.rows c.len-length.result _ w.put_back.ensures.0 w.put_back.ensures.2))
    | else-length-token w ↦ subst (λ q. Put c.args.token.now c.args.rows
        (shown_token (passed q q.hand q.seat c.len-length.result))) (sym w.token-inside-is)
        (subst (λ t. Put t c.args.rows (shown_token (passed p p.hand w.put_commit.new.seat c.len-length.result))) c.token.view_is
        (put_token p w.put_commit.new.seat c.args.rows c.len-length.result _ w.put_commit.ensures.0
        w.put_commit.ensures.2))
  ];
}
