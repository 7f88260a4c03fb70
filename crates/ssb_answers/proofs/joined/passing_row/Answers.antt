-- The row that has the key is the one that was found, and it is left where it passes.
use Rattle.std.proofs.Common.{◌∙◌, ◌∷◌, [], None, Some, Bool, cond, ap, sym}
use Rattle.ssb_answers.specs.RowValues.{pass}
use Rattle.ssb_answers.proofs.JoinLaws.{passing_is}
use Rattle.ssb_answers.proofs.joined.passing_row.Goals as goal

pub returns-in_err-row : goal.returns-in_err-row
returns-in_err-row g c =
    rw c.from_residual.ensures
    (passing_is g.F.Keyed.key_of c.args.key
    (λ row. pass c.args.tests.now (λ place. g.F.QueryFields.value_of place row)) c.args.dimension.now None
    c.requires c.in_err-row.ensures)

pub returns-then-passes : goal.returns-then-passes
returns-then-passes g c =
    let row = c.in_ok-row.row.now in
    passing_is g.F.Keyed.key_of c.args.key
    (λ row. pass c.args.tests.now (λ place. g.F.QueryFields.value_of place row)) c.args.dimension.now
    (Some row) c.requires c.in_ok-row.ensures
    ∙ ap (λ (b : Bool). cond b (row ∷ []) []) (sym c.if-passes.ensures)

pub returns-else-passes : goal.returns-else-passes
returns-else-passes g c =
    let row = c.in_ok-row.row.now in
    passing_is g.F.Keyed.key_of c.args.key
    (λ row. pass c.args.tests.now (λ place. g.F.QueryFields.value_of place row)) c.args.dimension.now
    (Some row) c.requires c.in_ok-row.ensures
    ∙ ap (λ (b : Bool). cond b (row ∷ []) []) (sym c.if-passes.ensures)
