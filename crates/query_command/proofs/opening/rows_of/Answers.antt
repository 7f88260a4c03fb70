use Rattle.std.proofs.Common.{◌≡◌, IfOk, subst}
use Rattle.fact_columns.specs.Stored.{columns_state}
use Rattle.row_store.specs.State.{StandsFor}
use Rattle.shared_scan.specs.Answers.{Prepared, answers_after}
use Rattle.query_command.proofs.opening.rows_of.Goals as goal

pub returns : goal.returns
returns g c = λ history stands.
    let P : Prepared → Type 0 = λ p. StandsFor (columns_state p.columns) history
    → IfOk c.scan-rows.result (λ rows. rows.items ≡ answers_after p.columns.base history p.questions) in
    subst P c.in_ok-batch.ensures.prepared (c.scan-rows.ensures.answers history) stands
