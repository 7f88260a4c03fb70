use Rattle.std.proofs.Common.{◌≡◌, ◌∙◌, [], ap, rules}
use Rattle.row_store.specs.State.{state_of}
use Rattle.shared_scan.proofs.LoadedLaws.{loaded_snapshot}
use Rattle.query_command.proofs.opening.columns_of.Goals as goal

pub returns-clause-snapshot : goal.returns-clause-snapshot
returns-clause-snapshot g c =
    let shared : c.in_ok-base.base.value ≡ c.args.base = search rules in
    let same : c.in_ok-index.index.value ≡ c.args.base = c.in_ok-index.ensures ∙ shared in
    loaded_snapshot c.in_ok-columns.columns c.args.base (c.in_ok-columns.ensures ∙ ap (λ b. state_of b []) same)
    c.soundness.ensures
