use Rattle.std.proofs.Common.{rules, ◌≡◌, length, sym, ap, ◌∙◌}
use Rattle.std.specs.List.{filter}
use Rattle.std.proofs.lemmas.List.{length-map}
use Rattle.fact_columns.specs.Places.{is_live, fact_at}
use Rattle.fact_columns.specs.Stored.{Stored}
use Rattle.fact_columns.specs.Kept.{stored}
use Rattle.fact_columns.proofs.ColumnLaws.{as_many_facts}
use Rattle.fact_columns.proofs.columns.Columns.rows.Goals as goal

pub returns-clause-lines : goal.returns-clause-lines
returns-clause-lines c = λ history stands.
    let inside = c.self.inside in
    let seen : stored inside ≡ c.args.self.now = search rules in
    c.self.invariant.counted
    ∙ sym (length-map (filter is_live inside.table.places) (fact_at inside.index.value.dimensions))
    ∙ ap (λ (s : Stored). length s.facts) seen
    ∙ as_many_facts c.args.self.now history stands
