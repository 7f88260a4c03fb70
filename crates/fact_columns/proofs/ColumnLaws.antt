-- What follows of columns that stand for a history.
use Rattle.std.proofs.Common.{◌≡◌, List, length, sym, ap, ◌∙◌}
use Rattle.std.proofs.lemmas.List.{length-map}
use Rattle.std.proofs.lemmas.List.Sorted.{length_permutation}
use Rattle.ssb_schema.specs.Facts.{fact_of, facts_of}
use Rattle.row_store.specs.History.{CommitRecord, lines_after}
use Rattle.row_store.specs.State.{StandsFor}
use Rattle.row_store.proofs.RearrangedLaws.{equal_counts_rearrange}
use Rattle.fact_columns.specs.Stored.{Stored, columns_state}
use Rattle.fact_columns.specs.Laws.{LiveFactsAreTheLines}

pub live_facts_are_the_lines : LiveFactsAreTheLines
live_facts_are_the_lines c history stands = equal_counts_rearrange c.facts (facts_of (lines_after c.base history))
    (ap (λ s. s.counts) stands)

-- so they are as many
pub as_many_facts : (c : Stored) (history : List CommitRecord) → StandsFor (columns_state c) history
    → length c.facts ≡ length (lines_after c.base history)
as_many_facts c history stands =
    sym (length_permutation c.facts (facts_of (lines_after c.base history)) (live_facts_are_the_lines c history stands))
    ∙ length-map (lines_after c.base history) fact_of
