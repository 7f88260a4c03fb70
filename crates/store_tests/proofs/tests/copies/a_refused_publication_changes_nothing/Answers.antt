use Rattle.std.proofs.Common.{rules, ◌≡◌, ◌++◌, refl, ap, ◌∙◌}
use Rattle.twin_cell.specs.Twin.{Writing}
use Rattle.store_tests.proofs.PrefixLaws.{prefix_moved}
use Rattle.row_store.proofs.PrefixLaws.{prefix_append}
use Rattle.store_tests.proofs.tests.copies.a_refused_publication_changes_nothing.Goals as goal

pub tell-requires-clause-told : goal.tell-requires-clause-told
tell-requires-clause-told g c =
    let same : c.in_ok-writer-2.writer.published ≡ c.in_ok-writer.writer.published =
    ap (λ (w : Writing). w.published) (c.in_ok-writer-2.ensures ∙ c.in_ok-append.ensures) in
    prefix_moved refl same c.in_ok-writer.ensures.told

pub tell-requires-2-clause-told : goal.tell-requires-2-clause-told
tell-requires-2-clause-told g c =
    let told : c.leave-reader.result.told ≡ c.in_ok-writer-2.writer.published = search rules in
    let grown : c.publish-writer.result.0.published ≡ c.in_ok-writer-2.writer.published
    ++ c.in_ok-writer-2.writer.pending = search rules in
    prefix_moved told grown (prefix_append c.in_ok-writer-2.writer.published c.in_ok-writer-2.writer.pending)
