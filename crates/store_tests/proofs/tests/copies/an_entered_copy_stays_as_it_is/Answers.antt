use Rattle.std.proofs.Common.{rules, ◌≡◌, refl}
use Rattle.store_tests.proofs.PrefixLaws.{prefix_moved}
use Rattle.row_store.proofs.PrefixLaws.{beginnings_chain}
use Rattle.store_tests.proofs.tests.copies.an_entered_copy_stays_as_it_is.Goals as goal

pub tell-requires-clause-told : goal.tell-requires-clause-told
tell-requires-clause-told g c = beginnings_chain _ _ _ c.in_ok-writer.ensures.told c.in_ok-writer-2.ensures.longer

pub tell-requires-2-clause-told : goal.tell-requires-2-clause-told
tell-requires-2-clause-told g c =
    let told : c.leave-reader.result.told ≡ c.tell.new.writer.published = search rules in
    prefix_moved told refl c.in_ok-writer-3.ensures.longer
