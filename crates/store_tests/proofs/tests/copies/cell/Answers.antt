use Rattle.std.proofs.Common.{rules, ◌≡◌, [], Option, Some, IfSome, refl, subst}
use Rattle.std.proofs.lemmas.List.Elements.{All-pop}
use Rattle.twin_cell.specs.Twin.{Reading}
use Rattle.store_tests.proofs.PrefixLaws.{prefix_moved}
use Rattle.row_store.proofs.PrefixLaws.{prefix_empty}
use Rattle.store_tests.proofs.tests.copies.cell.Goals as goal

pub returns-clause-told : goal.returns-clause-told
returns-clause-told g c =
    let new : Reading → Type 0 = λ r. (r.base ≡ (g.R.Replica.state c.args.first).base) × (r.told ≡ []) in
    let last : IfSome c.pop.result new = (All-pop new c.in_ok-writer.readers.items c.pop.new.self.items c.pop.result
    c.pop.ensures.items c.in_ok-writer.ensures.known).1 in
    let is : c.pop.result ≡ Some c.in_ok-reader.reader = search rules in
    let is_new : new c.in_ok-reader.reader = subst (λ (o : Option Reading). IfSome o new) is last in
    prefix_moved is_new.1 refl (prefix_empty c.in_ok-writer.writer.published)
