use Rattle.std.proofs.Common.{◌≡◌, ◌≤◌, length, rules, ap, arith}
use Rattle.row_store.specs.History.{Warehouse}
use Rattle.row_store.proofs.FewLaws.{few_commits_of}
use Rattle.row_store.proofs.store.RowStore.len.Goals as goal

pub returns-clause-few : goal.returns-clause-few
returns-clause-few c =
    let few : length c.self.inside.history.items ≤ c.self.inside.base.value.limits.commits =
    few_commits_of c.self.inside.base.value c.self.inside.history.items c.self.invariant.legal in
    let count : c.self.inside.count ≡ length c.self.inside.history.items = c.self.invariant.last.counted in
    let limit : c.self.inside.base.value.limits.commits ≡ c.args.self.now.base.limits.commits =
    ap (λ (w : Warehouse). w.base.limits.commits) c.self.view_is in
    omega (arith, few, count, limit)
