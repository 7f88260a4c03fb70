use Rattle.std.proofs.Common.{◌≤◌, length, inl, ap, sym, subst, ◌∙◌}
use Rattle.history.specs.Tokens.{TokenRecord}
use Rattle.ssb_clients.proofs.FetchingLaws.{idle_after_fetch}
use Rattle.ssb_clients.proofs.log_reader.LogReader.commits_from.Goals as goal

pub copy_new-commits-requires-clause-dispatcher : goal.copy_new-commits-requires-clause-dispatcher
copy_new-commits-requires-clause-dispatcher g c = record {
  table_is = ap (λ (t : TokenRecord). t.table) c.self.view_is ∙ c.requires.table;
  number = c.self.inside.number;
  who_is = c.self.invariant.who_is;
}

pub copy_new-commits-requires-clause-taken : goal.copy_new-commits-requires-clause-taken
copy_new-commits-requires-clause-taken g c =
    inl (subst (λ (t : TokenRecord). c.args.taken ≤ length t.seen) (sym c.self.view_is) c.requires.taken)

pub invariant_of-self : goal.invariant_of-self
invariant_of-self g c = idle_after_fetch c.self.inside.number c.self.inside.token c.copy_new-commits.new.token
    c.copy_new-commits.ensures.fetched c.self.invariant
