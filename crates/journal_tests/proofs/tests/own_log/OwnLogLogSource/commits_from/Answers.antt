use Rattle.std.proofs.Common.{◌≡◌, IfOk, subst, arith}
use Rattle.std.proofs.lemmas.Grind.{common_steps}
use Rattle.journal_tests.specs.OwnCommits.{own}
use Rattle.journal_tests.proofs.OwnLaws.{seen_behind}
use Rattle.journal_tests.proofs.tests.own_log.OwnLogLogSource.commits_from.Goals as goal

pub returns-clause-commits : goal.returns-clause-commits
returns-clause-commits g c =
    let old = c.args.self.now in
    let behind = seen_behind old.refreshes.now (λ refresh. own refresh.value) c.args.taken old.seen c.min-self.result
    c.requires (grind (arith, common_steps)) in
    subst (λ l. IfOk c.own_commits.result (λ commits. commits.items ≡ l)) behind c.own_commits.ensures.commits
