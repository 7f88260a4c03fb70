use Rattle.serve_command.proofs.ReadingLaws.{clients_of, fetched_table, few_clients, later_where}
use Rattle.serve_command.proofs.server_log.ServerLogLogSource.commits_from.Goals as goal

pub invariant_of-self : goal.invariant_of-self
invariant_of-self g c = record {
  of_server = fetched_table c.args.self.now.server.now c.args.self.now.reader c.commits_from-commits.new.self
      c.commits_from-commits.ensures.reads c.args.self.now.of_server;
  few = c.args.self.now.few;
  later = later_where g.K.LogStart.reader c.args.self.now.reader c.commits_from-commits.new.self
      c.commits_from-commits.ensures.reads c.args.self.now.later;
}

pub returns-clause-clients : goal.returns-clause-clients
returns-clause-clients g c =
    let table = fetched_table c.args.self.now.server.now c.args.self.now.reader c.commits_from-commits.new.self
    c.commits_from-commits.ensures.reads c.args.self.now.of_server in
    clients_of (λ commits. commits.items) c.commits_from-commits.result c.commits_from-commits.new.self.table.clients
    c.args.taken c.commits_from-commits.new.self.seen
    (few_clients c.args.self.now.server.now c.commits_from-commits.new.self table c.args.self.now.few)
    c.soundness.ensures.named c.commits_from-commits.ensures.commits
