use Rattle.std.proofs.Common.{◌≡◌, ◌++◌, Err, arith, ap, rules}
use Rattle.row_store.specs.History.{CommitRecord}
use Rattle.serve_command.proofs.RemakingLaws.{fault_told, next_seated, one_more, remake_fault, seat_of, still_still}
use Rattle.serve_command.specs.Remade.{IsRemakeFault}
use Rattle.serve_command.proofs.remaking.remake.Goals as goal

pub remake_one-requires-clause-client : goal.remake_one-requires-clause-client
remake_one-requires-clause-client g c =
    seat_of c.args.server.now c.loop-commit.reader.seen c.loop-commit.clients c.commit.inside.client
    c.commit-item.result.client c.index-clients-seat.result c.loop-commit.invariant.clients
    (ap (λ (x : CommitRecord). x.client) c.commit.view_is) (omega arith) (omega arith) c.index-clients-seat.is

pub returns-in_err-remake_one-clause-fault : goal.returns-in_err-remake_one-clause-fault
returns-in_err-remake_one-clause-fault g c =
    let why = c.in_err-remake_one.field-0.0 in
    let is : c.from_residual.result ≡ Err why = search rules in
    fault_told (IsRemakeFault c.args.server.now.base (c.args.reader.now.seen ++ c.args.commits.now))
    c.from_residual.result why is
    (remake_fault c.args.server.now.base c.args.reader.now.seen c.args.commits.now c.loop-commit.reader.seen
    c.loop-commit.commit-index c.commit-item.result why c.loop-commit-test.true c.commit-item.is
    c.loop-commit.invariant.seen c.in_err-remake_one.ensures.fault)

pub loop-commit-preserved : goal.loop-commit-preserved
loop-commit-preserved g c = record {
  reader = still_still c.args.reader.now c.loop-commit.reader c.remake_one.new.reader c.loop-commit.invariant.reader
      c.remake_one.ensures.reader;
  seen = one_more c.args.reader.now.seen c.args.commits.now c.loop-commit.reader.seen c.remake_one.new.reader.seen
      c.loop-commit.commit-index c.commit-item.result c.loop-commit-test.true c.commit-item.is
      c.loop-commit.invariant.seen c.in_ok-remake_one.ensures.made;
  clients = next_seated c.args.server.now c.loop-commit.reader.seen c.remake_one.new.reader.seen c.commit-item.result
      c.loop-commit.clients c.commit.inside.client c.remake_one.new.client c.loop-commit.invariant.clients
      c.in_ok-remake_one.ensures.made (ap (λ (x : CommitRecord). x.client) c.commit.view_is) (omega arith)
      c.in_ok-remake_one.ensures.client;
}
