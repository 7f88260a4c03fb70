use Rattle.std.proofs.Common.{◌≡◌, ◌++◌, ap, rules, subst}
use Rattle.std.specs.Option.{is_some}
use Rattle.serve_command.proofs.RemadeLaws.{refused_making, refused_reading}
use Rattle.serve_command.specs.Remade.{IsRemakeFault}
use Rattle.serve_command.proofs.remade.read_next.Goals as goal

pub returns-in-Err-clause-fault : goal.returns-in-Err-clause-fault
returns-in-Err-clause-fault g c = λ dispatchers.
    refused_reading c.args.server.now.base c.args.journal.reader.marks c.args.journal.start c.args.journal.path.now
    dispatchers _ _ _ _ c.in-Err.fault c.in-Err.ensures.known_err (g.met.U.UnreadDisk.as_known c.in-Err.file)
    c.in-Err.ensures.fault

pub returns-clause-fault : goal.returns-clause-fault
returns-clause-fault g c = λ dispatchers.
    let read = c.in-Ok.next.0.reader in
    let grown : c.args.seats.now.reader.seen ++ c.deref.result.now ≡ read.commits = search rules in
    refused_making c.args.server.now.base c.args.journal.reader.marks c.args.journal.start c.args.journal.path.now
    dispatchers _ _ _ _ read.commits c.in-Err-remake_next.fault c.in-Ok.ensures.known
    (g.met.U.UnreadDisk.as_known read.unread) (c.in-Ok.ensures.kept (ap is_some c.in-Some.is))
    (subst (λ l. IsRemakeFault c.args.server.now.base l c.in-Err-remake_next.fault) grown
    c.in-Err-remake_next.ensures.fault)
