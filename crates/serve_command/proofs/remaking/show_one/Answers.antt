use Rattle.std.proofs.Common.{arith}
use Rattle.serve_command.proofs.RemakingLaws.{same_as_long, shown_seated}
use Rattle.serve_command.proofs.remaking.show_one.Goals as goal

pub returns-clause-same : goal.returns-clause-same
returns-clause-same g c =
    same_as_long c.args.reader.now.seen c.show.new.self.seen c.show.ensures.reader.begins
    (omega (arith, c.seen.ensures, c.if-seen-count.false, c.requires.count))

pub returns-clause-seen : goal.returns-clause-seen
returns-clause-seen g c =
    same_as_long c.args.reader.now.seen c.show.new.client.seen c.show.ensures.shown
    (omega (arith, c.show.ensures.length, c.if-show-count.false, c.requires.count))

pub returns-clause-client : goal.returns-clause-client
returns-clause-client g c = λ number seated.
    shown_seated c.args.server.now c.args.reader.now.seen number c.args.client.now c.show.new.client
    c.show.ensures.looks
    (same_as_long c.args.reader.now.seen c.show.new.client.seen c.show.ensures.shown
    (omega (arith, c.show.ensures.length, c.if-show-count.false, c.requires.count)))
    seated
