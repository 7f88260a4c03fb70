use Rattle.serve_command.proofs.BeginningLaws.{since_begun, since_begun_on}
use Rattle.serve_command.proofs.journaled_run.run_open.Goals as goal

pub new-requires-clause-since : goal.new-requires-clause-since
new-requires-clause-since g c =
    since_begun g.D.Disk.moment g.D.Disk.left_since g.K.LogStart.begun c.args.begun.file c.args.begun.count
    c.new-source.result.reader.seen c.requires.begun

pub returns-clause-reader : goal.returns-clause-reader
returns-clause-reader g c = c.left_of.ensures.later c.args.begun.reader c.requires.picked

pub returns-clause-since : goal.returns-clause-since
returns-clause-since g c =
    let left = c.left_of.result in
    since_begun_on g.D.Disk.moment g.D.Disk.left_since g.K.LogStart.begun c.args.begun.file left.disk
    c.args.begun.count left.count left.reader.seen c.requires.begun c.left_of.ensures.since
