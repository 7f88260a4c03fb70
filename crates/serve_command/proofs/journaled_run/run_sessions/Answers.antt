use Rattle.std.proofs.Common.{◌≡◌, refl, rules}
use Rattle.serve_command.proofs.BeginningLaws.{since_begun}
use Rattle.serve_command.specs.JournaledRun.{begun_on}
use Rattle.serve_command.specs.declared.journaled_run.BegunFile.TheVariants.{ReadOnly}
use Rattle.serve_command.proofs.journaled_run.run_sessions.Goals as goal

pub returns-in-ReadOnly-clause-since : goal.returns-in-ReadOnly-clause-since
returns-in-ReadOnly-clause-since g c =
    let is : c.args.begun.file ≡ ReadOnly c.in-ReadOnly.disk = search rules in
    rw is
    (since_begun g.D.Disk.moment g.D.Disk.left_since (begun_on g.D.Disk.moment g.D.Disk.left_since c.in-ReadOnly.disk
    c.args.begun.count) c.in-ReadOnly.disk c.args.begun.count c.args.begun.reader.seen
    (record { moment_is = refl; count_is = refl; past_is = λ t file. (λ was. was, λ left. left) }))
