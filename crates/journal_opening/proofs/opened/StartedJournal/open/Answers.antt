use Rattle.journal_opening.proofs.StartLaws.{start_told}
use Rattle.journal_opening.proofs.opened.StartedJournal.open.Goals as goal

pub returns-in-Err-clause-fault : goal.returns-in-Err-clause-fault
returns-in-Err-clause-fault g c = λ whole begins.
    start_told c.args.path.now c.args.marks.now whole c.args.start _ c.start_fault.result c.start_fault.ensures
    (c.in-Err.ensures.fault whole begins)
