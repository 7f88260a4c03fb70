use Rattle.std.proofs.Common.{◌∙◌, inl, refl, subst, sym}
use Rattle.journal.specs.Disk.{BeginsAsRead}
use Rattle.journal_opening.specs.Opens.{TellsStartFault}
use Rattle.journal_opening.proofs.StartLaws.{has_some, has_told, start_told}
use Rattle.journal_opening.proofs.opened.StartedJournal.next.Goals as goal

pub returns-in-Err-clause-fault : goal.returns-in-Err-clause-fault
returns-in-Err-clause-fault g c = λ whole begins.
    let self = c.args.self in
    start_told self.path.now self.reader.marks whole self.start c.in-Err.fault c.start_fault.result c.start_fault.ensures
    (c.in-Err.ensures.fault whole begins)

pub returns-then-not-may_start-clause-fault : goal.returns-then-not-may_start-clause-fault
returns-then-not-may_start-clause-fault g c = λ whole begins.
    let self = c.args.self in
    let batch = c.in-Some.commits.items in
    let no = c.may_start.ensures.no c.if-not-may_start.true in
    let grown = rw c.in-Some.is at c.in-Ok.ensures.commits in
    let kept = (rw c.in-Some.is at c.in-Ok.ensures.kept) refl whole (subst (λ u. BeginsAsRead (g.U.UnreadDisk.taken u) (g.U.UnreadDisk.is_ended u) whole) c.into_unread.ensures begins) in
    subst (λ start. TellsStartFault start self.path.now self.reader.marks whole c.has_bytes.result) (sym no.0)
    (has_told self.path.now self.reader.marks whole c.has_bytes.result c.has_bytes.ensures
    (inl (has_some self.path.now self.reader.marks whole self.reader.commits batch _ grown (λ none. no.1 (c.deref.ensures.value ∙ none)) kept)))
