use Rattle.std.proofs.Common.{◌≡◌, ◌∙◌, ◌∷◌, ◌++◌, ⊎_elim, [], inl, inr, ap, subst, sym, List, ℕ}
use Rattle.journal.specs.Groups.{recovered}
use Rattle.ssb_journal.specs.Gathered.{IsFirstGroupFault}
use Rattle.ssb_journal.specs.Texts.{IsBeginning}
use Rattle.ssb_journal.proofs.ReadingLaws.{file_groups, first_group_told, other_file_told}
use Rattle.ssb_journal.proofs.reading.kept_at_first.Goals as goal

pub returns-in-Err-form_of-clause-fault : goal.returns-in-Err-form_of-clause-fault
returns-in-Err-form_of-clause-fault g c file read =
    let now = c.next_group.new.self in
    let group = c.in-Some.group.items in
    let marks = c.args.marks.now in
    let why = c.in-Err-form_of.fault in
    let one : now.groups ≡ group ∷ [] = (rw c.in-Some.is at c.in-Ok.ensures.next) ∙ ap (λ (gs : List (List ℕ)). gs ++ group ∷ []) c.requires in
    let has = file_groups now.groups (g.U.UnreadDisk.taken now.unread) (g.U.UnreadDisk.is_ended now.unread) file c.soundness.ensures.first read in
    let all : recovered file ≡ group ∷ has.0 = has.1 ∙ ap (λ (gs : List (List ℕ)). gs ++ has.0) one in
    ⊎_elim (λ memory. inl memory)
    (λ told. inr (first_group_told marks group has.0 file why all (subst (λ (gr : List ℕ). IsFirstGroupFault marks gr why) c.deref.ensures.value told)))
    c.in-Err-form_of.ensures.fault

pub returns-in-Ok-false-clause-fault : goal.returns-in-Ok-false-clause-fault
returns-in-Ok-false-clause-fault g c file read =
    let now = c.next_group.new.self in
    let marks = c.args.marks.now in
    let taken = g.U.UnreadDisk.taken now.unread in
    let none = rw c.in-None.is at c.in-Ok.ensures.next in
    let empty : recovered taken ≡ [] = c.soundness.ensures.whole none.1 ∙ none.0 ∙ c.requires in
    inr (other_file_told marks now.rest taken (g.U.UnreadDisk.is_ended now.unread) file empty (c.soundness.ensures.behind none.1) (c.soundness.ensures.ended none.1)
    (λ begins. c.in-Ok-false.ensures.no c.in-Ok-false.field-0-test (subst (IsBeginning marks) (sym c.rest.ensures) begins)) read)
