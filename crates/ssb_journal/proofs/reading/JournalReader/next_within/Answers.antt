use Rattle.std.proofs.Common.{◌≡◌, ⊎_elim, None, arith, false, inl, inr, rules}
use Rattle.std.proofs.lemmas.Option.{MatchOption-at_none}
use Rattle.journal.specs.Groups.{lists}
use Rattle.ssb_journal.proofs.ReadingLaws.{fault_told, few_texts, file_groups, more_begins_with, nothing_more, reading_more}
use Rattle.ssb_journal.proofs.reading.JournalReader.next_within.Goals as goal

pub returns-in-Err-commits_more-clause-fault : goal.returns-in-Err-commits_more-clause-fault
returns-in-Err-commits_more-clause-fault g c =
    let r = c.self.inside in
    let now = c.next_texts.new.groups in
    let next = c.in-Ok.next in
    let none : r.fault ≡ None = search rules in
    let is = MatchOption-at_none _ _ none c.self.invariant in
    let old : r.kept.is_new ≡ false = search rules in
    let why = c.in-Err-commits_more.fault in
    rw (c.into_unread-in-Err-commits_more.ensures, ← c.self.view_is) (λ file read.
    let has = file_groups now.groups (g.U.UnreadDisk.taken now.unread) (g.U.UnreadDisk.is_ended now.unread) file c.soundness.ensures.first read in
    ⊎_elim (λ memory. inl memory)
    (λ told. inr (fault_told r.marks.now r.groups.groups now.groups has.0 (lists next.texts.items) r.kept r.texts 0 next.is_damaged file why
    is.kept_is old (is.counted old) c.in-Ok.ensures.texts has.1 told))
    c.in-Err-commits_more.ensures.fault)

pub invariant_of-reader : goal.invariant_of-reader
invariant_of-reader g c =
    let r = c.self.inside in
    let now = c.next_texts.new.groups in
    let next = c.in-Ok.next in
    let none : r.fault ≡ None = search rules in
    let is = MatchOption-at_none _ _ none c.self.invariant in
    let old : r.kept.is_new ≡ false = search rules in
    let more = c.in-Ok-commits_more.more in
    let e = c.in-Ok-commits_more.ensures in
    reading_more r.marks.now r.groups.groups now.groups (lists next.texts.items) r.groups.rest now.rest r.groups.is_done now.is_done
    r.texts more.count r.kept more.kept more.commits.items next.is_damaged (g.U.UnreadDisk.taken now.unread) (g.U.UnreadDisk.is_ended now.unread)
    is old c.in-Ok.ensures.texts e.spelled e.same.0 e.same.1 e.commits c.soundness.ensures.first more.fault e.next

pub invariant_of-reader-2 : goal.invariant_of-reader-2
invariant_of-reader-2 g c =
    let r = c.self.inside in
    let now = c.next_texts.new.groups in
    let next = c.in-Ok.next in
    let none : r.fault ≡ None = search rules in
    let is = MatchOption-at_none _ _ none c.self.invariant in
    let old : r.kept.is_new ≡ false = search rules in
    let more = c.in-Ok-commits_more.more in
    let e = c.in-Ok-commits_more.ensures in
    reading_more r.marks.now r.groups.groups now.groups (lists next.texts.items) r.groups.rest now.rest r.groups.is_done now.is_done
    r.texts more.count r.kept more.kept more.commits.items next.is_damaged (g.U.UnreadDisk.taken now.unread) (g.U.UnreadDisk.is_ended now.unread)
    is old c.in-Ok.ensures.texts e.spelled e.same.0 e.same.1 e.commits c.soundness.ensures.first more.fault e.next

pub returns-then-more-eq0-clause-commits : goal.returns-then-more-eq0-clause-commits
returns-then-more-eq0-clause-commits g c =
    let r = c.self.inside in
    let now = c.next_texts.new.groups in
    let next = c.in-Ok.next in
    let more = c.in-Ok-commits_more.more in
    let e = c.in-Ok-commits_more.ensures in
    rw (← c.self.view_is) (nothing_more next.texts.items c.self.inside.texts more.count next.is_damaged now.is_done r.kept.commits.items more.kept.commits.items more.commits.items
    more.fault c.if-more-eq0.true (e.some c.if-more-eq0.true) e.next e.spelled e.commits c.in-Ok.ensures.end)

pub returns-clause-more : goal.returns-clause-more
returns-clause-more g c =
    let r = c.self.inside in
    let now = c.next_texts.new.groups in
    let next = c.in-Ok.next in
    let none : r.fault ≡ None = search rules in
    let is = MatchOption-at_none _ _ none c.self.invariant in
    let old : r.kept.is_new ≡ false = search rules in
    let more = c.in-Ok-commits_more.more in
    let e = c.in-Ok-commits_more.ensures in
    let few = few_texts r.groups.groups now.groups next.texts.items r.texts more.count next.is_damaged c.in-Ok.ensures.texts (is.counted old) e.within in
    rw (← c.self.view_is) (λ _. (omega (arith, c.if-more-eq0.false), omega (arith, few, c.soundness.ensures.few)))

pub returns-clause-kept : goal.returns-clause-kept
returns-clause-kept g c =
    let r = c.self.inside in
    let now = c.next_texts.new.groups in
    let next = c.in-Ok.next in
    let none : r.fault ≡ None = search rules in
    let is = MatchOption-at_none _ _ none c.self.invariant in
    let old : r.kept.is_new ≡ false = search rules in
    let more = c.in-Ok-commits_more.more in
    let e = c.in-Ok-commits_more.ensures in
    rw (← c.self.view_is) (λ _ file read.
    more_begins_with r.marks.now r.groups.groups now.groups (lists next.texts.items) r.groups.rest now.rest r.groups.is_done now.is_done
    r.texts more.count r.kept more.kept more.commits.items next.is_damaged (g.U.UnreadDisk.taken now.unread) (g.U.UnreadDisk.is_ended now.unread)
    is old c.in-Ok.ensures.texts e.spelled e.same.0 e.same.1 e.commits c.soundness.ensures.first file read)
