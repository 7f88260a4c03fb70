use Rattle.std.proofs.Common.{◌≡◌, ◌+◌, ◌++◌, ◌∙◌, ◌∷◌, ℕ, [], List, Vec, Global, ap, arith, drop, false, length, rules, subst, sym}
use Rattle.std.proofs.lemmas.List.{map_push, take_rest}
use Rattle.journal.specs.Groups.{lists, IsFirst}
use Rattle.journal.specs.Reading.{AreRead}
use Rattle.journal.proofs.ReadingLaws.{passed}
use Rattle.journal.proofs.reading.UnreadJournal.pass.Goals as goal

pub invariant_of-self : goal.invariant_of-self
invariant_of-self g c =
    let r = c.self.inside in
    let group = c.in-Some.group.items in
    let taken = g.U.UnreadDisk.taken r.unread in
    let Ended = g.U.UnreadDisk.is_ended r.unread in
    let bytes = c.deref.result.now in
    let first : IsFirst (drop r.place bytes) group = subst (λ (f : List ℕ). IsFirst f group) (take_rest bytes r.place) (rw c.in-Some.is at c.in_ok-group.ensures) in
    let here : IsFirst (drop r.place r.buffer.items) group = subst (λ (b : List ℕ). IsFirst (drop r.place b) group) c.deref.ensures.value first in
    let size : c.len-len.result ≡ length group = search rules in
    let going : r.is_done ≡ false = search rules in
    let pushed : lists c.push.new.self.items ≡ lists r.groups.items ++ group ∷ [] = ap lists c.push.ensures ∙ map_push (λ (v : Vec ℕ Global). v.items) r.groups.items c.in-Some.group in
    let next : c.in-Some-checked_add.end ≡ r.end + (18 + length group) = search rules in
    let more = passed taken Ended (lists r.groups.items) r.buffer.items group r.place r.end c.in-Some-checked_add.end r.is_done c.self.invariant going here next in
    subst (λ gs. AreRead taken Ended gs r.buffer.items (r.place + (18 + c.len-len.result)) c.in-Some-checked_add.end r.is_done) (sym pushed)
    (subst (λ (n : ℕ). AreRead taken Ended (lists r.groups.items ++ group ∷ []) r.buffer.items (r.place + (18 + n)) c.in-Some-checked_add.end r.is_done) (sym size) more)
