use Rattle.std.proofs.Common.{◌≡◌, ◌+◌, ◌++◌, ◌∙◌, ◌∷◌, ℕ, [], List, Vec, Global, ap, drop, length, rules, subst, sym}
use Rattle.std.proofs.lemmas.List.{map_push, take_rest}
use Rattle.journal.specs.Groups.{lists, recovered, IsFirst}
use Rattle.journal.specs.Growing.{AreFollowed}
use Rattle.journal.specs.Promises.{AreLeft}
use Rattle.journal.proofs.FollowingLaws.{followed_more}
use Rattle.journal.proofs.followed.Followed.pass.Goals as goal

pub invariant_of-self : goal.invariant_of-self
invariant_of-self g c =
    let was = c.self.inside in
    let f = c.self-2.inside in
    let group = c.in-Some.group.items in
    let seen = g.F.GrowingFile.seen f.file in
    let may_leave = g.F.GrowingFile.may_leave f.file in
    let bytes = c.deref.result.now in
    let first : IsFirst (drop was.place bytes) group =
    subst (λ (l : List ℕ). IsFirst l group) (take_rest bytes was.place) (rw c.in-Some.is at c.in_ok-group.ensures) in
    let there : IsFirst (drop was.place was.buffer.items) group =
    subst (λ (b : List ℕ). IsFirst (drop was.place b) group) c.deref.ensures.value first in
    let same : drop was.place was.buffer.items ≡ drop f.place f.buffer.items = search rules in
    let here : IsFirst (drop f.place f.buffer.items) group = subst (λ (l : List ℕ). IsFirst l group) same there in
    let left : AreLeft (lists f.groups.items ++ recovered (drop f.place f.buffer.items)) may_leave = search rules in
    let size : c.len-len.result ≡ length group = search rules in
    let pushed : lists c.push.new.self.items ≡ lists f.groups.items ++ group ∷ [] =
    ap lists c.push.ensures ∙ map_push (λ (v : Vec ℕ Global). v.items) f.groups.items c.in-Some.group in
    let next : c.in-Some-checked_add.end ≡ f.end + (18 + length group) = search rules in
    let more = followed_more seen may_leave (lists f.groups.items) f.buffer.items group f.place f.end
    c.in-Some-checked_add.end f.is_synced c.self-2.invariant left here next in
    subst (λ (gs : List (List ℕ)). AreFollowed seen may_leave gs f.buffer.items (f.place + (18 + c.len-len.result)) c.in-Some-checked_add.end f.is_synced) (sym pushed)
    (subst (λ (n : ℕ). AreFollowed seen may_leave (lists f.groups.items ++ group ∷ []) f.buffer.items (f.place + (18 + n)) c.in-Some-checked_add.end f.is_synced) (sym size) more)
