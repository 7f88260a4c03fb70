use Rattle.std.proofs.Common.{◌≡◌, ℕ, ◌+◌, List, [], ◌∷◌, ◌++◌, length, inl, ◌∙◌, ap, subst, sym, arith, length-append}
use Rattle.journal.specs.Disk.{Holds, Torn}
use Rattle.journal.specs.Groups.{recovered, blocks, block, IsBeforeOrAfter, IsAppending}
use Rattle.journal.proofs.GroupLaws.{parts, all_told_push, blocks-push, length-block}
use Rattle.journal.proofs.MomentLaws.{leaves, then_leaves}
use Rattle.journal.proofs.StepLaws.{tail, length-tail, short_told, torn_behind, appending_behind, written_behind}
use Rattle.journal.proofs.StepLaws.{torn_gate, appending_gate, written_gate, settled}
use Rattle.journal.proofs.PromiseLaws.{still_first, first_either_way}
use Rattle.journal.specs.Reading.{HasFirst}
use Rattle.journal.proofs.gated.GatedFile.append.Goals as goal

-- the first write leaves the groups as they were
pub returns-in_err-write_through-clause-any_moment : goal.returns-in_err-write_through-clause-any_moment
returns-in_err-write_through-clause-any_moment g c =
    let s = c.requires.settled in
    let old = c.args.self.now.disk in
    let size = c.args.self.now.size in
    let groups = recovered (g.D.Disk.seen old) in
    let told = (parts (g.D.Disk.seen old)).all_told in
    let n = length c.deref.result.now in
    leaves g.D.Disk.moment g.D.Disk.left_since old c.write_through.new.disk (Torn (size + 1) n (g.D.Disk.seen old)) (IsBeforeOrAfter groups c.args.group.now) c.write_through.ensures.any_moment
    (λ f torn. inl (torn_behind groups size s.size told n f (subst (λ (o : List ℕ). Torn (size + 1) n o f) s.file torn)))

-- the second leaves them with the new one or without
pub returns-in_err-write_through-2-clause-any_moment : goal.returns-in_err-write_through-2-clause-any_moment
returns-in_err-write_through-2-clause-any_moment g c =
    let s = c.requires.settled in
    let old = c.args.self.now.disk in
    let size = c.args.self.now.size in
    let group = c.args.group.now in
    let groups = recovered (g.D.Disk.seen old) in
    let told = (parts (g.D.Disk.seen old)).all_told in
    let bytes = c.deref.result.now in
    let n = length bytes in
    let mid = g.D.Disk.seen c.write_through.new.disk in
    let bytes_are : bytes ≡ tail group = c.deref.ensures.value ∙ c.in_ok-bytes.ensures in
    let holds = subst (λ (o : List ℕ). Holds o (size + 1) bytes mid) s.file c.in_ok-write_through.ensures.written in
    let staged = written_behind groups size s.size told bytes mid holds ∙ ap (λ (l : List ℕ). blocks groups ++ 48 ∷ l) bytes_are in
    then_leaves g.D.Disk.moment g.D.Disk.left_since old c.write_through.new.disk c.write_through-2.new.disk (Torn (size + 1) n (g.D.Disk.seen old)) (Torn size 1 mid) (IsBeforeOrAfter groups group)
    c.write_through.ensures.any_moment c.write_through-2.ensures.any_moment
    (λ f torn. inl (torn_behind groups size s.size told n f (subst (λ (o : List ℕ). Torn (size + 1) n o f) s.file torn)))
    (λ f torn. torn_gate groups size s.size told group f (short_told group c.requires.short) (subst (λ (o : List ℕ). Torn size 1 o f) staged torn))

pub returns-clause-any_moment : goal.returns-clause-any_moment
returns-clause-any_moment g c =
    let s = c.requires.settled in
    let old = c.args.self.now.disk in
    let size = c.args.self.now.size in
    let group = c.args.group.now in
    let groups = recovered (g.D.Disk.seen old) in
    let told = (parts (g.D.Disk.seen old)).all_told in
    let bytes = c.deref.result.now in
    let n = length bytes in
    let mid = g.D.Disk.seen c.write_through.new.disk in
    let bytes_are : bytes ≡ tail group = c.deref.ensures.value ∙ c.in_ok-bytes.ensures in
    let holds = subst (λ (o : List ℕ). Holds o (size + 1) bytes mid) s.file c.in_ok-write_through.ensures.written in
    let staged = written_behind groups size s.size told bytes mid holds ∙ ap (λ (l : List ℕ). blocks groups ++ 48 ∷ l) bytes_are in
    then_leaves g.D.Disk.moment g.D.Disk.left_since old c.write_through.new.disk c.write_through-2.new.disk (Torn (size + 1) n (g.D.Disk.seen old)) (Torn size 1 mid) (IsBeforeOrAfter groups group)
    c.write_through.ensures.any_moment c.write_through-2.ensures.any_moment
    (λ f torn. inl (torn_behind groups size s.size told n f (subst (λ (o : List ℕ). Torn (size + 1) n o f) s.file torn)))
    (λ f torn. torn_gate groups size s.size told group f (short_told group c.requires.short) (subst (λ (o : List ℕ). Torn size 1 o f) staged torn))

-- and then the new group is on the disk
pub returns-clause-acknowledged : goal.returns-clause-acknowledged
returns-clause-acknowledged g c =
    let s = c.requires.settled in
    let old = c.args.self.now.disk in
    let size = c.args.self.now.size in
    let group = c.args.group.now in
    let groups = recovered (g.D.Disk.seen old) in
    let told = (parts (g.D.Disk.seen old)).all_told in
    let bytes = c.deref.result.now in
    let mid = g.D.Disk.seen c.write_through.new.disk in
    let new = g.D.Disk.seen c.write_through-2.new.disk in
    let bytes_are : bytes ≡ tail group = c.deref.ensures.value ∙ c.in_ok-bytes.ensures in
    let holds = subst (λ (o : List ℕ). Holds o (size + 1) bytes mid) s.file c.in_ok-write_through.ensures.written in
    let staged = written_behind groups size s.size told bytes mid holds ∙ ap (λ (l : List ℕ). blocks groups ++ 48 ∷ l) bytes_are in
    let is_told = short_told group c.requires.short in
    let opened = written_gate groups size s.size told group new (subst (λ (o : List ℕ). Holds o size (49 ∷ []) new) staged c.in_ok-write_through-2.ensures.written) in
    let long : length (blocks (groups ++ group ∷ [])) ≡ size + (18 + length group) = omega (arith, ap length (blocks-push groups group), length-append (blocks groups) (block group), length-block group, s.size) in
    let written : c.len.result ≡ 18 + length group = omega (arith, ap length bytes_are, length-tail group, c.deref.ensures.len, c.len.ensures) in
    settled _ _ _ (groups ++ group ∷ []) (all_told_push groups group told is_told) opened (omega arith) c.in_ok-write_through-2.ensures.durable

-- what each write leaves
pub returns-in_err-write_through-clause-torn : goal.returns-in_err-write_through-clause-torn
returns-in_err-write_through-clause-torn g c =
    let s = c.requires.settled in
    let old = c.args.self.now.disk in
    let size = c.args.self.now.size in
    let group = c.args.group.now in
    let groups = recovered (g.D.Disk.seen old) in
    let told = (parts (g.D.Disk.seen old)).all_told in
    let bytes = c.deref.result.now in
    let bytes_are : bytes ≡ tail group = c.deref.ensures.value ∙ c.in_ok-bytes.ensures in
    leaves g.D.Disk.moment g.D.Disk.left_since old c.write_through.new.disk (Torn (size + 1) (length bytes) (g.D.Disk.seen old)) (IsAppending groups group) c.write_through.ensures.any_moment
    (λ f torn. appending_behind groups size s.size told group f (subst (λ (b : List ℕ). Torn (size + 1) (length b) (blocks groups ++ 48 ∷ []) f) bytes_are (subst (λ (o : List ℕ). Torn (size + 1) (length bytes) o f) s.file torn)))

pub returns-in_err-write_through-2-clause-torn : goal.returns-in_err-write_through-2-clause-torn
returns-in_err-write_through-2-clause-torn g c =
    let s = c.requires.settled in
    let old = c.args.self.now.disk in
    let size = c.args.self.now.size in
    let group = c.args.group.now in
    let groups = recovered (g.D.Disk.seen old) in
    let told = (parts (g.D.Disk.seen old)).all_told in
    let bytes = c.deref.result.now in
    let n = length bytes in
    let mid = g.D.Disk.seen c.write_through.new.disk in
    let bytes_are : bytes ≡ tail group = c.deref.ensures.value ∙ c.in_ok-bytes.ensures in
    let holds = subst (λ (o : List ℕ). Holds o (size + 1) bytes mid) s.file c.in_ok-write_through.ensures.written in
    let staged = written_behind groups size s.size told bytes mid holds ∙ ap (λ (l : List ℕ). blocks groups ++ 48 ∷ l) bytes_are in
    then_leaves g.D.Disk.moment g.D.Disk.left_since old c.write_through.new.disk c.write_through-2.new.disk (Torn (size + 1) n (g.D.Disk.seen old)) (Torn size 1 mid) (IsAppending groups group)
    c.write_through.ensures.any_moment c.write_through-2.ensures.any_moment
    (λ f torn. appending_behind groups size s.size told group f (subst (λ (b : List ℕ). Torn (size + 1) (length b) (blocks groups ++ 48 ∷ []) f) bytes_are (subst (λ (o : List ℕ). Torn (size + 1) n o f) s.file torn)))
    (λ f torn. appending_gate groups size s.size told group f (subst (λ (o : List ℕ). Torn size 1 o f) staged torn))

pub returns-clause-torn : goal.returns-clause-torn
returns-clause-torn g c =
    let s = c.requires.settled in
    let old = c.args.self.now.disk in
    let size = c.args.self.now.size in
    let group = c.args.group.now in
    let groups = recovered (g.D.Disk.seen old) in
    let told = (parts (g.D.Disk.seen old)).all_told in
    let bytes = c.deref.result.now in
    let n = length bytes in
    let mid = g.D.Disk.seen c.write_through.new.disk in
    let bytes_are : bytes ≡ tail group = c.deref.ensures.value ∙ c.in_ok-bytes.ensures in
    let holds = subst (λ (o : List ℕ). Holds o (size + 1) bytes mid) s.file c.in_ok-write_through.ensures.written in
    let staged = written_behind groups size s.size told bytes mid holds ∙ ap (λ (l : List ℕ). blocks groups ++ 48 ∷ l) bytes_are in
    then_leaves g.D.Disk.moment g.D.Disk.left_since old c.write_through.new.disk c.write_through-2.new.disk (Torn (size + 1) n (g.D.Disk.seen old)) (Torn size 1 mid) (IsAppending groups group)
    c.write_through.ensures.any_moment c.write_through-2.ensures.any_moment
    (λ f torn. appending_behind groups size s.size told group f (subst (λ (b : List ℕ). Torn (size + 1) (length b) (blocks groups ++ 48 ∷ []) f) bytes_are (subst (λ (o : List ℕ). Torn (size + 1) n o f) s.file torn)))
    (λ f torn. appending_gate groups size s.size told group f (subst (λ (o : List ℕ). Torn size 1 o f) staged torn))

-- neither write breaks a promise
pub write_through-requires-clause-kept : goal.write_through-requires-clause-kept
write_through-requires-clause-kept g c f torn =
    let s = c.requires.settled in
    let old = c.args.self.now.disk in
    let size = c.args.self.now.size in
    let file = g.D.Disk.seen old in
    let n = length c.deref.result.now in
    still_first (g.D.Disk.promised old) file f (g.met.D.Disk.keeps old file (g.met.D.Disk.leaves old))
    (torn_behind (recovered file) size s.size (parts file).all_told n f (subst (λ (o : List ℕ). Torn (size + 1) n o f) s.file torn))

pub write_through-requires-2-clause-kept : goal.write_through-requires-2-clause-kept
write_through-requires-2-clause-kept g c f torn =
    let s = c.requires.settled in
    let old = c.args.self.now.disk in
    let size = c.args.self.now.size in
    let group = c.args.group.now in
    let file = g.D.Disk.seen old in
    let groups = recovered file in
    let told = (parts file).all_told in
    let bytes = c.deref.result.now in
    let mid = g.D.Disk.seen c.write_through.new.disk in
    let bytes_are : bytes ≡ tail group = c.deref.ensures.value ∙ c.in_ok-bytes.ensures in
    let holds = subst (λ (o : List ℕ). Holds o (size + 1) bytes mid) s.file c.in_ok-write_through.ensures.written in
    let staged = written_behind groups size s.size told bytes mid holds ∙ ap (λ (l : List ℕ). blocks groups ++ 48 ∷ l) bytes_are in
    subst (λ (promised : List (List ℕ)). HasFirst promised f) (sym c.write_through.ensures.promised)
    (first_either_way (g.D.Disk.promised old) file f group (g.met.D.Disk.keeps old file (g.met.D.Disk.leaves old))
    (torn_gate groups size s.size told group f (short_told group c.requires.short) (subst (λ (o : List ℕ). Torn size 1 o f) staged torn)))
