use Rattle.std.proofs.Common.{◌≡◌, ℕ, List, [], ◌∷◌, length, ◌∙◌, ap, subst, sym, arith}
use Rattle.journal.specs.Disk.{Holds, Torn, Cut}
use Rattle.journal.specs.Groups.{recovered, IsMending}
use Rattle.journal.specs.Reading.{HasFirst}
use Rattle.journal.proofs.GroupLaws.{parts}
use Rattle.journal.proofs.MomentLaws.{leaves, then_leaves}
use Rattle.journal.proofs.StepLaws.{inside, cut_keeps, cut_done, torn_end, mending_cut, mending_end, written_end}
use Rattle.journal.proofs.StepLaws.{recovered-at_rest}
use Rattle.journal.proofs.PromiseLaws.{still_first}
use Rattle.journal.proofs.gated.repair.Goals as goal

pub cut_through-requires-clause-inside : goal.cut_through-requires-clause-inside
cut_through-requires-clause-inside g c =
    omega (arith, inside (g.D.Disk.seen c.args.disk.now) c.args.end c.requires.end)

pub returns-in_err-cut_through-clause-any_moment : goal.returns-in_err-cut_through-clause-any_moment
returns-in_err-cut_through-clause-any_moment g c =
    let file = g.D.Disk.seen c.args.disk.now in
    leaves g.D.Disk.moment g.D.Disk.left_since c.args.disk.now c.cut_through.new.disk (Cut c.args.end file) (λ f. recovered f ≡ recovered file)
    c.cut_through.ensures.any_moment (cut_keeps file c.args.end c.requires.end)

pub write_through-requires-clause-inside : goal.write_through-requires-clause-inside
write_through-requires-clause-inside g c =
    let file = g.D.Disk.seen c.args.disk.now in
    let is_cut = c.in_ok-cut_through.ensures.cut ∙ cut_done file c.args.end c.requires.end in
    omega (arith, ap length is_cut, c.requires.end)

pub returns-in_err-write_through-clause-any_moment : goal.returns-in_err-write_through-clause-any_moment
returns-in_err-write_through-clause-any_moment g c =
    let file = g.D.Disk.seen c.args.disk.now in
    let end = c.args.end in
    let is_cut = c.in_ok-cut_through.ensures.cut ∙ cut_done file end c.requires.end in
    let P : List ℕ → Type 0 = λ f. recovered f ≡ recovered file in
    then_leaves g.D.Disk.moment g.D.Disk.left_since c.args.disk.now c.cut_through.new.disk c.write_through.new.disk (Cut end file) (Torn end 1 (g.D.Disk.seen c.cut_through.new.disk)) P
    c.cut_through.ensures.any_moment c.write_through.ensures.any_moment
    (cut_keeps file end c.requires.end)
    (λ f torn. torn_end file end c.requires.end f (subst (λ (o : List ℕ). Torn end 1 o f) is_cut torn))

pub returns-clause-any_moment : goal.returns-clause-any_moment
returns-clause-any_moment g c =
    let file = g.D.Disk.seen c.args.disk.now in
    let end = c.args.end in
    let is_cut = c.in_ok-cut_through.ensures.cut ∙ cut_done file end c.requires.end in
    let P : List ℕ → Type 0 = λ f. recovered f ≡ recovered file in
    then_leaves g.D.Disk.moment g.D.Disk.left_since c.args.disk.now c.cut_through.new.disk c.write_through.new.disk (Cut end file) (Torn end 1 (g.D.Disk.seen c.cut_through.new.disk)) P
    c.cut_through.ensures.any_moment c.write_through.ensures.any_moment
    (cut_keeps file end c.requires.end)
    (λ f torn. torn_end file end c.requires.end f (subst (λ (o : List ℕ). Torn end 1 o f) is_cut torn))

pub returns-clause-at_rest : goal.returns-clause-at_rest
returns-clause-at_rest g c =
    let file = g.D.Disk.seen c.args.disk.now in
    let end = c.args.end in
    let is_cut = c.in_ok-cut_through.ensures.cut ∙ cut_done file end c.requires.end in
    let new = g.D.Disk.seen c.write_through.new.disk in
    written_end file end c.requires.end new (subst (λ (o : List ℕ). Holds o end (48 ∷ []) new) is_cut c.in_ok-write_through.ensures.written)

pub returns-clause-same : goal.returns-clause-same
returns-clause-same g c =
    let file = g.D.Disk.seen c.args.disk.now in
    ap recovered (returns-clause-at_rest g c) ∙ recovered-at_rest (recovered file) c.args.end c.requires.end (parts file).all_told

pub returns-in_err-cut_through-clause-torn : goal.returns-in_err-cut_through-clause-torn
returns-in_err-cut_through-clause-torn g c =
    let file = g.D.Disk.seen c.args.disk.now in
    leaves g.D.Disk.moment g.D.Disk.left_since c.args.disk.now c.cut_through.new.disk (Cut c.args.end file) (IsMending file)
    c.cut_through.ensures.any_moment (mending_cut file c.args.end c.requires.end)

pub returns-in_err-write_through-clause-torn : goal.returns-in_err-write_through-clause-torn
returns-in_err-write_through-clause-torn g c =
    let file = g.D.Disk.seen c.args.disk.now in
    let end = c.args.end in
    let is_cut = c.in_ok-cut_through.ensures.cut ∙ cut_done file end c.requires.end in
    then_leaves g.D.Disk.moment g.D.Disk.left_since c.args.disk.now c.cut_through.new.disk c.write_through.new.disk (Cut end file) (Torn end 1 (g.D.Disk.seen c.cut_through.new.disk)) (IsMending file)
    c.cut_through.ensures.any_moment c.write_through.ensures.any_moment
    (mending_cut file end c.requires.end)
    (λ f torn. mending_end file end c.requires.end f (subst (λ (o : List ℕ). Torn end 1 o f) is_cut torn))

pub returns-clause-torn : goal.returns-clause-torn
returns-clause-torn g c =
    let file = g.D.Disk.seen c.args.disk.now in
    let end = c.args.end in
    let is_cut = c.in_ok-cut_through.ensures.cut ∙ cut_done file end c.requires.end in
    then_leaves g.D.Disk.moment g.D.Disk.left_since c.args.disk.now c.cut_through.new.disk c.write_through.new.disk (Cut end file) (Torn end 1 (g.D.Disk.seen c.cut_through.new.disk)) (IsMending file)
    c.cut_through.ensures.any_moment c.write_through.ensures.any_moment
    (mending_cut file end c.requires.end)
    (λ f torn. mending_end file end c.requires.end f (subst (λ (o : List ℕ). Torn end 1 o f) is_cut torn))

-- no step breaks a promise
pub cut_through-requires-clause-kept : goal.cut_through-requires-clause-kept
cut_through-requires-clause-kept g c f cut =
    let old = c.args.disk.now in
    let file = g.D.Disk.seen old in
    still_first (g.D.Disk.promised old) file f (g.met.D.Disk.keeps old file (g.met.D.Disk.leaves old)) (cut_keeps file c.args.end c.requires.end f cut)

pub write_through-requires-clause-kept : goal.write_through-requires-clause-kept
write_through-requires-clause-kept g c f torn =
    let old = c.args.disk.now in
    let file = g.D.Disk.seen old in
    let end = c.args.end in
    let is_cut = c.in_ok-cut_through.ensures.cut ∙ cut_done file end c.requires.end in
    subst (λ (groups : List (List ℕ)). HasFirst groups f) (sym c.cut_through.ensures.promised)
    (still_first (g.D.Disk.promised old) file f (g.met.D.Disk.keeps old file (g.met.D.Disk.leaves old))
    (torn_end file end c.requires.end f (subst (λ (o : List ℕ). Torn end 1 o f) is_cut torn)))
