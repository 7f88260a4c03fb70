use Rattle.std.proofs.Common.{ℕ, List, length, sym, subst}
use Rattle.journal.specs.Disk.{Torn}
use Rattle.journal.proofs.MomentLaws.{passes, then_leaves, torn_same}
use Rattle.journal.proofs.disk.write_through.Goals as goal

pub returns-clause-any_moment : goal.returns-clause-any_moment
returns-clause-any_moment g c =
    let moment = g.D.Disk.moment in
    let left_since = g.D.Disk.left_since in
    let may_leave = g.D.Disk.may_leave in
    let old = c.args.disk.now in
    let mid = c.write_at.new.self in
    let file = g.D.Disk.seen old in
    let at = c.args.at in
    let n = length c.args.bytes.now in
    let P : List ℕ → Type 0 = Torn at n file in
    let torn : (f : List ℕ) → may_leave mid f → P f = λ f left.
    let from = c.write_at.ensures.crash f left in
    subst (λ (o : List ℕ). Torn at n o f) (c.requires.durable from.0 from.1) from.2 in
    let same : (f : List ℕ) → left_since old (moment old) f → P f = λ f left.
    subst P (sym (c.requires.durable f (g.met.D.Disk.only_now old f left))) (torn_same at n file) in
    then_leaves moment left_since old mid c.sync.new.self P P P
    (passes moment left_since old mid may_leave P c.write_at.ensures.time same torn)
    (passes moment left_since mid c.sync.new.self may_leave P c.sync.ensures.time
    (λ f left. torn f (g.met.D.Disk.only_now mid f left)) (λ f left. torn f (c.sync.ensures.crash f left)))
    (λ f p. p) (λ f p. p)
