use Rattle.std.proofs.Common.{rules, ◌≡◌, ◌-◌, List, length, refl, sym, ap, ◌∙◌, subst, arith}
use Rattle.ssb_schema.specs.declared.line.LineFields.{LineFields}
use Rattle.ssb_schema.specs.declared.refresh.Action.TheVariants.{Add, Amend, Put}
use Rattle.ssb_schema.specs.Orders.{order_key}
use Rattle.ssb_base.specs.Base.{Tables}
use Rattle.row_store.specs.Lines.{lines_without, lines_after_refresh}
use Rattle.row_store.specs.History.{lines_after}
use Rattle.row_store.proofs.CountedLaws.{length_kept}
use Rattle.row_store.proofs.CauseLaws.{Joined, cause_present, cause_added, cause_amend_absent, cause_amended}
use Rattle.row_store.proofs.CauseLaws.{cause_absent, cause_withdrawn, joined}
use Rattle.row_store.proofs.store.RowStore.look.Goals as goal

pub returns-then-count-gt0 : goal.returns-then-count-gt0
returns-then-count-gt0 c =
    let now : List LineFields = lines_after_refresh (lines_after c.args.self.now.base c.args.self.now.log)
    c.args.earlier.now in
    rw c.in-Add.is (cause_present c.args.self.now.base now c.in-Add.order c.key-key.result c.count-count.result
    c.key-key.ensures c.count-count.ensures c.if-count-gt0.true)

pub returns-else-count-gt0 : goal.returns-else-count-gt0
returns-else-count-gt0 c =
    let base : Tables = c.args.self.now.base in
    let now : List LineFields = lines_after_refresh (lines_after base c.args.self.now.log) c.args.earlier.now in
    let order : List LineFields = c.in-Add.order in
    let held : c.deref.result.now ≡ base = search rules in
    rw c.in-Add.is (joined base c.lines_after_joining.result now (Add order) now order
    (cause_added base now order c.key-key.result c.count-count.result c.key-key.ensures c.count-count.ensures
    c.if-count-gt0.false) refl (subst (λ b. Joined c.lines_after_joining.result b now order) held
    (c.lines_after_joining.ensures now (sym c.requires.live))))

pub returns-then-count-eq0 : goal.returns-then-count-eq0
returns-then-count-eq0 c =
    let now : List LineFields = lines_after_refresh (lines_after c.args.self.now.base c.args.self.now.log)
    c.args.earlier.now in
    rw c.in-Amend.is (cause_amend_absent c.args.self.now.base now c.in-Amend.order c.key-key-in-Amend.result
    c.count-count-in-Amend.result c.key-key-in-Amend.ensures c.count-count-in-Amend.ensures c.if-count-eq0.true)

pub overflow_sub-live : goal.overflow_sub-live
overflow_sub-live c =
    let now : List LineFields = lines_after_refresh (lines_after c.args.self.now.base c.args.self.now.log)
    c.args.earlier.now in
    omega (arith, length_kept c.key-key-in-Amend.result now, c.count-count-in-Amend.ensures, c.requires.live)

pub returns-else-count-eq0 : goal.returns-else-count-eq0
returns-else-count-eq0 c =
    let base : Tables = c.args.self.now.base in
    let now : List LineFields = lines_after_refresh (lines_after base c.args.self.now.log) c.args.earlier.now in
    let order : List LineFields = c.in-Amend.order in
    let key : c.key-key-in-Amend.result ≡ order_key order = c.key-key-in-Amend.ensures in
    let kept : length (lines_without (order_key order) now) ≡ c.args.live - c.count-count-in-Amend.result =
    ap (λ k. length (lines_without k now)) (sym key) ∙ omega
    (arith, length_kept c.key-key-in-Amend.result now, c.count-count-in-Amend.ensures, c.requires.live) in
    let held : c.deref-in-Amend.result.now ≡ base = search rules in
    rw c.in-Amend.is (joined base c.lines_after_joining-in-Amend.result now (Amend order)
    (lines_without (order_key order) now) order
    (cause_amended base now order c.key-key-in-Amend.result c.count-count-in-Amend.result c.key-key-in-Amend.ensures
    c.count-count-in-Amend.ensures c.if-count-eq0.false) refl
    (subst (λ b. Joined c.lines_after_joining-in-Amend.result b (lines_without (order_key order) now) order) held
    (c.lines_after_joining-in-Amend.ensures (lines_without (order_key order) now) kept)))

pub overflow_sub-live-in-Put : goal.overflow_sub-live-in-Put
overflow_sub-live-in-Put c =
    let now : List LineFields = lines_after_refresh (lines_after c.args.self.now.base c.args.self.now.log)
    c.args.earlier.now in
    omega (arith, length_kept c.key.result now, c.count-gone.ensures, c.requires.live)

pub returns-in-Put : goal.returns-in-Put
returns-in-Put c =
    let base : Tables = c.args.self.now.base in
    let now : List LineFields = lines_after_refresh (lines_after base c.args.self.now.log) c.args.earlier.now in
    let order : List LineFields = c.in-Put.order in
    let key : c.key.result ≡ order_key order = c.key.ensures in
    let kept : length (lines_without (order_key order) now) ≡ c.args.live - c.count-gone.result =
    ap (λ k. length (lines_without k now)) (sym key) ∙ omega
    (arith, length_kept c.key.result now, c.count-gone.ensures, c.requires.live) in
    let held : c.deref-in-Put.result.now ≡ base = search rules in
    rw c.in-Put.is (joined base c.lines_after_joining-in-Put.result now (Put order)
    (lines_without (order_key order) now) order refl refl
    (subst (λ b. Joined c.lines_after_joining-in-Put.result b (lines_without (order_key order) now) order) held
    (c.lines_after_joining-in-Put.ensures (lines_without (order_key order) now) kept)))

pub returns-then-count-eq0-2 : goal.returns-then-count-eq0-2
returns-then-count-eq0-2 c =
    let now : List LineFields = lines_after_refresh (lines_after c.args.self.now.base c.args.self.now.log)
    c.args.earlier.now in
    rw c.in-Withdraw.is (cause_absent c.args.self.now.base now c.in-Withdraw.key c.count-count-in-Withdraw.result
    c.count-count-in-Withdraw.ensures c.if-count-eq0-2.true)

pub overflow_sub-result : goal.overflow_sub-result
overflow_sub-result c =
    let now : List LineFields = lines_after_refresh (lines_after c.args.self.now.base c.args.self.now.log)
    c.args.earlier.now in
    omega (arith, length_kept c.in-Withdraw.key now, c.count-count-in-Withdraw.ensures, c.requires.live)

pub returns-else-count-eq0-2 : goal.returns-else-count-eq0-2
returns-else-count-eq0-2 c =
    let now : List LineFields = lines_after_refresh (lines_after c.args.self.now.base c.args.self.now.log)
    c.args.earlier.now in
    rw c.in-Withdraw.is (
      cause_withdrawn c.args.self.now.base now c.in-Withdraw.key c.count-count-in-Withdraw.result
          c.count-count-in-Withdraw.ensures c.if-count-eq0-2.false,
      omega (arith, length_kept c.in-Withdraw.key now, c.count-count-in-Withdraw.ensures, c.requires.live),
      omega (arith, c.requires.limit),
    )
