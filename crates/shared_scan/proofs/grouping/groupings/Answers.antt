use Rattle.std.proofs.Common.{◌≡◌, ℕ, ◌+◌, ◌<◌, List, [], ◌∷◌, ◌++◌, length, get_or, ap, sym, ◌∙◌, subst, arith}
use Rattle.std.proofs.lemmas.List.{length-append, get_or_default}
use Rattle.scan_kernel.specs.declared.columns.Grouping.{Grouping}
use Rattle.shared_scan.specs.Groupings.{IsReadyGrouping}
use Rattle.shared_scan.specs.declared.ready.Ready.{Ready}
use Rattle.shared_scan.proofs.EachLaws.{each_more}
use Rattle.shared_scan.proofs.grouping.groupings.Goals as goal

pub loop-ready-preserved : goal.loop-ready-preserved
loop-ready-preserved c =
    let base = c.args.index.now in
    let lines = c.args.lines.now in
    let all = c.args.all.now in
    let n = c.loop-ready.ready-index in
    let done = c.loop-ready.groupings.items in
    let one : Grouping = c.in_ok-grouping.field-0 in
    let items : c.push.new.self.items ≡ done ++ one ∷ [] = c.in_ok-push.ensures.items in
    let P : ℕ → Grouping → Type 0 = λ k g. (ready : Ready) → IsReadyGrouping base lines (get_or all k ready) g in
    let here : P n one = λ r. subst (λ (v : Ready). IsReadyGrouping base lines v one)
    (c.ready-item.is ∙ get_or_default all n c.ready-item.result r c.loop-ready-test.true) c.in_ok-grouping.ensures
    in
    let R : List Grouping → Type 0 = λ gs. (k : ℕ) (g : Grouping) → k < n + 1 → P k (get_or gs k g) in
    record {
      len = ap length items ∙ length-append done (one ∷ []) ∙ ap (λ (m : ℕ). m + 1) c.loop-ready.invariant.len;
      each = subst R (sym items) (each_more P done n one c.loop-ready.invariant.len here c.loop-ready.invariant.each);
    }

pub returns : goal.returns
returns c =
    let all : c.loop-ready.ready-index ≡ length c.args.all.now =
    omega (arith, c.loop-ready-test.false, c.loop-ready.auto) in
    record {
      len = c.loop-ready.invariant.len ∙ all;
      each = λ k ready grouping below. c.loop-ready.invariant.each k grouping (omega (arith, below, all)) ready;
    }
