use Rattle.std.proofs.Common.{◌≡◌, ℕ, ◌+◌, List, [], ◌∷◌, ◌++◌, length, get_or, sym, ap, subst, ◌∙◌, arith}
use Rattle.std.proofs.lemmas.List.{length-append, get_or_default}
use Rattle.scan_kernel.specs.declared.totals.Totals.{Totals}
use Rattle.shared_scan.specs.Standing.{HasNumbersOf}
use Rattle.shared_scan.proofs.EachLaws.{each_more}
use Rattle.shared_scan.proofs.standing.copy_totals.Goals as goal

pub loop-one-preserved : goal.loop-one-preserved
loop-one-preserved c =
    let n = c.loop-one.one-index in
    let totals : List Totals = c.args.totals.now in
    let copy : List Totals = c.loop-one.copy.items in
    let item = c.one-item.result in
    let made : Totals = c.in_ok-copy_numbers.field-0 in
    let items : c.push.new.self.items ≡ copy ++ made ∷ [] = c.in_ok-push.ensures.items in
    let P : ℕ → Totals → Type 0 = λ k t. (s : Totals) → HasNumbersOf (get_or totals k s) t in
    let here : P n made = λ s.
    let R : Totals → Type 0 = λ t. HasNumbersOf t made in
    subst R (c.one-item.is ∙ get_or_default totals n item s c.loop-one-test.true) c.in_ok-copy_numbers.ensures in
    record {
      len = ap length items ∙ length-append copy (made ∷ []) ∙ ap (λ (m : ℕ). m + 1) c.loop-one.invariant.len;
      each = λ k s t below.
          let Q : List Totals → Type 0 = λ xs. HasNumbersOf (get_or totals k s) (get_or xs k t) in
          subst Q (sym items) (each_more P copy n made c.loop-one.invariant.len here
          (λ j b lt s. c.loop-one.invariant.each j s b lt) k t below s);
    }

pub returns : goal.returns
returns c =
    let count : c.loop-one.one-index ≡ length c.args.totals.now = omega arith in
    record {
      len = c.loop-one.invariant.len ∙ count;
      each = λ k s t below. c.loop-one.invariant.each k s t (omega (arith, below, count));
    }
