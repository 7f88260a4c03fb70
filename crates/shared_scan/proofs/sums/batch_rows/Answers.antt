use Rattle.std.proofs.Common.{◌≡◌, ℕ, ◌+◌, ◌<◌, List, [], ◌∷◌, ◌++◌, length, get_or, ap, sym, ◌∙◌, subst, arith}
use Rattle.std.proofs.lemmas.List.{length-append, get_or_default}
use Rattle.ssb_answers.specs.declared.answer.Rows.{Rows}
use Rattle.scan_kernel.specs.declared.totals.Totals.{Totals}
use Rattle.shared_scan.specs.TotalRows.{AreRowsOf, CanAnswer}
use Rattle.shared_scan.specs.declared.ready.Ready.{Ready}
use Rattle.shared_scan.proofs.EachLaws.{each_more}
use Rattle.shared_scan.proofs.sums.batch_rows.Goals as goal

pub loop-number-preserved : goal.loop-number-preserved
loop-number-preserved c =
    let base = c.args.scan.index.now in
    let lines = c.args.scan.lines in
    let masks = c.args.scan.masks.now in
    let all = c.args.all.now in
    let totals = c.args.totals.now in
    let n = c.loop-number.number in
    let done = c.loop-number.rows.items in
    let one : Rows = c.in_ok-question_rows.field-0 in
    let items : c.push.new.self.items ≡ done ++ one ∷ [] = c.in_ok-push.ensures.items in
    let in_totals : n < length totals = omega (arith, c.loop-number-test.true, c.requires.len) in
    let P : ℕ → Rows → Type 0 = λ k rows. (ready : Ready) (t : Totals)
    → AreRowsOf base lines masks k (get_or all k ready) (get_or totals k t) rows in
    let here : P n one = λ r t.
    let of_ready = subst (λ (v : Ready). AreRowsOf base lines masks n v c.index-totals-number.result one)
    (c.index-all-number.is ∙ get_or_default all n c.index-all-number.result r c.loop-number-test.true)
    c.in_ok-question_rows.ensures in
    subst (λ (v : Totals). AreRowsOf base lines masks n (get_or all n r) v one)
    (c.index-totals-number.is ∙ get_or_default totals n c.index-totals-number.result t in_totals) of_ready in
    let R : List Rows → Type 0 = λ list. (k : ℕ) (rows : Rows) → k < n + 1 → P k (get_or list k rows) in
    record {
      len = ap length items ∙ length-append done (one ∷ []) ∙ ap (λ (m : ℕ). m + 1) c.loop-number.invariant.len;
      each = subst R (sym items) (each_more P done n one c.loop-number.invariant.len here c.loop-number.invariant.each);
    }

pub returns : goal.returns
returns c =
    let all : c.loop-number.number ≡ length c.args.all.now =
    omega (arith, c.loop-number-test.false, c.loop-number.auto) in
    record {
      len = c.loop-number.invariant.len ∙ all;
      each = λ k ready t rows below. c.loop-number.invariant.each k rows (omega (arith, below, all)) ready t;
    }

pub question_rows-requires-clause-can : goal.question_rows-requires-clause-can
question_rows-requires-clause-can c =
    let base = c.args.scan.index.now in
    let lines = c.args.scan.lines in
    let masks = c.args.scan.masks.now in
    let n = c.loop-number.number in
    let ready = c.index-all-number.result in
    let t = c.index-totals-number.result in
    let P : Ready → Type 0 = λ r. CanAnswer base lines masks n r t in
    let R : Totals → Type 0 = λ v. CanAnswer base lines masks n (get_or c.args.all.now n ready) v in
    subst P (sym c.index-all-number.is) (subst R (sym c.index-totals-number.is)
    (c.requires.can n ready t c.loop-number-test.true))
