use Rattle.std.proofs.Common.{ℕ, ◌≡◌, ◌<◌, ◌∷◌, [], ◌++◌, List, length, Some, ap, sym, ◌∙◌, arith, rules}
use Rattle.std.specs.Prelude.{slice_get, FitsSigned}
use Rattle.std.specs.Int.{w64}
use Rattle.std.proofs.lemmas.Int.{to_z-of_z}
use Rattle.shared_scan.specs.Scanned.{net}
use Rattle.shared_scan.proofs.SparseLaws.{entry_more, value_more}
use Rattle.shared_scan.proofs.sparse.list_groups.Goals as goal
use Rattle.shared_scan.proofs.sparse.list_groups.Goals.{in-Some+in_ok-push+in_ok-push-2+in_ok-push-3, in_default}

pub loop-at-preserved : goal.loop-at-preserved
loop-at-preserved c =
    let entries = c.args.totals.now.entries in
    let i = c.loop-at.at in
    let old = c.loop-at.invariant in
    elim c.match-get_index.branch [
      | in-Some+in_ok-push+in_ok-push-2+in_ok-push-3 w ↦
          let n = w.in-Some.number.now in
          let g = w.in-Some.group.now in
          let at : slice_get entries i ≡ Some (n, g) = sym w.in-Some.ensures.entry in
          let fits : FitsSigned w64 w.difference.result = search rules in
          record {
            numbers = rw w.numbers-is (w.in_ok-push.ensures.items ∙ ap (λ (ns : List ℕ). ns ++ n ∷ []) old.numbers
                ∙ sym (entry_more (λ p. p.0) entries i (n, g) at));
            counts = rw w.counts-is (w.in_ok-push-2.ensures.items ∙ ap (λ (ns : List ℕ). ns ++ g.count ∷ []) old.counts
                ∙ sym (value_more (λ s. s.count) entries i (n, g) at));
            sums = rw w.sums-is (w.in_ok-push-3.ensures.items
                ∙ (λ j. old.sums j ++ (to_z-of_z w64 w.difference.result fits ∙ w.difference.ensures) j ∷ [])
                ∙ sym (value_more net entries i (n, g) at));
          }
      | in_default w ↦
          let below : i < length entries = omega (arith, c.loop-at-test.true, c.len-at-end.ensures.len) in
          absurd (let some = rw w.in_default.is at (c.get_index.ensures.found.1 below) in cc)
    ]
