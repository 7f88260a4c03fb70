-- Lines by their order key and line number, as a set of pairs has them.
use Rattle.std.proofs.Common.{ℕ, ◌≡◌, ◌≢◌, ◌⊎◌, ◌<◌, ◌+◌, ◌*◌, Bool, false, ◌&&◌, List, Some, take}
use Rattle.std.proofs.Common.{refl, sym, arith}
use Rattle.std.specs.Prelude.{nat_eq, slice_get}
use Rattle.std.specs.List.{list_any}
use Rattle.std.proofs.lemmas.Bool.Decides.{eqb_tells}
use Rattle.ssb_schema.specs.declared.line.LineFields.{LineFields}
use Rattle.ssb_schema.proofs.FirstFaultLaws.{seen_next}

abbrev pub same_pair : ℕ × ℕ → ℕ × ℕ → Bool
same_pair x y = nat_eq x.0 y.0 && nat_eq x.1 y.1

abbrev pub line_key : LineFields → ℕ × ℕ
line_key line = (line.order_key, line.line_number)

-- a pair that comes after one is another
later_is_other : (p q : ℕ × ℕ) → p.0 * 256 + p.1 < q.0 * 256 + q.1 → same_pair p q ≡ false
later_is_other p q later = grind (arith, eqb_tells)

-- a pair after the last line's is that of no line, where it was that of no line before
pub new_next : (lines : List LineFields) (i : ℕ) (line : LineFields) (q : ℕ × ℕ) → slice_get lines i ≡ Some line
    → line.order_key * 256 + line.line_number < q.0 * 256 + q.1
    → list_any (λ e. same_pair (line_key e) q) (take i lines) ≡ false
    → list_any (λ e. same_pair (line_key e) q) (take (i + 1) lines) ≡ false
new_next lines i line q at later none =
    sym (seen_next same_pair line_key lines i line q false false at (rw (later_is_other (line_key line) q later) refl)
    (sym none))
