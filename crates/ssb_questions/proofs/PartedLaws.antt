-- Where a text is parted at the first place of a mark.
use Rattle.std.proofs.Common.{◌≡◌, ◌≢◌, ◌∙◌, ℕ, zero, suc, ◌<◌, ◌≤◌, ◌+◌, Bool, true, false, nat_eq, List, [], ◌∷◌}
use Rattle.std.proofs.Common.{◌++◌}
use Rattle.std.proofs.Common.{length, take, drop, Option, Some, None, option_map, refl, sym, ap, arith, length-append}
use Rattle.std.proofs.Common.{Bor}
use Rattle.std.specs.List.{starts_with}
use Rattle.std.specs.Option.{MatchOption}
use Rattle.std.specs.Str.Pattern.{FindsText}
use Rattle.std.proofs.lemmas.Bool.Decides.{Decides-eqb}
use Rattle.std.proofs.lemmas.Slice.Eq.{starts_is}
use Rattle.ssb_questions.specs.Clause.{parted}
use Rattle.ssb_questions.specs.ClauseSaid.{pair_now}

-- the text begins with the mark
begins : (mark bytes rest : List ℕ) → bytes ≡ mark ++ rest → starts_with nat_eq bytes mark ≡ true
begins mark bytes rest e = (starts_is Decides-eqb bytes mark (starts_with nat_eq bytes mark) refl).1 rest e

not_both : (b : Bool) → (b ≡ true → ⊥) → b ≡ false
not_both true h = absurd (h refl)
not_both false h = refl

lacks : (mark bytes : List ℕ) → ((rest : List ℕ) → bytes ≢ mark ++ rest) → starts_with nat_eq bytes mark ≡ false
lacks mark bytes h = not_both _
    (λ e. h (drop (length mark) bytes) ((starts_is Decides-eqb bytes mark (starts_with nat_eq bytes mark) refl).0 e))

parted-nowhere : (mark bytes : List ℕ)
    → ((i : ℕ) → i ≤ length bytes → (rest : List ℕ) → drop i bytes ≢ mark ++ rest) → parted mark bytes ≡ None
unfolding parted
parted-nowhere mark [] h = refl
parted-nowhere mark (b ∷ bytes) h =
    let here : starts_with nat_eq (b ∷ bytes) mark ≡ false = lacks mark (b ∷ bytes) (h 0 (omega arith)) in
    let later : parted mark bytes ≡ None = parted-nowhere mark bytes (λ i le. h (suc i) (omega (arith, le))) in
    rw (here, later) refl

parted-at : (mark bytes : List ℕ) (i j : ℕ) → 0 < length mark → j ≡ i + length mark
    → ((k : ℕ) → k < i → (rest : List ℕ) → drop k bytes ≢ mark ++ rest) → drop i bytes ≡ mark ++ drop j bytes
    → i ≤ length bytes → parted mark bytes ≡ Some (take i bytes, drop j bytes)
unfolding parted
parted-at mark [] zero j some e before here le =
    absurd (let none : 0 ≡ length (mark ++ drop j []) = ap length here in
    let more = length-append mark (drop j []) in let l : 0 < 0 = omega (arith, none, more, some) in elim l [ ])
parted-at mark [] (suc i) j some e before here le = absurd (let l : 0 < 0 = omega (arith, le) in elim l [ ])
parted-at mark (b ∷ bytes) zero j some e before here le =
    let begun : starts_with nat_eq (b ∷ bytes) mark ≡ true = begins mark (b ∷ bytes) (drop j (b ∷ bytes)) here in
    let same : j ≡ length mark = omega (arith, e) in
    rw (begun, same) refl
parted-at mark (b ∷ bytes) (suc i) zero some e before here le =
    absurd (let l : 0 < 0 = omega (arith, e) in elim l [ ])
parted-at mark (b ∷ bytes) (suc i) (suc j) some e before here le =
    let not_here : starts_with nat_eq (b ∷ bytes) mark ≡ false = lacks mark (b ∷ bytes) (before 0 (omega arith)) in
    let later : parted mark bytes ≡ Some (take i bytes, drop j bytes)
    = parted-at mark bytes i j some (omega (arith, e)) (λ k lt. before (suc k) (omega (arith, lt))) here
    (omega (arith, le)) in
    rw (not_here, later) refl

-- what `split_once` gives at a mark
pub split_once-parted : (mark bytes : List ℕ) (r : Option (Bor (List ℕ) × Bor (List ℕ))) → 0 < length mark
    → MatchOption r (FindsText mark bytes None)
    (λ x. (i : ℕ) × (j : ℕ) × FindsText mark bytes (Some (i, j)) × (x.0.now ≡ take i bytes)
    × (x.1.now ≡ drop j bytes) × (i ≤ j) × (length x.0.now ≡ i) × (length x.1.now + j ≡ length bytes))
    → option_map pair_now r ≡ parted mark bytes
split_once-parted mark bytes None some h = sym (parted-nowhere mark bytes h)
split_once-parted mark bytes (Some x) some h =
    let at = h.2.1 in
    let within : h.0 ≤ length bytes = omega (arith, h.5, h.7) in
    (λ k. Some (h.3 k, h.4 k))
    ∙ sym (parted-at mark bytes h.0 h.1 some at.ends h.2.0 at.split within)
