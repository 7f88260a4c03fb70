-- Rows by totals, and the next rows of those that were found for the others, in the order asked.
use Rattle.std.proofs.Common.{ℕ, ◌≡◌, ◌+◌, ◌<◌, Option, Some, None, Bool, true, false, cond, not, List, [], ◌∷◌, ◌++◌}
use Rattle.std.proofs.Common.{length, map, get_or, take, drop, sym, ap, ◌∙◌, arith}
use Rattle.std.specs.List.{filter}
use Rattle.std.specs.Prelude.{IfSome, MatchOption, is_some}
use Rattle.std.proofs.lemmas.List.{drop_more, take_more, map-append}

module _ {Q R : Type 0} (stands : Q → Bool) (row : Q → R) (questions : List Q) (i : ℕ) (d : Q)
    (below : i < length questions) where
  -- the questions that do not stand
  abbrev pub others : List Q → List Q
  others = filter (λ question. not (stands question))

  left : others (drop i questions) ≡ cond (not (stands (get_or questions i d)))
      (get_or questions i d ∷ others (drop (i + 1) questions)) (others (drop (i + 1) questions))
  left = ap others (drop_more questions i d below)

  -- a question that stands is none of the others
  pub left_own : stands (get_or questions i d) ≡ true → others (drop i questions) ≡ others (drop (i + 1) questions)
  left_own is = left ∙ ap (λ (b : Bool). cond (not b) (get_or questions i d ∷ others (drop (i + 1) questions))
      (others (drop (i + 1) questions))) is

  -- one that does not is the next of them
  pub left_other : stands (get_or questions i d) ≡ false
      → others (drop i questions) ≡ get_or questions i d ∷ others (drop (i + 1) questions)
  left_other is = left ∙ ap (λ (b : Bool). cond (not b) (get_or questions i d ∷ others (drop (i + 1) questions))
      (others (drop (i + 1) questions))) is

  -- its row is the next
  pub row_more : (rows more : List R) (own : R) → rows ≡ map row (take i questions)
      → own ≡ row (get_or questions i d) → more ≡ rows ++ own ∷ [] → more ≡ map row (take (i + 1) questions)
  row_more rows more own before is grown =
      grown ∙ (λ j. before j ++ is j ∷ [])
      ∙ sym (map-append row (take i questions) (get_or questions i d ∷ []))
      ∙ ap (map row) (sym (take_more questions i d below))

  -- so with a question's rows by its totals, or the next that were found
  pub merged_more : (own : Option R) (made : R) (left after rows more : List R)
      → is_some own ≡ stands (get_or questions i d) → IfSome own (λ r. r ≡ row (get_or questions i d))
      → MatchOption own (left ≡ made ∷ after) (λ r. (made ≡ r) × (after ≡ left)) → more ≡ rows ++ made ∷ []
      → rows ≡ map row (take i questions) → left ≡ map row (others (drop i questions))
      → (more ≡ map row (take (i + 1) questions)) × (after ≡ map row (others (drop (i + 1) questions)))
  merged_more (Some own) made left after rows more there is taken grown before found = (
    row_more rows more made before (taken.0 ∙ is) grown,
    taken.1 ∙ found ∙ ap (map row) (left_own (sym there)),
  )
  merged_more None made left after rows more there is taken grown before found =
      let all : made ∷ after ≡ row (get_or questions i d) ∷ map row (others (drop (i + 1) questions)) =
      sym taken ∙ found ∙ ap (map row) (left_other (sym there)) in
      let here : made ≡ row (get_or questions i d) = cc in
      let rest : after ≡ map row (others (drop (i + 1) questions)) = cc in
      (row_more rows more made before here grown, rest)

  -- where a question does not stand, rows were found for it
  pub some_left : (own : Option R) (left : List R) → is_some own ≡ stands (get_or questions i d) → own ≡ None
      → left ≡ map row (others (drop i questions)) → 0 < length left
  some_left own left there none found =
      let out : stands (get_or questions i d) ≡ false = sym there ∙ ap is_some none in
      let all : left ≡ row (get_or questions i d) ∷ map row (others (drop (i + 1) questions)) =
      found ∙ ap (map row) (left_other out) in
      omega (arith, ap length all)

-- as many are left
pub len_more : {R : Type 0} (own : Option R) (made : R) (left after : List R) (m n : ℕ)
    → MatchOption own (left ≡ made ∷ after) (λ r. (made ≡ r) × (after ≡ left))
    → MatchOption own (n + 1 ≡ m) (λ _. n ≡ m) → m ≡ length left → n ≡ length after
len_more (Some own) made left after m n taken count len = count ∙ len ∙ ap length (sym taken.1)
len_more None made left after m n taken count len = omega (arith, ap length taken, count, len)
