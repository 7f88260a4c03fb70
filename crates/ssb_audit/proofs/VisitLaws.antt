-- The visits to the answers of a trace.
use Rattle.std.proofs.Common.{◌≡◌, ℕ, zero, suc, ◌+◌, ◌<◌, List, [], ◌∷◌, ◌++◌, length, take, map, get_or, refl, ap}
use Rattle.std.proofs.Common.{sym, subst, ◌∙◌, arith, zero-add}
use Rattle.std.specs.Prelude.{Option, Some, None, slice_get, All, Contains, IsPermutation}
use Rattle.std.specs.List.{enumerate_from}
use Rattle.std.proofs.lemmas.List.{take_more, get_or-map, length-take, length-map, map-append}
use Rattle.std.proofs.lemmas.List.FromFn.{length-enumerate_from, get_or-enumerate_from}
use Rattle.std.proofs.lemmas.List.Sorted.{All-permutation, Contains-permutation}
use Rattle.std.proofs.lemmas.Option.{slice_get_within, get_or_from_slice_get}
use Rattle.ssb_audit.specs.Visits.{visits_of, IsIn}
use Rattle.ssb_audit.specs.declared.trace.Told.{Told}
use Rattle.ssb_audit.specs.declared.visits.Visit.{Visit}

-- within a list there is an element
absent_within : {X : Type 0} (xs : List X) (k : ℕ) → slice_get xs k ≡ None → k < length xs → ⊥
absent_within [] k past within = omega (arith, within)
absent_within (x ∷ xs) zero past within = cc
absent_within (x ∷ xs) (suc k) past within = absent_within xs k past (omega (arith, within))

-- elements with their indices, and one more
enumerate_push : {X : Type 0} (n : ℕ) (xs : List X) (x : X) → enumerate_from n (xs ++ x ∷ []) ≡ enumerate_from n xs
    ++ (n + length xs, x) ∷ []
enumerate_push n [] x = ap (λ i. (i, x) ∷ []) (omega arith)
enumerate_push n (y ∷ ys) x =
    let next : (n + 1) + length ys ≡ n + length (y ∷ ys) = omega arith in
    ap (λ t. (n, y) ∷ t) (enumerate_push (n + 1) ys x ∙ ap (λ i. enumerate_from (n + 1) ys ++ (i, x) ∷ []) next)

-- the visits to the first answers, and to one more
pub visits_more : (answers : List Told) (i : ℕ) (told : Told) → i < length answers → told ≡ get_or answers i told
    → visits_of (take (i + 1) answers) ≡ visits_of (take i answers) ++ record { at = told.at; place = i } ∷ []
visits_more answers i told within is =
    let count : 0 + length (take i answers) ≡ i = omega (arith, length-take i answers) in
    ap visits_of (take_more answers i told within ∙ ap (λ t. take i answers ++ t ∷ []) (sym is))
    ∙ ap (map (λ (entry : ℕ × Told). record { at = entry.1.at; place = entry.0 }))
    (enumerate_push 0 (take i answers) told ∙ ap (λ n. enumerate_from 0 (take i answers) ++ (n, told) ∷ []) count)
    ∙ map-append (λ (entry : ℕ × Told). record { at = entry.1.at; place = entry.0 }) (enumerate_from 0 (take i answers))
    ((i, told) ∷ [])

-- as many visits as answers
count_visits : (answers : List Told) → length (visits_of answers) ≡ length answers
count_visits answers = length-map (enumerate_from 0 answers)
    (λ (entry : ℕ × Told). record { at = entry.1.at; place = entry.0 }) ∙ length-enumerate_from 0 answers

-- the visit to the answer at a place
visit_at : (answers : List Told) (i : ℕ) (d : Visit) (told : Told) → slice_get answers i ≡ Some told
    → get_or (visits_of answers) i d ≡ record { at = told.at; place = i }
visit_at answers i d told there =
    let within = slice_get_within answers i told there in
    let entry : get_or (enumerate_from 0 answers) i (i, told) ≡ (i, told) =
    get_or-enumerate_from 0 answers i (i, told) within ∙ ap (λ n. (n, get_or answers i told)) (zero-add i)
    ∙ ap (λ t. (i, t)) (get_or_from_slice_get answers i told told there) in
    get_or-map (λ (entry : ℕ × Told). record { at = entry.1.at; place = entry.0 }) (enumerate_from 0 answers) i
    (i, told) d (rw (length-enumerate_from 0 answers) within)
    ∙ ap (λ (entry : ℕ × Told). record { at = entry.1.at; place = entry.0 }) entry

-- each visit is to one of the answers
pub visits_in : (answers : List Told) (visits : List Visit) → IsPermutation (visits_of answers) visits
    → All (IsIn answers) visits
visits_in answers visits same = All-permutation (IsIn answers) (visits_of answers) visits same each
  where
    read : (k : ℕ) (d : Visit) (o : Option Told) → slice_get answers k ≡ o → k < length answers
        → IsIn answers (get_or (visits_of answers) k d)
    read k d None past within = absurd (absent_within answers k past within)
    read k d (Some told) there within =
        let is = visit_at answers k d told there in
        subst (IsIn answers) (sym is) (record { told = told; there = there; at_is = refl })

    each : All (IsIn answers) (visits_of answers)
    each k d within = read k d (slice_get answers k) refl (rw (sym (count_visits answers)) within)

-- each answer is visited
pub each_visited : (answers : List Told) (visits : List Visit) (i : ℕ) (told : Told)
    → IsPermutation (visits_of answers) visits → slice_get answers i ≡ Some told
    → Contains visits (record { at = told.at; place = i })
each_visited answers visits i told same there =
    Contains-permutation (visits_of answers) visits (record { at = told.at; place = i }) same (
      i,
      rw (count_visits answers) (slice_get_within answers i told there),
      visit_at answers i (record { at = told.at; place = i }) told there,
    )
