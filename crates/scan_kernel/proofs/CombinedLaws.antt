use Rattle.std.proofs.Common.{arith}
-- Over a sound base each line that names rows makes one combination.
use Rattle.std.proofs.Common.{ℕ, ◌≡◌, List, [], ◌∷◌, ◌++◌, map, Bool, true, false, refl, ap, ◌∙◌}
use Rattle.std.specs.Prelude.{nat_eq, filter, unwrap_or}
use Rattle.std.specs.List.{AllByRecursion}
use Rattle.std.specs.Option.{option_to_list}
use Rattle.std.proofs.lemmas.Option.{unwrap_or-slice_get}
use Rattle.ssb_base.specs.Base.{Dimensions, Tables, IsSound, IsKnown, has_key, has_key_of, row_with}
use Rattle.ssb_schema.specs.FirstFault.{AreDistinct}
use Rattle.ssb_schema.specs.Facts.{fact_of, facts_of}
use Rattle.ssb_schema.specs.declared.fact.Fact.{Fact}
use Rattle.ssb_schema.specs.declared.line.LineFields.{LineFields}
use Rattle.ssb_questions.specs.declared.plan.Plan.{Plan}
use Rattle.ssb_answers.specs.Combination.{Combination, joined, joined_with, passes, combinations}
use Rattle.ssb_answers.proofs.JoinLaws.{filter_is_find}
use Rattle.ssb_answers.proofs.PassingLaws.{combined}
use Rattle.scan_kernel.specs.Combined.{combine, passes_line, Positions, ArePositions, combine_at}

module _ {R : Type 0} (key : R → ℕ) (k : ℕ) (blank : R) where
  found_is_one : (rows : List R) → has_key key rows k ≡ true
      → option_to_list (row_with key rows k) ≡ unwrap_or (row_with key rows k) blank ∷ []
  found_is_one [] known = cc
  found_is_one (r ∷ rows) known =
      elim (nat_eq (key r) k) as (λ b. has_key key (r ∷ rows) k ≡ true → nat_eq (key r) k ≡ b
      → option_to_list (row_with key (r ∷ rows) k) ≡ unwrap_or (row_with key (r ∷ rows) k) blank ∷ []) [
        | true ↦ λ _ e. rw e refl
        | false ↦ λ h e. rw e (found_is_one rows (rw e at h))
      ] known refl

  pub one_row : (rows : List R) → AreDistinct (has_key_of key) rows → has_key key rows k ≡ true
      → filter (λ row. nat_eq (key row) k) rows ≡ unwrap_or (row_with key rows k) blank ∷ []
  one_row rows distinct known = filter_is_find key k rows distinct ∙ found_is_one rows known

-- a line makes the one combination
pub joined_is_one : (blank : Combination) (base : Tables) (line : LineFields) → IsSound base
    → IsKnown base.dimensions line → joined_with base.dimensions (fact_of line) ≡ combine blank base.dimensions
    (fact_of line) ∷ []
joined_is_one blank base line sound known = grind (arith, one_row, combined)

joined_are : (blank : Combination) (base : Tables) → IsSound base → (lines : List LineFields)
    → AllByRecursion (IsKnown base.dimensions) lines → joined base.dimensions (facts_of lines) ≡ map
    (combine blank base.dimensions) (facts_of lines)
joined_are blank base sound [] all = grind arith
joined_are blank base sound (line ∷ lines) all = grind (arith, joined_is_one, joined_are blank base sound lines all.1)

pub filter_mapped : {X A : Type 0} (p : A → Bool) (f : X → A) (xs : List X)
    → filter p (map f xs) ≡ map f (filter (λ x. p (f x)) xs)
filter_mapped p f [] = grind arith
filter_mapped p f (x ∷ xs) = grind (arith, filter_mapped p f xs)

pub combines_each_line : (blank : Combination) (plan : Plan) (base : Tables) (lines : List LineFields) → IsSound base
    → AllByRecursion (IsKnown base.dimensions) lines
    → combinations plan base.dimensions (facts_of lines) ≡ map (combine blank base.dimensions)
    (filter (passes_line plan blank base.dimensions) (facts_of lines))
combines_each_line blank plan base lines sound all =
    ap (filter (passes plan)) (joined_are blank base sound lines all)
    ∙ filter_mapped (passes plan) (combine blank base.dimensions) (facts_of lines)

pub combines_at_positions : (blank : Combination) (dimensions : Dimensions) (fact : Fact) (at : Positions)
    → ArePositions dimensions fact at → combine blank dimensions fact ≡ combine_at blank dimensions fact at
combines_at_positions blank dimensions fact at are = grind (arith, unwrap_or-slice_get)
