-- Rows made from the counts and sums of some groups alone.
use Rattle.std.proofs.Common.{ℕ, zero, suc, ◌≡◌, ◌≢◌, ◌+◌, ◌<◌, List, [], ◌∷◌, ◌++◌, length, map, take, get_or, Bool}
use Rattle.std.proofs.Common.{true, false, cond, Some, refl, sym, ap, ◌∙◌, subst, arith, inl, inr}
use Rattle.std.specs.Prelude.{ℤ, pos, nat_eq, nat_lt, filter, IsPermutation}
use Rattle.std.specs.List.{All, AllByRecursion, IsDistinct}
use Rattle.std.specs.List.Sorted.{IsSorted}
use Rattle.std.specs.Cmp.{unsigned_Decides}
use Rattle.std.proofs.lemmas.Bool.{ltb-true}
use Rattle.std.proofs.lemmas.List.{map-append, append-nil}
use Rattle.std.proofs.lemmas.List.Elements.{filter_more}
use Rattle.std.proofs.lemmas.Map.Keys.{IsDistinct-head, IsDistinct-tail}
use Rattle.ssb_questions.specs.declared.value.Value.{Value}
use Rattle.ssb_questions.specs.declared.plan.Plan.{Plan}
use Rattle.ssb_questions.specs.Members.{Has}
use Rattle.ssb_questions.specs.Plan.{OrdersAllGroups, IsGrouped}
use Rattle.ssb_answers.specs.Combination.{Combination}
use Rattle.ssb_answers.specs.Answer.{row_cmp, rows_over}
use Rattle.ssb_answers.specs.declared.answer.ResultRow.{ResultRow}
use Rattle.ssb_answers.proofs.MemberLaws.{has_filter}
use Rattle.scan_kernel.specs.Dense.{AreDenseTotals, dense_row}
use Rattle.scan_kernel.specs.SparseRows.{beside, count_of, sum_of, sparse_rows}
use Rattle.scan_kernel.proofs.DenseLaws.{Once, once_filter, has_range, has_from_filter, sorted_some_answer}

all_at : (P : ℕ → Type 0) (xs : List ℕ) (i : ℕ) → AllByRecursion P xs → i < length xs → P (get_or xs i 0)
all_at P [] i h below = absurd (omega (arith, below))
all_at P (x ∷ xs) zero h below = h.0
all_at P (x ∷ xs) (suc i) h below = all_at P xs i h.1 (omega (arith, below))

all_through : (P Q : ℕ → Type 0) (xs : List ℕ) → ((x : ℕ) → P x → Q x) → AllByRecursion P xs → AllByRecursion Q xs
all_through P Q [] f h = tt
all_through P Q (x ∷ xs) f h = (f x h.0, all_through P Q xs f h.1)

other_by_test : (m n : ℕ) → nat_eq m n ≡ false → m ≢ n
other_by_test m n e same = let t : nat_eq m n ≡ true = (unsigned_Decides m n).1 same in cc

test_of_other : (m n : ℕ) (b : Bool) → nat_eq m n ≡ b → m ≢ n → b ≡ false
test_of_other m n false e other = refl
test_of_other m n true e other = absurd (other ((unsigned_Decides m n).0 e))

-- beside a number that stands once in the list is the item at its place
pub beside_at : {X : Type 0} (none : X) (numbers : List ℕ) (items : List X) (i : ℕ) → IsDistinct nat_eq numbers
    → length items ≡ length numbers → i < length numbers
    → beside none numbers items (get_or numbers i 0) ≡ get_or items i none
beside_at none [] items i apart len below = absurd (omega (arith, below))
beside_at none (n ∷ numbers) [] i apart len below = absurd (omega (arith, len))
beside_at none (n ∷ numbers) (x ∷ items) zero apart len below =
    ap (λ (b : Bool). cond b x (beside none numbers items n)) ((unsigned_Decides n n).1 refl)
beside_at none (n ∷ numbers) (x ∷ items) (suc i) apart len below =
    let m : ℕ = get_or numbers i 0 in
    let inside : i < length numbers = omega (arith, below) in
    let first : nat_eq n m ≡ false = all_at (λ y. nat_eq n y ≡ false) numbers i (IsDistinct-head nat_eq n numbers apart)
    inside in
    let other : nat_eq m n ≡ false = test_of_other m n (nat_eq m n) refl (λ e. other_by_test n m first (sym e)) in
    ap (λ (b : Bool). cond b x (beside none numbers items m)) other
    ∙ beside_at none numbers items i (IsDistinct-tail nat_eq n numbers apart) (omega (arith, len)) inside

-- what has a count is among the numbers
counted_is_there : (numbers counts : List ℕ) (g : ℕ) → 0 < count_of numbers counts g → Has numbers g
counted_is_there [] counts g h = absurd (omega (arith, h))
counted_is_there (n ∷ numbers) [] g h = absurd (omega (arith, h))
counted_is_there (n ∷ numbers) (c ∷ counts) g h =
    elim (nat_eq g n) as (λ b. nat_eq g n ≡ b → 0 < cond b c (count_of numbers counts g) → Has (n ∷ numbers) g) [
      | true ↦ λ e _. inl ((unsigned_Decides g n).0 e)
      | false ↦ λ _ more. inr (counted_is_there numbers counts g more)
    ] refl h

once_apart : (numbers : List ℕ) → IsDistinct nat_eq numbers → Once numbers
once_apart [] h = tt
once_apart (n ∷ numbers) h = (
  all_through _ _ numbers (λ y e. other_by_test n y e) (IsDistinct-head nat_eq n numbers h),
  once_apart numbers (IsDistinct-tail nat_eq n numbers h),
)

has_below : (size : ℕ) (numbers : List ℕ) (g : ℕ) → All (λ n. n < size) numbers → Has numbers g → g < size
has_below size [] g all h = absurd h
has_below size (n ∷ numbers) g all (inl e) = subst (λ (m : ℕ). m < size) (sym e) (all 0 n (omega arith))
has_below size (n ∷ numbers) g all (inr h) = has_below size numbers g
    (λ k d below. all (suc k) d (omega (arith, below))) h

module _ (numbers counts : List ℕ) (sums : List ℤ) (apart : IsDistinct nat_eq numbers)
    (all_counts : length counts ≡ length numbers) (all_sums : length sums ≡ length numbers) where
  abbrev count : ℕ → ℕ
  count = count_of numbers counts

  abbrev sum : ℕ → ℤ
  sum = sum_of numbers sums

  module _ (groups : ℕ → List Value) (at : ℕ) (below : at < length numbers) where
    abbrev seen : ℕ → Bool
    seen g = nat_lt 0 (count g)

    some_more : (b : Bool) → nat_lt 0 (get_or counts at 0) ≡ b
        → filter seen (take (at + 1) numbers) ≡ filter seen (take at numbers) ++ cond b (get_or numbers at 0 ∷ []) []
    some_more b e =
        filter_more seen numbers at 0 below
        ∙ ap (λ (c : Bool). filter seen (take at numbers) ++ cond c (get_or numbers at 0 ∷ []) [])
        (ap (nat_lt 0) (beside_at 0 numbers counts at apart all_counts below) ∙ e)

    pub row_more : nat_lt 0 (get_or counts at 0) ≡ true → sparse_rows (take (at + 1) numbers) groups count sum
        ≡ sparse_rows (take at numbers) groups count sum
        ++ record { groups = groups (get_or numbers at 0); sum = Some (get_or sums at (pos 0)) } ∷ []
    row_more e =
        ap (map (dense_row groups sum)) (some_more true e)
        ∙ map-append (dense_row groups sum) (filter seen (take at numbers)) (get_or numbers at 0 ∷ [])
        ∙ ap (λ (s : ℤ). sparse_rows (take at numbers) groups count sum
        ++ record { groups = groups (get_or numbers at 0); sum = Some s } ∷ [])
        (beside_at (pos 0) numbers sums at apart all_sums below)

    pub row_same : nat_lt 0 (get_or counts at 0) ≡ false
        → sparse_rows (take (at + 1) numbers) groups count sum ≡ sparse_rows (take at numbers) groups count sum
    row_same e = ap (map (dense_row groups sum)) (some_more false e ∙ append-nil (filter seen (take at numbers)))

  module _ (plan : Plan) (found : List Combination) (number : Combination → ℕ) (size : ℕ) (groups : ℕ → List Value)
      (within : All (λ n. n < size) numbers) (dense : AreDenseTotals plan found number size groups count sum)
      (orders : OrdersAllGroups plan) (grouped : IsGrouped plan) where
    pub sparse_rows_answer : (rows : List ResultRow) → IsPermutation (sparse_rows numbers groups count sum) rows
        → IsSorted (row_cmp plan.order) rows → rows ≡ rows_over plan found
    sparse_rows_answer rows moved sorted =
        let seen_of : ℕ → Bool = λ g. nat_lt 0 (count g) in
        sorted_some_answer plan found number size groups count sum dense orders (filter seen_of numbers) rows grouped
        (once_filter seen_of numbers (once_apart numbers apart))
        (λ g h. let there = has_from_filter seen_of numbers g h in
        has_filter seen_of _ g there.0 (has_range size 0 g (omega arith)
        (omega (arith, has_below size numbers g within there.1))))
        (λ g h. let there = has_from_filter seen_of _ g h in
        has_filter seen_of numbers g there.0 (counted_is_there numbers counts g (ltb-true 0 (count g) there.0)))
        moved sorted
