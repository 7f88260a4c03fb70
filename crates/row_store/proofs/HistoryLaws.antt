-- Beginnings of histories, and one commit more.
use Rattle.std.proofs.Common.{◌≡◌, ℕ, ◌<◌, ◌≤◌, Bool, true, false, ltb, List, [], ◌∷◌, ◌++◌, length, take, slice_get}
use Rattle.std.proofs.Common.{Some, None, unwrap_or, refl, sym, ap, ◌∙◌, arith, zero, suc, length-append}
use Rattle.std.proofs.lemmas.Bool.{ltb-true, ltb-false}
use Rattle.std.proofs.lemmas.List.{take-append-le}
use Rattle.std.proofs.lemmas.Option.{slice_get_within}
use Rattle.std.proofs.Math.Seq.{take-append_seam}
use Rattle.row_store.specs.History.{CommitRecord}
use Rattle.row_store.specs.Refusals.{refusal_of}
use Rattle.row_store.specs.Laws.{BeginningsAreLegal, AcceptedStaysLegal, AcceptedIsCommitted, RefusedChangesNothing}

-- what a list has is there when it grows
get-push : {A : Type 0} (xs ys : List A) (k : ℕ) → k < length xs → slice_get (xs ++ ys) k ≡ slice_get xs k
get-push [] ys k h = absurd (omega arith)
get-push (x ∷ xs) ys zero h = refl
get-push (x ∷ xs) ys (suc k) h = get-push xs ys k (omega arith)

-- the last element
get-last : {A : Type 0} (xs : List A) (x : A) → slice_get (xs ++ x ∷ []) (length xs) ≡ Some x
get-last [] x = refl
get-last (y ∷ xs) x = get-last xs x

pub beginnings_are_legal : BeginningsAreLegal
beginnings_are_legal base shorter longer is legal = record {
  accepted = λ i commit here.
      let within : i < length shorter = slice_get_within shorter i commit here in
      let there : slice_get longer i ≡ Some commit = ap (λ h. slice_get h i) is.whole
      ∙ get-push shorter is.rest i within ∙ here in
      let same : take i longer ≡ take i shorter = ap (take i) is.whole
      ∙ take-append-le i shorter is.rest (omega (arith, within)) in
      ap (λ h. refusal_of base h commit.actions) (sym same) ∙ legal.accepted i commit there;
}

pub accepted_stays_legal : AcceptedStaysLegal
accepted_stays_legal base history commit legal none = record {
  accepted = λ i found here. step i found here
      (ltb i (length history)) refl;
}
  where
    step : (i : ℕ) (found : CommitRecord) → slice_get (history ++ commit ∷ []) i ≡ Some found → (b : Bool)
        → ltb i (length history) ≡ b → refusal_of base (take i (history ++ commit ∷ [])) found.actions ≡ None
    step i found here true t =
        let within : i < length history = ltb-true i (length history) t in
        let there : slice_get history i ≡ Some found = sym (get-push history (commit ∷ []) i within) ∙ here in
        let same : take i (history ++ commit ∷ []) ≡ take i history =
        take-append-le i history (commit ∷ []) (omega (arith, within)) in
        ap (λ h. refusal_of base h found.actions) same ∙ legal.accepted i found there
    step i found here false t =
        let past : length history ≤ i = ltb-false i (length history) t in
        let within : i < length (history ++ commit ∷ []) = slice_get_within (history ++ commit ∷ []) i found here in
        let last : i ≡ length history = omega (arith, past, within, length-append history (commit ∷ [])) in
        let same : Some found ≡ Some commit = sym here ∙ ap (slice_get (history ++ commit ∷ [])) last
        ∙ get-last history commit in
        let whole : take i (history ++ commit ∷ []) ≡ history =
        ap (λ n. take n (history ++ commit ∷ [])) last ∙ take-append_seam history (commit ∷ []) in
        (λ k. refusal_of base (whole k) (unwrap_or (same k) commit).actions) ∙ none

pub accepted_is_committed : AcceptedIsCommitted
accepted_is_committed base history commit none = grind (arith, length-append)

pub refused_changes_nothing : RefusedChangesNothing
refused_changes_nothing base history commit refusal is = grind arith
