-- One segment more behind those that were found.
use Rattle.std.proofs.Common.{◌≡◌, ◌⊎◌, ℕ, ◌+◌, ◌<◌, List, [], ◌∷◌, ◌++◌, length, get_or, inl, inr, sym, ◌∙◌, arith}
use Rattle.std.proofs.Common.{subst}
use Rattle.std.proofs.lemmas.Bool.{cases_order}
use Rattle.std.proofs.lemmas.List.{length-append}
use Rattle.std.proofs.Math.ListN.{get_or-append}
use Rattle.std.proofs.Math.Seq.{get_or-append_seam}
use Rattle.store_folder.specs.Chain.{IsChainFrom}

module _ (after : ℕ) (closed : List ℕ) (last next : ℕ) (chain : IsChainFrom after (closed ++ last ∷ [])) (behind : last < next) where
  count : length (closed ++ last ∷ []) ≡ length closed + 1
  count = length-append closed (last ∷ [])

  as_before : (i : ℕ) → i < length closed + 1 → get_or ((closed ++ last ∷ []) ++ next ∷ []) i 0 ≡ get_or (closed ++ last ∷ []) i 0
  as_before i inside = get_or-append (closed ++ last ∷ []) (next ∷ []) 0 i (omega (arith, inside, count))

  at_end : get_or ((closed ++ last ∷ []) ++ next ∷ []) (length closed + 1) 0 ≡ next
  at_end =
      subst (λ (n : ℕ). get_or ((closed ++ last ∷ []) ++ next ∷ []) n 0 ≡ next) count
      (get_or-append_seam (closed ++ last ∷ []) next [] 0)

  no_more : (i : ℕ) → (i ≡ length closed) ⊎ ((i < length closed) ⊎ (length closed < i)) → i < length closed + 1
      → get_or (closed ++ last ∷ []) i 0 < next
  no_more i (inl same) inside =
      let here : get_or (closed ++ last ∷ []) i 0 ≡ last =
      subst (λ (n : ℕ). get_or (closed ++ last ∷ []) n 0 ≡ last) (sym same) (get_or-append_seam closed last [] 0) in
      omega (arith, here, behind)
  no_more i (inr (inl before)) inside =
      let less = chain.ascending i (length closed) before (omega (arith, count)) in
      omega (arith, less, get_or-append_seam closed last [] 0, behind)
  no_more i (inr (inr far)) inside = absurd (omega (arith, far, inside))

  ascends : (i j : ℕ) → i < j → (j ≡ length closed + 1) ⊎ ((j < length closed + 1) ⊎ (length closed + 1 < j))
      → j < length ((closed ++ last ∷ []) ++ next ∷ [])
      → get_or ((closed ++ last ∷ []) ++ next ∷ []) i 0 < get_or ((closed ++ last ∷ []) ++ next ∷ []) j 0
  ascends i j before (inl same) inside =
      let end : get_or ((closed ++ last ∷ []) ++ next ∷ []) j 0 ≡ next =
      subst (λ (n : ℕ). get_or ((closed ++ last ∷ []) ++ next ∷ []) n 0 ≡ next) (sym same) at_end in
      omega (arith, end, as_before i (omega (arith, before, same)), no_more i (cases_order i (length closed)) (omega (arith, before, same)))
  ascends i j before (inr (inl there)) inside =
      omega (arith, chain.ascending i j before (omega (arith, there, count)), as_before i (omega (arith, before, there)), as_before j there)
  ascends i j before (inr (inr far)) inside =
      absurd (omega (arith, far, inside, length-append (closed ++ last ∷ []) (next ∷ []), count))

  pub chain_more : IsChainFrom after ((closed ++ last ∷ []) ++ next ∷ [])
  chain_more = record {
    first = as_before 0 (omega arith) ∙ chain.first;
    ascending = λ i j before inside. ascends i j before (cases_order j (length closed + 1)) inside;
  }
