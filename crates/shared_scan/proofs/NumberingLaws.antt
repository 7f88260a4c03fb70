-- One code more has a number, or is marked.
use Rattle.std.proofs.Common.{ℕ, ◌≡◌, ◌≢◌, ◌+◌, ◌<◌, List, [], ◌∷◌, ◌++◌, length, get_or, set, eqb, eqb-true, eq-eqb}
use Rattle.std.proofs.Common.{true, false, bit_or, Some, sym, ap, ◌∙◌, arith, ◌⊎◌, inl, inr}
use Rattle.std.specs.Int.{bit_at}
use Rattle.std.proofs.lemmas.Nat.Bits.{bit_at_or, bit_at-lt}
use Rattle.std.proofs.lemmas.Bool.Decides.{eqb_tells}
use Rattle.std.proofs.lemmas.List.{get_or-set_same, get_or-set_other, length-set, length-append}
use Rattle.std.proofs.Math.ListN.{get_or-append}
use Rattle.std.proofs.Math.Seq.{get_or-append_seam}
use Rattle.shared_scan.specs.Numbering.{AreNumbered, IsTaken}

module _ (numbers kept : List ℕ) (code : ℕ) (below : code < length numbers) (none : get_or numbers code 0 ≡ 4294967295)
    (few : length kept < 4294967295) (was : AreNumbered numbers kept) where
  here : get_or (set numbers code (length kept)) code 0 ≡ length kept
  here = get_or-set_same numbers code (length kept) 0 below

  other : (c : ℕ) → c ≢ code → get_or (set numbers code (length kept)) c 0 ≡ get_or numbers c 0
  other c differs = get_or-set_other numbers code c (length kept) 0 differs

  at_end : get_or (kept ++ code ∷ []) (length kept) 0 ≡ code
  at_end = get_or-append_seam kept code [] 0

  before : (n : ℕ) → n < length kept → get_or (kept ++ code ∷ []) n 0 ≡ get_or kept n 0
  before n inside = get_or-append kept (code ∷ []) 0 n inside

  longer : length (kept ++ code ∷ []) ≡ length kept + 1
  longer = length-append kept (code ∷ [])

  there_now : (c : ℕ) → c < length numbers → get_or (set numbers code (length kept)) c 0 ≢ 4294967295
      → ((eqb c code ≡ true) × (c ≡ code)) ⊎ ((eqb c code ≡ false) × (c ≢ code))
      → (get_or (set numbers code (length kept)) c 0 < length (kept ++ code ∷ []))
      × (get_or (kept ++ code ∷ []) (get_or (set numbers code (length kept)) c 0) 0 ≡ c)
  there_now c inside some (inl (_, e)) = grind (arith, here, longer, at_end)
  there_now c inside some (inr (_, ne)) = grind (arith, other, longer, before)

  back_now : (n : ℕ) → n < length (kept ++ code ∷ []) → ((eqb n (length kept) ≡ true) × (n ≡ length kept))
      ⊎ ((eqb n (length kept) ≡ false) × (n ≢ length kept))
      → (get_or (kept ++ code ∷ []) n 0 < length numbers)
      × (get_or (set numbers code (length kept)) (get_or (kept ++ code ∷ []) n 0) 0 ≡ n)
  back_now n inside (inl (_, e)) = grind (arith, at_end, here)
  back_now n inside (inr (_, ne)) = grind (arith, longer, before, other)

  pub numbered_more : AreNumbered (set numbers code (length kept)) (kept ++ code ∷ [])
  numbered_more = grind (arith, there_now, length-set, eqb_tells, back_now)

-- a row's code is marked with the bits of the row's mask, and keeps those that it had
pub mark_more : (seen codes masks : List ℕ) (row : ℕ) → get_or codes row 0 < length seen
    → ((p k : ℕ) → p < row → bit_at (get_or masks p 0) k ≡ 1 → bit_at (get_or seen (get_or codes p 0) 0) k ≡ 1)
    → (p k : ℕ) → p < row + 1 → bit_at (get_or masks p 0) k ≡ 1
    → bit_at (get_or (set seen (get_or codes row 0) (bit_or (get_or seen (get_or codes row 0) 0) (get_or masks row 0)))
    (get_or codes p 0) 0) k ≡ 1
mark_more seen codes masks row within before p k below bit = grind (arith, bit_or, get_or-set_same, eqb, eqb-true, bit_at_or, bit_at-lt, get_or-set_other, eq-eqb)

-- only codes of rows with the bit are marked
pub mark_only : (initial seen codes masks : List ℕ) (row : ℕ) → get_or codes row 0 < length seen → row < length codes
    → ((code k : ℕ) → bit_at (get_or seen code 0) k ≡ 1
    → (bit_at (get_or initial code 0) k ≡ 1) ⊎ IsTaken codes (Some masks) k code)
    → (code k : ℕ)
    → bit_at (get_or (set seen (get_or codes row 0) (bit_or (get_or seen (get_or codes row 0) 0) (get_or masks row 0)))
    code 0) k ≡ 1 → (bit_at (get_or initial code 0) k ≡ 1) ⊎ IsTaken codes (Some masks) k code
mark_only initial seen codes masks row within there before code k bit =
    here (eqb_tells code own) (eqb_tells (bit_at (get_or masks row 0) k) 1)
  where
    own : ℕ
    own = get_or codes row 0

    mark : ℕ
    mark = bit_or (get_or seen own 0) (get_or masks row 0)

    here : ((eqb code own ≡ true) × (code ≡ own)) ⊎ ((eqb code own ≡ false) × (code ≢ own))
        → ((eqb (bit_at (get_or masks row 0) k) 1 ≡ true) × (bit_at (get_or masks row 0) k ≡ 1))
        ⊎ ((eqb (bit_at (get_or masks row 0) k) 1 ≡ false) × (bit_at (get_or masks row 0) k ≢ 1))
        → (bit_at (get_or initial code 0) k ≡ 1) ⊎ IsTaken codes (Some masks) k code
    here (inr (_, ne)) any =
        before code k (ap (λ (m : ℕ). bit_at m k) (sym (get_or-set_other seen own code mark 0 ne)) ∙ bit)
    here (inl (_, e)) (inl (_, set_here)) = inr (record { row = row; there = there; own = sym e; taken = set_here })
    here (inl (_, e)) (inr (_, unset)) =
        let marked : bit_at mark k ≡ 1 =
        ap (λ (m : ℕ). bit_at m k) (sym (get_or-set_same seen own mark 0 within))
        ∙ ap (λ (n : ℕ). bit_at (get_or (set seen own mark) n 0) k) (sym e) ∙ bit in
        let had : bit_at (get_or seen own 0) k ≡ 1 = omega (
          arith,
          bit_at_or (get_or seen own 0) (get_or masks row 0) k,
          bit_at-lt (get_or masks row 0) k,
          bit_at-lt (get_or seen own 0) k,
          marked,
          unset,
        ) in
        before code k (ap (λ (n : ℕ). bit_at (get_or seen n 0) k) e ∙ had)

-- what is kept, with one code more that is seen, is seen
pub seen_more : (seen kept more : List ℕ) (question code : ℕ)
    → ((n : ℕ) → n < length kept → bit_at (get_or seen (get_or kept n 0) 0) question ≡ 1)
    → bit_at (get_or seen code 0) question ≡ 1 → (more ≡ kept) ⊎ (more ≡ kept ++ code ∷ [])
    → (n : ℕ) → n < length more → bit_at (get_or seen (get_or more n 0) 0) question ≡ 1
seen_more seen kept more question code before bit (inl same) n below =
    ap (λ (l : List ℕ). bit_at (get_or seen (get_or l n 0) 0) question) same
    ∙ before n (omega (arith, below, ap length same))
seen_more seen kept more question code before bit (inr grown) n below =
    ap (λ (l : List ℕ). bit_at (get_or seen (get_or l n 0) 0) question) grown ∙ here (eqb_tells n (length kept))
  where
    here : ((eqb n (length kept) ≡ true) × (n ≡ length kept)) ⊎ ((eqb n (length kept) ≡ false) × (n ≢ length kept))
        → bit_at (get_or seen (get_or (kept ++ code ∷ []) n 0) 0) question ≡ 1
    here (inl (_, e)) =
        ap (λ (i : ℕ). bit_at (get_or seen (get_or (kept ++ code ∷ []) i 0) 0) question) e
        ∙ ap (λ (c : ℕ). bit_at (get_or seen c 0) question) (get_or-append_seam kept code [] 0) ∙ bit
    here (inr (_, ne)) =
        let inside : n < length kept = omega (arith, below, ap length grown, length-append kept (code ∷ []), ne) in
        ap (λ (c : ℕ). bit_at (get_or seen c 0) question) (get_or-append kept (code ∷ []) 0 n inside)
        ∙ before n inside
