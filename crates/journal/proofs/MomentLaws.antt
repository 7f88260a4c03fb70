-- How a run of calls of a disk goes on.
use Rattle.std.proofs.Common.{◌≡◌, inl, inr, ⊎_elim, ℕ, ◌≤◌, List, refl, sym, subst, arith}
use Rattle.journal.specs.Disk.{Elapses, LeavesOnly, Torn}

-- a write that changes nothing
pub torn_same : (at n : ℕ) (file : List ℕ) → Torn at n file file
torn_same at n file = record { before = refl; after = refl; no_shorter = omega arith; no_longer = omega arith }

module _ {D : Type 0} (moment : D → ℕ) (left_since : D → ℕ → List ℕ → Type 0) where
  pub leaves : (old new : D) (P R : List ℕ → Type 0) → LeavesOnly moment left_since old new P → ((c : List ℕ) → P c → R c) → LeavesOnly moment left_since old new R
  leaves old new P R run means = record {
    later = run.later;
    each = λ c left. means c (run.each c left);
    before = λ t c le left. ⊎_elim (λ was. inl was) (λ now. inr (means c now)) (run.before t c le left);
  }

  -- one run after the other
  pub then_leaves : (old mid new : D) (P Q R : List ℕ → Type 0) → LeavesOnly moment left_since old mid P → LeavesOnly moment left_since mid new Q → ((c : List ℕ) → P c → R c) → ((c : List ℕ) → Q c → R c) → LeavesOnly moment left_since old new R
  then_leaves old mid new P Q R first second first_means second_means = record {
    later = omega (arith, first.later, second.later);
    each = λ c left. ⊎_elim (λ was. first_means c (first.each c was)) (second_means c) (second.before (moment old) c first.later left);
    before = λ t c le left.
        ⊎_elim (λ was. ⊎_elim (λ then. inl then) (λ now. inr (first_means c now)) (first.before t c le was))
        (λ now. inr (second_means c now)) (second.before t c (omega (arith, le, first.later)) left);
  }

  -- no call at all
  pub stays : (disk : D) (P : List ℕ → Type 0) → ((c : List ℕ) → left_since disk (moment disk) c → P c) → LeavesOnly moment left_since disk disk P
  stays disk P now = record { later = omega arith; each = now; before = λ t c le left. inl left }

  -- two things that hold of each file
  pub both : (old new : D) (P Q : List ℕ → Type 0) → LeavesOnly moment left_since old new P → LeavesOnly moment left_since old new Q → LeavesOnly moment left_since old new (λ c. P c × Q c)
  both old new P Q one other = record {
    later = one.later;
    each = λ c left. (one.each c left, other.each c left);
    before = λ t c le left. ⊎_elim (λ was. inl was) (λ p. ⊎_elim (λ was. inl was) (λ q. inr (p, q)) (other.before t c le left)) (one.before t c le left);
  }

  -- one call: what a crash leaves before it, and what one leaves in the course of it
  pub passes : (old new : D) (may_leave : D → List ℕ → Type 0) (P : List ℕ → Type 0)
      → Elapses (moment old) (moment new) (left_since old) (left_since new) (may_leave new)
      → ((c : List ℕ) → left_since old (moment old) c → P c) → ((c : List ℕ) → may_leave new c → P c)
      → LeavesOnly moment left_since old new P
  passes old new may_leave P goes was now = record {
    later = goes.later;
    each = λ c left. ⊎_elim (was c) (now c) (goes.nothing_else (moment old) c (omega arith) left);
    before = λ t c le left. ⊎_elim (λ past. inl past) (λ may. inr (now c may)) (goes.nothing_else t c le left);
  }

  -- a promise at the end of a run: what a read returns then is what a crash in the course of it may leave
  pub then_promised : (seen : D → List ℕ) (may_leave : D → List ℕ → Type 0)
      → ((disk : D) (t : ℕ) (c : List ℕ) → t ≤ moment disk → may_leave disk c → left_since disk t c)
      → ((disk : D) → may_leave disk (seen disk))
      → (old mid new : D) (P : List ℕ → Type 0) → LeavesOnly moment left_since old mid P
      → LeavesOnly moment left_since mid new (λ c. c ≡ seen mid) → LeavesOnly moment left_since old new P
  then_promised seen may_leave counts_now may_be old mid new P run promise =
      let done : P (seen mid) = run.each (seen mid) (counts_now mid (moment old) (seen mid) run.later (may_be mid)) in
      then_leaves old mid new P (λ c. c ≡ seen mid) P run promise (λ c p. p) (λ c is. subst P (sym is) done)
