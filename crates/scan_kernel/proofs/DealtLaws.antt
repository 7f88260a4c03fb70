-- Places that are dealt out by the bits of their masks.
use Rattle.std.proofs.Common.{◌≡◌, ◌≢◌, ◌⊎◌, inl, inr, ℕ, zero, suc, ◌+◌, ◌^◌, ◌<◌, ◌≤◌, Bool, true, false, cond, Vec}
use Rattle.std.proofs.Common.{Global, List, [], ◌∷◌, ◌++◌, length, get_or, take, map, filter, set, eqb, refl, ap, sym}
use Rattle.std.proofs.Common.{subst, ◌∙◌, arith, eq-eqb}
use Rattle.std.specs.Int.{bit_at}
use Rattle.std.specs.Prelude.{vec_capacity}
use Rattle.std.proofs.lemmas.Bool.{ne_eqb}
use Rattle.std.proofs.lemmas.Bool.Decides.{eqb_tells}
use Rattle.std.proofs.lemmas.Grind.{get_or-set_at}
use Rattle.std.proofs.lemmas.List.{get_or-set_other, get_or_default, get_or-map, length-set, length-append, append-nil}
use Rattle.std.proofs.Math.ListN.{get_or-append}
use Rattle.std.proofs.Math.Seq.{get_or-append_seam}
use Rattle.std.proofs.lemmas.Nat.Bits.{bit_at-zero, bit_at-lt}
use Rattle.scan_kernel.specs.Dealt.{AreDealt, AreListsFor, GivesPlace, KeepRoom, Lists, in_list, len_of, room_of}
use Rattle.scan_kernel.proofs.SelectLaws.{filter_more}

pub room_kept : (lists : Lists) → KeepRoom lists lists
room_kept lists = record { all = refl; room = λ k list h. refl }

pub room_both : (a b c : Lists) → KeepRoom a b → KeepRoom b c → KeepRoom a c
room_both a b c first then = grind arith

pub lists_fewer : (count few : ℕ) (lists : Lists) → few ≤ count → AreListsFor count lists → AreListsFor few lists
lists_fewer count few lists fewer are = grind arith

-- no more places pass a filter than there are
few_step : (x : ℕ) (xs rest : List ℕ) (b : Bool) → length rest ≤ length xs
    → length (cond b (x ∷ rest) rest) ≤ length (x ∷ xs)
few_step x xs rest true few = omega (arith, few)
few_step x xs rest false few = omega (arith, few)

pub filter_few : (p : ℕ → Bool) (xs : List ℕ) → length (filter p xs) ≤ length xs
filter_few p [] = omega arith
filter_few p (x ∷ xs) = few_step x xs (filter p xs) (p x) (filter_few p xs)

-- one list more
pub lists_more : (count n : ℕ) (lists new : Lists) (one : Vec ℕ Global) → length lists ≡ n → new ≡ lists ++ one ∷ []
    → count ≤ vec_capacity one → ((k : ℕ) (list : Vec ℕ Global) → k < n → count ≤ room_of lists k list)
    → (k : ℕ) (list : Vec ℕ Global) → k < n + 1 → count ≤ room_of new k list
lists_more count n lists new one long grown room before k list h = at (eqb_tells k n)
  where
    at : ((eqb k n ≡ true) × (k ≡ n)) ⊎ ((eqb k n ≡ false) × (k ≢ n)) → count ≤ room_of new k list
    at (inl (_, e)) =
        let last : get_or new k list ≡ one =
        ap (λ xs. get_or xs k list) grown ∙ ap (λ j. get_or (lists ++ one ∷ []) j list) (e ∙ sym long)
        ∙ get_or-append_seam lists one [] list in
        subst (λ v. count ≤ vec_capacity v) (sym last) room
    at (inr (_, ne)) =
        let other : get_or new k list ≡ get_or lists k list =
        ap (λ xs. get_or xs k list) grown ∙ get_or-append lists (one ∷ []) list k (omega (arith, long, h, ne)) in
        subst (λ v. count ≤ vec_capacity v) (sym other) (before k list (omega (arith, h, ne)))

-- One list is written.

-- of the list that was written, and of the others
module _ (lists : Lists) (n : ℕ) (one new : Vec ℕ Global) (within : n < length lists)
    (is : one ≡ get_or lists n one) where
  written_here : (P : Vec ℕ Global → Type 0) (list : Vec ℕ Global) → P new → P (get_or (set lists n new) n list)
  written_here P list holds = subst P (sym (get_or-set_at lists n n new list refl within)) holds

  was_here : (list : Vec ℕ Global) → one ≡ get_or lists n list
  was_here list = is ∙ get_or_default lists n one list within

  written_elsewhere : (P : Vec ℕ Global → Type 0) (k : ℕ) (list : Vec ℕ Global) → k ≢ n → P (get_or lists k list)
      → P (get_or (set lists n new) k list)
  written_elsewhere P k list other holds = subst P (sym (get_or-set_other lists n k new list other)) holds

  -- all lists keep their room where that one does
  pub room_written : vec_capacity new ≡ vec_capacity one → KeepRoom lists (set lists n new)
  room_written same = record {
    all = length-set lists n new;
    room = λ k list h. at k list (eqb_tells k n);
  }
    where
      at : (k : ℕ) (list : Vec ℕ Global) → ((eqb k n ≡ true) × (k ≡ n)) ⊎ ((eqb k n ≡ false) × (k ≢ n))
          → room_of (set lists n new) k list ≡ room_of lists k list
      at k list (inl (_, e)) =
          subst (λ j. room_of (set lists n new) j list ≡ room_of lists j list) (sym e)
          (written_here (λ v. vec_capacity v ≡ room_of lists n list) list (same ∙ ap vec_capacity (was_here list)))
      at k list (inr (_, ne)) = written_elsewhere (λ v. vec_capacity v ≡ room_of lists k list) k list ne refl

-- one list more is empty
pub emptied_more : (lists : Lists) (n : ℕ) (one new : Vec ℕ Global) → n < length lists → one ≡ get_or lists n one
    → new.items ≡ [] → ((k : ℕ) (list : Vec ℕ Global) → k < n → in_list lists k list ≡ [])
    → (k : ℕ) (list : Vec ℕ Global) → k < n + 1 → in_list (set lists n new) k list ≡ []
emptied_more lists n one new within is none before k list h = at (eqb_tells k n)
  where
    at : ((eqb k n ≡ true) × (k ≡ n)) ⊎ ((eqb k n ≡ false) × (k ≢ n)) → in_list (set lists n new) k list ≡ []
    at (inl (_, e)) =
        subst (λ j. in_list (set lists n new) j list ≡ []) (sym e)
        (written_here lists n one new within is (λ v. v.items ≡ []) list none)
    at (inr (_, ne)) =
        written_elsewhere lists n one new within is (λ v. v.items ≡ []) k list ne (before k list (omega arith))

-- A place is given to the lists of its bits, bit by bit.

-- the bits that are not left of the mask have had it
pub record GivesRest (place mask rest : ℕ) (old new : Lists) : Type 0 where
  pub done : (k : ℕ) (list : Vec ℕ Global) → k < 16 → bit_at mask k ≡ 1 → bit_at rest k ≡ 0
      → in_list new k list ≡ in_list old k list ++ place ∷ []
  pub left : (k : ℕ) (list : Vec ℕ Global) → k < 16 → bit_at rest k ≡ bit_at mask k
      → get_or new k list ≡ get_or old k list
  pub within : (k : ℕ) → k < 16 → bit_at rest k ≡ 1 → bit_at mask k ≡ 1
  pub fits : rest < 2 ^ 16
  pub room : KeepRoom old new

pub gives_none : (place mask : ℕ) (lists : Lists) → mask < 2 ^ 16 → GivesRest place mask mask lists lists
gives_none place mask lists fits = grind (arith, room_kept)

pub gives_more : (place mask rest next n : ℕ) (old mid : Lists) (one new : Vec ℕ Global) → n < length mid → n < 16
    → one ≡ get_or mid n one → new.items ≡ one.items ++ place ∷ [] → vec_capacity new ≡ vec_capacity one
    → bit_at rest n ≡ 1 → bit_at next n ≡ 0 → ((k : ℕ) → k < 16 → k ≢ n → bit_at next k ≡ bit_at rest k)
    → next < 2 ^ 16 → GivesRest place mask rest old mid → GivesRest place mask next old (set mid n new)
gives_more place mask rest next n old mid one new in_mid low is grown room was now others fits so_far = record {
  done = λ k list h has gone. done k list h has gone (eqb_tells k n);
  left = λ k list h same. left k list h same (eqb_tells k n);
  within = λ k h has. within k h has (eqb_tells k n);
  fits = fits;
  room = room_both old mid (set mid n new) so_far.room (room_written mid n one new in_mid is room);
}
  where
    has_it : bit_at mask n ≡ 1
    has_it = so_far.within n low was

    done : (k : ℕ) (list : Vec ℕ Global) → k < 16 → bit_at mask k ≡ 1 → bit_at next k ≡ 0
        → ((eqb k n ≡ true) × (k ≡ n)) ⊎ ((eqb k n ≡ false) × (k ≢ n))
        → in_list (set mid n new) k list ≡ in_list old k list ++ place ∷ []
    done k list h has gone (inl (_, e)) =
        let before : one ≡ get_or old n list =
        was_here mid n one new in_mid is list ∙ so_far.left n list low (was ∙ sym has_it) in
        subst (λ j. in_list (set mid n new) j list ≡ in_list old j list ++ place ∷ []) (sym e)
        (written_here mid n one new in_mid is (λ v. v.items ≡ in_list old n list ++ place ∷ []) list
        (grown ∙ ap (λ (v : Vec ℕ Global). v.items ++ place ∷ []) before))
    done k list h has gone (inr (_, ne)) =
        written_elsewhere mid n one new in_mid is (λ v. v.items ≡ in_list old k list ++ place ∷ []) k list ne
        (so_far.done k list h has (sym (others k h ne) ∙ gone))

    left : (k : ℕ) (list : Vec ℕ Global) → k < 16 → bit_at next k ≡ bit_at mask k
        → ((eqb k n ≡ true) × (k ≡ n)) ⊎ ((eqb k n ≡ false) × (k ≢ n))
        → get_or (set mid n new) k list ≡ get_or old k list
    left k list h same (inl (_, e)) =
        let here : bit_at next n ≡ bit_at mask n = subst (λ j. bit_at next j ≡ bit_at mask j) e same in
        absurd (omega (arith, here, now, has_it))
    left k list h same (inr (_, ne)) =
        written_elsewhere mid n one new in_mid is (λ v. v ≡ get_or old k list) k list ne
        (so_far.left k list h (sym (others k h ne) ∙ same))

    within : (k : ℕ) → k < 16 → bit_at next k ≡ 1 → ((eqb k n ≡ true) × (k ≡ n)) ⊎ ((eqb k n ≡ false) × (k ≢ n))
        → bit_at mask k ≡ 1
    within k h has (inl (_, e)) =
        let here : bit_at next n ≡ 1 = subst (λ j. bit_at next j ≡ 1) e has in absurd (omega (arith, here, now))
    within k h has (inr (_, ne)) = so_far.within k h (sym (others k h ne) ∙ has)

pub gives_all : (place mask rest : ℕ) (old new : Lists) → rest ≡ 0 → GivesRest place mask rest old new
    → GivesPlace place mask old new
gives_all place mask rest old new none so_far = grind (arith, bit_at-zero)

-- All places are dealt, one after another.

not_one : (b : ℕ) → b < 2 → b ≢ 1 → b ≡ 0
not_one zero low ne = refl
not_one (suc zero) low ne = absurd (ne refl)
not_one (suc (suc b)) low ne = absurd (omega (arith, low))

bit_told : (b : ℕ) → b < 2 → ((eqb b 1 ≡ true) × (b ≡ 1)) ⊎ ((eqb b 1 ≡ false) × (b ≢ 1)) → (b ≡ 1) ⊎ (b ≡ 0)
bit_told b low (inl (_, e)) = inl e
bit_told b low (inr (_, ne)) = inr (not_one b low ne)

bit_tells : (m k : ℕ) → (bit_at m k ≡ 1) ⊎ (bit_at m k ≡ 0)
bit_tells m k = bit_told (bit_at m k) (bit_at-lt m k) (eqb_tells (bit_at m k) 1)

pub dealt_more : (mask : ℕ → ℕ) (places found : List ℕ) (n : ℕ) (old new : Lists) → found ≡ map mask places
    → n < length places → AreDealt mask (take n places) old → GivesPlace (get_or places n 0) (get_or found n 0) old new
    → AreDealt mask (take (n + 1) places) new
dealt_more mask places found n old new are below dealt gives k list h = grind (arith, bit_tells, eqb, get_or-map, filter_more, eq-eqb, ne_eqb, append-nil)

-- a list has at most one place more
pub few_more : (place m n : ℕ) (old new : Lists) → GivesPlace place m old new
    → ((k : ℕ) (list : Vec ℕ Global) → k < 16 → len_of old k list ≤ n)
    → (k : ℕ) (list : Vec ℕ Global) → k < 16 → len_of new k list ≤ n + 1
few_more place m n old new gives few k list h = grind (arith, bit_tells, length-append)
