-- Closed segments: what they have, where they begin and end.
use Rattle.std.proofs.Common.{◌≡◌, ℕ, ◌+◌, ◌<◌, ◌≤◌, List, [], ◌∷◌, ◌++◌, length, take, drop, refl, sym, ap, ◌∙◌}
use Rattle.std.proofs.Common.{inl, inr, arith, append_assoc, length-append, take_all, Option, Some, None, IfSome}
use Rattle.std.proofs.lemmas.List.{take-append-drop}
use Rattle.std.proofs.Math.Seq.{take-append-add, drop-append_seam}
use Rattle.store_core.specs.Found.{joined, end_of, IsBegin}

pub joined-append : {C : Type 0} (parts : List (List C)) (xs ys : List C)
    → joined parts (xs ++ ys) ≡ joined parts xs ++ ys
joined-append [] xs ys = refl
joined-append (p ∷ ps) xs ys = ap (λ l. p ++ l) (joined-append ps xs ys) ∙ sym (append_assoc p (joined ps xs) ys)

pub joined-split : {C : Type 0} (before parts : List (List C)) (xs : List C)
    → joined (before ++ parts) xs ≡ joined before (joined parts xs)
joined-split [] parts xs = refl
joined-split (p ∷ ps) parts xs = ap (λ l. p ++ l) (joined-split ps parts xs)

pub end-split : {C : Type 0} (at : ℕ) (before parts : List (List C))
    → end_of at (before ++ parts) ≡ end_of (end_of at before) parts
end-split at [] parts = refl
end-split at (p ∷ ps) parts = end-split (at + length p) ps parts

pub end-is : {C : Type 0} (at : ℕ) (parts : List (List C)) (xs : List C)
    → at + length (joined parts xs) ≡ end_of at parts + length xs
end-is at [] xs = refl
end-is at (p ∷ ps) xs =
    let h : (at + length p) + length (joined ps xs) ≡ end_of (at + length p) ps + length xs = end-is (at + length p) ps xs in
    omega (arith, h, length-append p (joined ps xs))

pub end-after : {C : Type 0} (at : ℕ) (parts : List (List C)) → at ≤ end_of at parts
end-after at [] = omega arith
end-after at (p ∷ ps) = let h : at + length p ≤ end_of (at + length p) ps = end-after (at + length p) ps in omega arith

pub end-snoc : {C : Type 0} (at : ℕ) (parts : List (List C)) (p : List C)
    → end_of at (parts ++ p ∷ []) ≡ end_of at parts + length p
end-snoc at [] p = refl
end-snoc at (q ∷ qs) p = end-snoc (at + length q) qs p

pub begin-after : {C : Type 0} (at : ℕ) (parts : List (List C)) (n : ℕ) → IsBegin at parts n → at ≤ n
begin-after at [] n e = omega (arith, e)
begin-after at (p ∷ ps) n (inl e) = omega (arith, e)
begin-after at (p ∷ ps) n (inr b) = let h : at + length p ≤ n = begin-after (at + length p) ps n b in omega arith

pub begin-before : {C : Type 0} (at : ℕ) (parts : List (List C)) (n : ℕ) → IsBegin at parts n → n ≤ end_of at parts
begin-before at [] n e = omega (arith, e)
begin-before at (p ∷ ps) n (inl e) =
    let h : at + length p ≤ end_of (at + length p) ps = end-after (at + length p) ps in omega (arith, e)
begin-before at (p ∷ ps) n (inr b) = begin-before (at + length p) ps n b

pub end-begins : {C : Type 0} (at : ℕ) (parts : List (List C)) → IsBegin at parts (end_of at parts)
end-begins at [] = refl
end-begins at (p ∷ ps) = inr (end-begins (at + length p) ps)

pub first-begins : {C : Type 0} (at : ℕ) (parts : List (List C)) → IsBegin at parts at
first-begins at [] = refl
first-begins at (p ∷ ps) = inl refl

pub snoc-begins : {C : Type 0} (at : ℕ) (parts : List (List C)) (p : List C) (n : ℕ) → IsBegin at parts n
    → IsBegin at (parts ++ p ∷ []) n
snoc-begins at [] p n e = inl e
snoc-begins at (q ∷ qs) p n (inl e) = inl e
snoc-begins at (q ∷ qs) p n (inr b) = inr (snoc-begins (at + length q) qs p n b)

-- behind the end of some, one begins among the others
pub tail-begins : {C : Type 0} (at : ℕ) (before parts : List (List C)) (n : ℕ) → IsBegin at (before ++ parts) n
    → end_of at before < n → IsBegin (end_of at before) parts n
tail-begins at [] parts n b far = b
tail-begins at (p ∷ ps) parts n (inl e) far =
    absurd (let h : at + length p ≤ end_of (at + length p) ps = end-after (at + length p) ps in omega (arith, e))
tail-begins at (p ∷ ps) parts n (inr b) far = tail-begins (at + length p) ps parts n b far

-- where one begins, there are those before it and those from it on
pub record Split {C : Type 0} (at : ℕ) (parts : List (List C)) (n : ℕ) : Type 0 where
  pub before : List (List C)
  pub tail : List (List C)
  pub are : parts ≡ before ++ tail
  pub begins : n ≡ end_of at before

pub split-at : {C : Type 0} (at : ℕ) (parts : List (List C)) (n : ℕ) → IsBegin at parts n → Split at parts n
split-at at [] n e = record { before = []; tail = []; are = refl; begins = e }
split-at at (p ∷ ps) n (inl e) = record { before = []; tail = p ∷ ps; are = refl; begins = e }
split-at at (p ∷ ps) n (inr b) =
    let s = split-at (at + length p) ps n b in
    record { before = p ∷ s.before; tail = s.tail; are = ap (λ l. p ∷ l) s.are; begins = s.begins }

pub take-none : {C : Type 0} (n : ℕ) (xs : List C) → xs ≡ [] → take n xs ≡ []
take-none n [] e = take_all n [] (omega arith)
take-none n (x ∷ xs) e = absurd cc

-- a list cut in two is the whole
pub cut : {C : Type 0} (n : ℕ) (xs ys : List C) → take n xs ++ (drop n xs ++ ys) ≡ xs ++ ys
cut n xs ys = sym (append_assoc (take n xs) (drop n xs) ys) ∙ ap (λ l. l ++ ys) (take-append-drop n xs)

-- what stands behind a front, up to a number of elements that is not within the next ones
pub written-up : {C : Type 0} (front last rest : List C) (count more : ℕ) → count ≡ length front + (length last + more)
    → drop (length front) (take count (front ++ (last ++ rest))) ≡ last ++ take more rest
written-up front last rest count more is =
    ap (λ (n : ℕ). drop (length front) (take n (front ++ (last ++ rest)))) is
    ∙ ap (drop (length front)) (take-append-add front (last ++ rest) (length last + more)
    ∙ ap (λ l. front ++ l) (take-append-add last rest more))
    ∙ drop-append_seam front (last ++ take more rest)

-- and what is missing then
pub rest-of : {C : Type 0} (last rest : List C) (more : ℕ) → last ++ rest ≡ (last ++ take more rest) ++ drop more rest
rest-of last rest more =
    sym (append_assoc last (take more rest) (drop more rest) ∙ ap (λ l. last ++ l) (take-append-drop more rest))

pub if_some : {A : Type 0} (o : Option A) (P Q : A → Type 0) → ((x : A) → P x → Q x) → IfSome o P → IfSome o Q
if_some None P Q f h = tt
if_some (Some x) P Q f h = f x h

pub no_some : {A : Type 0} (o : Option A) (x : A) → o ≡ None → o ≡ Some x → ⊥
no_some o x e f = absurd cc
