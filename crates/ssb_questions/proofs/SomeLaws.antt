-- What holds of a value wherever there is one.
use Rattle.std.proofs.Common.{◌≡◌, ◌≢◌, ℕ, zero, suc, ◌+◌, ◌≤◌, ap, arith, Bool, true, false, cond, List, [], ◌∷◌, ◌++◌}
use Rattle.std.proofs.Common.{Option, Some, None, refl}
use Rattle.std.specs.Prelude.{IfSome, option_map, option_and_then, find, slice_get}
use Rattle.std.specs.List.{AllByRecursion, filter_map, cons_option, range_with_len}
use Rattle.std.specs.Option.{option_or}

pub some_if : {X : Type 0} (P : X → Type 0) (b : Bool) (o p : Option X) → IfSome o P → IfSome p P
    → IfSome (cond b o p) P
some_if P true o p first second = first
some_if P false o p first second = second

-- what is there only where a test passes
pub some_where : {X : Type 0} (P : X → Type 0) (b : Bool) (x : X) → (b ≡ true → P x) → IfSome (cond b (Some x) None) P
some_where P true x h = h refl
some_where P false x h = tt

pub some_or : {X : Type 0} (P : X → Type 0) (o p : Option X) → IfSome o P → IfSome p P → IfSome (option_or o p) P
some_or P None p first second = second
some_or P (Some x) p first second = first

pub some_map : {X Y : Type 0} (P : Y → Type 0) (f : X → Y) (o : Option X) → IfSome o (λ x. P (f x))
    → IfSome (option_map f o) P
some_map P f None h = tt
some_map P f (Some x) h = h

pub some_and_then : {X Y : Type 0} (P : Y → Type 0) (f : X → Option Y) (o : Option X) → IfSome o (λ x. IfSome (f x) P)
    → IfSome (option_and_then f o) P
some_and_then P f None h = tt
some_and_then P f (Some x) h = h

pub some_weaker : {X : Type 0} (P Q : X → Type 0) → ((x : X) → P x → Q x) → (o : Option X) → IfSome o P → IfSome o Q
some_weaker P Q h None some = tt
some_weaker P Q h (Some x) some = h x some

pub some_any : {X : Type 0} (P : X → Type 0) → ((x : X) → P x) → (o : Option X) → IfSome o P
some_any P h None = tt
some_any P h (Some x) = h x

-- of all, hence of the one that is found, of the first, and of what is kept
pub some_found : {X : Type 0} (P : X → Type 0) (p : X → Bool) (xs : List X) → AllByRecursion P xs → IfSome (find p xs) P
some_found P p [] all = tt
some_found P p (x ∷ xs) all = some_if P (p x) (Some x) (find p xs) all.0 (some_found P p xs all.1)

pub some_first : {X : Type 0} (P : X → Type 0) (xs : List X) → AllByRecursion P xs → IfSome (slice_get xs 0) P
some_first P [] all = tt
some_first P (x ∷ xs) all = all.0

kept : {X : Type 0} (P : X → Type 0) (o : Option X) (xs : List X) → IfSome o P → AllByRecursion P xs
    → AllByRecursion P (cons_option o xs)
kept P None xs some all = all
kept P (Some x) xs some all = (some, all)

pub all_kept : {X Y : Type 0} (P : Y → Type 0) (f : X → Option Y) (xs : List X)
    → AllByRecursion (λ x. IfSome (f x) P) xs → AllByRecursion P (filter_map f xs)
all_kept P f [] all = tt
all_kept P f (x ∷ xs) all = kept P (f x) (filter_map f xs) all.0 (all_kept P f xs all.1)

pub all_weaker : {X : Type 0} (P Q : X → Type 0) → ((x : X) → P x → Q x) → (xs : List X) → AllByRecursion P xs
    → AllByRecursion Q xs
all_weaker P Q h [] all = tt
all_weaker P Q h (x ∷ xs) all = (h x all.0, all_weaker P Q h xs all.1)

pub all_any : {X : Type 0} (P : X → Type 0) → ((x : X) → P x) → (xs : List X) → AllByRecursion P xs
all_any P h [] = tt
all_any P h (x ∷ xs) = (h x, all_any P h xs)

pub all_both : {X : Type 0} (P Q : X → Type 0) (xs : List X) → AllByRecursion P xs → AllByRecursion Q xs
    → AllByRecursion (λ x. P x × Q x) xs
all_both P Q [] first second = tt
all_both P Q (x ∷ xs) first second = ((first.0, second.0), all_both P Q xs first.1 second.1)

-- of lists behind each other
pub all_append : {X : Type 0} (P : X → Type 0) (xs ys : List X) → AllByRecursion P xs → AllByRecursion P ys
    → AllByRecursion P (xs ++ ys)
all_append P [] ys first second = second
all_append P (x ∷ xs) ys first second = (first.0, all_append P xs ys first.1 second)

pub all_left : {X : Type 0} (P : X → Type 0) (xs ys : List X) → AllByRecursion P (xs ++ ys) → AllByRecursion P xs
all_left P [] ys all = tt
all_left P (x ∷ xs) ys all = (all.0, all_left P xs ys all.1)

pub all_right : {X : Type 0} (P : X → Type 0) (xs ys : List X) → AllByRecursion P (xs ++ ys) → AllByRecursion P ys
all_right P [] ys all = all
all_right P (x ∷ xs) ys all = all_right P xs ys all.1

-- what is found in a range stands before another that passes
pub found_before : (p : ℕ → Bool) (k : ℕ) → p k ≡ true → (n a : ℕ) → a ≤ k
    → IfSome (find p (range_with_len a n)) (λ i. i ≤ k)
found_before p k passes zero a le = tt
found_before p k passes (suc n) a le =
    elim (p a) as (λ b. p a ≡ b → IfSome (cond b (Some a) (find p (range_with_len (a + 1) n))) (λ i. i ≤ k)) [
      | true ↦ λ _. le
      | false ↦ λ fails. found_before p k passes n (a + 1)
          (let other : a ≢ k = λ e. let same : p a ≡ p k = ap p e in cc in omega (arith, le, other))
    ] refl
