-- Lists with the element of one number changed.
use Rattle.std.proofs.Common.{◌≡◌, ℕ, zero, suc, ◌<◌, ◌≤◌, List, [], ◌∷◌}
use Rattle.std.proofs.Common.{◌++◌, length, Some, None, refl, ap, sym, ◌∙◌, ⊎_elim, arith}
use Rattle.std.specs.Prelude.{map, slice_get, slice_set, slice_index_or}
use Rattle.std.specs.Option.{option_map}
use Rattle.history_core.specs.Numbered.{revised, numbered, renewed, place_within}
use Rattle.std.proofs.lemmas.Bool.Decides.{nat_tests}
use Rattle.history_core.proofs.HistoryLaws.{some_injective}

module _ {A : Type 0} where
  pub revised_at : (l : List A) (place : ℕ) (f : A → A) (d : A)
      → slice_set l place (f (slice_index_or l place d)) ≡ revised l place f
  revised_at [] place f d = refl
  revised_at (x ∷ xs) zero f d = refl
  revised_at (x ∷ xs) (suc place) f d = ap (λ l. x ∷ l) (revised_at xs place f d)

  pub revised_out : (l : List A) (place : ℕ) (f : A → A) → length l ≤ place → revised l place f ≡ l
  revised_out [] place f h = refl
  revised_out (x ∷ xs) zero f h = absurd (omega arith)
  revised_out (x ∷ xs) (suc place) f h = ap (λ l. x ∷ l) (revised_out xs place f (omega arith))

  -- two changes that do the same to that element
  pub revised_agree : (l : List A) (place : ℕ) (f g : A → A) (x : A) → slice_get l place ≡ Some x → f x ≡ g x
      → revised l place f ≡ revised l place g
  revised_agree [] place f g x at same = refl
  revised_agree (y ∷ ys) zero f g x at same =
      let e : y ≡ x = some_injective y x at in ap (λ z. z ∷ ys) (ap f e ∙ (same ∙ sym (ap g e)))
  revised_agree (y ∷ ys) (suc place) f g x at same = ap (λ l. y ∷ l) (revised_agree ys place f g x at same)

  pub renewed_agree : (l : List A) (number : ℕ) (f g : A → A) (x : A) → numbered l number ≡ Some x → f x ≡ g x
      → renewed l number f ≡ renewed l number g
  renewed_agree l zero f g x at same = refl
  renewed_agree l (suc place) f g x at same = revised_agree l place f g x at same

module _ {A : Type 0} where
  -- a write at the place of a number is the element with that number renewed
  pub renewed_some : (l : List A) (number place : ℕ) (f : A → A) (d : A) → Some place ≡ place_within number (length l)
      → slice_set l place (f (slice_index_or l place d)) ≡ renewed l number f
  renewed_some l zero place f d is = grind arith
  renewed_some l (suc first) place f d is = grind (arith, revised_at)

  pub renewed_none : (l : List A) (number : ℕ) (f : A → A) → None ≡ place_within number (length l)
      → l ≡ renewed l number f
  renewed_none l zero f is = grind arith
  renewed_none l (suc first) f is = grind (arith, nat_tests, revised_out)

  pub renewed_write : (l : List A) (number place count : ℕ) (f : A → A) (x : A) → x ≡ slice_index_or l place x
      → count ≡ length l → Some place ≡ place_within number count → slice_set l place (f x) ≡ renewed l number f
  renewed_write l number place count f x there len is = grind (arith, renewed_some)

  pub get_within : (l : List A) (place : ℕ) (x : A) → place < length l
      → slice_get l place ≡ Some (slice_index_or l place x)
  get_within [] place x h = absurd (omega arith)
  get_within (y ∷ ys) zero x h = refl
  get_within (y ∷ ys) (suc place) x h = get_within ys place x (omega arith)

  pub get_past : (l : List A) (place : ℕ) → length l ≤ place → slice_get l place ≡ None
  get_past [] place h = refl
  get_past (y ∷ ys) zero h = absurd (omega arith)
  get_past (y ∷ ys) (suc place) h = get_past ys place (omega arith)

  -- what is read at the place of a number is the element of that number
  pub numbered_read : (l : List A) (number place count : ℕ) (x : A) → x ≡ slice_index_or l place x
      → count ≡ length l → Some place ≡ place_within number count → numbered l number ≡ Some x
  numbered_read l zero place count x there len is = grind arith
  numbered_read l (suc first) place count x there len is = grind (arith, nat_tests, get_within)

  pub numbered_nowhere : (l : List A) (number count : ℕ) → count ≡ length l
      → None ≡ place_within number count → numbered l number ≡ None
  numbered_nowhere l zero count len is = grind arith
  numbered_nowhere l (suc first) count len is = grind (arith, nat_tests, get_past)

  -- no element has the number, or it is as it should be already
  pub renewed_missing : (l : List A) (number : ℕ) (f : A → A) → numbered l number ≡ None → renewed l number f ≡ l
  renewed_missing l zero f e = refl
  renewed_missing l (suc place) f e = missing l place f e
    where
      missing : (l : List A) (place : ℕ) (f : A → A) → slice_get l place ≡ None → revised l place f ≡ l
      missing [] place f e = refl
      missing (x ∷ xs) zero f e = absurd (cc e)
      missing (x ∷ xs) (suc place) f e = ap (λ m. x ∷ m) (missing xs place f e)

  pub renewed_same : (l : List A) (number : ℕ) (f : A → A) (x : A) → numbered l number ≡ Some x → f x ≡ x
      → renewed l number f ≡ l
  renewed_same l zero f x at e = refl
  renewed_same l (suc place) f x at e = same l place f x at e
    where
      same : (l : List A) (place : ℕ) (f : A → A) (x : A) → slice_get l place ≡ Some x → f x ≡ x → revised l place f ≡ l
      same [] place f x at e = refl
      same (y ∷ ys) zero f x at e = let is : y ≡ x = some_injective y x at in ap (λ z. z ∷ ys) (ap f is ∙ (e ∙ sym is))
      same (y ∷ ys) (suc place) f x at e = ap (λ m. y ∷ m) (same ys place f x at e)

  -- two changes of one element
  pub renewed_twice : (l : List A) (number : ℕ) (f g : A → A)
      → renewed (renewed l number f) number g ≡ renewed l number (λ x. g (f x))
  renewed_twice l zero f g = refl
  renewed_twice l (suc place) f g = twice l place
    where
      twice : (l : List A) (place : ℕ) → revised (revised l place f) place g ≡ revised l place (λ x. g (f x))
      twice [] place = refl
      twice (x ∷ xs) zero = refl
      twice (x ∷ xs) (suc place) = ap (λ m. x ∷ m) (twice xs place)

module _ {A B : Type 0} (view : A → B) where
  pub revised_map : (l : List A) (place : ℕ) (g : A → A) (f : B → B) → ((x : A) → view (g x) ≡ f (view x))
      → map view (revised l place g) ≡ revised (map view l) place f
  revised_map [] place g f same = refl
  revised_map (x ∷ xs) zero g f same = ap (λ y. y ∷ map view xs) (same x)
  revised_map (x ∷ xs) (suc place) g f same = ap (λ l. view x ∷ l) (revised_map xs place g f same)

  pub renewed_map : (l : List A) (number : ℕ) (g : A → A) (f : B → B) → ((x : A) → view (g x) ≡ f (view x))
      → map view (renewed l number g) ≡ renewed (map view l) number f
  renewed_map l zero g f same = refl
  renewed_map l (suc place) g f same = revised_map l place g f same

  pub get_map : (l : List A) (place : ℕ) → slice_get (map view l) place ≡ option_map view (slice_get l place)
  get_map [] place = refl
  get_map (x ∷ xs) zero = refl
  get_map (x ∷ xs) (suc place) = get_map xs place

  pub numbered_map : (l : List A) (number : ℕ) → numbered (map view l) number ≡ option_map view (numbered l number)
  numbered_map l zero = refl
  numbered_map l (suc place) = get_map l place
