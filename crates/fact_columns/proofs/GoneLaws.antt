-- Places that are freed one after another.
use Rattle.std.proofs.Common.{◌≡◌, ◌≢◌, ◌⊎◌, inl, inr, ℕ, ◌+◌, ◌<◌, ◌≤◌, ◌∙◌, true, false, eqb, List, Option, Some, None}
use Rattle.std.proofs.Common.{refl, ap, sym, subst, arith}
use Rattle.std.proofs.lemmas.Bool.Decides.{eqb_tells}
use Rattle.fact_columns.specs.declared.place.Place.{Place}
use Rattle.fact_columns.specs.declared.span.Span.{Span}
use Rattle.fact_columns.specs.Spans.{live_at, kept, is_of_other, place_of, ReachesBy}
use Rattle.fact_columns.proofs.PlaceLaws.{kept_twice, stays_other}

-- what was there of the order is gone from the place
abbrev pub IsGone : ℕ → List Place → List Place → ℕ → Type 0
IsGone key old later place = live_at later place ≡ kept (is_of_other key) (live_at old place)

-- it is gone, or all is as it was
abbrev pub IsGoneOrLeft : ℕ → List Place → List Place → ℕ → Type 0
IsGoneOrLeft key old later place = IsGone key old later place ⊎ (live_at later place ≡ live_at old place)

-- a place is looked at: what is there of the order goes, and nothing else
module _ (key at : ℕ) (old mid later : List Place)
    (here : live_at later at ≡ kept (is_of_other key) (live_at mid at))
    (others : (place : ℕ) → place ≢ at → live_at later place ≡ live_at mid place) where
  gone_here : IsGoneOrLeft key old mid at → IsGone key old later at
  gone_here (inl gone) = here ∙ ap (kept (is_of_other key)) gone ∙ kept_twice (is_of_other key) (live_at old at)
  gone_here (inr left) = here ∙ ap (kept (is_of_other key)) left

  pub each_more : ((place : ℕ) → IsGoneOrLeft key old mid place) → (place : ℕ) → IsGoneOrLeft key old later place
  each_more each place = split (eqb_tells place at) (each place) where
    split : ((eqb place at ≡ true) × (place ≡ at)) ⊎ ((eqb place at ≡ false) × (place ≢ at))
        → IsGoneOrLeft key old mid place → IsGoneOrLeft key old later place
    split (inl same) so_far = inl (subst (IsGone key old later) (sym same.1)
        (gone_here (subst (IsGoneOrLeft key old mid) same.1 so_far)))
    split (inr other) (inl gone) = inl (others place other.1 ∙ gone)
    split (inr other) (inr left) = inr (others place other.1 ∙ left)

  pub stays_gone : ((place : ℕ) → IsGoneOrLeft key old mid place) → (place : ℕ) → IsGone key old mid place
      → IsGone key old later place
  stays_gone each place gone = split (eqb_tells place at) where
    split : ((eqb place at ≡ true) × (place ≡ at)) ⊎ ((eqb place at ≡ false) × (place ≢ at))
        → IsGone key old later place
    split (inl same) = subst (IsGone key old later) (sym same.1)
        (gone_here (subst (IsGoneOrLeft key old mid) same.1 (inl gone)))
    split (inr other) = others place other.1 ∙ gone

  pub done_more : (loaded : List ℕ) (first number : ℕ) → at ≡ place_of loaded number
      → ((place : ℕ) → IsGoneOrLeft key old mid place)
      → ((n : ℕ) → first ≤ n → n < number → IsGone key old mid (place_of loaded n))
      → (n : ℕ) → first ≤ n → n < number + 1 → IsGone key old later (place_of loaded n)
  done_more loaded first number is each done n from to = split (eqb_tells n number) where
    split : ((eqb n number ≡ true) × (n ≡ number)) ⊎ ((eqb n number ≡ false) × (n ≢ number))
        → IsGone key old later (place_of loaded n)
    split (inl same) = subst (IsGone key old later) (is ∙ ap (place_of loaded) (sym same.1)) (gone_here (each at))
    split (inr other) = stays_gone each (place_of loaded n) (done n from (omega (arith, to, other.1)))

-- a place whose line is of the order is one that was looked at
pub all_gone : (key : ℕ) (span : Span) (loaded : List ℕ) (old later : List Place) (number : ℕ)
    → span.end ≤ number
    → ((n : ℕ) → span.first ≤ n → n < number → IsGone key old later (place_of loaded n))
    → ((place : ℕ) → IsGoneOrLeft key old later place)
    → ((place : ℕ) (line : Place) → live_at old place ≡ Some line → line.order ≡ key → ReachesBy span loaded place)
    → (place : ℕ) → IsGone key old later place
all_gone key span loaded old later number end done each reach place =
    go (each place) (live_at old place) refl where
      reached : ReachesBy span loaded place → IsGone key old later place
      reached r = subst (IsGone key old later) r.lies (done r.number r.has.0 (omega (arith, r.has.1, end)))

      go : IsGoneOrLeft key old later place → (o : Option Place) → live_at old place ≡ o → IsGone key old later place
      go (inl gone) o is = gone
      go (inr left) None is = left ∙ is ∙ sym (ap (kept (is_of_other key)) is)
      go (inr left) (Some line) is = split (eqb_tells line.order key) where
        split : ((eqb line.order key ≡ true) × (line.order ≡ key))
            ⊎ ((eqb line.order key ≡ false) × (line.order ≢ key)) → IsGone key old later place
        split (inl same) = reached (reach place line is same.1)
        split (inr other) = left ∙ is ∙ sym (stays_other key line other.0)
            ∙ sym (ap (kept (is_of_other key)) is)
