-- What was dealt to a question.
use Rattle.std.proofs.Common.{◌≡◌, ℕ, ◌-◌, ◌<◌, ◌≤◌, Vec, Global, List, length, filter, arith, ap, sym, subst, ◌∙◌}
use Rattle.std.specs.List.{All, range_with_len}
use Rattle.std.specs.Prelude.{slice_index_or}
use Rattle.scan_kernel.specs.declared.batch.FoundPlaces.{FoundPlaces}
use Rattle.scan_kernel.specs.declared.columns.Grouping.{Grouping}
use Rattle.scan_kernel.specs.declared.columns.LineColumns.{LineColumns}
use Rattle.scan_kernel.specs.declared.masks.Masks.{Masks}
use Rattle.scan_kernel.specs.Dealt.{AreDealt, Lists}
use Rattle.scan_kernel.specs.Places.{mask_at, has_bit, group_at}
use Rattle.scan_kernel.specs.Room.{AreFound}
use Rattle.scan_kernel.specs.Totals.{CanSum, taken}
use Rattle.scan_kernel.proofs.DealtLaws.{filter_few}
use Rattle.scan_kernel.proofs.FoundLaws.{found_are_all, filter_all, all_in_range}

module _ (lines : LineColumns) (masks : Masks) (found : FoundPlaces) (number : ℕ) (lists : Lists) (one : Vec ℕ Global)
    (places : List ℕ) (few : number < 16) (are : AreFound lines masks found)
    (dealt : AreDealt (mask_at lines masks) found.places.now lists) (is : one ≡ slice_index_or lists number one)
    (same : places ≡ one.items) where
  own_found : places ≡ filter (has_bit lines masks number) found.places.now
  own_found = same ∙ ap (λ (v : Vec ℕ Global). v.items) is ∙ dealt number one few

  -- they are the places of the range that it takes
  pub own_places : places ≡ taken lines masks number (range_with_len found.from (found.to - found.from))
  own_places = own_found ∙ ap (filter (has_bit lines masks number)) are.places_are
      ∙ found_are_all (mask_at lines masks) number (range_with_len found.from (found.to - found.from))

  -- no more than were found
  pub own_few : length places ≤ length found.places.now
  own_few = omega (arith, ap length own_found, filter_few (has_bit lines masks number) found.places.now)

  -- each is the place of a line
  pub own_lines : All (λ i. i < length lines.customer.now) places
  own_lines =
      let rows = length lines.customer.now in
      subst (λ (xs : List ℕ). All (λ i. i < rows) xs) (sym own_places)
      (filter_all (λ i. i < rows) (λ i. i < rows) (has_bit lines masks number) (λ i h e. h)
      (range_with_len found.from (found.to - found.from))
      (all_in_range found.from (found.to - found.from) rows (omega (arith, are.within, are.order))))

  -- each is in one of the groups
  pub own_groups : (grouping : Grouping) (size : ℕ) → CanSum lines masks number grouping → size ≡ grouping.size
      → All (λ i. group_at grouping.columns.items i < size) places
  own_groups grouping size can sized =
      let rows = length lines.customer.now in
      subst (λ (xs : List ℕ). All (λ i. group_at grouping.columns.items i < size) xs) (sym own_places)
      (filter_all (λ i. i < rows) (λ i. group_at grouping.columns.items i < size) (has_bit lines masks number)
      (λ i h e. omega (arith, can.groups i h e, sized)) (range_with_len found.from (found.to - found.from))
      (all_in_range found.from (found.to - found.from) rows (omega (arith, are.within, are.order))))
