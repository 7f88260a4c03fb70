-- An action that puts an order in the place of the one of its key: it amends it, or puts it. And what putting one is.
use Rattle.std.proofs.Common.{◌≡◌, ◌⊎◌, inl, inr, ℕ, Bool, true, false, cond, not, ◌||◌, List, [], ◌∷◌, ◌++◌, ap, fold}
use Rattle.std.proofs.Common.{refl}
use Rattle.ssb_schema.specs.declared.line.LineFields.{LineFields}
use Rattle.ssb_schema.specs.declared.refresh.Action.{Action}
use Rattle.ssb_schema.specs.declared.refresh.Action.TheVariants.{Add, Amend, Put}
use Rattle.ssb_base.specs.Base.{Tables}
use Rattle.ssb_schema.specs.Facts.{facts_of}
use Rattle.ssb_schema.specs.Orders.{order_key}
use Rattle.row_store.specs.Lines.{added_by, is_of, is_present, lines_after_action, lines_without}
use Rattle.row_store.specs.Laws.{PuttingAmendsOrAdds}
use Rattle.row_store.specs.Refusals.{cause_of, order_cause}
use Rattle.row_store.specs.State.{Counts, counts_after_action, counts_without, with_fact}

abbrev pub Replaces : Action → List LineFields → Type 0
Replaces action order = (action ≡ Amend order) ⊎ (action ≡ Put order)

pub replaced_added : (action : Action) (order : List LineFields) → Replaces action order → added_by action ≡ order
replaced_added action order (inl is) = ap added_by is
replaced_added action order (inr is) = ap added_by is

pub replaced_after : (lines : List LineFields) (action : Action) (order : List LineFields) → Replaces action order
    → lines_after_action lines action ≡ lines_without (order_key order) lines ++ order
replaced_after lines action order (inl is) = ap (lines_after_action lines) is
replaced_after lines action order (inr is) = ap (lines_after_action lines) is

pub replaced_counts : (counts : Counts) (action : Action) (order : List LineFields) → Replaces action order
    → counts_after_action counts action ≡ fold with_fact (counts_without (order_key order) counts) (facts_of order)
replaced_counts counts action order (inl is) = ap (counts_after_action counts) is
replaced_counts counts action order (inr is) = ap (counts_after_action counts) is

absent_step : (b there : Bool) (line : LineFields) (lines kept : List LineFields) → (there ≡ false → kept ≡ lines)
    → (b || there) ≡ false → cond (not b) (line ∷ kept) kept ≡ line ∷ lines
absent_step true there line lines kept rest none = absurd (cc)
absent_step false there line lines kept rest none = ap (λ l. line ∷ l) (rest none)

-- without an order that has no line all stay
without_absent : (key : ℕ) (lines : List LineFields) → is_present key lines ≡ false → lines_without key lines ≡ lines
without_absent key [] none = refl
without_absent key (line ∷ lines) none = absent_step (is_of key line) (is_present key lines) line lines
    (lines_without key lines) (without_absent key lines) none

put_where : (base : Tables) (lines order : List LineFields) (there : Bool) → is_present (order_key order) lines ≡ there
    → let same = cond there (Amend order) (Add order) in
    (lines_after_action lines (Put order) ≡ lines_after_action lines same)
    × (cause_of base lines (Put order) ≡ cause_of base lines same)
put_where base lines order true is = (refl, rw is refl)
put_where base lines order false is =
    let all = without_absent (order_key order) lines is in
    (ap (λ l. l ++ order) all, rw is (ap (λ l. order_cause base l order) all))

pub putting_amends_or_adds : PuttingAmendsOrAdds
putting_amends_or_adds base lines order = put_where base lines order (is_present (order_key order) lines) refl
