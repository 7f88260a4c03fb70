-- Columns of the loaded lines of a base.
use Rattle.std.proofs.Common.{◌≡◌, ◌∙◌, ℕ, ◌≤◌, [], sym, ap, arith}
use Rattle.ssb_base.specs.Base.{Tables, IsSound}
use Rattle.row_store.specs.State.{State, StandsFor, state_of}
use Rattle.fact_columns.specs.Stored.{Stored, columns_state}
use Rattle.shared_scan.specs.Answers.{AreSnapshot}

at_most : (n most limit : ℕ) → n ≤ most → most ≤ limit → n ≤ limit
at_most n most limit few within = omega (arith, few, within)

-- they are over that base, and stand for no commits
pub loaded_base : (columns : Stored) (base : Tables) → columns_state columns ≡ state_of base [] → columns.base ≡ base
loaded_base columns base state = ap (λ (s : State). s.base) state

pub loaded_stands : (columns : Stored) (base : Tables) → columns_state columns ≡ state_of base []
    → StandsFor (columns_state columns) []
loaded_stands columns base state = state ∙ ap (λ b. state_of b []) (sym (loaded_base columns base state))

-- where the base is sound, they can be scanned
pub loaded_snapshot : (columns : Stored) (base : Tables) → columns_state columns ≡ state_of base [] → IsSound base
    → AreSnapshot columns
loaded_snapshot columns base state sound = grind (arith, loaded_stands, loaded_base, at_most)
