-- The groups of a store that were shipped.
use Rattle.std.specs.Prelude.{◌≤◌, ℕ, List, Option}
use Rattle.ship_command.specs.Shipped.{ShipsAll}

-- all groups of a journal were shipped, over tables that are after at most as many commits as are left out. Which
-- tables and which journal the store has is not said
pub record ShipsStore (after : ℕ) (old new : Option (List ℕ)) : Type 0 where
  pub past : ℕ
  pub within : past ≤ after
  pub groups : List (List ℕ)
  pub shipped : ShipsAll past after groups old new
