-- The members of a table, before and after the threads of a run.
use Rattle.std.specs.Prelude.{◌≡◌, All, List, [], ◌∷◌}
use Rattle.history.specs.Tokens.{TableRecord, TokenRecord}
use Rattle.ssb_clients.specs.Tickets.{IsQuiet, IsOf, AreAllThere}

-- the same member of the same table
pub record IsStill (before after : TokenRecord) : Type 0 where
  pub table : after.table ≡ before.table
  pub who : after.who ≡ before.who

-- the same members, in order
abbrev pub AreStill : List TokenRecord → List TokenRecord → Type 0
AreStill [] [] = Unit {0}
AreStill (before ∷ befores) (after ∷ afters) = IsStill before after × AreStill befores afters
AreStill [] (after ∷ afters) = ⊥
AreStill (before ∷ befores) [] = ⊥

-- the server can be closed with these: each client asks nothing, and each client and dispatcher is there once
pub record IsReady (table : TableRecord) (clients dispatchers : List TokenRecord) : Type 0 where
  pub quiet : All (IsQuiet table) clients
  pub left : All (IsOf table) dispatchers
  pub there : AreAllThere table clients dispatchers
