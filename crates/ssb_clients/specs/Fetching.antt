-- What fetching commits does to a dispatcher's token.
use Rattle.std.specs.Prelude.{◌≡◌, ◌⊎◌, ℕ, ◌≤◌, All, List, [], ◌∷◌, ◌++◌, length, Some}
use Rattle.row_store.specs.History.{CommitRecord, IsPrefix}
use Rattle.history_core.specs.declared.event.Who.TheVariants.{Dispatcher}
use Rattle.history.specs.Tokens.{TableRecord, TokenRecord}
use Rattle.ssb_clients.specs.Deeds as deeds

-- the token is a dispatcher's at this table
pub record IsDispatcher (table : TableRecord) (t : TokenRecord) : Type 0 where
  pub table_is : t.table ≡ table
  pub number : ℕ
  pub who_is : t.who ≡ Dispatcher number

-- beside what the token has seen lies a list of so many commits
pub record HasBeside (t : TokenRecord) (count : ℕ) : Type 0 where
  pub list : List CommitRecord
  pub more : List (List CommitRecord)
  pub beside_is : t.beside ≡ list ∷ more
  pub count_is : count ≡ length list

-- so many commits are there: the token has seen as many, or a list of them lies beside what it has seen
abbrev pub AreThere : TokenRecord → ℕ → Type 0
AreThere t count = (count ≤ length t.seen) ⊎ HasBeside t count

-- the token has looked at the rows and given them back: its mark is the length of what it sees, which begins with what
-- it had beside
pub record Fetches (before after : TokenRecord) : Type 0 where
  pub begins : IsPrefix before.seen after.seen
  pub beside : All (λ list. IsPrefix list after.seen) before.beside
  pub now : after ≡ record before {
    seen = after.seen;
    beside = [];
    mark = Some (length after.seen);
    did = before.did ++ deeds.handed_back before.who;
  }
