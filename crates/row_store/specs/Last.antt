-- What of the log is in memory: its last commits.
use Rattle.std.specs.Prelude.{◌≡◌, ℕ, ◌-◌, ◌≤◌, List, length, drop}
use Rattle.row_store.specs.History.{CommitRecord}

-- all commits are counted, and these are the last of them
pub record AreLast (log recent : List CommitRecord) (count : ℕ) : Type 0 where
  pub counted : count ≡ length log
  pub few : length recent ≤ count
  pub rest : recent ≡ drop (count - length recent) log
