-- One commit more: what is in memory is still the last of the log.
use Rattle.std.proofs.Common.{◌≡◌, ℕ, ◌+◌, ◌-◌, List, [], ◌∷◌, ◌++◌, length, drop, ap, ◌∙◌, arith, length-append}
use Rattle.std.proofs.lemmas.List.{drop-append-le}
use Rattle.row_store.specs.History.{CommitRecord}
use Rattle.row_store.specs.Last.{AreLast}

module _ (log recent : List CommitRecord) (count : ℕ) (are : AreLast log recent count) where
  pub last_more : (commit : CommitRecord) → AreLast (log ++ commit ∷ []) (recent ++ commit ∷ []) (count + 1)
  last_more commit = grind (arith, length-append, drop-append-le)
