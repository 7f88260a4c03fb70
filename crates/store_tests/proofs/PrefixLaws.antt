-- Beginnings among equal lists of commits.
use Rattle.std.proofs.Common.{◌≡◌, List, ◌++◌, ap, sym, ◌∙◌}
use Rattle.row_store.specs.History.{CommitRecord, IsPrefix}

pub prefix_moved : {a b c d : List CommitRecord} → a ≡ b → d ≡ c → IsPrefix b c → IsPrefix a d
prefix_moved same other p = record { rest = p.rest; whole = other ∙ p.whole ∙ ap (λ l. l ++ p.rest) (sym same) }
