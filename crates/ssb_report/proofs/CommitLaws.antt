-- A warehouse with some commits more.
use Rattle.std.proofs.Common.{◌≡◌, List, [], ◌++◌, ap, append_assoc, append-nil}
use Rattle.row_store.specs.History.{CommitRecord, Warehouse}
use Rattle.ssb_report.specs.Replies.{with_commits}

-- no commit more
pub with_none : (warehouse : Warehouse) → with_commits warehouse [] ≡ warehouse
with_none warehouse = ap (λ log. record { base = warehouse.base; log = log }) (append-nil warehouse.log)

-- some commits and then others
pub with_both : (warehouse : Warehouse) (first second : List CommitRecord)
    → with_commits (with_commits warehouse first) second ≡ with_commits warehouse (first ++ second)
with_both warehouse first second = ap (λ log. record { base = warehouse.base; log = log })
    (append_assoc warehouse.log first second)
