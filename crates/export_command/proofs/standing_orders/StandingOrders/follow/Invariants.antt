use Rattle.std.proofs.Common.{◌+◌, ◌*◌, ◌≤◌, ◌++◌, List, take}
use Rattle.row_store.specs.History.{CommitRecord}
use Rattle.row_store.specs.Legal.{IsLegal}
use Rattle.ssb_base.specs.Base.{Tables}
use Rattle.export_command.specs.Standing.{Follows}
use Rattle.export_command.proofs.standing_orders.StandingOrders.follow.Given as goal

abbrev pub invariant-loop-commit : goal.invariant-loop-commit
invariant-loop-commit l =
    (l.self.count ≤ l.fn.self.count + 64 * l.commit-index)
    × ((base : Tables) (log : List CommitRecord) → IsLegal base (log ++ l.commits) → Follows base log l.fn.self
    → Follows base (log ++ take l.commit-index l.commits) l.self)
