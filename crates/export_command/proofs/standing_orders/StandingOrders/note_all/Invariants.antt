use Rattle.std.proofs.Common.{◌≡◌, ◌+◌, ◌≤◌, List, None}
use Rattle.row_store.specs.Refusals.{first_refusal}
use Rattle.ssb_base.specs.Base.{Tables}
use Rattle.ssb_schema.specs.declared.line.LineFields.{LineFields}
use Rattle.export_command.specs.Standing.{AreLeft}
use Rattle.export_command.proofs.FollowLaws.{AreNoted}
use Rattle.export_command.proofs.standing_orders.StandingOrders.note_all.Given as goal

abbrev pub invariant-loop-place : goal.invariant-loop-place
invariant-loop-place l =
    (l.self.count ≤ l.fn.self.count + l.place)
    × ((base : Tables) (lines : List LineFields) → first_refusal base 1 lines l.refresh.value ≡ None
    → AreLeft base.lines lines l.fn.self → AreNoted base lines l.refresh.value l.place l.self)
