use Rattle.std.proofs.Common.{◌≡◌, ◌++◌}
use Rattle.std.specs.Prelude.{All}
use Rattle.history.specs.Seats.{IsToken, members_of}
use Rattle.history.specs.Closing.{IsClientOf, IsDispatcherOf, members_in}
use Rattle.history.specs.TokenParts.{table_of}
use Rattle.history.proofs.ClosingLaws.{HoldsNothing}
use Rattle.history.proofs.shared_table.SharedTable.close.Given as goal

abbrev pub invariant-loop-token : goal.invariant-loop-token
invariant-loop-token g l = record {
  table : table_of l.seat.table_id l.seat.me.0.terms ≡ l.fn.self;
  token : IsToken l.seat;
  nothing : HoldsNothing l.seat.me.0;
  left : All (IsDispatcherOf l.fn.self) l.dispatchers.items;
  members : members_in l.fn.dispatchers.items ≡ members_in l.dispatchers.items ++ members_of l.seat.me.0;
}

abbrev pub decreases-loop-token : goal.decreases-loop-token
decreases-loop-token g l = goal.left-loop-token g l

abbrev pub invariant-loop-token-2 : goal.invariant-loop-token-2
invariant-loop-token-2 g l = record {
  table : table_of l.seat.table_id l.seat.me.0.terms ≡ l.fn.self;
  token : IsToken l.seat;
  nothing : HoldsNothing l.seat.me.0;
  left : All (IsClientOf l.fn.self) l.clients.items;
  members : members_in l.fn.clients.items ++ members_in l.fn.dispatchers.items ≡ members_in l.clients.items
      ++ members_of l.seat.me.0;
}

abbrev pub decreases-loop-token-2 : goal.decreases-loop-token-2
decreases-loop-token-2 g l = goal.left-loop-token-2 g l
