use Rattle.std.proofs.Common.{◌≡◌, ◌+◌, map}
use Rattle.std.specs.List.{range_with_len}
use Rattle.history_core.specs.declared.event.Who.TheVariants.{Client, Dispatcher}
use Rattle.history.specs.Rule.{terms_of}
use Rattle.history.specs.Seats.{IsDealer}
use Rattle.history.specs.Tokens.{new_token}
use Rattle.history.specs.TokenParts.{table_of}
use Rattle.history.proofs.shared_table.SharedTable.new.Given as goal

abbrev pub invariant-loop-place : goal.invariant-loop-place
invariant-loop-place g l = let terms = terms_of l.ruled.shared.key in record {
  table : l.dealer.table_id ≡ l.ruled.shared.table_id;
  dealer : IsDealer l.dealer terms l.place;
  dealt : l.first.items ≡ map (λ number. new_token (table_of l.ruled.shared.table_id terms) (Client number))
      (range_with_len 1 l.place);
}

abbrev pub invariant-loop-number : goal.invariant-loop-number
invariant-loop-number g l = let terms = terms_of l.ruled.shared.key in record {
  table : l.dealer.table_id ≡ l.ruled.shared.table_id;
  dealer : IsDealer l.dealer terms (l.clients + l.number);
  dealt : l.second.items ≡ map (λ number. new_token (table_of l.ruled.shared.table_id terms) (Dispatcher number))
      (range_with_len 1 l.number);
}
