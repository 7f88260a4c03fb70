use Rattle.std.proofs.Common.{◌≡◌, ◌-◌, ◌≤◌, All, length}
use Rattle.row_store.proofs.place.share_all.Given as goal

abbrev pub invariant-loop-shares : goal.invariant-loop-shares
invariant-loop-shares l = record {
  few : length l.shares.items ≤ l.count;
  alike : All (λ share. share.value ≡ l.refresh.value) l.shares.items;
}

abbrev pub decreases-loop-shares : goal.decreases-loop-shares
decreases-loop-shares l = l.count - length l.shares.items
