use Rattle.std.proofs.Common.{◌≡◌, ℕ, ◌+◌, ◌≤◌, List, All, length, take, drop, None, nat_eq}
use Rattle.std.specs.HashMap.{get, spare}
use Rattle.ssb_schema.specs.declared.line.LineFields.{LineFields}
use Rattle.ssb_base.specs.Base.{Tables}
use Rattle.row_store.specs.Lines.{lines_after_refresh}
use Rattle.row_store.specs.Refusals.{first_refusal}
use Rattle.row_store.specs.Keyed.{Sources, Located}
use Rattle.row_store.proofs.place.place_all.Given as goal

abbrev pub invariant-loop-i : goal.invariant-loop-i
invariant-loop-i l = record {
  each : (base : Tables) (sources : Sources) (lines : List LineFields) (number : ℕ)
      → Located sources (get nat_eq l.initial.orders) lines → first_refusal base number lines l.actions ≡ None
      → Located sources (get nat_eq l.orders) (lines_after_refresh lines (take l.i l.actions))
      × (first_refusal base (number + l.i) (lines_after_refresh lines (take l.i l.actions))
      (drop l.i l.actions) ≡ None);
  room : length l.actions ≤ spare l.orders + l.i;
  left : length l.actions ≤ length l.shares.items + l.i;
  alike : All (λ share. share.value ≡ l.actions) l.shares.items;
}
