use Rattle.std.proofs.Common.{◌≡◌, ℕ, ◌<◌, List, map, subst, sym, ◌∙◌, ap}
use Rattle.std.specs.List.{All}
use Rattle.std.specs.Prelude.{vec_len}
use Rattle.scan_kernel.specs.declared.columns.GroupColumn.{GroupColumn}
use Rattle.scan_kernel.specs.Places.{group_at}
use Rattle.scan_kernel.proofs.FoundLaws.{all_mapped}
use Rattle.scan_kernel.proofs.adding.add_places.Goals as goal

pub add_to_groups-requires-clause-room : goal.add_to_groups-requires-clause-room
add_to_groups-requires-clause-room c =
    let columns = c.args.grouping.now.columns.items in
    let places = c.args.places.now in
    let P : List ℕ → Type 0 = λ xs. All (λ g. g < vec_len c.args.totals.now.counts) xs in
    let are : c.number_groups.new.groups ≡ map (group_at columns) places =
    c.number_groups.ensures.groups ∙ ap (λ (cs : List GroupColumn). map (group_at cs) places)
    c.as_slice-columns.ensures.value in
    subst P (sym are) (all_mapped _ _ (λ g. g < vec_len c.args.totals.now.counts) (group_at columns) places
    c.requires.groups)
