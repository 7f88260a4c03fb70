use Rattle.std.proofs.Common.{◌∙◌, ◌++◌, ◌∷◌, [], ◌≡◌, List, ℕ, Some, None, map, take, unwrap_or, get_or, ap, sym}
use Rattle.std.specs.Prelude.{if◌then◌else◌}
use Rattle.std.specs.Option.{option_or}
use Rattle.std.proofs.lemmas.List.{map_more}
use Rattle.std.proofs.lemmas.Option.{get_or_from_slice_get}
use Rattle.dimension_index.specs.Told.{RowCodes, same_told, first_in}
use Rattle.dimension_index.proofs.ClassLaws.{first_known, noted_more}
use Rattle.dimension_index.proofs.classes.first_places.Goals as goal

pub loop-row-preserved : goal.loop-row-preserved
loop-row-preserved c =
    let rows : List RowCodes = c.args.rows.now in
    let row : ℕ = c.loop-row.row in
    let told : RowCodes = c.row_at-told.result in
    let within = c.loop-row-test.true in
    let is : told ≡ get_or rows row told = sym (get_or_from_slice_get rows row told told (sym c.row_at-told.ensures)) in
    let place : c.in_ok-place.place ≡ first_in rows told =
    c.in_ok-place.ensures.place ∙ ap (λ o. unwrap_or o row) (c.loop-row.invariant.noted told)
    ∙ sym (first_known rows row told within is) in
    record {
      firsts =
          c.in_ok-push.ensures.items
          ∙ (λ i. c.loop-row.invariant.firsts i ++ place i ∷ [])
          ∙ ap (λ own. map (first_in rows) (take row rows) ++ first_in rows own ∷ []) is
          ∙ sym (map_more (first_in rows) rows row told within);
      noted = λ other.
          c.in_ok-place.ensures.seen other
          ∙ ap (λ o. option_or o (if same_told told other then Some row else None)) (c.loop-row.invariant.noted other)
          ∙ noted_more rows row told other within is;
    }
