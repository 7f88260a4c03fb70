use Rattle.std.proofs.Common.{◌≡◌, ◌∙◌, ◌∷◌, [], List, ℕ, IfOk, length, map, arith, ap, subst}
use Rattle.std.proofs.lemmas.List.{length-map}
use Rattle.std.proofs.lemmas.List.FromFn.{length-map-range_with_len}
use Rattle.dimension_index.specs.Codes.{codes_of}
use Rattle.dimension_index.specs.Classes.{classes_by}
use Rattle.dimension_index.specs.Told.{RowCodes, told_rows, first_in}
use Rattle.dimension_index.proofs.ClassLaws.{classes_told}
use Rattle.dimension_index.proofs.classes.classes_by.Goals as goal

pub first_places-requires : goal.first_places-requires
first_places-requires c =
    let rows = c.deref.ensures.value ∙ c.in_ok-rows.ensures in
    let long : length c.deref.result.now ≡ length c.args.first.now =
    ap length rows ∙ length-map-range_with_len _ 0 _ ∙ ap length c.codes.ensures ∙ length-map c.args.first.now _ in
    omega (arith, long, c.requires.few)

pub returns : goal.returns
returns c =
    let a = c.args.first.now in
    let b = c.args.second.now in
    let d = c.args.third.now in
    let e = c.args.fourth.now in
    let rows : c.deref.result.now ≡ told_rows (codes_of a) (codes_of b) (codes_of d) (codes_of e) =
    c.deref.ensures.value ∙ c.in_ok-rows.ensures ∙ (λ i. told_rows (c.codes.ensures i) (c.codes-2.ensures i)
    (c.codes-3.ensures i) (c.codes-4.ensures i)) in
    let same : map (first_in c.deref.result.now) c.deref.result.now ≡ classes_by (a ∷ b ∷ d ∷ e ∷ []) (length a) =
    ap (λ (l : List RowCodes). map (first_in l) l) rows ∙ classes_told a b d e c.requires.second c.requires.third
    c.requires.fourth in
    subst (λ (l : List ℕ). IfOk c.first_places.result (λ v. v.items ≡ l)) same c.first_places.ensures
