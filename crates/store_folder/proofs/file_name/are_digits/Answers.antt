use Rattle.std.proofs.Common.{◌≡◌, ◌∙◌, decimal, sym}
use Rattle.std.proofs.lemmas.Bool.Decides.{Decides-eqb}
use Rattle.std.proofs.lemmas.Slice.Eq.{slice_eq-Decides}
use Rattle.store_folder.proofs.file_name.are_digits.Goals as goal

pub returns : goal.returns
returns c =
    let spelled : c.as_bytes.result.now ≡ decimal c.args.number = c.as_bytes.ensures.value ∙ c.format.ensures.text in
    let is = slice_eq-Decides Decides-eqb c.as_bytes.result.now c.args.digits.now c.eq.result c.eq.ensures in
    (λ yes. sym (is.0 yes) ∙ spelled, λ same. is.1 (spelled ∙ sym same))
