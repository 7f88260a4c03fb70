use Rattle.std.proofs.Common.{◌≡◌, ◌∙◌, arith, decimal, sym}
use Rattle.std.proofs.lemmas.Bool.Decides.{Decides-eqb}
use Rattle.std.proofs.lemmas.Slice.Eq.{slice_eq-Decides}
use Rattle.ssb_journal.proofs.head.is_newer.Goals as goal

pub returns-clause-yes : goal.returns-clause-yes
returns-clause-yes c = λ same.
    let spelled : c.as_bytes.result.now ≡ decimal c.args.form = c.as_bytes.ensures.value ∙ c.format.ensures.text in (
      omega (arith, c.if-form-le-NEWEST_FORM.false),
      c.ranges.form.fits,
      sym ((slice_eq-Decides Decides-eqb c.as_bytes.result.now c.args.digits.now c.eq.result c.eq.ensures).0 same) ∙ spelled,
    )

pub returns-clause-no : goal.returns-clause-no
returns-clause-no c = λ newer is.
    let spelled : c.as_bytes.result.now ≡ decimal c.args.form = c.as_bytes.ensures.value ∙ c.format.ensures.text in
    (slice_eq-Decides Decides-eqb c.as_bytes.result.now c.args.digits.now c.eq.result c.eq.ensures).1 (spelled ∙ sym is)
