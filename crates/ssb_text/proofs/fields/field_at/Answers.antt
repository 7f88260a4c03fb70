use Rattle.std.proofs.Common.{◌∙◌, ap, refl}
use Rattle.csv.specs.Records.{fields_of}
use Rattle.ssb_text.proofs.FieldReadingLaws.{field_read}
use Rattle.ssb_text.proofs.fields.field_at.Goals as goal

pub returns : goal.returns
returns c = ap (λ r. r.now) c.unwrap_or.ensures ∙ field_read c.get.result _ (fields_of c.args.fields.now) c.args.place
    c.get.ensures.value refl
