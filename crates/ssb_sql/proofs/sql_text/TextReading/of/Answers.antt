use Rattle.std.proofs.Common.{◌∙◌, ap, sym}
use Rattle.ssb_sql.proofs.MeaningLaws as law
use Rattle.ssb_sql.specs.Reading.{read}
use Rattle.ssb_sql.proofs.sql_text.TextReading.of.Goals as goal

pub returns-in-Ok-clause-pieces : goal.returns-in-Ok-clause-pieces
returns-in-Ok-clause-pieces c =
    law.says c.args.text.now c.in_ok-tokens.tokens.tokens.items c.in-Ok.pieces.items c.in_ok-tokens.ensures.read
    (ap read (sym c.as_slice.ensures.value) ∙ c.in-Ok.ensures.pieces)
