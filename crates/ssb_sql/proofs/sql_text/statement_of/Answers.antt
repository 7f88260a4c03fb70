use Rattle.std.proofs.Common.{subst}
use Rattle.ssb_sql.proofs.MeaningLaws as law
use Rattle.ssb_sql.specs.Said.{Says}
use Rattle.ssb_sql.proofs.sql_text.statement_of.Goals as goal

pub returns-in-Ok-clause-means : goal.returns-in-Ok-clause-means
returns-in-Ok-clause-means c =
    law.means c.args.text.now c.in_ok-reading.reading.pieces.items c.in-Ok.statement c.in_ok-reading.ensures.pieces
    (subst (λ own. Says own c.in-Ok.statement) c.as_slice.ensures.value c.in-Ok.ensures)
