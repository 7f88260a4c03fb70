use Rattle.ssb_sql.proofs.CutLaws.{behind_from}
use Rattle.ssb_sql.proofs.cutting.behind.Goals as goal

pub returns : goal.returns
returns c = behind_from c.args.mark.now c.args.text.now _ c.strip_prefix.ensures.cases
