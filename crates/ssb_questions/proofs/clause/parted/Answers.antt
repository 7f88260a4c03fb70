use Rattle.ssb_questions.proofs.PartedLaws.{split_once-parted}
use Rattle.ssb_questions.proofs.clause.parted.Goals as goal

pub returns : goal.returns
returns c = split_once-parted c.args.mark.now c.args.text.now c.split_once.result c.requires c.split_once.ensures.cases
