use Rattle.ssb_script.proofs.AheadLaws.{whole_begins}
use Rattle.ssb_script.proofs.at_hand.has_request.Goals as goal

pub returns-in-Some-clause-whole : goal.returns-in-Some-clause-whole
returns-in-Some-clause-whole c = λ told. whole_begins c.args.bytes.now _ c.in-Some.ensures.whole
