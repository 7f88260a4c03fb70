use Rattle.ssb_formats.proofs.JsonLaws.{answer_exact}
use Rattle.ssb_formats.proofs.json_text.json_text.Goals as goal

pub object_line-requires : goal.object_line-requires
object_line-requires c = rw c.in_ok-members.ensures (answer_exact c.args.answer.now)
