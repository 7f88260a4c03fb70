use Rattle.ssb_formats.proofs.JsonLaws.{refreshed_exact}
use Rattle.ssb_formats.proofs.reply_json.refreshed_line.Goals as goal

pub object_line-requires : goal.object_line-requires
object_line-requires c = rw c.in_ok-members.ensures (refreshed_exact c.args.reply.now)
