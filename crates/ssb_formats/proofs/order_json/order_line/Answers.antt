use Rattle.ssb_formats.proofs.JsonLaws.{order_exact}
use Rattle.ssb_formats.proofs.order_json.order_line.Goals as goal

pub object_line-requires : goal.object_line-requires
object_line-requires c = rw c.in_ok-members.ensures (order_exact c.args.order.now)
