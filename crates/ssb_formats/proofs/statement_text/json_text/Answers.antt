use Rattle.ssb_formats.proofs.JsonLaws.{statement_exact}
use Rattle.ssb_formats.proofs.statement_text.json_text.Goals as goal

pub object_line-requires : goal.object_line-requires
object_line-requires c =
    rw c.in_ok-members.ensures (statement_exact c.args.at c.args.heads.now c.args.rows.now)
