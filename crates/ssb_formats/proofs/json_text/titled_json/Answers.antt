use Rattle.ssb_formats.proofs.JsonLaws.{titled_exact}
use Rattle.ssb_formats.proofs.json_text.titled_json.Goals as goal

pub object_line-requires : goal.object_line-requires
object_line-requires c =
    rw (c.in_ok-put_title.ensures, c.in_ok-members.ensures) (titled_exact c.args.title.now c.args.answer.now)
