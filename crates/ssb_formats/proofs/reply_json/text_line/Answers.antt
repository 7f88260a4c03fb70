use Rattle.ssb_formats.proofs.reply_json.text_line.Goals as goal

pub object_line-requires : goal.object_line-requires
object_line-requires c = rw (c.in_ok-members.ensures, c.in_ok-value.ensures)
