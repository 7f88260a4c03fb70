use Rattle.ssb_formats.proofs.JsonLaws.{overview_exact}
use Rattle.ssb_report.specs.OverviewText.{overview_of}
use Rattle.ssb_formats.proofs.overview_text.overview_line.Goals as goal

pub object_line-requires : goal.object_line-requires
object_line-requires c = rw c.in_ok-members.ensures (overview_exact (overview_of c.args.overview.now))
