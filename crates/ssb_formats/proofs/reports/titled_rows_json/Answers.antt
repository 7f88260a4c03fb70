use Rattle.ssb_statements.specs.Listing.{rows_of}
use Rattle.ssb_formats.proofs.JsonLaws.{titled_rows_exact}
use Rattle.ssb_formats.proofs.reports.titled_rows_json.Goals as goal

pub object_line-requires : goal.object_line-requires
object_line-requires c =
    rw (c.in_ok-put_title.ensures, c.in_ok-members.ensures) (titled_rows_exact c.args.title.now (rows_of c.args.rows.now))
