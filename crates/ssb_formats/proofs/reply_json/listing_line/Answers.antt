use Rattle.ssb_statements.specs.Listing.{listing_of}
use Rattle.ssb_formats.proofs.JsonLaws.{listing_exact}
use Rattle.ssb_formats.proofs.reply_json.listing_line.Goals as goal

pub object_line-requires : goal.object_line-requires
object_line-requires c = rw c.in_ok-members.ensures (listing_exact (listing_of c.args.listing.now))
