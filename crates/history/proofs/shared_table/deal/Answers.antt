use Rattle.history.specs.Rule.{terms_of}
use Rattle.history.proofs.SplittingLaws.{deals}
use Rattle.history.proofs.shared_table.deal.Goals as goal

pub split_seat-seat-requires : goal.split_seat-seat-requires
split_seat-seat-requires g c = let base_of = g.W.Follower.base in (
  c.requires.table.0,
  c.requires.table.1,
  deals base_of g.W.Follower.commits (terms_of c.args.ruled.now.shared.key) _
      _ c.args.place c.requires.dealer.0 c.requires.room.0,
)
