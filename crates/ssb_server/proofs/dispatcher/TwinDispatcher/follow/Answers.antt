use Rattle.std.proofs.Common.{◌∙◌, ap}
use Rattle.history.specs.Tokens.{TokenRecord}
use Rattle.ssb_server.proofs.TurningLaws.{fetched_free, fetched_knows}
use Rattle.ssb_server.proofs.dispatcher.TwinDispatcher.follow.Goals as goal

pub invariant_of-self : goal.invariant_of-self
invariant_of-self g c = record {
  who_is = ap (λ (t : TokenRecord). t.who) c.follow.ensures.followed.now ∙ c.self.invariant.who_is;
  free = fetched_free c.self.inside.token c.follow.new.token c.follow.ensures.followed c.self.invariant.free;
  known = c.self.invariant.known;
  reader_is = c.self.invariant.reader_is;
  knows = fetched_knows c.self.inside.token c.follow.new.token c.self.invariant.known c.follow.ensures.followed
      c.self.invariant.knows;
  hand_is = c.self.invariant.hand_is;
}
