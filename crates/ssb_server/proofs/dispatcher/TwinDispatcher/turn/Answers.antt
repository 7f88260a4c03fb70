use Rattle.std.proofs.Common.{◌∙◌, refl}
use Rattle.ssb_server.proofs.TurningLaws.{turned_free, turned_who}
use Rattle.ssb_server.proofs.dispatcher.TwinDispatcher.turn.Goals as goal

pub invariant_of-self : goal.invariant_of-self
invariant_of-self g c = record {
  who_is = turned_who c.self.inside.token c.take_turn-reader.new.token c.take_turn-reader.result.1
      c.take_turn-reader.ensures.turned ∙ c.self.invariant.who_is;
  free = turned_free c.self.inside.token c.take_turn-reader.new.token c.take_turn-reader.result.1
      c.take_turn-reader.ensures.turned c.self.invariant.free;
  known = c.take_turn-reader.result.0;
  reader_is = refl;
  knows = c.take_turn-reader.ensures.reader;
  hand_is = c.take_turn-reader.ensures.empty;
}
