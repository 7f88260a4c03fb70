use Rattle.std.proofs.Common.{rules, ◌++◌, ap, sym, refl}
use Rattle.ssb_server.proofs.dispatcher.TwinDispatcher.new.Goals as goal

pub invariant_of-result : goal.invariant_of-result
invariant_of-result g c = record {
  who_is = search rules;
  free = c.requires.token.free;
  known = c.args.reader;
  reader_is = refl;
  knows = record {
    base_is = sym c.requires.token.base_is;
    told = record { rest = c.args.token.seen; whole = ap (λ told. told ++ c.args.token.seen) (sym c.requires.reader) };
  };
  hand_is = c.requires.batch;
}
