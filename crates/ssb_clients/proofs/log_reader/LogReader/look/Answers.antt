use Rattle.std.proofs.Common.{◌∙◌, ap, sym}
use Rattle.history.specs.Tokens.{TokenRecord}
use Rattle.ssb_clients.proofs.FetchingLaws.{idle_after_look}
use Rattle.ssb_clients.proofs.log_reader.LogReader.look.Goals as goal

pub look-requires : goal.look-requires
look-requires g c = record {
  table = ap (λ (t : TokenRecord). t.table) c.self.view_is ∙ (c.requires ∙ sym c.server.view_is);
}

pub invariant_of-self : goal.invariant_of-self
invariant_of-self g c = idle_after_look c.self.inside.number c.self.inside.token c.look.new.token c.look.ensures.saw
    c.self.invariant
