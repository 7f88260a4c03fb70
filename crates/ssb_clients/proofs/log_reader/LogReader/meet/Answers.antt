use Rattle.std.proofs.Common.{◌∙◌, ap, sym}
use Rattle.history.specs.Tokens.{TokenRecord}
use Rattle.ssb_clients.proofs.FetchingLaws.{idle_after_look}
use Rattle.ssb_clients.proofs.log_reader.LogReader.meet.Goals as goal

pub meet-requires-clause-table : goal.meet-requires-clause-table
meet-requires-clause-table g c =
    ap (λ (t : TokenRecord). t.table) c.self.view_is ∙ (c.requires.table ∙ sym c.server.view_is)

pub meet-requires-clause-other : goal.meet-requires-clause-other
meet-requires-clause-other g c =
    ap (λ (t : TokenRecord). t.table) c.client.view_is ∙ (c.requires.client ∙ sym c.server.view_is)

pub invariant_of-self : goal.invariant_of-self
invariant_of-self g c = idle_after_look c.self.inside.number c.self.inside.token c.meet.new.token c.meet.ensures.saw
    c.self.invariant
