use Rattle.std.proofs.Common.{◌∙◌, ap, sym}
use Rattle.history.specs.Tokens.{TokenRecord}
use Rattle.ssb_clients.proofs.client.Client.meet.Goals as goal

pub meet-requires-clause-table : goal.meet-requires-clause-table
meet-requires-clause-table g c =
    ap (λ (t : TokenRecord). t.table) c.self.view_is ∙ (c.requires.table ∙ sym c.server.view_is)

pub meet-requires-clause-other : goal.meet-requires-clause-other
meet-requires-clause-other g c =
    ap (λ (t : TokenRecord). t.table) c.other.view_is ∙ (c.requires.other ∙ sym c.server.view_is)
