-- Whose the tokens are, through the turns.
use Rattle.std.proofs.Common.{◌≡◌, ap, ◌∙◌}
use Rattle.history.specs.Tokens.{TableRecord, TokenRecord}
use Rattle.ssb_clients.specs.Tickets.{IsOf}
use Rattle.ssb_server.specs.Ends.{Turned}
use Rattle.ssb_server.specs.declared.turn.Turn.{Turn}
use Rattle.ssb_server.specs.declared.turn.Turn.TheVariants.{Idle, Answered, Unserved}

pub turned_stays : (table : TableRecord) (before after : TokenRecord) (turn : Turn) → IsOf table before → Turned before turn after
    → IsOf table after
turned_stays table before after Idle here turned = ap (λ (t : TokenRecord). t.table) turned ∙ here
turned_stays table before after (Answered at count) here turned = ap (λ (t : TokenRecord). t.table) turned.1.now ∙ here
turned_stays table before after (Unserved count cause) here turned = ap (λ (t : TokenRecord). t.table) turned.1.now ∙ here
