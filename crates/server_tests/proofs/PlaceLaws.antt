-- Whose a client is through its calls, whether it asks or not.
use Rattle.std.proofs.Common.{ℕ, List, ap, ◌∙◌}
use Rattle.std.specs.Prelude.{Result, Ok, Err}
use Rattle.ssb_schema.specs.declared.refresh.Action.{Action}
use Rattle.row_store.specs.declared.commit.Receipt.{Receipt}
use Rattle.row_store.specs.declared.refusal.RefreshError.{RefreshError}
use Rattle.row_store.specs.declared.refusal.RefreshError.TheVariants as refresh
use Rattle.history_core.specs.Events.{Questions}
use Rattle.history_core.specs.declared.response.Response.{Response}
use Rattle.history.specs.Tokens.{TableRecord, TokenRecord}
use Rattle.ssb_clients.specs.Clients.{Refreshed, Looks, HandsBack, Asks, Polls}
use Rattle.ssb_clients.specs.Tickets.{IsOf}
use Rattle.ssb_server.specs.Turns.{HasFetched}

module _ (table : TableRecord) where
  pub looks_stays : (before after : TokenRecord) → IsOf table before → Looks before after → IsOf table after
  looks_stays before after here looks = ap (λ (t : TokenRecord). t.table) looks.now ∙ here

  pub hands_back_stays : (before after : TokenRecord) → IsOf table before → HandsBack before after → IsOf table after
  hands_back_stays before after here did = ap (λ (t : TokenRecord). t.table) did.now ∙ here

  pub refreshed_stays : (number : ℕ) (actions : List Action) (before after : TokenRecord)
      (result : Result Receipt RefreshError) → IsOf table before → Refreshed before number actions result after
      → IsOf table after
  refreshed_stays number actions before after (Ok receipt) here did = ap (λ (t : TokenRecord). t.table) did.now ∙ here
  refreshed_stays number actions before after (Err (refresh.Refused at action cause)) here did =
      hands_back_stays before after here did.2
  refreshed_stays number actions before after (Err refresh.OutOfMemory) here did =
      hands_back_stays before after here did.1

  pub asks_stays : (before after : TokenRecord) (questions : Questions) → IsOf table before
      → Asks before questions after → IsOf table after
  asks_stays before after questions here asks = ap (λ (t : TokenRecord). t.table) asks.now ∙ here

  pub polls_stays : (before after : TokenRecord) (response : Response) → IsOf table before → Polls before response after
      → IsOf table after
  polls_stays before after response here polls = ap (λ (t : TokenRecord). t.table) polls.now ∙ here

  pub fetched_stays : (before after : TokenRecord) → IsOf table before → HasFetched before after → IsOf table after
  fetched_stays before after here fetched = ap (λ (t : TokenRecord). t.table) fetched.now ∙ here
