-- What a world has of one client or dispatcher.
use Rattle.std.specs.Prelude.{ℕ, List, [], Option, Some, None}
use Rattle.std.specs.Option.{option_map}
use Rattle.row_store.specs.History.{CommitRecord}
use Rattle.history_core.specs.declared.dispatcher.Given.{Given}
use Rattle.history_core.specs.declared.event.Who.{Who}
use Rattle.history_core.specs.declared.event.Who.TheVariants.{Client, Dispatcher}
use Rattle.history_core.specs.Numbered.{numbered}
use Rattle.history_core.specs.World.{World, ClientState, DispatcherState, Mailbox, mailbox_of}

-- of a client or a dispatcher: a client has no marks and gives no answers, a dispatcher makes no commits
pub record Part : Type 0 where
  pub seen : List CommitRecord
  pub mine : List CommitRecord
  pub mark : Option ℕ
  pub version : Option ℕ
  pub given : List Given

abbrev pub client_part : ClientState → Part
client_part c = record { seen = c.seen; mine = c.mine; mark = None; version = None; given = [] }

abbrev pub dispatcher_part : DispatcherState → Part
dispatcher_part d = record { seen = d.seen; mine = []; mark = d.mark; version = d.version; given = d.given }

abbrev pub part_in : List ClientState → List DispatcherState → Who → Option Part
part_in clients dispatchers (Client number) = option_map client_part (numbered clients number)
part_in clients dispatchers (Dispatcher number) = option_map dispatcher_part (numbered dispatchers number)

-- the part of a client or a dispatcher, none of an unknown number
abbrev pub part_of : World → Who → Option Part
part_of w who = part_in w.clients w.dispatchers who

-- the mailbox of a client
abbrev pub mailbox_at : World → ℕ → Option Mailbox
mailbox_at w number = mailbox_of (numbered w.clients number)

-- a dispatcher that gave the row store back as it was is marked by the length of the history
abbrev pub mark_after : Who → ℕ → Option ℕ → Option ℕ
mark_after (Client number) count mark = mark
mark_after (Dispatcher number) count mark = Some count
