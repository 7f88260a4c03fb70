-- Events with the replies to them: what each client and dispatcher did, in runs in which each event is enabled.
use Rattle.std.specs.Prelude.{◌≢◌, All, List, map, filter}
use Rattle.history_core.specs.declared.event.Who.{Who}
use Rattle.history_core.specs.declared.event.Who.TheVariants.{Client, Dispatcher}
use Rattle.history_core.specs.declared.event.EventReply.{EventReply}
use Rattle.history_core.specs.declared.event.EventReply.TheVariants.{NotEnabled}
use Rattle.history_core.specs.Events.{Event, TakeRows, PutRows, Look, Post, Grab}
use Rattle.history_core.specs.Events.{TakeWriter, PutWriter, Answer, GiveUp, Collect}
use Rattle.history_core.specs.World.{World, is_same}
use Rattle.history_core.specs.Runs.{HasRun}

-- an event, and the reply to it
pub record Deed : Type 0 where
  pub event : Event
  pub reply : EventReply

abbrev pub events_of : List Deed → List Event
events_of deeds = map (λ (d : Deed). d.event) deeds

abbrev pub replies_of : List Deed → List EventReply
replies_of deeds = map (λ (d : Deed). d.reply) deeds

-- who does an event
abbrev pub actor_of : Event → Who
actor_of (TakeRows who) = who
actor_of (PutRows who refresh) = who
actor_of (Look who) = who
actor_of (Post client questions) = Client client
actor_of (Grab dispatcher client) = Dispatcher dispatcher
actor_of (TakeWriter dispatcher) = Dispatcher dispatcher
actor_of (PutWriter dispatcher) = Dispatcher dispatcher
actor_of (Answer dispatcher client) = Dispatcher dispatcher
actor_of (GiveUp dispatcher client cause) = Dispatcher dispatcher
actor_of (Collect client) = Client client

-- what one of them did of these, in order
abbrev pub done_by : Who → List Deed → List Deed
done_by who deeds = filter (λ (d : Deed). is_same (actor_of d.event) who) deeds

-- these deeds led from one world to the other; each event was enabled
pub record HasDone (before : World) (deeds : List Deed) (after : World) : Type 0 where
  pub ran : HasRun before (events_of deeds) (replies_of deeds) after
  pub enabled : All (λ (d : Deed). d.reply ≢ NotEnabled) deeds
