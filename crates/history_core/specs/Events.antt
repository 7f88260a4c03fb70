-- The events as contracts see them: a refresh is the list of its actions, a request the list of its questions, each a
-- query with its constants.
use Rattle.std.specs.Prelude.{ℕ, List, Option, Some, None}
use Rattle.ssb_schema.specs.declared.refresh.Action.{Action}
use Rattle.ssb_questions.specs.declared.query.Query.{Query}
use Rattle.ssb_questions.specs.declared.value.Value.{Value}
use Rattle.ssb_answers.specs.declared.answer.Unserved.{Unserved as Cause}
use Rattle.history_core.specs.declared.event.Who.{Who}
use Rattle.history_core.specs.declared.event.Event.{Event as Actual}
use Rattle.history_core.specs.declared.event.Event.TheVariants as actual

-- a query with its constants
abbrev pub Question : Type 0
Question = Query × List Value

-- what a client asks at once, in order
abbrev pub Questions : Type 0
Questions = List Question

-- where two numbers stand, the first is a dispatcher's and the second a client's
pub data Event : Type 0 where
  TakeRows : Who → Event
  -- the row store comes back, with a refresh to apply or as it is
  PutRows : Who → Option (List Action) → Event
  Look : Who → Event
  Post : ℕ → Questions → Event
  Grab : ℕ → ℕ → Event
  TakeWriter : ℕ → Event
  PutWriter : ℕ → Event
  Answer : ℕ → ℕ → Event
  GiveUp : ℕ → ℕ → Cause → Event
  Collect : ℕ → Event

-- the event that a value of the program is
abbrev pub event_of : Actual → Event
event_of (actual.TakeRows who) = TakeRows who
event_of (actual.PutRows who None) = PutRows who None
event_of (actual.PutRows who (Some refresh)) = PutRows who (Some refresh.value)
event_of (actual.Look who) = Look who
event_of (actual.Post client questions) = Post client questions
event_of (actual.Grab dispatcher client) = Grab dispatcher client
event_of (actual.TakeWriter dispatcher) = TakeWriter dispatcher
event_of (actual.PutWriter dispatcher) = PutWriter dispatcher
event_of (actual.Answer dispatcher client) = Answer dispatcher client
event_of (actual.GiveUp dispatcher client cause) = GiveUp dispatcher client cause
event_of (actual.Collect client) = Collect client
