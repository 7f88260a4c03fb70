-- What a call adds to the record of what a client or who reads the log did.
use Rattle.std.specs.Prelude.{ℕ, List, [], ◌∷◌, Some, None}
use Rattle.ssb_schema.specs.declared.refresh.Action.{Action}
use Rattle.history_core.specs.declared.response.Response.{Response}
use Rattle.history_core.specs.Events.{Questions}
use Rattle.history_core.specs.declared.event.Who.{Who}
use Rattle.history_core.specs.declared.event.EventReply.{EventReply}
use Rattle.history_core.specs.declared.event.EventReply.TheVariants.{Done, Committed, Length}
use Rattle.history_core.specs.Events.{Event}
use Rattle.history_core.specs.Events as event
use Rattle.history_core.specs.Deeds.{Deed}
use Rattle.history.specs.Members.{number_of, told_by}

abbrev pub deed : Event → EventReply → Deed
deed event reply = record { event = event; reply = reply }

-- it looked, and saw so many commits
abbrev pub looked : Who → ℕ → Deed
looked who seen = deed (event.Look who) (Length seen)

-- it took the row store and gave it back as it was
abbrev pub handed_back : Who → List Deed
handed_back who = deed (event.TakeRows who) Done ∷ deed (event.PutRows who None) Done ∷ []

-- it took the row store and gave it back with a commit, which got this number
abbrev pub committed : Who → List Action → ℕ → List Deed
committed who actions number =
    deed (event.TakeRows who) Done ∷ deed (event.PutRows who (Some actions)) (Committed number) ∷ []

-- a client looked, and asked
abbrev pub asked : Who → Questions → ℕ → List Deed
asked who questions seen = looked who seen ∷ deed (event.Post (number_of who) questions) Done ∷ []

-- a client collected this answer, and looked
abbrev pub polled : Who → Response → ℕ → List Deed
polled who reply seen = deed (event.Collect (number_of who)) (told_by reply) ∷ looked who seen ∷ []
