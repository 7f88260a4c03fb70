-- The members of a table, first its clients and then its dispatchers, and what each event changes of the one that acts.
use Rattle.std.specs.Prelude.{ℕ, ◌+◌, ◌-◌, nat_lt, if◌then◌else◌, List, [], ◌∷◌, ◌++◌, length, Some, None}
use Rattle.history_core.specs.declared.response.Response.{Response}
use Rattle.history_core.specs.declared.response.Response.TheVariants.{Rows, Unserved}
use Rattle.row_store.specs.History.{CommitRecord}
use Rattle.history_core.specs.declared.event.Who.{Who}
use Rattle.history_core.specs.declared.event.Who.TheVariants.{Client, Dispatcher}
use Rattle.history_core.specs.declared.event.EventReply.{EventReply}
use Rattle.history_core.specs.declared.event.EventReply.TheVariants as told
use Rattle.history_core.specs.Events.{Event}
use Rattle.history_core.specs.Events as event
use Rattle.history_core.specs.Parts.{Part, mark_after}
use Rattle.history.specs.declared.request.PostedRequest.{PostedRequest}
use Rattle.history.specs.declared.view.Member.{Member}
use Rattle.history.specs.Words.{given_to}

abbrev pub who_at : ℕ → ℕ → Who
who_at clients place = if nat_lt place clients then Client (place + 1) else Dispatcher ((place - clients) + 1)

abbrev pub number_of : Who → ℕ
number_of (Client number) = number
number_of (Dispatcher number) = number

abbrev pub newcomer : ℕ → ℕ → Member
newcomer clients place =
    record { who = who_at clients place; seen = []; mine = []; mark = None; version = None; given = []; did = [] }

-- what each event changes of the member that acts

abbrev pub with_deed : Event → EventReply → Member → Member
with_deed what reply m = record m { did = m.did ++ record { event = what; reply = reply } ∷ [] }

abbrev pub takes_rows : List CommitRecord → Member → Member
takes_rows history m = with_deed (event.TakeRows m.who) told.Done record m { seen = history }

-- it gave the row store back as it was
abbrev pub marks : List CommitRecord → Member → Member
marks history m = with_deed (event.PutRows m.who None) told.Done
    record m { seen = history; mark = mark_after m.who (length history) m.mark }

-- it gave the row store back with this commit, which is the last of the history
abbrev pub commits : List CommitRecord → CommitRecord → Member → Member
commits history commit m =
    with_deed (event.PutRows m.who (Some commit.actions)) (told.Committed (length history))
    record m { seen = history; mine = m.mine ++ commit ∷ [] }

abbrev pub sees : List CommitRecord → Member → Member
sees history m = with_deed (event.Look m.who) (told.Length (length history)) record m { seen = history }

abbrev pub posts : PostedRequest → Member → Member
posts request m = with_deed (event.Post (number_of m.who) request.questions) told.Done m

abbrev pub grabs : ℕ → PostedRequest → Member → Member
grabs client request m =
    with_deed (event.Grab (number_of m.who) (client + 1)) (told.Asked request.questions)
    record m { mark = None; version = None }

abbrev pub takes_writer : Member → Member
takes_writer m = with_deed (event.TakeWriter (number_of m.who)) told.Done record m { mark = None; version = None }

abbrev pub puts_writer : Member → Member
puts_writer m = with_deed (event.PutWriter (number_of m.who)) told.Done record m { version = m.mark }

abbrev pub answer_named : ℕ → ℕ → Response → Event
answer_named dispatcher client (Rows questions at found) = event.Answer dispatcher client
answer_named dispatcher client (Unserved questions cause) = event.GiveUp dispatcher client cause

abbrev pub answers : ℕ → PostedRequest → Response → Member → Member
answers client request reply m =
    with_deed (answer_named (number_of m.who) (client + 1) reply) told.Done
    record m { given = m.given ++ given_to (client + 1) request reply ∷ [] }

-- what a client is told that collects this answer
abbrev pub told_by : Response → EventReply
told_by (Rows questions at found) = told.Rows questions at found
told_by (Unserved questions cause) = told.Unserved questions cause

abbrev pub collects : Response → Member → Member
collects reply m = with_deed (event.Collect (number_of m.who)) (told_by reply) m

-- what the world has of a member
abbrev pub part : Member → Part
part m = record { seen = m.seen; mine = m.mine; mark = m.mark; version = m.version; given = m.given }
