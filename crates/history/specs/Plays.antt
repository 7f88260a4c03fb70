-- What each step tells, and how views are cut and joined.
use Rattle.std.specs.Prelude.{◌≡◌, ◌≢◌, ℕ, ◌+◌, ◌/◌, ◌%◌, ◌==◌, true, false, if◌then◌else◌, All, List, [], ◌∷◌}
use Rattle.std.specs.Prelude.{length, drop, Option, Some, None}
use Rattle.atomic_table.specs.Table.{Me, Step, rest}
use Rattle.ssb_base.specs.Base.{Tables}
use Rattle.history_core.specs.declared.response.Response.{Response}
use Rattle.row_store.specs.History.{CommitRecord, IsPrefix}
use Rattle.row_store.specs.Legal.{IsLegal}
use Rattle.history.specs.declared.view.Terms.{Terms}
use Rattle.history.specs.declared.view.Member.{Member}
use Rattle.history.specs.declared.request.PostedRequest.{PostedRequest}
use Rattle.history.specs.declared.view.Held.{Held}
use Rattle.history.specs.declared.view.Role.{Role}
use Rattle.history.specs.declared.view.Role.TheVariants.{Dealer, Token, Note, Spent}
use Rattle.history.specs.declared.view.View.{View}
use Rattle.history.specs.declared.view.SlotValue.TheVariants.{Rows, Writer, Asked, Answered}
use Rattle.history_core.specs.OwnCommits.{IsOfClients}
use Rattle.history.specs.Words.{Owns, IsRight, IsFresh, given_to}
use Rattle.history.specs.Members.{newcomer, takes_rows, marks, commits, sees, posts, grabs, takes_writer, puts_writer}
use Rattle.history.specs.Members.{answers, collects}
use Rattle.history.specs.Rule.{Slot, rows, nobody, view_of, IsElsewhere}

-- what a member learns of the history: it is legal, begins with all that the member saw or had beside that, and has
-- the member's commits
pub record Learns (v : View) (history : List CommitRecord) : Type 0 where
  pub legal : IsLegal v.terms.base history
  pub named : IsOfClients v.terms.clients history
  pub begins : IsPrefix v.member.seen history
  pub beside : All (λ list. IsPrefix list history) v.beside
  pub owns : Owns v.member.who v.member.mine history

-- the view of a member that took the rows, and that looked at the history
abbrev pub with_rows : View → List CommitRecord → View
with_rows v history = record v { member = takes_rows history v.member; holds_rows = true; beside = [] }

abbrev pub looked : View → List CommitRecord → View
looked v history = record v { member = sees history v.member; beside = [] }

-- a member that gave this log back, of which these are new
abbrev pub gave_log : Member → List CommitRecord → List CommitRecord → Member
gave_log m log [] = marks log m
gave_log m log (commit ∷ more) = commits log commit m

abbrev pub put_by : Member → List CommitRecord → Member
put_by m log = gave_log m log (drop (length m.seen) log)

abbrev pub gave_back : View → List CommitRecord → View
gave_back v log = record v { member = put_by v.member log; holds_rows = false }

-- a client's request lies in its slot
abbrev pub posted : View → PostedRequest → View
posted v request = record v { member = posts request v.member; asked = Some request }

abbrev pub held : ℕ → PostedRequest → Held
held place asked = record { place = place; request = asked }

-- the request in hand of the client at a place, and those in hand without it
abbrev pub request_at : ℕ → List Held → Option PostedRequest
request_at place [] = None
request_at place (h ∷ hs) = if h.place == place then Some h.request else request_at place hs

abbrev pub without_at : ℕ → List Held → List Held
without_at place [] = []
without_at place (h ∷ hs) = if h.place == place then hs else h ∷ without_at place hs

-- a dispatcher has a request more in hand, before the others, and no mark
abbrev pub grabbed : View → ℕ → PostedRequest → View
grabbed v client asked = record v { member = grabs client asked v.member; grabbed = held client asked ∷ v.grabbed }

-- a client's request, which was in hand, is answered
abbrev pub served_as : View → ℕ → Option PostedRequest → Response → View
served_as v client None reply = v
served_as v client (Some asked) reply =
    record v { member = answers client asked reply v.member; grabbed = without_at client v.grabbed }

abbrev pub served : View → ℕ → Response → View
served v client reply = served_as v client (request_at client v.grabbed) reply

-- a client has its answer, and the history that it is right in beside what it has seen
abbrev pub collected : View → List CommitRecord → Response → View
collected v history reply = record v { member = collects reply v.member; asked = None; beside = history ∷ v.beside }

-- a dispatcher has the writer, and what that stands for beside what it has seen
abbrev pub with_writer : View → List CommitRecord → View
with_writer v history = record v { member = takes_writer v.member; holds_writer = true; beside = history ∷ v.beside }

abbrev pub without_writer : View → View
without_writer v = record v { member = puts_writer v.member; holds_writer = false }

-- a client takes the slot of its mailbox for the first time
abbrev pub opened : View → View
opened v = record v { has_box = true }

-- what a dealer keeps, and what it deals
abbrev pub further : Role → Role
further (Dealer next) = Dealer (next + 1)
further r = r

abbrev pub dealt : View → View
dealt v = record v { role = further v.role }

abbrev pub token_at : Terms → ℕ → View
token_at terms place = view_of terms (Token place) (newcomer terms.clients place)

abbrev pub token_by : View → Role → View
token_by v (Dealer next) = token_at v.terms next
token_by v r = view_of v.terms Spent nobody

abbrev pub token_of : View → View
token_of v = token_by v v.role

-- a note of what the view has seen
abbrev pub note_of : View → View
note_of v = view_of v.terms Note record nobody { seen = v.member.seen }

abbrev pub hears : View → View → View
hears v other = record v { beside = other.member.seen ∷ v.beside }

-- a seat that gave its part away
abbrev pub leaves : View → View
leaves v = record v { role = Spent }

-- a member whose token was handed in
abbrev pub gathers : View → View → View
gathers v other = record v { gathered = other.member ∷ v.gathered }

module _ {W : Type 0} where
  -- the row store that a seat carries in slot 0, as a log
  abbrev pub log_of_slot : Slot W → List CommitRecord
  log_of_slot (Some (Rows s)) = s.log
  log_of_slot _ = []

  abbrev pub log_carried : List (ℕ × Slot W) → List CommitRecord
  log_carried [] = []
  log_carried (x ∷ xs) = log_of_slot x.1

  -- an even word was found, and the store was taken; or an odd one, and nothing changed
  abbrev pub TriesRows : Step (Slot W) → Me (Slot W) View → ℕ → Me (Slot W) View → Type 0
  TriesRows st me found after =
      (found % 2 ≡ 0 → (history : List CommitRecord)
      × (after ≡ (with_rows me.0 history, (0, rows me.0.terms.base history) ∷ me.1)) × Learns me.0 history)
      × (found % 2 ≡ 1 → after ≡ me)

  abbrev pub PutsRows : Step (Slot W) → Me (Slot W) View → ℕ → Me (Slot W) View → Type 0
  PutsRows st me found after = after ≡ (gave_back me.0 (log_carried me.1), rest me.1)

  abbrev pub Looks : Step (Slot W) → Me (Slot W) View → ℕ → Me (Slot W) View → Type 0
  Looks st me found after = (history : List CommitRecord) × (after ≡ (looked me.0 history, me.1))
      × Learns me.0 history × (found / 2 ≡ length history)

  abbrev pub OpensBox : Step (Slot W) → Me (Slot W) View → ℕ → Me (Slot W) View → Type 0
  OpensBox st me found after = (place : ℕ) → me.0.role ≡ Token place → after ≡ (opened me.0, (2 + place, None) ∷ me.1)

  abbrev pub Posts : Step (Slot W) → Me (Slot W) View → ℕ → Me (Slot W) View → Type 0
  Posts st me found after = (place : ℕ) (request : PostedRequest) → me.1 ≡ (2 + place, Some (Asked request)) ∷ rest me.1
      → after ≡ (posted me.0 request, rest me.1)

  abbrev pub Grabs : Step (Slot W) → Me (Slot W) View → ℕ → Me (Slot W) View → Type 0
  Grabs st me found after =
      (found ≡ 1 → (client : ℕ) → st.word ≡ 2 + client → (request : PostedRequest)
      × (after ≡ (grabbed me.0 client request, (2 + client, Some (Asked request)) ∷ me.1))
      × IsElsewhere client me.0.grabbed)
      × (found ≢ 1 → after ≡ me)

  abbrev pub Answers : Step (Slot W) → Me (Slot W) View → ℕ → Me (Slot W) View → Type 0
  Answers st me found after =
      (client : ℕ) (reply : Response) → st.word ≡ 2 + client → me.1 ≡ (2 + client, Some (Answered reply)) ∷ rest me.1
      → (after ≡ (served me.0 client reply, rest me.1))
      × ((asked : PostedRequest) → request_at client me.0.grabbed ≡ Some asked
      → IsFresh (given_to (client + 1) asked reply))

  abbrev pub Collects : Step (Slot W) → Me (Slot W) View → ℕ → Me (Slot W) View → Type 0
  Collects st me found after =
      (found ≡ 3 → (place : ℕ) → me.0.role ≡ Token place → (history : List CommitRecord) × (request : PostedRequest)
      × (reply : Response)
      × (after ≡ (collected me.0 history reply, (2 + place, Some (Answered reply)) ∷ me.1))
      × (me.0.asked ≡ Some request) × IsRight me.0.terms.base history request reply)
      × (found ≢ 3 → after ≡ me)

module _ {W : Type 0} (base_of : W → Tables) (taken : W → List CommitRecord) where
  -- the writer was home and was taken, or nothing changed
  abbrev pub TriesWriter : Step (Slot W) → Me (Slot W) View → ℕ → Me (Slot W) View → Type 0
  TriesWriter st me found after =
      (found ≡ 0 → (writer : W) × (base_of writer ≡ me.0.terms.base)
      × (after ≡ (with_writer me.0 (taken writer), (1, Some (Writer writer)) ∷ me.1)))
      × (found ≢ 0 → after ≡ me)

  abbrev pub PutsWriter : Step (Slot W) → Me (Slot W) View → ℕ → Me (Slot W) View → Type 0
  PutsWriter st me found after = after ≡ (without_writer me.0, rest me.1)
