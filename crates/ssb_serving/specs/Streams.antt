-- What the sessions of many clients leave.
use Rattle.std.specs.Prelude.{◌≡◌, ℕ, ◌+◌, All, List, length, Some, slice_get}
use Rattle.history.specs.Closing.{IsLogOf}
use Rattle.history.specs.Tokens.{TableRecord, TokenRecord, new_token, new_dispatchers}
use Rattle.history.specs.Words.{Owns}
use Rattle.history_core.specs.OwnCommits.{IsOfClients, commits_of}
use Rattle.history_core.specs.declared.event.Who.TheVariants.{Client}
use Rattle.row_store.specs.History.{CommitRecord, IsPrefix}
use Rattle.row_store.specs.Legal.{IsLegal}
use Rattle.ssb_base.specs.Base.{Tables}
use Rattle.ssb_serving.specs.Members.{AreStill}
use Rattle.stream_sessions.specs.OneRequest.{AreAlike}

-- a speaker kept what it promises of a client before and after, and of what it left; it is the same client, which asks
-- nothing then
pub record IsSpoken {S L : Type 0} (Spoken : S → TokenRecord → TokenRecord → L → Type 0) (speaker : S)
    (client closed : TokenRecord) (left : L) : Type 0 where
  pub alike : AreAlike client closed
  pub spoken : Spoken speaker client closed left

-- each speaker, in order, was given the client of its place, and kept what it promises of it and of what it left
pub record AreSpoken {S L : Type 0} (Spoken : S → TokenRecord → TokenRecord → L → Type 0) (speakers : List S)
    (clients closed : List TokenRecord) (left : List L) : Type 0 where
  pub closed_each : length closed ≡ length speakers
  pub left_each : length left ≡ length speakers
  pub each : (i : ℕ) (speaker : S) (client after : TokenRecord) (one : L) → slice_get speakers i ≡ Some speaker
      → slice_get clients i ≡ Some client → slice_get closed i ≡ Some after → slice_get left i ≡ Some one
      → IsSpoken Spoken speaker client after one

-- the new client of this number was served by its speaker, which kept what it promises; what the client sees at the end
-- is a beginning of the log, and the commits that it made are those of its number in the log
pub record IsSpokenTo {S L : Type 0} (Spoken : S → TokenRecord → TokenRecord → L → Type 0) (table : TableRecord)
    (log : List CommitRecord) (number : ℕ) (speaker : S) (closed : TokenRecord) (left : L) : Type 0 where
  pub alike : AreAlike (new_token table (Client number)) closed
  pub spoken : Spoken speaker (new_token table (Client number)) closed left
  pub begins : IsPrefix closed.seen log
  pub made : closed.mine ≡ commits_of number log

-- a server over the base had a client for each speaker, the clients numbered from 1 in the order of the speakers, and
-- was closed when all had been served: this is what they left, in order, and the log; the dispatchers that ended are
-- those of the table, by number, and what each saw is a beginning of the log
pub record IsStreamRun {S L : Type 0} (Spoken : S → TokenRecord → TokenRecord → L → Type 0) (base : Tables)
    (speakers : List S) (dispatchers : ℕ) (left : List L) (log : List CommitRecord) : Type 0 where
  pub table : TableRecord
  pub base_is : table.base ≡ base
  pub clients_are : table.clients ≡ length speakers
  pub dispatchers_are : table.dispatchers ≡ dispatchers
  pub closed : List TokenRecord
  pub one_each : length closed ≡ length speakers
  pub one_left : length left ≡ length speakers
  pub served : (i : ℕ) (speaker : S) (client : TokenRecord) (one : L) → slice_get speakers i ≡ Some speaker
      → slice_get closed i ≡ Some client → slice_get left i ≡ Some one
      → IsSpokenTo Spoken table log (i + 1) speaker client one
  pub ended : List TokenRecord
  pub ended_are : AreStill (new_dispatchers table) ended
  pub ended_begin : All (λ (token : TokenRecord). IsPrefix token.seen log) ended
  pub true_log : IsLogOf table closed ended log
  pub legal : IsLegal base log
  pub named : IsOfClients (length speakers) log

-- the log of a server that was closed with these clients and dispatchers
pub record IsClosedWith (table : TableRecord) (clients ended : List TokenRecord) (log : List CommitRecord) : Type 0
  where
    pub true_log : IsLogOf table clients ended log
    pub legal : IsLegal table.base log
    pub named : IsOfClients table.clients log
    pub begin : All (λ (token : TokenRecord). IsPrefix token.seen log) clients
    pub ended_begin : All (λ (token : TokenRecord). IsPrefix token.seen log) ended
    pub own : All (λ (token : TokenRecord). Owns token.who token.mine log) clients
