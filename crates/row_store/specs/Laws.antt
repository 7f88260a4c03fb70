-- Laws of histories and of states.
use Rattle.std.specs.Prelude.{◌≡◌, ℕ, ◌+◌, ◌≤◌, ◌==◌, if◌then◌else◌, List, [], ◌∷◌, ◌++◌, length, fold, None, Some}
use Rattle.std.specs.Prelude.{Result, Ok, Err, IsPermutation}
use Rattle.std.specs.Bool.{Decides}
use Rattle.ssb_schema.specs.declared.line.LineFields.{LineFields}
use Rattle.ssb_schema.specs.declared.refresh.Action.{Action}
use Rattle.ssb_schema.specs.declared.refresh.Action.TheVariants.{Add, Amend, Put}
use Rattle.ssb_schema.specs.Orders.{order_key}
use Rattle.ssb_schema.specs.declared.fact.Fact.{Fact}
use Rattle.ssb_base.specs.Base.{Tables, IsSound}
use Rattle.ssb_schema.specs.Facts.{facts_of}
use Rattle.row_store.specs.Lines.{is_present, lines_after_action, lines_after_refresh}
use Rattle.row_store.specs.History.{CommitRecord, IsPrefix, lines_after}
use Rattle.row_store.specs.Refusals.{cause_of, refusal_of}
use Rattle.row_store.specs.Legal.{IsLegal, warehouse_reply, warehouse_after, IsRefreshReply, Tells}
use Rattle.row_store.specs.State.{State, StandsFor, Counts, is_same, occurrences, count_of, with_fact, counts_without}
use Rattle.row_store.specs.State.{fact_counts, state_after}
use Rattle.row_store.specs.declared.commit.Receipt.{Receipt}
use Rattle.row_store.specs.declared.refusal.Refusal.{Refusal}
use Rattle.row_store.specs.declared.refusal.RefreshError.{RefreshError}
use Rattle.row_store.specs.declared.refusal.RefreshError.TheVariants.{Refused}

-- a legal history is legal in all its beginnings
abbrev pub BeginningsAreLegal : Type 0
BeginningsAreLegal = (base : Tables) (shorter longer : List CommitRecord) → IsPrefix shorter longer
    → IsLegal base longer → IsLegal base shorter

-- a legal history stays legal with one commit more that is not refused after it
abbrev pub AcceptedStaysLegal : Type 0
AcceptedStaysLegal = (base : Tables) (history : List CommitRecord) (commit : CommitRecord) → IsLegal base history
    → refusal_of base history commit.actions ≡ None → IsLegal base (history ++ commit ∷ [])

-- a legal history has no more commits than the limit, and leaves no more lines than the limit
abbrev pub LegalHistoriesAreFew : Type 0
LegalHistoriesAreFew = (base : Tables) (history : List CommitRecord) → IsSound base → IsLegal base history
    → (length history ≤ base.limits.commits) × (length (lines_after base history) ≤ base.limits.lines)

-- a history begins with itself
abbrev pub BeginsWithItself : Type 0
BeginsWithItself = (history : List CommitRecord) → IsPrefix history history

-- a beginning of a beginning is a beginning
abbrev pub BeginningsChain : Type 0
BeginningsChain = (first second third : List CommitRecord) → IsPrefix first second → IsPrefix second third
    → IsPrefix first third

-- a history is a beginning of it and one commit more
abbrev pub OneMoreBeginsWithIt : Type 0
OneMoreBeginsWithIt = (history : List CommitRecord) (commit : CommitRecord) → IsPrefix history (history ++ commit ∷ [])

-- of two beginnings of one history the one that is not longer is a beginning of the other
abbrev pub BeginningsOfOneAgree : Type 0
BeginningsOfOneAgree = (first second whole : List CommitRecord) → IsPrefix first whole → IsPrefix second whole
    → length first ≤ length second → IsPrefix first second

-- a beginning is not longer
abbrev pub BeginningsAreShorter : Type 0
BeginningsAreShorter = (shorter longer : List CommitRecord) → IsPrefix shorter longer → length shorter ≤ length longer

-- a beginning that is as long as the whole is the whole
abbrev pub AsLongIsTheWhole : Type 0
AsLongIsTheWhole = (shorter longer : List CommitRecord) → IsPrefix shorter longer → length shorter ≡ length longer
    → shorter ≡ longer

-- the lines after a history and one commit more are the commit's action on the lines after it
abbrev pub LinesFollowCommits : Type 0
LinesFollowCommits = (base : Tables) (history : List CommitRecord) (commit : CommitRecord)
    → lines_after base (history ++ commit ∷ []) ≡ lines_after_refresh (lines_after base history) commit.actions

-- an order that is put is amended where it is live, and else added
abbrev pub PuttingAmendsOrAdds : Type 0
PuttingAmendsOrAdds = (base : Tables) (lines order : List LineFields)
    → let same = if is_present (order_key order) lines then Amend order else Add order in
    (lines_after_action lines (Put order) ≡ lines_after_action lines same)
    × (cause_of base lines (Put order) ≡ cause_of base lines same)

-- where a state stands for a history, the state after a commit stands for the history and that commit
abbrev pub StatesFollowCommits : Type 0
StatesFollowCommits = (state : State) (history : List CommitRecord) (commit : CommitRecord) → StandsFor state history
    → StandsFor (state_after state commit) (history ++ commit ∷ [])

-- facts with the same values are equal
abbrev pub SameFactsAreEqual : Type 0
SameFactsAreEqual = (fact other : Fact) → Decides (is_same fact other) (fact ≡ other)

-- the counts of a list tell how often each fact stands in it
abbrev pub CountsTellOccurrences : Type 0
CountsTellOccurrences = (facts : List Fact) (fact : Fact) → count_of (fact_counts facts) fact ≡ occurrences fact facts

-- a fact more counts once more, and no other does
abbrev pub OneFactCountsOnce : Type 0
OneFactCountsOnce = (counts : Counts) (fact other : Fact)
    → count_of (with_fact counts fact) other ≡ count_of counts other + (if is_same other fact then 1 else 0)

-- without an order no fact of it counts, and the others count as before
abbrev pub WithoutAnOrder : Type 0
WithoutAnOrder = (key : ℕ) (counts : Counts) (fact : Fact)
    → count_of (counts_without key counts) fact ≡ (if fact.order_key == key then 0 else count_of counts fact)

-- facts that come behind others are counted with them
abbrev pub AppendedFactsCount : Type 0
AppendedFactsCount = (facts more : List Fact) → fold with_fact (fact_counts facts) more ≡ fact_counts (facts ++ more)

-- two facts may be counted in either order
abbrev pub FactsCommute : Type 0
FactsCommute = (counts : Counts) (fact other : Fact) → with_fact (with_fact counts fact) other ≡ with_fact
    (with_fact counts other) fact

-- rearranged facts count the same
abbrev pub RearrangedCountEqual : Type 0
RearrangedCountEqual = (facts others : List Fact) → IsPermutation facts others → fact_counts facts ≡ fact_counts others

-- lists that have each fact as often are rearrangements of one another
abbrev pub EqualCountsRearrange : Type 0
EqualCountsRearrange = (facts others : List Fact) → fact_counts facts ≡ fact_counts others → IsPermutation facts others

-- two histories for which one state stands leave the same facts, rearranged
abbrev pub OneStateOneAnswer : Type 0
OneStateOneAnswer = (state : State) (history other : List CommitRecord) → StandsFor state history
    → StandsFor state other → IsPermutation (facts_of (lines_after state.base history))
    (facts_of (lines_after state.base other))

-- the one-thread warehouse makes a refresh that is not refused its next commit, and tells its number
abbrev pub AcceptedIsCommitted : Type 0
AcceptedIsCommitted = (base : Tables) (history : List CommitRecord) (commit : CommitRecord)
    → refusal_of base history commit.actions ≡ None
    → (warehouse_reply base history commit.actions ≡ Ok (record { number = length (history ++ commit ∷ []) }))
    × (warehouse_after base history commit ≡ history ++ commit ∷ [])

-- it tells a refusal with the number of commits so far, and changes nothing
abbrev pub RefusedChangesNothing : Type 0
RefusedChangesNothing = (base : Tables) (history : List CommitRecord) (commit : CommitRecord) (refusal : Refusal)
    → refusal_of base history commit.actions ≡ Some refusal
    → (warehouse_reply base history commit.actions ≡ Err (Refused (length history) refusal.action refusal.cause))
    × (warehouse_after base history commit ≡ history)

-- a reply tells the refusal of the refresh, or that it has none
abbrev pub RepliesTell : Type 0
RepliesTell = (base : Tables) (history : List CommitRecord) (actions : List Action)
    (reply : Result Receipt RefreshError) → IsRefreshReply base history actions reply → Tells reply base history actions
