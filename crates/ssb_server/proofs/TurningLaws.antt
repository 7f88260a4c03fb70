-- The steps of a turn together.
use Rattle.std.proofs.Common.{append-nil, ◌≡◌, ℕ, ◌≤◌, List, [], ◌++◌, length, Some, ap, sym, subst, ◌∙◌, arith}
use Rattle.row_store.specs.History.{CommitRecord, lines_after}
use Rattle.row_store.specs.State.{State, StandsFor}
use Rattle.row_store.proofs.PrefixLaws.{beginnings_chain}
use Rattle.ssb_base.specs.Base.{Tables}
use Rattle.twin_cell.specs.Twin.{Reading, Entered}
use Rattle.history_core.specs.declared.dispatcher.Outcome.{Outcome}
use Rattle.history_core.specs.declared.dispatcher.Outcome.TheVariants.{Served, GivenUp}
use Rattle.history.specs.Tokens.{TableRecord, TokenRecord, IsFree}
use Rattle.ssb_server.specs.Hand.{Hand, no_hand, Keeps}
use Rattle.history.specs.Words.{IsCause}
use Rattle.ssb_answers.specs.declared.answer.Unserved.{Unserved as Cause}
use Rattle.ssb_answers.specs.declared.answer.Unserved.TheVariants.{OutOfMemory, Twin}
use Rattle.ssb_server.specs.Deeds as deeds
use Rattle.ssb_clients.specs.Fetching.{IsDispatcher}
use Rattle.ssb_server.specs.Turns.{HoldsNothing, HasGrabbed, HasFetched, HasFewLines, Knows, StandsAt, Gave, IsTrueCause}
use Rattle.ssb_server.specs.declared.turn.Turn.{Turn}
use Rattle.ssb_server.specs.declared.turn.Turn.TheVariants.{Idle, Answered, Unserved}
use Rattle.ssb_server.specs.Ends.{Finishes, Ends, Grows, Turned}
use Rattle.ssb_server.proofs.DeedLaws.{added_three}
use Rattle.ssb_server.proofs.GivingLaws.{none_grabbed}

pub grows : (t0 t1 t2 t3 : TokenRecord) (hand : Hand) (count : ℕ) (outcome : Outcome) → t0.grabbed ≡ []
    → HasGrabbed t0 hand t1 → HasFetched t1 t2 → Gave t2 count outcome t3 → 1 ≤ count → Keeps no_hand t3.grabbed
    → Grows t0 count outcome t3
grows t0 t1 t2 t3 hand count outcome none grabbed fetched gave some keeps = grind (arith, none_grabbed, append-nil, added_three)

pub turned : (t0 t1 t3 : TokenRecord) (hand : Hand) (turn : Turn) → t0.grabbed ≡ [] → HasGrabbed t0 hand t1 → Ends t1 turn t3
    → Keeps no_hand t3.grabbed → Turned t0 turn t3
turned t0 t1 t3 hand Idle none grabbed ends keeps = absurd ends.finished
turned t0 t1 t3 hand (Answered at count) none grabbed ends keeps = (
  ends.finished.0 ∙ ap (λ (u : TokenRecord). length u.seen) (sym ends.finished.2.now),
  grows t0 t1 ends.between t3 hand count (Served at) none grabbed ends.fetched ends.finished.2 ends.finished.1
      keeps,
)
turned t0 t1 t3 hand (Unserved count cause) none grabbed ends keeps = (
  subst (λ (u : TokenRecord). IsTrueCause u.seen cause) (sym ends.finished.2.now) ends.finished.1,
  grows t0 t1 ends.between t3 hand count (GivenUp cause) none grabbed ends.fetched ends.finished.2 ends.finished.0
      keeps,
)

-- a true cause is one that a dispatcher may tell
pub may_tell : (history : List CommitRecord) (cause : Cause) → IsTrueCause history cause → IsCause cause
may_tell history OutOfMemory is = tt
may_tell history (Twin told found) is = λ e. omega (arith, e, is.1)

-- after the parts are home the token is still the dispatcher's, and holds nothing
pub dispatcher_later : (table : TableRecord) (t u : TokenRecord) → HasFetched t u → IsDispatcher table t → IsDispatcher table u
dispatcher_later table t u fetched is = subst (λ x. IsDispatcher table x) (sym fetched.now)
    record { table_is = is.table_is; number = is.number; who_is = is.who_is }

pub nothing_later : (t u : TokenRecord) → HasFetched t u → HoldsNothing t → HoldsNothing u
nothing_later t u fetched is = subst HoldsNothing (sym fetched.now) record { rows = is.rows; writer = is.writer }

pub keeps_later : (t u : TokenRecord) (hand : Hand) → HasFetched t u → Keeps hand t.grabbed → Keeps hand u.grabbed
keeps_later t u hand fetched is = subst (λ (x : TokenRecord). Keeps hand x.grabbed) (sym fetched.now) is

pub version_later : (t u : TokenRecord) → HasFetched t u → u.version ≡ Some (length u.seen)
version_later t u fetched = ap (λ (x : TokenRecord). x.version) fetched.now

-- the table and what was seen stay
pub seen_finished : (P : TableRecord → List CommitRecord → Type 0) (t u : TokenRecord) (turn : Turn) → Finishes t turn u
    → P t.table t.seen → P u.table u.seen
seen_finished P t u Idle ends is = absurd ends
seen_finished P t u (Answered at count) ends is = subst (λ (x : TokenRecord). P x.table x.seen) (sym ends.2.now) is
seen_finished P t u (Unserved count cause) ends is = subst (λ (x : TokenRecord). P x.table x.seen) (sym ends.2.now) is

pub dispatcher_grabbed : (table : TableRecord) (t u : TokenRecord) (hand : Hand) → HasGrabbed t hand u → IsDispatcher table t
    → IsDispatcher table u
dispatcher_grabbed table t u hand grabbed is = subst (λ x. IsDispatcher table x) (sym grabbed.now)
    record { table_is = is.table_is; number = is.number; who_is = is.who_is }

pub nothing_grabbed : (t u : TokenRecord) (hand : Hand) → HasGrabbed t hand u → HoldsNothing t → HoldsNothing u
nothing_grabbed t u hand grabbed is = subst HoldsNothing (sym grabbed.now) record { rows = is.rows; writer = is.writer }

-- the entered copy stands for all that the token sees
pub has_few_lines : (t : TokenRecord) (guard : Entered) (state : State) → StandsAt t.table.base t.seen guard
    → state ≡ guard.state → length (lines_after t.table.base t.seen) ≤ t.table.base.limits.lines → HasFewLines state
has_few_lines t guard state at same few = grind arith

pub copy_stands : (t : TokenRecord) (guard : Entered) (state : State) → StandsAt t.table.base t.seen guard
    → state ≡ guard.state → StandsFor state t.seen
copy_stands t guard state at same = subst (λ s. StandsFor s t.seen) (sym same) at.stands

pub copy_base : (t : TokenRecord) (guard : Entered) (state : State) → StandsAt t.table.base t.seen guard
    → state ≡ guard.state → state.base ≡ t.table.base
copy_base t guard state at same = ap (λ (s : State). s.base) same ∙ at.base_is

-- the reader that left knows what is seen
pub left : (base : Tables) (seen : List CommitRecord) (guard : Entered) (back : Reading) → StandsAt base seen guard
    → back.base ≡ guard.state.base → back.told ≡ guard.told → Knows base seen back
left base seen guard back at back_base back_told = grind arith

pub knows_grabbed : (t u : TokenRecord) (hand : Hand) (reader : Reading) → HasGrabbed t hand u → Knows t.table.base t.seen reader
    → Knows u.table.base u.seen reader
knows_grabbed t u hand reader grabbed knows = subst (λ (x : TokenRecord). Knows x.table.base x.seen reader) (sym grabbed.now)
    knows

grown_free : (t u : TokenRecord) (count : ℕ) (outcome : Outcome) → Grows t count outcome u → IsFree t → IsFree u
grown_free t u count outcome grows free = subst IsFree (sym grows.now)
    record { rows = free.rows; writer = free.writer; hand = free.hand }

pub turned_free : (t u : TokenRecord) (turn : Turn) → Turned t turn u → IsFree t → IsFree u
turned_free t u Idle turned free = subst IsFree (sym turned) free
turned_free t u (Answered at count) turned free = grown_free t u count (Served at) turned.1 free
turned_free t u (Unserved count cause) turned free = grown_free t u count (GivenUp cause) turned.1 free

pub turned_who : (t u : TokenRecord) (turn : Turn) → Turned t turn u → u.who ≡ t.who
turned_who t u Idle turned = ap (λ (x : TokenRecord). x.who) turned
turned_who t u (Answered at count) turned = ap (λ (x : TokenRecord). x.who) turned.1.now
turned_who t u (Unserved count cause) turned = ap (λ (x : TokenRecord). x.who) turned.1.now

pub fetched_free : (t u : TokenRecord) → HasFetched t u → IsFree t → IsFree u
fetched_free t u fetched free = subst IsFree (sym fetched.now)
    record { rows = free.rows; writer = free.writer; hand = free.hand }

pub fetched_knows : (t u : TokenRecord) (reader : Reading) → HasFetched t u → Knows t.table.base t.seen reader
    → Knows u.table.base u.seen reader
fetched_knows t u reader fetched knows = grind (arith, beginnings_chain)
