-- Beginnings of histories, and what an entered copy stands for.
use Rattle.std.proofs.Common.{◌≡◌, map, ℕ, ◌<◌, ◌≤◌, ◌≢◌, List, [], ◌∷◌, ◌++◌, length, take, drop, refl, ap, sym, subst}
use Rattle.std.proofs.Common.{◌∙◌, arith, append_assoc}
use Rattle.std.proofs.lemmas.List.{append-nil}
use Rattle.std.specs.Prelude.{Result, Ok, Err, MatchResult, OnOk, OnErr, is_err, false}
use Rattle.std.specs.declared.alloc.AllocError.{AllocError}
use Rattle.std.proofs.lemmas.List.{map-id}
use Rattle.row_store.specs.History.{CommitRecord, IsPrefix}
use Rattle.row_store.proofs.PrefixLaws.{begins_with_itself, beginnings_chain, beginnings_are_shorter}
use Rattle.row_store.proofs.PrefixLaws.{as_long_is_the_whole, prefix_take, prefix_drop, prefix_behind}
use Rattle.row_store.specs.State.{State, StandsFor}
use Rattle.ssb_base.specs.Base.{Tables}
use Rattle.ssb_answers.specs.declared.answer.Unserved.TheVariants.{Twin}
use Rattle.history_core.specs.Events as event
use Rattle.history.specs.Tokens.{TableRecord, TokenRecord, with_writer, without_writer}
use Rattle.twin_cell.specs.Twin.{Writing, Reading, Entered}
use Rattle.ssb_server.proofs.DeedLaws.{added_three}
use Rattle.ssb_server.specs.Deeds as deeds
use Rattle.ssb_clients.specs.Fetching.{IsDispatcher, Fetches}
use Rattle.ssb_clients.proofs.FetchingLaws.{beside_seen}
use Rattle.ssb_server.specs.Turns.{HasFetched, HasTaken, StandsAt, Knows, Follows, AppendsFirst, IsTrueCause, IsFound}

-- what an iterator has given so far
pub prefix_yielded : (list yielded : List CommitRecord) → map (λ y. y) yielded ≡ take (length yielded) list
    → IsPrefix yielded list
prefix_yielded list yielded e = subst (λ xs. IsPrefix xs list) (sym (sym (map-id yielded) ∙ e))
    (prefix_take (length yielded) list)

-- an entered copy that holds just as many commits as were told stands for what was told
pub stands_at : (base : Tables) (list : List CommitRecord) (reader : Reading) (guard : Entered)
    → reader.base ≡ base → reader.told ≡ list → guard.state.base ≡ reader.base → guard.told ≡ reader.told
    → IsPrefix reader.told guard.list → StandsFor guard.state guard.list → guard.state.commits ≡ length list
    → StandsAt base list guard
stands_at base list reader guard here knows over told begins stands count =
    let n : guard.state.commits ≡ length guard.list = ap (λ (s : State). s.commits) stands in
    let p : IsPrefix list guard.list = subst (λ xs. IsPrefix xs guard.list) knows begins in
    let whole : guard.list ≡ list = sym (as_long_is_the_whole list guard.list p (sym count ∙ n)) in
    record {
      base_is = over ∙ here;
      stands = subst (λ xs. StandsFor guard.state xs) whole stands;
      told = subst (λ xs. IsPrefix xs list) (sym (told ∙ knows)) (begins_with_itself list);
    }

-- the reader that left it knows what was told
pub left_knows : (base : Tables) (list : List CommitRecord) (reader : Reading) (guard : Entered) (back : Reading)
    → reader.base ≡ base → reader.told ≡ list → guard.state.base ≡ reader.base → guard.told ≡ reader.told
    → back.base ≡ guard.state.base → back.told ≡ guard.told → Knows base list back
left_knows base list reader guard back here knows over told back_base back_told = grind (arith, begins_with_itself)

-- a copy whose number of commits is not the told one has more, which its reader entered
pub ahead : (list : List CommitRecord) (reader : Reading) (guard : Entered) (back : Reading) (told found : ℕ)
    → reader.told ≡ list → IsPrefix reader.told guard.list → StandsFor guard.state guard.list → back.last ≡ guard.list
    → told ≡ length list → found ≡ guard.state.commits → found ≢ told
    → IsTrueCause list (Twin told found) × IsFound back (Twin told found)
ahead list reader guard back told found knows begins stands last told_is found_is apart = grind (arith, beginnings_are_shorter)

-- the writer has the first of the commits pending too
pub first_follows : (before : Writing) (commits : List CommitRecord) (after : Writing)
    → AppendsFirst before commits after → Follows before.base (before.published ++ before.pending ++ commits) after
first_follows before commits after has = grind (arith, append_assoc, prefix_behind)

-- it has all of them pending
pub all_follow : (before : Writing) (commits : List CommitRecord) (after : Writing)
    → after ≡ record before { pending = before.pending ++ commits }
    → Follows before.base (before.published ++ before.pending ++ commits) after
all_follow before commits after now = grind (arith, append_assoc, begins_with_itself)

-- and publishes them
pub all_published : (before : Writing) (commits : List CommitRecord) (between after : Writing)
    → between ≡ record before { pending = before.pending ++ commits }
    → after ≡ record { base = between.base; published = between.published ++ between.pending; pending = [] }
    → after ≡ record { base = before.base; published = before.published ++ before.pending ++ commits; pending = [] }
all_published before commits between after now is = grind (arith, append_assoc)

pub published_follows : (base : Tables) (list : List CommitRecord) (after : Writing)
    → after ≡ record { base = base; published = list; pending = [] } → Follows base list after
published_follows base list after now = subst (λ w. Follows base list w) (sym now)
    record { base_is = refl; taken = subst (λ xs. IsPrefix xs list) (sym (append-nil list)) (begins_with_itself list) }

abbrev pub renewed : Writing → List CommitRecord → Writing
renewed before commits = record {
  base = before.base;
  published = before.published ++ before.pending ++ commits;
  pending = [];
}

-- a publication of all that was appended
pub renews : (before : Writing) (commits : List CommitRecord) (between : Writing)
    (result : Result (Unit {0}) AllocError) (after : Writing)
    → between ≡ record before { pending = before.pending ++ commits }
    → MatchResult result (λ _. after ≡ record {
      base = between.base;
      published = between.published ++ between.pending;
      pending = [];
    }) (λ _. after ≡ between)
    → MatchResult result (λ _. after ≡ renewed before commits)
    (λ _. Follows before.base (before.published ++ before.pending ++ commits) after)
renews before commits between (Ok _) after now is = all_published before commits between after now is
renews before commits between (Err _) after now is = all_follow before commits after (is ∙ now)

-- the writer follows, whether it published or not
pub renewed_follows : (before : Writing) (commits : List CommitRecord) (result : Result (Unit {0}) AllocError)
    (after : Writing) → MatchResult result (λ _. after ≡ renewed before commits)
    (λ _. Follows before.base (before.published ++ before.pending ++ commits) after)
    → Follows before.base (before.published ++ before.pending ++ commits) after
renewed_follows before commits (Ok _) after is = published_follows before.base
    (before.published ++ before.pending ++ commits) after is
renewed_follows before commits (Err _) after is = is

pub renewed_is : (before : Writing) (commits : List CommitRecord) (result : Result (Unit {0}) AllocError)
    (after : Writing) → MatchResult result (λ _. after ≡ renewed before commits)
    (λ _. Follows before.base (before.published ++ before.pending ++ commits) after) → is_err result ≡ false
    → after ≡ renewed before commits
renewed_is before commits (Ok _) after is ok = is
renewed_is before commits (Err _) after is ok = absurd (cc)

-- a writer's list and the commits that were fetched after it are all that the token sees
pub fetched_all : (t : TokenRecord) (writer : Writing) (taken : ℕ) (after : TokenRecord) (commits : List CommitRecord)
    → HasTaken t writer → taken ≡ length (writer.published ++ writer.pending) → Fetches t after
    → commits ≡ drop taken after.seen
    → writer.published ++ writer.pending ++ commits ≡ after.seen
fetched_all t writer taken after commits has count fetches is = grind (arith, beside_seen, prefix_drop)

pub taken_follows : (t : TokenRecord) (writer : Writing) (after : TokenRecord) → HasTaken t writer → Fetches t after
    → Follows after.table.base after.seen writer
taken_follows t writer after has fetches = grind (arith, beside_seen)

pub knows_later : (t : TokenRecord) (reader : Reading) (after : TokenRecord) → Fetches t after → Knows t.table.base t.seen reader
    → Knows after.table.base after.seen reader
knows_later t reader after fetches knows = grind (arith, beginnings_chain)

-- the writer's base is that of the token, before and after
pub same_base : (t : TokenRecord) (writer : Writing) (after : TokenRecord) → HasTaken t writer → Fetches t after
    → after.table.base ≡ writer.base
same_base t writer after has fetches = ap (λ (u : TokenRecord). u.table.base) fetches.now ∙ sym has.base_is

-- what is said of a base and a list holds of equal ones
pub along : (P : Tables → List CommitRecord → Type 0) {base other : Tables} {list more : List CommitRecord}
    → base ≡ other → list ≡ more → P base list → P other more
along P {base} {other} {list} {more} e f h = subst (λ xs. P other xs) f (subst (λ b. P b list) e h)

pub dispatcher_with : (table : TableRecord) (t : TokenRecord) (list : List CommitRecord) (u : TokenRecord) → u ≡ with_writer t list
    → IsDispatcher table t → IsDispatcher table u
dispatcher_with table t list u e is = subst (λ x. IsDispatcher table x) (sym e)
    record { table_is = is.table_is; number = is.number; who_is = is.who_is }

pub dispatcher_fetched : (table : TableRecord) (t u : TokenRecord) → Fetches t u → IsDispatcher table t → IsDispatcher table u
dispatcher_fetched table t u fetches is = subst (λ x. IsDispatcher table x) (sym fetches.now)
    record { table_is = is.table_is; number = is.number; who_is = is.who_is }

pub taken_with : (t : TokenRecord) (writer : Writing) (u : TokenRecord) → u ≡ with_writer t (writer.published ++ writer.pending)
    → writer.base ≡ t.table.base → HasTaken u writer
taken_with t writer u e base = subst (λ x. HasTaken x writer) (sym e)
    record { more = t.beside; beside_is = refl; base_is = base }

pub snapshot_fetched : (before : TokenRecord) (list : List CommitRecord) (taken fetched after : TokenRecord)
    → before.has_writer ≡ false → taken ≡ with_writer before list → Fetches taken fetched
    → after ≡ without_writer fetched → HasFetched before after
snapshot_fetched before list taken fetched after free first fetches put = grind (arith, added_three)

-- the writer follows as before when it has published once more, or failed to
pub again_follows : (base : Tables) (list : List CommitRecord) (between : Writing)
    (result : Result (Unit {0}) AllocError) (after : Writing)
    → OnOk result (after ≡ record between { published = between.published ++ between.pending; pending = [] })
    → OnErr result (after ≡ between) → Follows base list between → Follows base list after
again_follows base list between (Ok _) after is same follows = grind (arith, append-nil)
again_follows base list between (Err _) after is same follows = grind arith
