-- A commit is made again behind those that the reader of the log has seen.
use Rattle.std.proofs.Common.{◌≡◌, ℕ, ◌+◌, ◌<◌, List, [], ◌∷◌, ◌++◌, length, take, get_or, set, Some, refl, sym, ap}
use Rattle.std.proofs.Common.{◌∙◌, ◌-◌, ◌≤◌, Result, Ok, Err, subst, arith}
use Rattle.std.specs.Prelude.{IfErr, slice_get}
use Rattle.std.proofs.lemmas.List.{append_assoc, length_push, length-take-le, take_more}
use Rattle.std.proofs.lemmas.Option.{slice_get_read}
use Rattle.history.specs.Tokens.{TableRecord, TokenRecord}
use Rattle.history_core.specs.declared.event.Who.TheVariants.{Client}
use Rattle.row_store.proofs.PrefixLaws.{as_long_is_the_whole, beginnings_are_shorter, begins_with_itself, prefix_append}
use Rattle.row_store.specs.History.{CommitRecord, IsPrefix}
use Rattle.row_store.specs.Legal.{IsLegal}
use Rattle.row_store.specs.Refusals.{refusal_of}
use Rattle.row_store.specs.declared.commit.Receipt.{Receipt}
use Rattle.ssb_schema.specs.declared.refresh.Action.{Action}
use Rattle.ssb_base.specs.Base.{Tables}
use Rattle.ssb_journal.specs.declared.replaying.ReplayFault.TheVariants as replay
use Rattle.ssb_clients.specs.Clients.{Looks, Commits, Refreshed}
use Rattle.ssb_serving.specs.Members.{IsStill}
use Rattle.serve_command.proofs.SeatLaws.{seated_at, seated_set}
use Rattle.serve_command.specs.Remade.{IsNotMade, IsRemakeFault}
use Rattle.serve_command.specs.Seated.{AreSeated, IsSeated}
use Rattle.serve_command.specs.declared.unserved.JournaledFault.{JournaledFault}
use Rattle.serve_command.specs.declared.unserved.JournaledFault.TheVariants as fault

-- what begins with a list and is as long is that list
pub same_as_long : (first second : List CommitRecord) → IsPrefix first second → length first ≡ length second
    → second ≡ first
same_as_long first second begins same = sym (as_long_is_the_whole first second begins same)

-- the reader sees one commit more, and so does the client
pub record Remade (table : TableRecord) (before : List CommitRecord) (commit : CommitRecord)
    (reader client : TokenRecord) : Type 0 where
  pub made : reader.seen ≡ before ++ commit ∷ []
  pub seated : IsSeated table reader.seen commit.client client

-- who looked and then sees as many commits as the reader sees those
shown_same : (before : List CommitRecord) (number : ℕ) (shown : TokenRecord) → number ≡ length before + 1
    → IsPrefix before shown.seen → length shown.seen + 1 ≡ number → shown.seen ≡ before
shown_same before number shown numbered begins few =
    same_as_long before shown.seen begins (omega (arith, numbered, few))

-- the history of the commit is that of before
history_same : (before : List CommitRecord) (commit : CommitRecord) (number receipt : ℕ)
    (shown made again : TokenRecord) → number ≡ length before + 1 → shown.seen ≡ before
    → (commits : Commits shown commit receipt made) → IsPrefix made.seen again.seen → length again.seen ≡ number
    → made.seen ≡ before ++ commit ∷ []
history_same before commit number receipt shown made again numbered same commits met all =
    let ends : made.seen ≡ commits.history ++ commit ∷ [] = ap (λ (t : TokenRecord). t.seen) commits.now in
    let count : length made.seen ≡ length commits.history + 1 = ap length ends ∙ length_push commits.history commit in
    let short = beginnings_are_shorter made.seen again.seen met in
    let begins : IsPrefix before commits.history = subst (λ l. IsPrefix l commits.history) same commits.begins in
    let long = beginnings_are_shorter before commits.history begins in
    let history = same_as_long before commits.history begins (omega (arith, count, short, long, numbered, all)) in
    ends ∙ ap (λ l. l ++ commit ∷ []) history

-- what the client was told of the refresh of a commit
pub made_again : (table : TableRecord) (before : List CommitRecord) (commit : CommitRecord) (actions : List Action)
    (receipt : Receipt) (client shown made : TokenRecord) → IsSeated table before commit.client client
    → Looks client shown → actions ≡ commit.actions
    → ((number : ℕ) → shown.who ≡ Client number → Refreshed shown number actions (Ok receipt) made)
    → Commits shown commit receipt.number made
made_again table before commit actions receipt client shown made seated looked same refreshed =
    subst (λ list. Commits shown (record { client = commit.client; actions = list }) receipt.number made) same
    (refreshed commit.client (ap (λ (t : TokenRecord). t.who) looked.now ∙ seated.who_is))

-- it is still at its table
pub still_there : (table : TableRecord) (before : List CommitRecord) (commit : CommitRecord) (receipt : ℕ)
    (client shown made : TokenRecord) → IsSeated table before commit.client client → Looks client shown
    → Commits shown commit receipt made → made.table ≡ table
still_there table before commit receipt client shown made seated looked commits =
    ap (λ (t : TokenRecord). t.table) commits.now
    ∙ (ap (λ (t : TokenRecord). t.table) looked.now ∙ seated.table_is)

pub remade : (table : TableRecord) (before : List CommitRecord) (commit : CommitRecord) (number receipt : ℕ)
    (client shown made reader again : TokenRecord) → IsSeated table before commit.client client
    → number ≡ length before + 1 → IsPrefix before shown.seen → length shown.seen + 1 ≡ number → Looks client shown
    → Commits shown commit receipt made → IsPrefix made.seen reader.seen → length reader.seen ≡ number
    → Looks made again → length again.seen ≡ number → Remade table before commit reader again
remade table before commit number receipt client shown made reader again seated numbered begins few looked commits met
    all looked_again all_again =
    let same = shown_same before number shown numbered begins few in
    let whole = history_same before commit number receipt shown made reader numbered same commits met all in
    let count : length made.seen ≡ length before + 1 = ap length whole ∙ length_push before commit in
    let reader_is = same_as_long made.seen reader.seen met (omega (arith, count, numbered, all)) in
    let client_is = same_as_long made.seen again.seen looked_again.begins (omega (arith, count, numbered, all_again)) in
    record {
      made = reader_is ∙ whole;
      seated = record {
        table_is = ap (λ (t : TokenRecord). t.table) looked_again.now ∙ (ap (λ (t : TokenRecord). t.table) commits.now
            ∙ (ap (λ (t : TokenRecord). t.table) looked.now ∙ seated.table_is));
        who_is = ap (λ (t : TokenRecord). t.who) looked_again.now ∙ (ap (λ (t : TokenRecord). t.who) commits.now
            ∙ (ap (λ (t : TokenRecord). t.who) looked.now ∙ seated.who_is));
        quiet = ap (λ (t : TokenRecord). t.asked) looked_again.now ∙ (ap (λ (t : TokenRecord). t.asked) commits.now
            ∙ (ap (λ (t : TokenRecord). t.asked) looked.now ∙ seated.quiet));
        begins = subst (λ l. IsPrefix l reader.seen) (sym client_is) met;
      };
    }

-- the commit at a place, behind others
commit_behind : (before commits : List CommitRecord) (place : ℕ) (commit : CommitRecord) → place < length commits
    → commit ≡ get_or commits place commit
    → slice_get (before ++ commits) (length (before ++ take place commits)) ≡ Some commit
commit_behind [] commits place commit within here =
    ap (slice_get commits) (length-take-le place commits (omega (arith, within)))
    ∙ slice_get_read commits (length commits) place commit refl within here
commit_behind (first ∷ before) commits place commit within here = commit_behind before commits place commit within here

-- and those before it
before_commit : (before commits : List CommitRecord) (place : ℕ) → place < length commits
    → take (length (before ++ take place commits)) (before ++ commits) ≡ before ++ take place commits
before_commit [] commits place within =
    ap (λ n. take n commits) (length-take-le place commits (omega (arith, within)))
before_commit (first ∷ before) commits place within = ap (λ l. first ∷ l) (before_commit before commits place within)

-- one commit more
pub one_more : (before commits now after : List CommitRecord) (place : ℕ) (commit : CommitRecord)
    → place < length commits → commit ≡ get_or commits place commit → now ≡ before ++ take place commits
    → after ≡ now ++ commit ∷ [] → after ≡ before ++ take (place + 1) commits
one_more before commits now after place commit within here was is =
    is ∙ ap (λ l. l ++ commit ∷ []) was ∙ append_assoc before (take place commits) (commit ∷ [])
    ∙ ap (λ c. before ++ (take place commits ++ c ∷ [])) here
    ∙ ap (λ l. before ++ l) (sym (take_more commits place commit within))

-- the first commit that is not made again is the first that is refused
pub remake_fault : (base : Tables) (before commits now : List CommitRecord) (place : ℕ) (commit : CommitRecord)
    (why : JournaledFault) → place < length commits → commit ≡ get_or commits place commit
    → now ≡ before ++ take place commits → IsNotMade base now commit why
    → IsRemakeFault base (before ++ commits) why
remake_fault base before commits now place commit (fault.NotRun why) within here was is = absurd is
remake_fault base before commits now place commit (fault.Replay (replay.Refused number action cause)) within here was
    is =
    let all : now ≡ take (length now) (before ++ commits) =
    was ∙ sym (before_commit before commits place within) ∙ ap (λ l. take (length l) (before ++ commits)) (sym was) in
    record {
      place = length now;
      numbered = is.numbered;
      commit = commit;
      is = ap (λ l. slice_get (before ++ commits) (length l)) was ∙ commit_behind before commits place commit within here;
      legal = subst (IsLegal base) all is.legal;
      refused = subst
          (λ l. refusal_of base l commit.actions ≡ Some (record { action = action; cause = cause })) all is.refused;
    }
remake_fault base before commits now place commit (fault.Replay replay.OutOfMemory) within here was is = absurd is
remake_fault base before commits now place commit fault.Disturbed within here was is = tt
remake_fault base before commits now place commit fault.Write within here was is = absurd is
remake_fault base before commits now place commit fault.OutOfMemory within here was is = tt

-- the client of a commit
pub seat_of : (table : TableRecord) (seen : List CommitRecord) (clients : List TokenRecord) (number named : ℕ)
    (client : TokenRecord) → AreSeated table seen clients → number ≡ named → 0 < number
    → number ≤ length clients → client ≡ get_or clients (number - 1) client
    → IsSeated table seen named (get_or clients (number - 1) client)
seat_of table seen clients number named client seated is some within here =
    subst (IsSeated table seen named) here
    (seated_at table seen clients (number - 1) named client seated (omega (arith, is, some)) (omega (
      arith,
      some,
      within,
    )) here)

-- one commit more, and its client has seen it
pub next_seated : (table : TableRecord) (seen after : List CommitRecord) (commit : CommitRecord)
    (clients : List TokenRecord) (number : ℕ) (client : TokenRecord) → AreSeated table seen clients
    → after ≡ seen ++ commit ∷ [] → number ≡ commit.client → 0 < number
    → IsSeated table after commit.client client → AreSeated table after (set clients (number - 1) client)
next_seated table seen after commit clients number client seated grown is some new =
    seated_set table seen after clients (set clients (number - 1) client) (number - 1) commit.client client seated
    (subst (IsPrefix seen) (sym grown) (prefix_append seen (commit ∷ []))) refl (omega (arith, is, some)) new

pub still_still : (first second third : TokenRecord) → IsStill first second → IsStill second third
    → IsStill first third
still_still first second third one two = record {
  table = two.table ∙ one.table;
  who = two.who ∙ one.who;
}

-- what is told is why
pub fault_told : {X : Type 0} (P : JournaledFault → Type 0) (result : Result X JournaledFault) (why : JournaledFault)
    → result ≡ Err why → P why → IfErr result P
fault_told P result why is so = subst (λ r. IfErr r P) (sym is) so

-- a client that was shown just this history
pub shown_seated : (table : TableRecord) (history : List CommitRecord) (number : ℕ) (client shown : TokenRecord)
    → Looks client shown → shown.seen ≡ history → IsSeated table history number client
    → IsSeated table history number shown
shown_seated table history number client shown looked same seated = record {
  table_is = ap (λ (t : TokenRecord). t.table) looked.now ∙ seated.table_is;
  who_is = ap (λ (t : TokenRecord). t.who) looked.now ∙ seated.who_is;
  quiet = ap (λ (t : TokenRecord). t.asked) looked.now ∙ seated.quiet;
  begins = subst (λ l. IsPrefix l history) (sym same) (begins_with_itself history);
}

-- the client at a place is at the table
pub table_at : (table : TableRecord) (history : List CommitRecord) (clients : List TokenRecord) (place : ℕ)
    (client : TokenRecord) → AreSeated table history clients → place < length clients
    → client ≡ get_or clients place client → client.table ≡ table
table_at table history clients place client seated within here =
    (seated_at table history clients place (place + 1) client seated (omega arith) within here).table_is

-- one client more was shown the history
pub next_shown : (table : TableRecord) (history : List CommitRecord) (clients : List TokenRecord) (place : ℕ)
    (client shown : TokenRecord) → AreSeated table history clients → place < length clients
    → client ≡ get_or clients place client
    → ((number : ℕ) → IsSeated table history number client → IsSeated table history number shown)
    → AreSeated table history (set clients place shown)
next_shown table history clients place client shown seated within here still =
    seated_set table history history clients (set clients place shown) place (place + 1) shown seated
    (begins_with_itself history) refl (omega arith)
    (still (place + 1) (seated_at table history clients place (place + 1) client seated (omega arith) within here))
