-- The signs of a history add up.
use Rattle.std.proofs.Common.{◌≡◌, ℕ, zero, suc, ◌+◌, ◌<◌, ◌≤◌, Bool, true, false, cond, ◌&&◌, leb, List, [], ◌∷◌}
use Rattle.std.proofs.Common.{◌++◌, fold, take, refl, sym, ap, subst, ◌∙◌, arith}
use Rattle.std.specs.List.{count_by}
use Rattle.std.proofs.lemmas.List.Sums.{sum_by-append, sum_by-cons}
use Rattle.row_store.specs.History.{CommitRecord, lines_after}
use Rattle.row_store.specs.Lines.{added_by, lines_after_action, lines_after_refresh, lines_of, lines_without}
use Rattle.ssb_schema.specs.Orders.{order_key}
use Rattle.ssb_schema.specs.declared.line.LineFields.{LineFields}
use Rattle.ssb_schema.specs.declared.refresh.Action.{Action}
use Rattle.ssb_schema.specs.declared.refresh.Action.TheVariants.{Add, Amend, Put, Withdraw}
use Rattle.changes_command.specs.Laws.{SignsAddUp, came_by, went_by}
use Rattle.changes_command.specs.Signed.{SignedLine, changes_behind, changes_by, changes_by_all, signed, signed_lines}
use Rattle.changes_command.specs.Signed.{taken_by}
use Rattle.changes_command.specs.declared.signed.Sign.{Sign}
use Rattle.changes_command.specs.declared.signed.Sign.TheVariants.{Came, Went}

count_both : {X : Type 0} (p : X → Bool) (xs ys : List X) → count_by p (xs ++ ys) ≡ count_by p xs + count_by p ys
count_both p xs ys = sum_by-append (λ x. cond (p x) 1 0) xs ys

count_next : {X : Type 0} (p : X → Bool) (x : X) (xs : List X) → count_by p (x ∷ xs) ≡ cond (p x) 1 0 + count_by p xs
count_next p x xs = sum_by-cons (λ x. cond (p x) 1 0) x xs

within : (commit count : ℕ) → commit ≤ count → leb commit count ≡ true
within commit count few = grind arith

beyond : (commit count : ℕ) → count < commit → leb commit count ≡ false
beyond commit count many = grind arith

-- the lines of a commit within the first ones count as they are, each on its side
came_within : (count commit : ℕ) (holds : LineFields → Bool) (lines : List LineFields) → commit ≤ count
    → count_by (came_by count holds) (signed commit Came lines) ≡ count_by holds lines
came_within count commit holds [] few = refl
came_within count commit holds (line ∷ lines) few =
    count_next (came_by count holds) (record { commit = commit; sign = Came; line = line }) (signed commit Came lines)
    ∙ ap (λ b. cond (b && holds line) 1 0 + count_by (came_by count holds) (signed commit Came lines))
    (within commit count few)
    ∙ ap (λ n. cond (holds line) 1 0 + n) (came_within count commit holds lines few) ∙ sym (count_next holds line lines)

went_within : (count commit : ℕ) (holds : LineFields → Bool) (lines : List LineFields) → commit ≤ count
    → count_by (went_by count holds) (signed commit Went lines) ≡ count_by holds lines
went_within count commit holds [] few = refl
went_within count commit holds (line ∷ lines) few =
    count_next (went_by count holds) (record { commit = commit; sign = Went; line = line }) (signed commit Went lines)
    ∙ ap (λ b. cond (b && holds line) 1 0 + count_by (went_by count holds) (signed commit Went lines))
    (within commit count few)
    ∙ ap (λ n. cond (holds line) 1 0 + n) (went_within count commit holds lines few) ∙ sym (count_next holds line lines)

came_of_went : (count commit : ℕ) (holds : LineFields → Bool) (lines : List LineFields)
    → count_by (came_by count holds) (signed commit Went lines) ≡ 0
came_of_went count commit holds [] = refl
came_of_went count commit holds (line ∷ lines) = grind (arith, count_next, came_of_went count commit holds lines)

went_of_came : (count commit : ℕ) (holds : LineFields → Bool) (lines : List LineFields)
    → count_by (went_by count holds) (signed commit Came lines) ≡ 0
went_of_came count commit holds [] = refl
went_of_came count commit holds (line ∷ lines) = grind (arith, count_next, went_of_came count commit holds lines)

-- one action: what comes and goes by it
kept_and_gone : (key : ℕ) (holds : LineFields → Bool) (lines : List LineFields)
    → count_by holds lines ≡ count_by holds (lines_of key lines) + count_by holds (lines_without key lines)
kept_and_gone key holds [] = refl
kept_and_gone key holds (line ∷ lines) = grind (arith, count_next, kept_and_gone key holds lines)

came_at : (count commit : ℕ) (holds : LineFields → Bool) (lines : List LineFields) (action : Action) → commit ≤ count
    → count_by (came_by count holds) (changes_by commit lines action) ≡ count_by holds (added_by action)
came_at count commit holds lines action few =
    let went = came_of_went count commit holds (taken_by lines action) in
    let came = came_within count commit holds (added_by action) few in
    let sum = count_both (came_by count holds) (signed commit Went (taken_by lines action))
    (signed commit Came (added_by action)) in
    omega (arith, came, went, sum)

went_at : (count commit : ℕ) (holds : LineFields → Bool) (lines : List LineFields) (action : Action) → commit ≤ count
    → count_by (went_by count holds) (changes_by commit lines action) ≡ count_by holds (taken_by lines action)
went_at count commit holds lines action few =
    let came = went_of_came count commit holds (added_by action) in
    let went = went_within count commit holds (taken_by lines action) few in
    let sum = count_both (went_by count holds) (signed commit Went (taken_by lines action))
    (signed commit Came (added_by action)) in
    omega (arith, came, went, sum)

after_action : (holds : LineFields → Bool) (lines : List LineFields) (action : Action)
    → count_by holds lines + count_by holds (added_by action) ≡ count_by holds (taken_by lines action)
    + count_by holds (lines_after_action lines action)
after_action holds lines (Add order) = grind (arith, count_both)
after_action holds lines (Amend order) =
    grind (arith, count_both, kept_and_gone (order_key order) holds lines)
after_action holds lines (Put order) =
    grind (arith, count_both, kept_and_gone (order_key order) holds lines)
after_action holds lines (Withdraw key) = grind (arith, kept_and_gone key holds lines)

-- the actions of a commit within the first ones
after_actions : (count commit : ℕ) (holds : LineFields → Bool) (lines : List LineFields) (actions : List Action)
    → commit ≤ count
    → count_by (came_by count holds) (changes_by_all commit lines actions) + count_by holds lines
    ≡ count_by (went_by count holds) (changes_by_all commit lines actions)
    + count_by holds (lines_after_refresh lines actions)
after_actions count commit holds lines [] few = refl
after_actions count commit holds lines (action ∷ later) few =
    let rest = after_actions count commit holds (lines_after_action lines action) later few in
    let came = came_at count commit holds lines action few in
    let went = went_at count commit holds lines action few in
    let one = after_action holds lines action in
    let came_all = count_both (came_by count holds) (changes_by commit lines action)
    (changes_by_all commit (lines_after_action lines action) later) in
    let went_all = count_both (went_by count holds) (changes_by commit lines action)
    (changes_by_all commit (lines_after_action lines action) later) in
    omega (arith, rest, came, went, one, came_all, went_all)

-- later commits do not count
none_beyond : (count commit : ℕ) (holds : LineFields → Bool) (sign : Sign) (lines : List LineFields) → count < commit
    → (count_by (came_by count holds) (signed commit sign lines) ≡ 0)
    × (count_by (went_by count holds) (signed commit sign lines) ≡ 0)
none_beyond count commit holds sign [] many = (refl, refl)
none_beyond count commit holds Came (line ∷ lines) many =
    grind (arith, beyond, count_next, none_beyond count commit holds Came lines)
none_beyond count commit holds Went (line ∷ lines) many =
    grind (arith, beyond, count_next, none_beyond count commit holds Went lines)

actions_beyond : (count commit : ℕ) (holds : LineFields → Bool) (lines : List LineFields) (actions : List Action)
    → count < commit
    → (count_by (came_by count holds) (changes_by_all commit lines actions) ≡ 0)
    × (count_by (went_by count holds) (changes_by_all commit lines actions) ≡ 0)
actions_beyond count commit holds lines [] many = (refl, refl)
actions_beyond count commit holds lines (action ∷ later) many =
    let went = none_beyond count commit holds Went (taken_by lines action) many in
    let came = none_beyond count commit holds Came (added_by action) many in
    let rest = actions_beyond count commit holds (lines_after_action lines action) later many in
    let next = changes_by_all commit (lines_after_action lines action) later in
    let sum : (p : SignedLine → Bool) → count_by p (changes_by_all commit lines (action ∷ later))
    ≡ count_by p (signed commit Went (taken_by lines action)) + count_by p (signed commit Came (added_by action))
    + count_by p next
    = λ p. count_both p (changes_by commit lines action) next ∙ ap (λ n. n + count_by p next)
    (count_both p (signed commit Went (taken_by lines action)) (signed commit Came (added_by action))) in (
      omega (arith, sum (came_by count holds), went.0, came.0, rest.0),
      omega (arith, sum (went_by count holds), went.1, came.1, rest.1),
    )

commits_beyond : (count before : ℕ) (holds : LineFields → Bool) (lines : List LineFields) (history : List CommitRecord)
    → count ≤ before
    → (count_by (came_by count holds) (changes_behind before lines history) ≡ 0)
    × (count_by (went_by count holds) (changes_behind before lines history) ≡ 0)
commits_beyond count before holds lines [] few = (refl, refl)
commits_beyond count before holds lines (commit ∷ later) few =
    let rest = commits_beyond count (before + 1) holds (lines_after_refresh lines commit.actions) later
    (omega (arith, few)) in
    let here = actions_beyond count (before + 1) holds lines commit.actions (omega (arith, few)) in
    let sum : (p : SignedLine → Bool) → count_by p (changes_behind before lines (commit ∷ later))
    ≡ count_by p (changes_by_all (before + 1) lines commit.actions)
    + count_by p (changes_behind (before + 1) (lines_after_refresh lines commit.actions) later)
    = λ p. count_both p (changes_by_all (before + 1) lines commit.actions)
    (changes_behind (before + 1) (lines_after_refresh lines commit.actions) later) in (
      omega (arith, sum (came_by count holds), here.0, rest.0),
      omega (arith, sum (went_by count holds), here.1, rest.1),
    )

abbrev lines_behind : List LineFields → List CommitRecord → List LineFields
lines_behind lines history = fold (λ now (commit : CommitRecord). lines_after_refresh now commit.actions) lines history

-- so many commits behind others
after_commits : (before more : ℕ) (holds : LineFields → Bool) (lines : List LineFields) (history : List CommitRecord)
    → count_by (came_by (before + more) holds) (changes_behind before lines history) + count_by holds lines
    ≡ count_by (went_by (before + more) holds) (changes_behind before lines history)
    + count_by holds (lines_behind lines (take more history))
after_commits before zero holds lines history =
    let none = commits_beyond (before + 0) before holds lines history (omega arith) in
    omega (arith, none.0, none.1)
after_commits before (suc more) holds lines [] = refl
after_commits before (suc more) holds lines (commit ∷ later) =
    let count = before + suc more in
    let now = lines_after_refresh lines commit.actions in
    let same : before + 1 + more ≡ count = omega arith in
    let rest : count_by (came_by count holds) (changes_behind (before + 1) now later) + count_by holds now
    ≡ count_by (went_by count holds) (changes_behind (before + 1) now later)
    + count_by holds (lines_behind now (take more later))
    = subst (λ n. count_by (came_by n holds) (changes_behind (before + 1) now later) + count_by holds now
    ≡ count_by (went_by n holds) (changes_behind (before + 1) now later)
    + count_by holds (lines_behind now (take more later))) same (after_commits (before + 1) more holds now later) in
    let here = after_actions count (before + 1) holds lines commit.actions (omega arith) in
    let came = count_both (came_by count holds) (changes_by_all (before + 1) lines commit.actions)
    (changes_behind (before + 1) now later) in
    let went = count_both (went_by count holds) (changes_by_all (before + 1) lines commit.actions)
    (changes_behind (before + 1) now later) in
    omega (arith, rest, here, came, went)

pub signs_add_up : SignsAddUp
signs_add_up past base history count holds =
    let commits = changes_behind past base.lines history in
    let sum : (p : SignedLine → Bool) → count_by p (signed_lines past base history)
    ≡ count_by p (signed past Came base.lines) + count_by p commits
    = λ p. count_both p (signed past Came base.lines) commits in
    let loaded = came_within (past + count) past holds base.lines (omega arith) in
    let none = went_of_came (past + count) past holds base.lines in
    let after : count_by (came_by (past + count) holds) commits + count_by holds base.lines
    ≡ count_by (went_by (past + count) holds) commits + count_by holds (lines_after base (take count history))
    = after_commits past count holds base.lines history in
    omega (arith, after, sum (came_by (past + count) holds), sum (went_by (past + count) holds), loaded, none)
