-- Histories that are joined.
use Rattle.std.proofs.Common.{◌≡◌, ◌⊎◌, ℕ, zero, suc, zero-add, suc-add, length-take-le, ◌+◌, ◌-◌, ◌<◌, ◌≤◌, Bool, false, cond, List, [], ◌∷◌, ◌++◌, length, take}
use Rattle.std.proofs.Common.{refl, sym, ap, ap₂, ◌∙◌, inl, inr, arith, Some, None, slice_get, length-append}
use Rattle.std.proofs.lemmas.Bool.{cases_lt, lt-leb}
use Rattle.std.proofs.lemmas.List.{take-append-le}
use Rattle.std.proofs.lemmas.List.Sums.{fold-append}
use Rattle.std.proofs.Math.Seq.{take-append-add}
use Rattle.std.specs.Prelude.{nat_le}
use Rattle.std.proofs.lemmas.Option.{slice_get_within}
use Rattle.row_store.specs.declared.refusal.Cause.TheVariants.{LogFull}
use Rattle.std.specs.Option.{option_or, option_map}
use Rattle.ssb_schema.specs.declared.line.LineFields.{LineFields}
use Rattle.ssb_schema.specs.declared.refresh.Action.{Action}
use Rattle.ssb_schema.specs.declared.refresh.Action.TheVariants.{Add, Amend, Put, Withdraw}
use Rattle.ssb_base.specs.Base.{Tables}
use Rattle.row_store.specs.Lines.{lines_after_action, lines_after_refresh}
use Rattle.row_store.specs.History.{CommitRecord, lines_after}
use Rattle.row_store.specs.Refusals.{cause_of, first_refusal, refusal_of}
use Rattle.tables_join.specs.Joined.{tables_after, TablesJoin, LegalHistoriesJoin, TablesFollowCommits}

lines-join : (base : Tables) (history later : List CommitRecord)
    → lines_after base (history ++ later) ≡ lines_after (tables_after base history) later
lines-join base history later =
    fold-append (λ lines (commit : CommitRecord). lines_after_refresh lines commit.actions) base.lines history later

pub tables_join : TablesJoin
tables_join base history later =
    ap (λ (lines : List LineFields). record { limits = base.limits; dimensions = base.dimensions; lines = lines })
    (lines-join base history later)

-- what is refused depends on the dimensions, the limits and the lines alone
cause-same : (base : Tables) (history : List CommitRecord) (lines : List LineFields) (action : Action)
    → cause_of (tables_after base history) lines action ≡ cause_of base lines action
cause-same base history lines (Add order) = refl
cause-same base history lines (Amend order) = refl
cause-same base history lines (Put order) = refl
cause-same base history lines (Withdraw key) = refl

refusal-same : (base : Tables) (history : List CommitRecord) (number : ℕ) (lines : List LineFields) (actions : List Action)
    → first_refusal (tables_after base history) number lines actions ≡ first_refusal base number lines actions
refusal-same base history number lines [] = refl
refusal-same base history number lines (action ∷ actions) =
    ap₂ (λ cause rest. option_or (option_map (λ cause. record { action = number; cause = cause }) cause) rest)
    (cause-same base history lines action)
    (refusal-same base history (number + 1) (lines_after_action lines action) actions)

-- where the log is not full
not-full : (base : Tables) (history : List CommitRecord) (actions : List Action) → length history < base.limits.commits
    → refusal_of base history actions ≡ first_refusal base 1 (lines_after base history) actions
not-full base history actions few =
    let no : nat_le base.limits.commits (length history) ≡ false = lt-leb base.limits.commits (length history) few in
    ap (λ (b : Bool). cond b (Some (record { action = 0; cause = LogFull })) (first_refusal base 1 (lines_after base history) actions)) no

refusal-join : (base : Tables) (history later : List CommitRecord) (actions : List Action)
    → length (history ++ later) < base.limits.commits
    → refusal_of (tables_after base history) later actions ≡ None → refusal_of base (history ++ later) actions ≡ None
refusal-join base history later actions few none =
    let short : length later < base.limits.commits = omega (arith, length-append history later) in
    not-full base (history ++ later) actions few
    ∙ ap (λ (lines : List LineFields). first_refusal base 1 lines actions) (lines-join base history later)
    ∙ sym (refusal-same base history 1 (lines_after (tables_after base history) later) actions)
    ∙ sym (not-full (tables_after base history) later actions short) ∙ none

-- an element of joined lists is one of the first, or one of the second
get-left : {A : Type 0} (xs ys : List A) (i : ℕ) → i < length xs → slice_get (xs ++ ys) i ≡ slice_get xs i
get-left [] ys i low = absurd (omega arith)
get-left (x ∷ xs) ys zero low = refl
get-left (x ∷ xs) ys (suc i) low = get-left xs ys i (omega arith)

get-right : {A : Type 0} (xs ys : List A) (j : ℕ) → slice_get (xs ++ ys) (length xs + j) ≡ slice_get ys j
get-right [] ys j = ap (slice_get ys) (zero-add j)
get-right (x ∷ xs) ys j = ap (slice_get (x ∷ (xs ++ ys))) (suc-add (length xs) j) ∙ get-right xs ys j

pub legal_histories_join : LegalHistoriesJoin
legal_histories_join base history later few legal behind = record {
  accepted = λ i commit is. by i commit is (cases_lt i (length history));
}
  where
    by : (i : ℕ) (commit : CommitRecord) → slice_get (history ++ later) i ≡ Some commit
        → (i < length history) ⊎ (length history ≤ i) → refusal_of base (take i (history ++ later)) commit.actions ≡ None
    by i commit is (inl low) =
        ap (λ (h : List CommitRecord). refusal_of base h commit.actions) (take-append-le i history later (omega arith))
        ∙ legal.accepted i commit (sym (get-left history later i low) ∙ is)
    by i commit is (inr high) =
        let place : i ≡ length history + (i - length history) = omega arith in
        let inside : i < length (history ++ later) = slice_get_within (history ++ later) i commit is in
        let there : slice_get later (i - length history) ≡ Some commit =
        sym (get-right history later (i - length history))
        ∙ ap (λ (n : ℕ). slice_get (history ++ later) n) (sym place) ∙ is in
        let front : take i (history ++ later) ≡ history ++ take (i - length history) later =
        ap (λ (n : ℕ). take n (history ++ later)) place ∙ take-append-add history later (i - length history) in
        let long : length (take i (history ++ later)) ≡ i = length-take-le i (history ++ later) (omega arith) in
        let same : length (take i (history ++ later)) ≡ length (history ++ take (i - length history) later) = ap length front in
        let fewer : length (history ++ take (i - length history) later) < base.limits.commits = omega arith in
        ap (λ (h : List CommitRecord). refusal_of base h commit.actions) front
        ∙ refusal-join base history (take (i - length history) later) commit.actions fewer
        (behind.accepted (i - length history) commit there)

pub tables_follow_commits : TablesFollowCommits
tables_follow_commits base [] = refl
tables_follow_commits base (commit ∷ history) = tables_follow_commits (tables_after base (commit ∷ [])) history
