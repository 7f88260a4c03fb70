-- A legal history has no more commits than the limit, and leaves no more lines than the limit.
use Rattle.std.proofs.Common.{◌≡◌, ℕ, zero, suc, ◌+◌, ◌<◌, ◌≤◌, List, [], ◌∷◌, ◌++◌, length, take}
use Rattle.std.proofs.Common.{Option, Some, None, refl, ap, sym, subst, ◌∙◌, arith, zero-le, length-append}
use Rattle.std.proofs.lemmas.Bool.Decides.{nat_tests}
use Rattle.std.proofs.lemmas.List.{take_all}
use Rattle.std.specs.Prelude.{if◌then◌else◌, slice_get}
use Rattle.std.specs.Option.{option_or, option_map}
use Rattle.ssb_schema.specs.declared.line.LineFields.{LineFields}
use Rattle.ssb_schema.specs.declared.refresh.Action.{Action}
use Rattle.ssb_schema.specs.declared.refresh.Action.TheVariants.{Add, Amend, Put, Withdraw}
use Rattle.ssb_base.specs.Base.{Tables}
use Rattle.row_store.specs.History.{CommitRecord, lines_after}
use Rattle.row_store.specs.Lines.{lines_after_action, lines_after_refresh}
use Rattle.row_store.specs.Refusals.{order_cause, cause_of, first_refusal, refusal_of}
use Rattle.row_store.specs.Legal.{IsLegal}
use Rattle.row_store.specs.Laws.{LegalHistoriesAreFew}
use Rattle.row_store.proofs.CountedLaws.{length_kept}
use Rattle.row_store.proofs.StateLaws.{lines_after-push}

second_none : {X : Type 0} (first second : Option X) → option_or first second ≡ None → second ≡ None
second_none None second e = e
second_none (Some x) second e = absurd (cc e)

first_none : {X Y : Type 0} (f : X → Y) (first : Option X) (second : Option Y)
    → option_or (option_map f first) second ≡ None → first ≡ None
first_none f None second e = refl
first_none f (Some x) second e = absurd (cc e)

rest_none : {X Y : Type 0} (f : X → Y) (first : Option X) (second : Option Y)
    → option_or (option_map f first) second ≡ None → second ≡ None
rest_none f None second e = e
rest_none f (Some x) second e = absurd (cc e)

joined_few : (base : Tables) (lines order : List LineFields) → order_cause base lines order ≡ None
    → length (lines ++ order) ≤ base.limits.lines
joined_few base lines order e = grind (arith, second_none, length-append, nat_tests)

few_after_action : (base : Tables) (lines : List LineFields) (action : Action) → cause_of base lines action ≡ None
    → length lines ≤ base.limits.lines → length (lines_after_action lines action) ≤ base.limits.lines
few_after_action base lines (Add order) e h = grind (arith, joined_few)
few_after_action base lines (Amend order) e h = grind (arith, joined_few)
few_after_action base lines (Put order) e h = grind (arith, joined_few)
few_after_action base lines (Withdraw key) e h = grind (arith, length_kept)

few_after_refresh : (base : Tables) (number : ℕ) (lines : List LineFields) (actions : List Action)
    → first_refusal base number lines actions ≡ None → length lines ≤ base.limits.lines
    → length (lines_after_refresh lines actions) ≤ base.limits.lines
few_after_refresh base number lines [] e h = grind arith
few_after_refresh base number lines (action ∷ actions) e h = grind (arith, rest_none, few_after_action, first_none, few_after_refresh base (number + 1) (lines_after_action lines action) actions (rest_none _ (cause_of base lines action) _ e) (few_after_action base lines action (first_none _ (cause_of base lines action) _ e) h))

few_after_commit : (base : Tables) (history : List CommitRecord) (commit : CommitRecord)
    → refusal_of base history commit.actions ≡ None → length (lines_after base history) ≤ base.limits.lines
    → length (lines_after base (history ++ commit ∷ [])) ≤ base.limits.lines
few_after_commit base history commit e h = grind (arith, lines_after-push, few_after_refresh)

-- a beginning of one commit more, or of all of them already
data Next (A : Type 0) (l : List A) (n : ℕ) : Type 0 where
  more : (x : A) → slice_get l n ≡ Some x → take (suc n) l ≡ take n l ++ x ∷ [] → Next A l n
  done : take (suc n) l ≡ take n l → Next A l n

next : {A : Type 0} (l : List A) (n : ℕ) → Next A l n
next [] zero = done refl
next [] (suc n) = done refl
next (x ∷ xs) zero = more x refl refl
next {A = A} (x ∷ xs) (suc n) = go (next xs n)
  where
    go : Next A xs n → Next A (x ∷ xs) (suc n)
    go (more y at e) = more y at (ap (λ l. x ∷ l) e)
    go (done e) = done (ap (λ l. x ∷ l) e)

-- the lines after the first commits of a legal history
pub few_after : (base : Tables) (history : List CommitRecord) → IsLegal base history
    → length base.lines ≤ base.limits.lines → (n : ℕ) → length (lines_after base (take n history)) ≤ base.limits.lines
few_after base history legal few zero = grind arith
few_after base history legal few (suc n) = grind (arith, next, few_after_commit, few_after base history legal few n)

-- a commit that is not refused finds room in the log
room_for : (base : Tables) (history : List CommitRecord) (commit : CommitRecord)
    → refusal_of base history commit.actions ≡ None → length history < base.limits.commits
room_for base history commit e = grind (arith, nat_tests)

-- the commits of a legal history
few_commits : (base : Tables) (history : List CommitRecord) → IsLegal base history → (n : ℕ)
    → length (take n history) ≤ base.limits.commits
few_commits base history legal zero = zero-le
few_commits base history legal (suc n) = go (few_commits base history legal n) (next history n)
  where
    go : length (take n history) ≤ base.limits.commits → Next CommitRecord history n
        → length (take (suc n) history) ≤ base.limits.commits
    go h (more commit at e) =
        let room = room_for base (take n history) commit (legal.accepted n commit at) in
        let count : length (take (suc n) history) ≡ length (take n history) + 1 =
        ap length e ∙ length-append (take n history) (commit ∷ []) in
        omega (arith, room, count)
    go h (done e) = subst (λ l. length l ≤ base.limits.commits) (sym e) h

pub few_commits_of : (base : Tables) (history : List CommitRecord) → IsLegal base history
    → length history ≤ base.limits.commits
few_commits_of base history legal = subst (λ l. length l ≤ base.limits.commits)
    (take_all (length history) history (omega arith)) (few_commits base history legal (length history))

pub legal_histories_are_few : LegalHistoriesAreFew
legal_histories_are_few base history sound legal = (
  few_commits_of base history legal,
  subst (λ l. length (lines_after base l) ≤ base.limits.lines) (take_all (length history) history (omega arith))
      (few_after base history legal sound.few (length history)),
)
