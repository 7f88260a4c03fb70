-- Commits of client 1.
use Rattle.std.proofs.Common.{◌≡◌, ◌+◌, ◌-◌, ◌≤◌, ℕ, List, [], ◌∷◌, length, take, drop, map}
use Rattle.std.proofs.Common.{ap, sym, ◌∙◌, subst, arith}
use Rattle.std.proofs.Math.Seq.{take-add}
use Rattle.std.proofs.lemmas.List.{map-append, drop-take, drop-map, length-map, length-take}
use Rattle.std.specs.List.{AllByRecursion}
use Rattle.ssb_schema.specs.declared.refresh.Action.{Action}
use Rattle.row_store.specs.History.{CommitRecord, IsPrefix}
use Rattle.ssb_trace.specs.Allowed.{IsClient}
use Rattle.journal_tests.specs.OwnCommits.{own}

pub own_clients : {X : Type 0} (actions : X → List Action) (xs : List X)
    → AllByRecursion (λ (commit : CommitRecord). IsClient commit.client) (map (λ x. own (actions x)) xs)
own_clients actions [] = tt
own_clients actions (x ∷ xs) = ((omega arith, omega arith), own_clients actions xs)

-- more of the log is seen
pub seen_grows : {X : Type 0} (f : X → CommitRecord) (xs : List X) (old new : ℕ) → old ≤ new
    → IsPrefix (map f (take old xs)) (map f (take new xs))
seen_grows f xs old new le =
    let k : ℕ = new - old in
    let same : new ≡ old + k = omega (arith, le) in
    record {
      rest = map f (take k (drop old xs));
      whole = ap (λ n. map f (take n xs)) same ∙ ap (map f) (take-add old k xs)
          ∙ map-append f (take old xs) (take k (drop old xs));
    }

pub own_clients_of : {X : Type 0} (xs : List X) (actions : X → List Action) (commits : List CommitRecord)
    → commits ≡ map (λ x. own (actions x)) xs
    → AllByRecursion (λ (commit : CommitRecord). IsClient commit.client) commits
own_clients_of xs actions commits same =
    subst (AllByRecursion (λ (commit : CommitRecord). IsClient commit.client)) (sym same) (own_clients actions xs)

-- what is seen of the log behind the commits that were taken of an earlier look
pub seen_behind : {X : Type 0} (xs : List X) (f : X → CommitRecord) (taken old seen : ℕ)
    → taken ≤ length (map f (take old xs)) → old ≤ seen
    → map f (take (seen - taken) (drop taken xs)) ≡ drop taken (map f (take seen xs))
seen_behind xs f taken old seen few le =
    let k : ℕ = seen - taken in
    let same : seen ≡ taken + k = omega (arith, few, le, length-map (take old xs) f, length-take old xs) in
    sym (drop-map f taken (take seen xs) ∙ ap (map f) (ap (λ m. drop taken (take m xs)) same ∙ drop-take taken k xs))
