-- Columns after some commits of a trace.
use Rattle.std.proofs.Common.{◌≡◌, ℕ, ◌+◌, ◌-◌, ◌<◌, ◌≤◌, List, [], ◌∷◌, ◌++◌, length, take, drop, get_or, refl, ap}
use Rattle.std.proofs.Common.{sym, subst, ◌∙◌, append_assoc, arith}
use Rattle.std.proofs.lemmas.List.{take_more, take-append-drop, append-nil, length-take}
use Rattle.std.proofs.Math.Seq.{take-append-add}
use Rattle.ssb_base.specs.Base.{Tables, IsSound}
use Rattle.row_store.specs.History.{CommitRecord, lines_after}
use Rattle.row_store.specs.Legal.{IsLegal}
use Rattle.row_store.specs.State.{State, StandsFor, state_of, state_after}
use Rattle.row_store.proofs.FewLaws.{legal_histories_are_few}
use Rattle.row_store.proofs.HistoryLaws.{beginnings_are_legal}
use Rattle.row_store.proofs.PrefixLaws.{prefix_take}
use Rattle.row_store.proofs.RearrangedLaws.{states_follow_commits}
use Rattle.fact_columns.specs.Stored.{Stored, columns_state}
use Rattle.ssb_base.specs.Limits.{most_lines}
use Rattle.shared_scan.specs.Answers.{AreSnapshot}

-- one commit more
pub absorbed : (state new : State) (base : Tables) (front commits : List CommitRecord) (i : ℕ) (commit : CommitRecord)
    → i < length commits → commit ≡ get_or commits i commit
    → state ≡ state_of base (front ++ take i commits) → new ≡ state_after state commit
    → new ≡ state_of base (front ++ take (i + 1) commits)
absorbed state new base front commits i commit within is before after =
    let stands : StandsFor (state_of base (front ++ take i commits)) (front ++ take i commits) = refl in
    after ∙ ap (λ s. state_after s commit) before ∙ states_follow_commits (state_of base (front ++ take i commits))
    (front ++ take i commits) commit stands
    ∙ ap (state_of base) (append_assoc front (take i commits) (commit ∷ [])
    ∙ ap (λ t. front ++ t) (ap (λ t. take i commits ++ t ∷ []) is ∙ sym (take_more commits i commit within)))

-- no commit yet
pub absorbed_none : (state : State) (front commits : List CommitRecord) → StandsFor state front
    → state ≡ state_of state.base (front ++ take 0 commits)
absorbed_none state front commits stands = stands ∙ ap (state_of state.base) (sym (append-nil front))

-- the first commits, and those that follow them up to a place
pub taken_more : (commits : List CommitRecord) (taken at : ℕ) → taken ≤ at → at ≤ length commits → take taken commits
    ++ take (at - taken) (drop taken commits) ≡ take at commits
taken_more commits taken at le within =
    let count : length (take taken commits) ≡ taken = omega (arith, length-take taken commits, le, within) in
    let sum : length (take taken commits) + (at - taken) ≡ at = omega (arith, count, le) in
    sym (take-append-add (take taken commits) (drop taken commits) (at - taken))
    ∙ ap (λ n. take n (take taken commits ++ drop taken commits)) sum
    ∙ ap (take at) (take-append-drop taken commits)

at_most : (n most limit : ℕ) → n ≤ most → most ≤ limit → n ≤ limit
at_most n most limit few within = omega (arith, few, within)

-- columns of the first commits of a legal history can be scanned
pub snapshot_of : (columns : Stored) (base : Tables) (commits : List CommitRecord) (at : ℕ) → IsSound base
    → IsLegal base commits
    → columns_state columns ≡ state_of base (take at commits) → AreSnapshot columns
snapshot_of columns base commits at sound legal state =
    let same : columns.base ≡ base = ap (λ (s : State). s.base) state in
    let few = (legal_histories_are_few base (take at commits) sound
    (beginnings_are_legal base (take at commits) commits (prefix_take at commits) legal)).1 in
    record {
      history = take at commits;
      stands = state ∙ ap (λ b. state_of b (take at commits)) (sym same);
      few = subst (λ b. length (lines_after b (take at commits)) ≤ most_lines) (sym same)
          (at_most (length (lines_after base (take at commits))) base.limits.lines most_lines few
          base.limits.lines_range);
    }
