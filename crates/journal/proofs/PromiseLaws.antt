-- What was promised of a file is among the groups of the next.
use Rattle.std.proofs.Common.{◌≡◌, ◌∙◌, ℕ, List, [], ◌∷◌, ◌++◌, ap, ⊎_elim, append_assoc}
use Rattle.journal.specs.Groups.{recovered, IsBeforeOrAfter}
use Rattle.journal.specs.Reading.{HasFirst}

-- a file that stands for the same groups as another
pub still_first : (groups : List (List ℕ)) (old new : List ℕ) → HasFirst groups old → recovered new ≡ recovered old → HasFirst groups new
still_first groups old new first same = (first.0, same ∙ first.1)

-- or for one more
pub first_either_way : (groups : List (List ℕ)) (old new group : List ℕ) → HasFirst groups old → IsBeforeOrAfter (recovered old) group new → HasFirst groups new
first_either_way groups old new group first is = ⊎_elim
    (λ (same : recovered new ≡ recovered old). still_first groups old new first same)
    (λ (more : recovered new ≡ recovered old ++ group ∷ []).
    (first.0 ++ group ∷ [], more ∙ ap (λ (l : List (List ℕ)). l ++ group ∷ []) first.1 ∙ append_assoc groups first.0 (group ∷ [])))
    is
