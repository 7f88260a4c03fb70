-- Deeds that were added one call after another.
use Rattle.std.proofs.Common.{◌≡◌, List, ◌++◌, ◌∙◌, append_assoc}

-- three additions are one
pub added_three : {X : Type 0} (a b c d : List X) → ((a ++ b) ++ c) ++ d ≡ a ++ (b ++ (c ++ d))
added_three a b c d = append_assoc (a ++ b) c d ∙ append_assoc a b (c ++ d)
