-- Fields behind references.
use Rattle.std.proofs.Common.{◌≡◌, ◌++◌, ℕ, List, [], ◌∷◌, map, flat_map, refl, ap, Bor}
use Rattle.terminal.specs.Typed.{field_text}

-- the texts of fields behind references are those of the fields
pub over_references : (fields : List (Bor (List ℕ)))
    → flat_map field_text (map (λ field. field.now) fields) ≡ flat_map (λ field. field_text field.now) fields
over_references [] = refl
over_references (field ∷ fields) = ap (λ (text : List ℕ). field_text field.now ++ text) (over_references fields)
