-- Laws of the fields of a record.
use Rattle.std.proofs.Common.{◌≡◌, ℕ, zero, suc, List, [], ◌∷◌, Option, Some, None, get_or, refl, ◌∙◌, ap, Bor}
use Rattle.std.specs.Option.{unwrap_or, option_map}
use Rattle.csv.specs.Records.{field_at}

-- the field at a place, or no bytes past the end
pub unwrap_or-field_at : (fields : List (List ℕ)) (i : ℕ) → unwrap_or (field_at fields i) [] ≡ get_or fields i []
unfolding field_at
unwrap_or-field_at [] i = refl
unwrap_or-field_at (f ∷ fs) zero = refl
unwrap_or-field_at (f ∷ fs) (suc i) = unwrap_or-field_at fs i

pub field_read : (o : Option (Bor (List ℕ))) (r : Bor (List ℕ)) (fields : List (List ℕ)) (i : ℕ)
    → option_map (λ s. s.now) o ≡ field_at fields i → r.now ≡ [] → (unwrap_or o r).now ≡ get_or fields i []
field_read None r fields i e empty = empty ∙ ap (λ x. unwrap_or x []) e ∙ unwrap_or-field_at fields i
field_read (Some f) r fields i e empty = ap (λ x. unwrap_or x []) e ∙ unwrap_or-field_at fields i
