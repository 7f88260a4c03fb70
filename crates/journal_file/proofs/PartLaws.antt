-- The bytes of one part more.
use Rattle.std.proofs.Common.{◌≡◌, ◌∙◌, ℕ, List, [], ◌∷◌, ◌++◌, Vec, Global, ap}
use Rattle.std.proofs.lemmas.Grind.{flat_map-append}
use Rattle.std.proofs.lemmas.List.{append-nil}
use Rattle.journal_file.specs.Parts.{bytes_of}

pub bytes_more : (parts : List (Vec ℕ Global)) (part : Vec ℕ Global)
    → bytes_of (parts ++ part ∷ []) ≡ bytes_of parts ++ part.items
bytes_more parts part =
    flat_map-append (λ (p : Vec ℕ Global). p.items) parts (part ∷ []) ∙ ap (λ (l : List ℕ). bytes_of parts ++ l) (append-nil part.items)
