-- Items with that of the sum at its place, and lists that grow by one item.
use Rattle.std.proofs.Common.{◌≡◌, Bool, true, false, List, [], ◌∷◌, ◌++◌, map, refl, if◌then◌else◌}
use Rattle.std.proofs.lemmas.List.{map-append}
use Rattle.ssb_formats.specs.Cells.{in_place}
use Rattle.ssb_questions.specs.Query.{sum_first}
use Rattle.ssb_questions.specs.declared.query.Query.{Query}

map_placed : {X Y : Type 0} (f : X → Y) (first : Bool) (sum : X) (items : List X)
    → map f (if first then sum ∷ items else items ++ sum ∷ []) ≡ (if first then f sum ∷ map f items
    else map f items ++ f sum ∷ [])
map_placed f true sum items = refl
map_placed f false sum items = map-append f items (sum ∷ [])

-- what is made of each item stands where the item does
pub map_in_place : {X Y : Type 0} (f : X → Y) (query : Query) (sum : X) (items : List X)
    → map f (in_place query sum items) ≡ in_place query (f sum) (map f items)
map_in_place f query sum items = map_placed f (sum_first query) sum items

-- what is made of a list and one item more
pub map_push : {X Y : Type 0} (f : X → Y) (xs : List X) (x : X) → map f (xs ++ x ∷ []) ≡ map f xs ++ f x ∷ []
map_push f xs x = map-append f xs (x ∷ [])
