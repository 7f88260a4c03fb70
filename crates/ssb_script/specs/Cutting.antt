-- The requests of a text: what a client asks at once.
use Rattle.std.specs.Prelude.{◌≡◌, ℕ, true, false, List, [], ◌∷◌, ◌++◌, Some, None}
use Rattle.std.specs.List.{AllByRecursion, concat}
use Rattle.ssb_text.specs.TextLines.{IsLine}
use Rattle.ssb_script.specs.Blocks.{opens, closes}
use Rattle.ssb_script.specs.declared.block.BlockKind.{BlockKind}

-- the last of these lines, and no other, ends the block
abbrev pub EndAt : BlockKind → List (List ℕ) → Type 0
EndAt block [] = ⊥
EndAt block (line ∷ []) = closes block line ≡ true
EndAt block (line ∷ next ∷ lines) = (closes block line ≡ false) × EndAt block (next ∷ lines)

-- these lines are one request: a line that begins no block, or one that does and the lines through the first that ends
-- it
abbrev pub MakeRequest : List (List ℕ) → Type 0
MakeRequest [] = ⊥
MakeRequest (line ∷ []) = opens line ≡ None
MakeRequest (line ∷ next ∷ lines) = (block : BlockKind) × (opens line ≡ Some block) × EndAt block (next ∷ lines)

-- these bytes are one request
pub record IsRequest (bytes : List ℕ) : Type 0 where
  pub lines : List (List ℕ)
  pub joined : bytes ≡ concat lines
  pub each : AllByRecursion IsLine lines
  pub makes : MakeRequest lines

-- a request stands at the front of these bytes
pub record BeginsWithRequest (bytes : List ℕ) : Type 0 where
  pub request : List ℕ
  pub more : List ℕ
  pub is : IsRequest request
  pub joined : bytes ≡ request ++ more

-- no request stands at the front of these bytes
abbrev pub IsUnfinished : List ℕ → Type 0
IsUnfinished bytes = (request more : List ℕ) → IsRequest request → bytes ≡ request ++ more → ⊥

-- these are the requests of a text, in order, and this is left at its end, where no request ends
pub record IsCutInto (text : List ℕ) (requests : List (List ℕ)) (rest : List ℕ) : Type 0 where
  pub joined : text ≡ concat requests ++ rest
  pub each : AllByRecursion IsRequest requests
  pub unfinished : IsUnfinished rest
