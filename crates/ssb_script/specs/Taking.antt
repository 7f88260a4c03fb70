-- What the reads of one line and of its pieces take from a reader, and what they tell.
use Rattle.std.specs.Prelude.{◌≡◌, ℕ, Bool, true, false, List, [], ◌∷◌, ◌++◌, Option, Some, None, Result, Ok, Err}
use Rattle.std.specs.List.{AllByRecursion, concat}
use Rattle.std.specs.Io.KnownBytes.{Consumes}
use Rattle.ssb_text.specs.TextLines.{HasNoLineEnd, IsLine}
use Rattle.ssb_script.specs.Blocks.{opens, closes}
use Rattle.ssb_script.specs.declared.block.BlockKind.{BlockKind}
use Rattle.ssb_script.specs.NextRequest.{IsAllOf, IsLessThan}
use Rattle.ssb_script.specs.declared.pieces.LinePiece.{LinePiece}
use Rattle.ssb_script.specs.declared.pieces.LinePiece.TheVariants as piece
use Rattle.ssb_script.specs.declared.request_error.RequestError.{RequestError}
use Rattle.ssb_script.specs.declared.request_error.RequestError.TheVariants as error

-- some bytes went from the front of what a reader has left to the end of a buffer, and of them this is true
pub record Took (old new : Option (List ℕ)) (before after : List ℕ) (Is : List ℕ → Type 0) : Type 0 where
  pub bytes : List ℕ
  pub appended : after ≡ before ++ bytes
  pub taken : Consumes old new bytes
  pub is : Is bytes

-- of the bytes that a read took of a text: that they end a line, or not, or that they are all
abbrev pub IsPiece : LinePiece → Option (List ℕ) → List ℕ → Type 0
IsPiece piece.Line text bytes = IsLine bytes
IsPiece piece.Part text bytes = HasNoLineEnd bytes
IsPiece piece.End text bytes = HasNoLineEnd bytes × IsAllOf text bytes

-- the same where the read failed, with so many bytes in the buffer
abbrev pub IsLineFault : RequestError → ℕ → ℕ → Option (List ℕ) → List ℕ → Type 0
IsLineFault error.TooLong limit count text bytes = HasNoLineEnd bytes × (count ≡ limit) × IsLessThan text bytes
IsLineFault error.Read limit count text bytes = HasNoLineEnd bytes
IsLineFault error.OutOfMemory limit count text bytes = HasNoLineEnd bytes

abbrev pub TellsPiece : Result LinePiece RequestError → ℕ → ℕ → Option (List ℕ) → List ℕ → Type 0
TellsPiece (Ok piece) limit count text bytes = IsPiece piece text bytes
TellsPiece (Err error) limit count text bytes = IsLineFault error limit count text bytes

-- of the bytes that a read took of a text: a whole line, or what the text still had of one
abbrev pub TellsLine : Result Bool RequestError → ℕ → ℕ → Option (List ℕ) → List ℕ → Type 0
TellsLine (Ok true) limit count text bytes = IsLine bytes
TellsLine (Ok false) limit count text bytes = HasNoLineEnd bytes × IsAllOf text bytes
TellsLine (Err error) limit count text bytes = IsLineFault error limit count text bytes

-- these lines begin a block that has not ended, or there are none
abbrev pub AreOpen : Option BlockKind → List (List ℕ) → Type 0
AreOpen None lines = lines ≡ []
AreOpen (Some block) [] = ⊥
AreOpen (Some block) (line ∷ lines) =
    (opens line ≡ Some block) × AllByRecursion (λ next. closes block next ≡ false) lines

-- these bytes are such lines
pub record IsOpen (begun : Option BlockKind) (bytes : List ℕ) : Type 0 where
  pub lines : List (List ℕ)
  pub joined : bytes ≡ concat lines
  pub each : AllByRecursion IsLine lines
  pub begins : AreOpen begun lines
