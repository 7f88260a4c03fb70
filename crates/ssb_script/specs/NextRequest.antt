-- What a read of the next request of a text gives, and why it gives none.
use Rattle.std.specs.Prelude.{◌≡◌, ◌<◌, ℕ, List, [], ◌∷◌, length, Option, Some, None}
use Rattle.ssb_script.specs.Cutting.{IsRequest, IsUnfinished, IsCutInto}
use Rattle.ssb_script.specs.declared.cutting.NextRequest.{NextRequest}
use Rattle.ssb_script.specs.declared.cutting.NextRequest.TheVariants as found
use Rattle.ssb_script.specs.declared.request_error.RequestError.{RequestError}
use Rattle.ssb_script.specs.declared.request_error.RequestError.TheVariants as error

-- these bytes are the whole of a text, or less than the whole, if it is known
abbrev pub IsAllOf : Option (List ℕ) → List ℕ → Type 0
IsAllOf None bytes = Unit {0}
IsAllOf (Some text) bytes = text ≡ bytes

abbrev pub IsLessThan : Option (List ℕ) → List ℕ → Type 0
IsLessThan None bytes = Unit {0}
IsLessThan (Some text) bytes = length bytes < length text

-- what a read of the next request found: the bytes that it took of the text that was left
abbrev pub IsFound : NextRequest → Option (List ℕ) → List ℕ → Type 0
IsFound found.Request text bytes = IsRequest bytes
IsFound found.Rest text bytes = IsUnfinished bytes × (0 < length bytes) × IsAllOf text bytes
IsFound found.Nothing text bytes = (bytes ≡ []) × IsAllOf text bytes

-- why it found none: no request ends in the bytes that it took; where the request is too long, they are as many as may
-- be, and the text goes on
abbrev pub IsRequestFault : RequestError → ℕ → Option (List ℕ) → List ℕ → Type 0
IsRequestFault error.TooLong limit text bytes = IsUnfinished bytes × (length bytes ≡ limit) × IsLessThan text bytes
IsRequestFault error.Read limit text bytes = IsUnfinished bytes
IsRequestFault error.OutOfMemory limit text bytes = IsUnfinished bytes

-- of a text that was cut at that request: however it is cut, the request is the first, and the others are those of what
-- is left; or what was found is all that it is cut into
abbrev pub IsNextOf : NextRequest → List ℕ → List ℕ → List ℕ → Type 0
IsNextOf found.Request text left bytes =
    (requests : List (List ℕ)) (rest : List ℕ) → IsCutInto text requests rest
    → (others : List (List ℕ)) × (requests ≡ bytes ∷ others) × IsCutInto left others rest
IsNextOf found.Rest text left bytes = IsCutInto text [] bytes
IsNextOf found.Nothing text left bytes = IsCutInto text [] []

-- the same of a reader, if its bytes are known
abbrev pub CutsNext : NextRequest → Option (List ℕ) → Option (List ℕ) → List ℕ → Type 0
CutsNext found None left bytes = Unit {0}
CutsNext found (Some text) None bytes = ⊥
CutsNext found (Some text) (Some left) bytes = IsNextOf found text left bytes

-- the first request of a text, or what is left where it has none
abbrev pub first_text : List (List ℕ) → List ℕ → List ℕ
first_text [] rest = rest
first_text (request ∷ requests) rest = request

-- that is longer than the limit, however the text is cut
abbrev pub BeginsBeyond : ℕ → List ℕ → Type 0
BeginsBeyond limit text =
    (requests : List (List ℕ)) (rest : List ℕ) → IsCutInto text requests rest
    → limit < length (first_text requests rest)
