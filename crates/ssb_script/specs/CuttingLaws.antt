-- Laws of the cutting of a text into requests, and of what these ask.
use Rattle.std.specs.Prelude.{◌≡◌, ◌≤◌, ℕ, List, [], ◌∷◌, ◌++◌, length}
use Rattle.std.specs.List.{AllByRecursion, AllZip, flat_map}
use Rattle.ssb_text.specs.TextLines.{HasNoLoneReturn, HasNoMark}
use Rattle.ssb_script.specs.Cutting.{IsCutInto}
use Rattle.ssb_script.specs.Requests.{RequestRecord}
use Rattle.ssb_script.specs.Scripts.{SpellsScript}

-- a text can be cut
abbrev pub HasCutting : List ℕ → Type 0
HasCutting text = (requests : List (List ℕ)) × (rest : List ℕ) × IsCutInto text requests rest

-- a text is cut in one way only
abbrev pub HasOneCutting : List ℕ → Type 0
HasOneCutting text =
    (one other : List (List ℕ)) (rest left : List ℕ) → IsCutInto text one rest → IsCutInto text other left
    → (one ≡ other) × (rest ≡ left)

-- whatever follows a text, its requests come first, and then those of what was left with what follows
abbrev pub IsCutAsItComes : List ℕ → Type 0
IsCutAsItComes text =
    (requests all : List (List ℕ)) (rest more left : List ℕ) → IsCutInto text requests rest
    → IsCutInto (text ++ more) all left
    → (next : List (List ℕ)) × (all ≡ requests ++ next) × IsCutInto (rest ++ more) next left

-- what a client's text is given as: its requests, and what is left behind them
abbrev pub request_texts : List (List ℕ) → List ℕ → List (List ℕ)
request_texts requests rest = requests ++ rest ∷ []

-- what is asked is what these requests ask, at most one thing each, and then what is left, each read as a script of its
-- own
pub record AskedBy (most : ℕ) (requests : List (List ℕ)) (rest : List ℕ) (wanted : List RequestRecord) : Type 0 where
  pub each : List (List RequestRecord)
  pub last : List RequestRecord
  pub joined : wanted ≡ flat_map (λ r. r) each ++ last
  pub spelled : AllZip (SpellsScript most) requests each
  pub few : AllByRecursion (λ asked. length asked ≤ 1) each
  pub spelled_last : SpellsScript most rest last

-- so it is of what a legal script asks
abbrev pub HasScriptOfRequests : ℕ → List ℕ → Type 0
HasScriptOfRequests most text =
    (requests : List (List ℕ)) (rest : List ℕ) (wanted : List RequestRecord)
    → IsCutInto text requests rest → HasNoLoneReturn text → AllByRecursion HasNoMark (request_texts requests rest)
    → SpellsScript most text wanted → AskedBy most requests rest wanted
