-- The scripts that sources spell, and those that spell none.
use Rattle.std.specs.Prelude.{◌≡◌, ℕ, List, ◌∷◌, ◌++◌, Option, Some}
use Rattle.std.specs.List.{AllZip}
use Rattle.ssb_files.specs.Status.{script_status}
use Rattle.ssb_script.specs.Scripts.{AreAsked, most_records}
use Rattle.ssb_script.specs.Requests.{requests_of}
use Rattle.ssb_script.specs.Scripts.{IsScriptFault}
use Rattle.ssb_script.specs.declared.request.Script.{Script}
use Rattle.ssb_script.specs.declared.error.ScriptError.{ScriptError}

-- a script is refused: it has a fault, which is no failed read and no want of memory
pub record IsRefused (text : List ℕ) : Type 0 where
  pub fault : ScriptError
  pub first : IsScriptFault most_records text fault
  pub of_script : script_status fault ≡ 1

-- the script is refused, wherever its bytes are known
abbrev pub IsRefusedScript : Option (List ℕ) → Type 0
IsRefusedScript remaining = (text : List ℕ) → remaining ≡ Some text → IsRefused text

-- the bytes that each source had left, where they are known, spell the script at its place
abbrev pub AreScripts : List (Option (List ℕ)) → List Script → Type 0
AreScripts sources scripts = AllZip (λ source script. AreAsked source (requests_of script)) sources scripts

-- some sources are scripts, and the next one is refused, where its bytes are known
pub record HasRefused (sources : List (Option (List ℕ))) : Type 0 where
  pub before : List (Option (List ℕ))
  pub source : Option (List ℕ)
  pub rest : List (Option (List ℕ))
  pub parted : sources ≡ before ++ source ∷ rest
  pub scripts : List Script
  pub are : AreScripts before scripts
  pub refused : (text : List ℕ) → source ≡ Some text → IsRefused text
