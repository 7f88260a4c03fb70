use Rattle.std.proofs.Common.{arith}
-- Sources that spell scripts, one after another.
use Rattle.std.proofs.Common.{ℕ, List, [], ◌∷◌, ◌++◌, Option}
use Rattle.ssb_files.specs.Scripts.{AreScripts}
use Rattle.ssb_script.specs.Scripts.{AreAsked}
use Rattle.ssb_script.specs.Requests.{requests_of}
use Rattle.ssb_script.specs.declared.request.Script.{Script}

-- one script more
pub more_scripts : (sources : List (Option (List ℕ))) (scripts : List Script) (source : Option (List ℕ))
    (script : Script)
    → AreScripts sources scripts → AreAsked source (requests_of script) → AreScripts (sources ++ source ∷ [])
    (scripts ++ script ∷ [])
more_scripts [] [] source script are asked = grind arith
more_scripts [] (x ∷ scripts) source script are asked = grind arith
more_scripts (s ∷ sources) [] source script are asked = grind arith
more_scripts (s ∷ sources) (x ∷ scripts) source script are asked
    = grind (arith, more_scripts sources scripts source script are.1 asked)
