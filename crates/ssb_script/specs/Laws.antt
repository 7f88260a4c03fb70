-- Laws over what a text spells.
use Rattle.std.specs.Prelude.{◌≡◌, ℕ, true, List, map}
use Rattle.std.specs.List.{AllZip}
use Rattle.ssb_script.specs.Questions.{AsksEach, most_alone}
use Rattle.ssb_script.specs.Requests.{Ask, AreAlike, RequestRecord, has_statement}
use Rattle.ssb_script.specs.Scripts.{EndsOpen, IsFirstFault, SpellsScript}
use Rattle.ssb_script.specs.declared.error.ScriptError.{ScriptError}
use Rattle.ssb_script.specs.declared.error.ScriptError.TheVariants as error
use Rattle.ssb_script.specs.declared.request.Asking.{Asking}

-- a text has one reading, whatever the bounds of records: it spells no two lists of requests, but for what of its
-- statements their texts are not shown to determine
abbrev pub HasOneReading : List ℕ → Type 0
HasOneReading text = (most more : ℕ) (one other : List RequestRecord) → SpellsScript most text one
    → SpellsScript more text other → AllZip AreAlike one other

-- a fault is that of a statement's text
abbrev pub IsOfStatement : ScriptError → Type 0
IsOfStatement (error.Sql number why) = Unit {0}
IsOfStatement _ = ⊥

-- a text that spells a script has no fault: it ends in no refresh or block, and no record of it is the first with one, but
-- for that of a statement's text, which the script then asks
abbrev pub HasNoFaultIfSpelled : List ℕ → Type 0
HasNoFaultIfSpelled text = (most : ℕ) (wanted : List RequestRecord) → SpellsScript most text wanted
    → ((fault : ScriptError) → IsFirstFault most text fault → IsOfStatement fault × (has_statement wanted ≡ true))
    × ((fault : ScriptError) → EndsOpen most text fault → ⊥)

-- a text that asks this and nothing else spells the script that asks it, record by record
abbrev pub IsScriptOfQuestions : List ℕ → Type 0
IsScriptOfQuestions text = (asked : List Asking) → AsksEach text asked → SpellsScript most_alone text (map Ask asked)
