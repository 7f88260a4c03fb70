-- What is asked alone is a script, which asks it record by record.
use Rattle.std.proofs.Common.{◌≡◌, ◌∷◌, All, ℕ, [], List, Result, Ok, map, refl, ap, arith}
use Rattle.std.specs.List.{AllZip}
use Rattle.std.proofs.lemmas.List.Elements.{All-cons, All-nil}
use Rattle.ssb_script.specs.Laws.{IsScriptOfQuestions}
use Rattle.ssb_script.specs.Lines.{RecordFault, ScriptLine, line_of}
use Rattle.ssb_script.specs.Lines as line
use Rattle.ssb_script.specs.Questions.{IsAskedBy, Says}
use Rattle.ssb_script.specs.Requests.{Ask, IsWholeRequest}
use Rattle.ssb_script.specs.Scripts.{Spell, lines_in}
use Rattle.ssb_script.specs.declared.request.Asking.{Asking}
use Rattle.ssb_script.specs.declared.request.Asking.TheVariants.{Alone, Together, Statement as Stated}
use Rattle.ssb_script.proofs.QuestionsLaws.{zip_length}

-- the line of what a record asks; a block has none
abbrev line_for : Asking → ScriptLine
line_for (Alone question) = line.Query question
line_for (Stated asked) = line.Sql asked.value.text
line_for (Together questions) = line.Ask

abbrev own_line : Asking → List ScriptLine
own_line asking = line_for asking ∷ []

says_it : (spelled : Result ScriptLine RecordFault) (asking : Asking) → Says spelled asking
    → spelled ≡ Ok (line_for asking)
says_it spelled (Alone question) says = says
says_it spelled (Stated asked) says = says.0
says_it spelled (Together questions) says = absurd says

spells_it : (spelled : Result ScriptLine RecordFault) (asking : Asking) → Says spelled asking
    → Spell (Ask asking) (own_line asking)
spells_it spelled (Alone question) says = refl
spells_it spelled (Stated asked) says = refl
spells_it spelled (Together questions) says = absurd says

is_whole : (spelled : Result ScriptLine RecordFault) (asking : Asking) → Says spelled asking
    → IsWholeRequest (Ask asking)
is_whole spelled (Alone question) says = tt
is_whole spelled (Stated asked) says = says.1
is_whole spelled (Together questions) says = absurd says

lines_said : (records : List (List (List ℕ))) (asked : List Asking) → AllZip IsAskedBy records asked
    → map line_of records ≡ map Ok (map line_for asked)
lines_said [] [] each = refl
lines_said [] (asking ∷ asked) each = absurd each
lines_said (fields ∷ records) [] each = absurd each
lines_said (fields ∷ records) (asking ∷ asked) each =
    let first : line_of fields ≡ Ok (line_for asking) = says_it (line_of fields) asking each.0 in
    let rest : map line_of records ≡ map Ok (map line_for asked) = lines_said records asked each.1 in cc

each_spelled : (records : List (List (List ℕ))) (asked : List Asking) → AllZip IsAskedBy records asked
    → AllZip Spell (map Ask asked) (map own_line asked)
each_spelled [] [] each = tt
each_spelled [] (asking ∷ asked) each = absurd each
each_spelled (fields ∷ records) [] each = absurd each
each_spelled (fields ∷ records) (asking ∷ asked) each =
    (spells_it (line_of fields) asking each.0, each_spelled records asked each.1)

lines_joined : (asked : List Asking) → map line_for asked ≡ lines_in (map own_line asked)
lines_joined [] = refl
lines_joined (asking ∷ asked) = ap (λ lines. line_for asking ∷ lines) (lines_joined asked)

all_whole : (records : List (List (List ℕ))) (asked : List Asking) → AllZip IsAskedBy records asked
    → All IsWholeRequest (map Ask asked)
all_whole [] [] each = All-nil IsWholeRequest
all_whole [] (asking ∷ asked) each = absurd each
all_whole (fields ∷ records) [] each = absurd each
all_whole (fields ∷ records) (asking ∷ asked) each =
    All-cons IsWholeRequest (Ask asking) (map Ask asked) (is_whole (line_of fields) asking each.0)
    (all_whole records asked each.1)

pub is_script : (text : List ℕ) → IsScriptOfQuestions text
is_script text asked asks = record {
  records = asks.records;
  all = asks.all;
  few = omega (arith, zip_length IsAskedBy asks.records asked asks.each, asks.count);
  lines = map line_for asked;
  said = lines_said asks.records asked asks.each;
  spelled = record {
    parts = map own_line asked;
    each = each_spelled asks.records asked asks.each;
    joined = lines_joined asked;
  };
  whole = all_whole asks.records asked asks.each;
}
