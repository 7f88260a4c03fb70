-- An answer as a JSON object on a line.
use Rattle.std.specs.Prelude.{ℕ, ℤ, List, ◌++◌, map, codes, Option, Some, None}
use Rattle.serde_json.specs.Data.{Data, Members, null, number, unsigned, string, array, object, member, no_members, put}
use Rattle.serde_json.specs.Find.{of_integer}
use Rattle.serde_json.specs.View.{items_of}
use Rattle.serde_json.specs.Written.{compact_text}
use Rattle.ssb_questions.specs.Queries.{plan_over}
use Rattle.ssb_questions.specs.Query.{name_of}
use Rattle.ssb_questions.specs.declared.query.Query.{Query}
use Rattle.ssb_questions.specs.declared.value.Value.{Value}
use Rattle.ssb_questions.specs.declared.value.Value.TheVariants.{Text, Number}
use Rattle.ssb_answers.specs.declared.answer.ResultRow.{ResultRow}
use Rattle.ssb_answers.specs.declared.answer.Answer.{Answer}
use Rattle.ssb_answers.specs.declared.answer.Answer.TheVariants as answer
use Rattle.ssb_answers.specs.declared.answer.Unserved.{Unserved}
use Rattle.ssb_answers.specs.declared.answer.Unserved.TheVariants as unserved
use Rattle.ssb_text.specs.Numbers.{line_feed}
use Rattle.ssb_formats.specs.Cells.{heads_of, in_place}

-- a value as a text or a number, and a sum as a number, or null where there is none
abbrev pub text_data : List ℕ → Data
text_data text = string text

abbrev pub value_data : Value → Data
value_data (Text text) = text_data text
value_data (Number n) = number (unsigned n)

abbrev pub sum_data : Option ℤ → Data
sum_data None = null
sum_data (Some sum) = number (of_integer sum)

abbrev pub list_data : List Data → Data
list_data list = array (items_of list)

-- a row: its printed columns
abbrev pub row_data : Query → ResultRow → Data
row_data query row = list_data (in_place query (sum_data row.sum) (map value_data row.groups))

-- the members of an answer with rows, in the order of their names
abbrev pub served_members : List ℕ → ℕ → Data → Data → Data → Members
served_members name at columns constants rows =
    member (codes "at") (number (unsigned at))
    (member (codes "columns") columns
    (member (codes "constants") constants
    (member (codes "query") (text_data name)
    (member (codes "rows") rows no_members))))

-- the rows that answer a question after so many commits, with the heads of their columns
abbrev pub rows_members : Query × List Value → ℕ → List ResultRow → Members
rows_members question at rows =
    served_members (name_of question.0) at
    (list_data (map text_data (heads_of question.0 (plan_over question.0 question.1))))
    (list_data (map value_data question.1))
    (list_data (map (row_data question.0) rows))

-- why there are no rows
abbrev pub cause_name : Unserved → List ℕ
cause_name unserved.OutOfMemory = codes "out of memory"
cause_name (unserved.Twin told found) = codes "twin"

abbrev pub unserved_members : Query × List Value → Unserved → Members
unserved_members question cause =
    member (codes "constants") (list_data (map value_data question.1))
    (member (codes "query") (text_data (name_of question.0))
    (member (codes "unserved") (text_data (cause_name cause)) no_members))

abbrev pub answer_members : Answer → Members
answer_members (answer.Rows question at rows) = rows_members question at rows
answer_members (answer.Unserved question cause) = unserved_members question cause

-- the object without spaces, and the end of the line
abbrev pub object_line : Members → List ℕ
object_line members = compact_text (object members) ++ line_feed

abbrev pub json_text : Answer → List ℕ
json_text a = object_line (answer_members a)

-- the same of an answer that has a title, which is a member among the others
abbrev pub titled_json : List ℕ → Answer → List ℕ
titled_json title a = object_line (put (codes "title") (text_data title) (answer_members a))
