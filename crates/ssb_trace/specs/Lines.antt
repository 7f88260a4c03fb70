-- What one record of a trace spells.
use Rattle.std.specs.Prelude.{◌≡◌, ℕ, Bool, true, false, List, [], ◌∷◌, drop, find, codes, Option, Some, None}
use Rattle.std.specs.Prelude.{option_map, Result, Ok, Err, nat_eq}
use Rattle.std.specs.Cmp.Lexicographic.{pointwise}
use Rattle.ssb_questions.specs.declared.query.Query.{Query}
use Rattle.ssb_questions.specs.declared.value.Value.{Value}
use Rattle.ssb_answers.specs.declared.answer.ResultRow.{ResultRow}
use Rattle.ssb_text.specs.Row as row
use Rattle.ssb_text.specs.Spelling.{field}
use Rattle.ssb_schema.specs.declared.table.Table.TheVariants as table
use Rattle.ssb_script.specs.Lines.{ScriptLine, RecordFault, Open, Withdraw, Commit, Bad, alone, key_of, line_or_bad}
use Rattle.ssb_script.specs.Lines.{line_or_refusal}
use Rattle.ssb_script.specs.declared.control.OrderOpening.TheVariants.{Add, Amend, Put}
use Rattle.ssb_trace.specs.Heads.{commit_of, head_of}
use Rattle.ssb_trace.specs.Rows.{row_of}
use Rattle.ssb_trace.specs.declared.heads.AnswerHead.{AnswerHead}
use Rattle.ssb_trace.specs.declared.word.TraceWord.{TraceWord}
use Rattle.ssb_trace.specs.declared.word.TraceWord.TheVariants as word

-- what a record may say
pub data TraceLine : Type 0 where
  -- it begins a commit of this client
  Begin : ℕ → TraceLine
  -- it stands in a commit, and says what this line says in a script's refresh
  Inside : ScriptLine → TraceLine
  -- it begins an answer
  Answer : AnswerHead → TraceLine
  -- it is a row of an answer to this question
  Row : Query × List Value → ResultRow → TraceLine

-- the words that a record may begin with
abbrev pub spelling_of : TraceWord → List ℕ
spelling_of word.Commit = codes "commit"
spelling_of word.Add = codes "add"
spelling_of word.Amend = codes "amend"
spelling_of word.Put = codes "put"
spelling_of word.Line = codes "line"
spelling_of word.Withdraw = codes "withdraw"
spelling_of word.End = codes "end"
spelling_of word.Answer = codes "answer"
spelling_of word.Row = codes "row"

abbrev pub words : List TraceWord
words = word.Commit ∷ word.Add ∷ word.Amend ∷ word.Put ∷ word.Line ∷ word.Withdraw ∷ word.End ∷ word.Answer ∷
    word.Row ∷ []

-- the word that bytes spell, letter for letter
abbrev pub word_spelled : List ℕ → Option TraceWord
word_spelled bytes = find (λ word. pointwise nat_eq (spelling_of word) bytes) words

-- the word of a record, if its first field is one
unfoldable pub word_of : List (List ℕ) → Option TraceWord
word_of fields = word_spelled (field fields 0)

-- whether a record is a `line`, which goes by its word alone
abbrev pub is_line : Option TraceWord → Bool
is_line (Some word.Line) = true
is_line _ = false

-- what a record of this word says in a commit, as a line of a script's refresh: `end` is a script's `commit`
abbrev pub line_inside : Option TraceWord → List (List ℕ) → Result ScriptLine RecordFault
line_inside (Some word.Add) fields = line_or_bad (alone (Open Add) fields)
line_inside (Some word.Amend) fields = line_or_bad (alone (Open Amend) fields)
line_inside (Some word.Put) fields = line_or_bad (alone (Open Put) fields)
line_inside (Some word.Line) fields = line_or_refusal (row.row_of table.Lineorder (drop 1 fields))
line_inside (Some word.Withdraw) fields = line_or_bad (option_map Withdraw (key_of fields))
line_inside (Some word.End) fields = line_or_bad (alone Commit fields)
line_inside _ _ = Err Bad

-- the commit, or the answer, that a record of this word begins
abbrev pub entry_begun : Option TraceWord → List (List ℕ) → Option TraceLine
entry_begun (Some word.Commit) fields = option_map Begin (commit_of fields)
entry_begun (Some word.Answer) fields = option_map Answer (head_of fields)
entry_begun _ _ = None

-- the row of an answer to the question that a record of this word spells
abbrev pub row_after : Query × List Value → Option TraceWord → List (List ℕ) → Option ResultRow
row_after question (Some word.Row) fields = row_of question fields
row_after _ _ _ = None

-- a record of this word spells this
abbrev pub SaysAfter : Option TraceWord → List (List ℕ) → TraceLine → Type 0
SaysAfter word fields (Begin client) = entry_begun word fields ≡ Some (Begin client)
SaysAfter word fields (Inside line) = line_inside word fields ≡ Ok line
SaysAfter word fields (Answer head) = entry_begun word fields ≡ Some (Answer head)
SaysAfter word fields (Row question row) = row_after question word fields ≡ Some row

-- a record spells this
abbrev pub Says : List (List ℕ) → TraceLine → Type 0
Says fields line = SaysAfter (word_of fields) fields line

-- records spell these lines, one by one
abbrev pub AreLines : List (List (List ℕ)) → List TraceLine → Type 0
AreLines [] [] = Unit {0}
AreLines (fields ∷ records) (line ∷ lines) = Says fields line × AreLines records lines
AreLines [] (line ∷ lines) = ⊥
AreLines (fields ∷ records) [] = ⊥
