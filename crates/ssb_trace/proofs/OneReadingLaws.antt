-- A text spells no two traces: its records spell one list of lines, and the entries are read off its lines, from the
-- last to the first.
use Rattle.std.proofs.Common.{◌≡◌, ℕ, List, [], ◌∷◌, ◌++◌, map, Option, Some, None, Ok, Err, Result, subst, refl, sym}
use Rattle.std.proofs.Common.{ap, ◌∙◌, append_assoc}
use Rattle.std.specs.List.{flat_map}
use Rattle.std.specs.Option.{option_map}
use Rattle.std.proofs.lemmas.Option.{same_Some}
use Rattle.row_store.specs.History.{CommitRecord}
use Rattle.ssb_audit.specs.declared.trace.Told.{Told}
use Rattle.ssb_audit.specs.declared.trace.Trace.{Trace}
use Rattle.ssb_questions.specs.declared.query.Query.{Query}
use Rattle.ssb_questions.specs.declared.query.Query.TheVariants.{Q1_1}
use Rattle.ssb_questions.specs.declared.value.Value.{Value}
use Rattle.ssb_answers.specs.declared.answer.ResultRow.{ResultRow}
use Rattle.ssb_schema.specs.declared.line.LineFields.{LineFields}
use Rattle.ssb_schema.specs.declared.refresh.Action.{Action}
use Rattle.ssb_schema.specs.declared.refresh.Action.TheVariants as action
use Rattle.ssb_script.specs.Lines.{ScriptLine, RecordFault}
use Rattle.ssb_script.specs.Lines as script
use Rattle.ssb_script.specs.Requests.{action_of, lines_of_action, lines_of_refresh}
use Rattle.ssb_script.specs.declared.control.OrderOpening.TheVariants.{Add, Amend, Put}
use Rattle.ssb_text.proofs.OneListLaws.{one_records}
use Rattle.ssb_trace.specs.Entries.{answers_in, commits_in, in_commit, lines_of_entries}
use Rattle.ssb_trace.specs.Laws.{HasOneReading}
use Rattle.ssb_trace.specs.Lines.{TraceLine, Begin, Inside, Answer, Row, AreLines, SaysAfter, entry_begun, line_inside}
use Rattle.ssb_trace.specs.Lines.{row_after, word_of}
use Rattle.ssb_trace.specs.declared.entry.TraceEntry.{TraceEntry}
use Rattle.ssb_trace.specs.declared.entry.TraceEntry.TheVariants as entry
use Rattle.ssb_trace.specs.declared.word.TraceWord.{TraceWord}
use Rattle.ssb_trace.specs.declared.word.TraceWord.TheVariants as word

-- the line that a record says, where the rows of this question are read
inside : Result ScriptLine RecordFault → Option TraceLine
inside (Ok line) = Some (Inside line)
inside (Err why) = None

said : Query × List Value → Option TraceWord → List (List ℕ) → Option TraceLine
said question (Some word.Commit) fields = entry_begun (Some word.Commit) fields
said question (Some word.Answer) fields = entry_begun (Some word.Answer) fields
said question (Some word.Row) fields = option_map (Row question) (row_after question (Some word.Row) fields)
said question w fields = inside (line_inside w fields)

-- a line is a row of this question, if it is a row
IsOf : Query × List Value → TraceLine → Type 0
IsOf question (Begin client) = Unit {0}
IsOf question (Inside line) = Unit {0}
IsOf question (Answer head) = Unit {0}
IsOf question (Row other row) = other ≡ question

says_begin : (question : Query × List Value) (w : Option TraceWord) (fields : List (List ℕ)) (line : TraceLine)
    → entry_begun w fields ≡ Some line → said question w fields ≡ Some line
unfolding said
says_begin question (Some word.Commit) fields line e = e
says_begin question (Some word.Answer) fields line e = e
says_begin question _ fields line e = absurd cc

says_inside : (question : Query × List Value) (w : Option TraceWord) (fields : List (List ℕ)) (line : ScriptLine)
    → line_inside w fields ≡ Ok line → said question w fields ≡ Some (Inside line)
unfolding inside said
says_inside question (Some word.Commit) fields line e = absurd cc
says_inside question (Some word.Answer) fields line e = absurd cc
says_inside question (Some word.Row) fields line e = absurd cc
says_inside question None fields line e = ap inside e
says_inside question (Some word.Add) fields line e = ap inside e
says_inside question (Some word.Amend) fields line e = ap inside e
says_inside question (Some word.Put) fields line e = ap inside e
says_inside question (Some word.Line) fields line e = ap inside e
says_inside question (Some word.Withdraw) fields line e = ap inside e
says_inside question (Some word.End) fields line e = ap inside e

says_row : (question : Query × List Value) (w : Option TraceWord) (fields : List (List ℕ)) (row : ResultRow)
    → row_after question w fields ≡ Some row → said question w fields ≡ Some (Row question row)
unfolding said
says_row question (Some word.Row) fields row e = ap (option_map (Row question)) e
says_row question _ fields row e = absurd cc

says_said : (question : Query × List Value) (w : Option TraceWord) (fields : List (List ℕ)) (line : TraceLine)
    → IsOf question line
    → SaysAfter w fields line → said question w fields ≡ Some line
unfolding IsOf
says_said question w fields (Begin client) of says = says_begin question w fields (Begin client) says
says_said question w fields (Answer head) of says = says_begin question w fields (Answer head) says
says_said question w fields (Inside line) of says = says_inside question w fields line says
says_said question w fields (Row other row) of says = rw (← of) (says_row other w fields row says)

-- the question whose rows may follow a line
next_question : Query × List Value → TraceLine → Query × List Value
next_question question (Begin client) = question
next_question question (Inside line) = question
next_question question (Answer head) = head.question
next_question question (Row other row) = question

-- each row is one of the question that was named last
Follow : Query × List Value → List TraceLine → Type 0
Follow question [] = Unit {0}
Follow question (line ∷ lines) = IsOf question line × Follow (next_question question line) lines

same_lines : (question : Query × List Value) (records : List (List (List ℕ))) (one other : List TraceLine)
    → AreLines records one
    → AreLines records other → Follow question one → Follow question other → one ≡ other
unfolding Follow
same_lines question [] [] [] a b c d = refl
same_lines question [] (l ∷ one) other a b c d = absurd a
same_lines question [] [] (k ∷ other) a b c d = absurd b
same_lines question (f ∷ records) [] other a b c d = absurd a
same_lines question (f ∷ records) (l ∷ one) [] a b c d = absurd b
same_lines question (f ∷ records) (l ∷ one) (k ∷ other) a b c d =
    let first : l ≡ k = same_Some l k (sym (says_said question (word_of f) f l c.0 a.0)
    ∙ says_said question (word_of f) f k d.0 b.0) in
    let later : one ≡ other = same_lines (next_question question l) records one other a.1 b.1 c.1
    (subst (λ line. Follow (next_question question line) other) (sym first) d.1) in
    rw (first, later) refl

follow_commit : (question : Query × List Value) (client : ℕ) (lines : List ScriptLine) (rest : List TraceLine)
    → Follow question rest → Follow question (map (in_commit client) lines ++ rest)
unfolding Follow IsOf next_question
follow_commit question client [] rest f = f
follow_commit question client (script.Begin ∷ lines) rest f = (tt, follow_commit question client lines rest f)
follow_commit question client (_ ∷ lines) rest f = (tt, follow_commit question client lines rest f)

follow_rows : (question : Query × List Value) (rows : List ResultRow) (rest : List TraceLine) → Follow question rest
    → Follow question (map (Row question) rows ++ rest)
unfolding Follow IsOf next_question
follow_rows question [] rest f = f
follow_rows question (row ∷ rows) rest f = (refl, follow_rows question rows rest f)

follow_entries : (question : Query × List Value) (entries : List TraceEntry)
    → Follow question (lines_of_entries entries)
unfolding Follow IsOf next_question
follow_entries question [] = tt
follow_entries question (entry.Commit commit ∷ entries) = follow_commit question commit.client
    (lines_of_refresh commit.actions) (lines_of_entries entries) (follow_entries question entries)
follow_entries question (entry.Answer told ∷ entries) = (
  tt,
  follow_rows told.question told.rows (lines_of_entries entries) (follow_entries told.question entries),
)

-- what the lines from one on hold: lines of an order that began before it, actions of a commit that did, rows of an
-- answer
-- that did, and entries
record Tail : Type 0 where
  lines : List LineFields
  actions : List Action
  rows : List ResultRow
  entries : List TraceEntry

abbrev before_inside : ScriptLine → Tail → Tail
before_inside (script.Query question) tail = tail
before_inside (script.Sql text) tail = tail
before_inside (script.Order key) tail = tail
before_inside script.Begin tail = tail
before_inside (script.Open opening) tail = record {
  lines = [];
  actions = action_of opening tail.lines ∷ tail.actions;
  rows = tail.rows;
  entries = tail.entries;
}
before_inside (script.Line row) tail = record {
  lines = row ∷ tail.lines;
  actions = tail.actions;
  rows = tail.rows;
  entries = tail.entries;
}
before_inside (script.Withdraw key) tail = record {
  lines = [];
  actions = action.Withdraw key ∷ tail.actions;
  rows = tail.rows;
  entries = tail.entries;
}
before_inside script.Commit tail = record { lines = []; actions = []; rows = []; entries = tail.entries }
before_inside script.Ask tail = tail
before_inside script.Answer tail = tail
before_inside script.Abort tail = tail

abbrev before : TraceLine → Tail → Tail
before (Begin client) tail = record {
  lines = [];
  actions = [];
  rows = [];
  entries = entry.Commit (record { client = client; actions = tail.actions }) ∷ tail.entries;
}
before (Inside line) tail = before_inside line tail
before (Answer head) tail =
    record {
      lines = [];
      actions = [];
      rows = [];
      entries = entry.Answer
          (record { client = head.client; at = head.at; question = head.question; rows = tail.rows }) ∷ tail.entries;
    }
before (Row question row) tail = record {
  lines = tail.lines;
  actions = tail.actions;
  rows = row ∷ tail.rows;
  entries = tail.entries;
}

abbrev tail_of : List TraceLine → Tail
tail_of [] = record { lines = []; actions = []; rows = []; entries = [] }
tail_of (line ∷ lines) = before line (tail_of lines)

-- the lines of a commit, and then some
abbrev tail_in : ℕ → List TraceLine → List ScriptLine → Tail
tail_in client outer lines = tail_of (map (in_commit client) lines ++ outer)

of_order : (client : ℕ) (outer : List TraceLine) (order : List LineFields) (rest : List ScriptLine)
    → (tail_in client outer rest).lines ≡ []
    → tail_in client outer (map script.Line order ++ rest) ≡ record (tail_in client outer rest) { lines = order }
of_order client outer [] rest none = rw (← none) refl
of_order client outer (row ∷ order) rest none = ap (before (Inside (script.Line row)))
    (of_order client outer order rest none)

of_action : (client : ℕ) (outer : List TraceLine) (a : Action) (rest : List ScriptLine)
    → (tail_in client outer rest).lines ≡ []
    → tail_in client outer (lines_of_action a ++ rest) ≡ record (tail_in client outer rest)
    { lines = []; actions = a ∷ (tail_in client outer rest).actions }
of_action client outer (action.Add order) rest none = ap (before (Inside (script.Open Add)))
    (of_order client outer order rest none)
of_action client outer (action.Amend order) rest none =
    ap (before (Inside (script.Open Amend))) (of_order client outer order rest none)
of_action client outer (action.Put order) rest none =
    ap (before (Inside (script.Open Put))) (of_order client outer order rest none)
of_action client outer (action.Withdraw key) rest none = refl

of_actions : (client : ℕ) (outer : List TraceLine) (actions : List Action)
    → tail_in client outer (flat_map lines_of_action actions ++ script.Commit ∷ []) ≡ record {
      lines = [];
      actions = actions;
      rows = [];
      entries = (tail_of outer).entries;
    }
of_actions client outer [] = refl
of_actions client outer (a ∷ actions) =
    let rest : List ScriptLine = flat_map lines_of_action actions ++ script.Commit ∷ [] in
    let later : tail_in client outer rest ≡ record {
      lines = [];
      actions = actions;
      rows = [];
      entries = (tail_of outer).entries;
    } = of_actions client outer actions in
    ap (tail_in client outer) (append_assoc (lines_of_action a) (flat_map lines_of_action actions) (script.Commit ∷ []))
    ∙ (of_action client outer a rest (ap (λ t. t.lines) later)
    ∙ ap (λ t. record { lines = []; actions = a ∷ t.actions; rows = t.rows; entries = t.entries }) later)

of_rows : (question : Query × List Value) (rows : List ResultRow) (rest : List TraceLine) → (tail_of rest).rows ≡ []
    → (tail_of (map (Row question) rows ++ rest)).rows ≡ rows
of_rows question [] rest none = none
of_rows question (row ∷ rows) rest none = ap (λ more. row ∷ more) (of_rows question rows rest none)

past_rows : (question : Query × List Value) (rows : List ResultRow) (rest : List TraceLine)
    → (tail_of (map (Row question) rows ++ rest)).entries ≡ (tail_of rest).entries
past_rows question [] rest = refl
past_rows question (row ∷ rows) rest = past_rows question rows rest

no_rows : (entries : List TraceEntry) → (tail_of (lines_of_entries entries)).rows ≡ []
no_rows [] = refl
no_rows (entry.Commit commit ∷ entries) = refl
no_rows (entry.Answer told ∷ entries) = refl

of_entries : (entries : List TraceEntry) → (tail_of (lines_of_entries entries)).entries ≡ entries
of_entries [] = refl
of_entries (entry.Commit commit ∷ entries) =
    ap (λ t. (before (Begin commit.client) t).entries) (of_actions commit.client (lines_of_entries entries) commit.actions)
    ∙ ap (λ rest. entry.Commit commit ∷ rest) (of_entries entries)
of_entries (entry.Answer told ∷ entries) =
    let rest : List TraceLine = lines_of_entries entries in
    let rows : (tail_of (map (Row told.question) told.rows ++ rest)).rows ≡ told.rows =
    of_rows told.question told.rows rest (no_rows entries) in
    let later : (tail_of (map (Row told.question) told.rows ++ rest)).entries ≡ entries =
    past_rows told.question told.rows rest ∙ of_entries entries in
    ap (λ found. entry.Answer (record told { rows = found }) ∷
    (tail_of (map (Row told.question) told.rows ++ rest)).entries) rows
    ∙ ap (λ rest. entry.Answer told ∷ rest) later

same_trace : (one other : Trace) → one.commits ≡ other.commits → one.answers ≡ other.answers → one ≡ other
same_trace one other commits answers =
    ap (λ (found : List CommitRecord). record one { commits = found }) commits
    ∙ ap (λ (found : List Told). record other { answers = found }) answers

-- the question that rows would be of before any is asked: none are there
abbrev some_question : Query × List Value
some_question = (Q1_1, [])

pub one_reading : (text : List ℕ) → HasOneReading text
one_reading text most more one other a b =
    let records = one_records text a.records b.records a.all b.all in
    let spelled : AreLines a.records (lines_of_entries b.entries) =
    subst (λ found. AreLines found (lines_of_entries b.entries)) (sym records) b.spelled in
    let lines : lines_of_entries a.entries ≡ lines_of_entries b.entries
    = same_lines some_question a.records (lines_of_entries a.entries) (lines_of_entries b.entries) a.spelled spelled
    (follow_entries some_question a.entries) (follow_entries some_question b.entries) in
    let entries : a.entries ≡ b.entries = sym (of_entries a.entries)
    ∙ (ap (λ found. (tail_of found).entries) lines ∙ of_entries b.entries) in
    same_trace one other (sym a.commits ∙ (ap commits_in entries ∙ b.commits))
    (sym a.answers ∙ (ap answers_in entries ∙ b.answers))
