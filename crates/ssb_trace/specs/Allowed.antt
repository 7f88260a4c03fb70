-- The traces whose text gives them back.
use Rattle.std.specs.Prelude.{◌≡◌, ℕ, ℤ, ◌<◌, ◌≤◌, ◌^◌, ◌++◌, true, List, length, Option, Some, None}
use Rattle.std.specs.Prelude.{FitsSigned, IfSome, IsUtf8}
use Rattle.std.specs.Int.{w64}
use Rattle.std.specs.List.{AllByRecursion, AllZip, flat_map}
use Rattle.row_store.specs.History.{CommitRecord}
use Rattle.ssb_audit.specs.declared.trace.Told.{Told}
use Rattle.ssb_audit.specs.declared.trace.Trace.{Trace}
use Rattle.ssb_questions.specs.Question.{constants_fault}
use Rattle.ssb_questions.specs.declared.kind.ConstantKind.{ConstantKind}
use Rattle.ssb_questions.specs.declared.kind.ConstantKind.TheVariants as constant
use Rattle.ssb_questions.specs.declared.query.Query.{Query}
use Rattle.ssb_questions.specs.declared.value.Value.{Value}
use Rattle.ssb_questions.specs.declared.value.Value.TheVariants as value
use Rattle.ssb_answers.specs.declared.answer.ResultRow.{ResultRow}
use Rattle.ssb_base.specs.Base.{Dimensions}
use Rattle.ssb_schema.specs.Columns.{is_plain}
use Rattle.ssb_schema.specs.Rows.{customer_values, date_values, line_values, part_values, supplier_values}
use Rattle.ssb_schema.specs.declared.line.LineFields.{LineFields}
use Rattle.ssb_schema.specs.declared.refresh.Action.{Action}
use Rattle.ssb_schema.specs.declared.refresh.Action.TheVariants as action
use Rattle.ssb_schema.specs.declared.table.Table.{Table}
use Rattle.ssb_schema.specs.declared.table.Table.TheVariants as table
use Rattle.ssb_script.specs.Requests.{IsWholeRequest, Refresh}
use Rattle.ssb_text.specs.RoundTrip.{IsTableRow}
use Rattle.ssb_trace.specs.Entries.{lines_of_commit, lines_of_told}
use Rattle.ssb_trace.specs.Lines.{TraceLine}
use Rattle.ssb_trace.specs.Rows.{group_kinds, has_no_groups}

abbrev pub IsAllowedLine : LineFields → Type 0
IsAllowedLine line = IsTableRow table.Lineorder (line_values line)

-- an action on an order of such lines, or on a key of 64 bits
abbrev pub IsAllowedAction : Action → Type 0
IsAllowedAction (action.Add order) = AllByRecursion IsAllowedLine order
IsAllowedAction (action.Amend order) = AllByRecursion IsAllowedLine order
IsAllowedAction (action.Put order) = AllByRecursion IsAllowedLine order
IsAllowedAction (action.Withdraw key) = key < 2 ^ 64

-- one of at most 16 clients
abbrev pub IsClient : ℕ → Type 0
IsClient client = (1 ≤ client) × (client ≤ 16)

-- a commit of a client, whose refresh is one
pub record IsAllowedCommit (commit : CommitRecord) : Type 0 where
  pub client : IsClient commit.client
  pub whole : IsWholeRequest (Refresh commit.actions)
  pub actions : AllByRecursion IsAllowedAction commit.actions

-- a text is UTF-8, and a number has 64 bits
abbrev pub IsAllowedValue : Value → Type 0
IsAllowedValue (value.Text text) = IsUtf8 text
IsAllowedValue (value.Number number) = number < 2 ^ 64

-- a question whose constants its query takes
pub record IsAllowedQuestion (question : Query × List Value) : Type 0 where
  pub taken : constants_fault question.0 question.1 ≡ None
  pub constants : AllByRecursion IsAllowedValue question.1

-- what a group column may hold: a text that a table file can hold as it is, or a number of 64 bits
abbrev pub IsGroup : ConstantKind → Value → Type 0
IsGroup (constant.Text column) (value.Text text) = (is_plain text ≡ true) × IsUtf8 text
IsGroup constant.Number (value.Number number) = number < 2 ^ 64
IsGroup (constant.Text column) (value.Number number) = ⊥
IsGroup constant.Number (value.Text text) = ⊥

-- a sum has 64 bits with its sign; there may be none where a question has no group columns
abbrev pub IsAllowedSum : List ConstantKind → Option ℤ → Type 0
IsAllowedSum kinds None = has_no_groups kinds ≡ true
IsAllowedSum kinds (Some sum) = FitsSigned w64 sum

-- a row that an answer to the question may have
pub record IsAllowedRow (question : Query × List Value) (row : ResultRow) : Type 0 where
  pub groups : AllZip IsGroup (group_kinds question) row.groups
  pub sum : IsAllowedSum (group_kinds question) row.sum

-- an answer to a client, whose numbers have 64 bits, but for its rows
pub record HasAllowedHead (told : Told) : Type 0 where
  pub client : IsClient told.client
  pub at : told.at < 2 ^ 64
  pub question : IsAllowedQuestion told.question
  pub count : length told.rows < 2 ^ 64

pub record IsAllowedTold (told : Told) : Type 0 where
  pub head : HasAllowedHead told
  pub rows : AllByRecursion (IsAllowedRow told.question) told.rows

pub record IsAllowed (trace : Trace) : Type 0 where
  pub commits : AllByRecursion IsAllowedCommit trace.commits
  pub answers : AllByRecursion IsAllowedTold trace.answers

-- the lines of a trace, one for each of its records
abbrev pub lines_of_trace : Trace → List TraceLine
lines_of_trace trace = flat_map lines_of_commit trace.commits ++ flat_map lines_of_told trace.answers

-- the rows of the dimensions are such as the schema takes
pub record AreTakenDimensions (dimensions : Dimensions) : Type 0 where
  pub customers : AllByRecursion (λ row. IsTableRow table.Customer (customer_values row)) dimensions.customers
  pub suppliers : AllByRecursion (λ row. IsTableRow table.Supplier (supplier_values row)) dimensions.suppliers
  pub parts : AllByRecursion (λ row. IsTableRow table.Part (part_values row)) dimensions.parts
  pub dates : AllByRecursion (λ row. IsTableRow table.Date (date_values row)) dimensions.dates

-- the sums of an answer have 64 bits
abbrev pub HasSums : Told → Type 0
HasSums told = AllByRecursion (λ row. IfSome row.sum (FitsSigned w64)) told.rows

-- an answer whose numbers and sums have 64 bits, and whose question its query takes
pub record IsHeld (told : Told) : Type 0 where
  pub at : told.at < 2 ^ 64
  pub question : IsAllowedQuestion told.question
  pub count : length told.rows < 2 ^ 64
  pub sums : HasSums told

-- its commits and its answers are those of at most 16 clients
pub record HasClients (trace : Trace) : Type 0 where
  pub commits : AllByRecursion (λ (commit : CommitRecord). IsClient commit.client) trace.commits
  pub answers : AllByRecursion (λ (told : Told). IsClient told.client) trace.answers
