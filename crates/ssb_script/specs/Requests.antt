-- What a script asks of the warehouse, and the lines that spell it.
use Rattle.std.specs.Prelude.{◌≡◌, ◌≤◌, ◌++◌, ℕ, Bool, false, List, [], ◌∷◌, All, Option, None, Some, is_some, map, length}
use Rattle.std.specs.List.{flat_map, list_any}
use Rattle.ssb_questions.specs.declared.query.Query.{Query as Named}
use Rattle.ssb_questions.specs.declared.value.Value.{Value}
use Rattle.ssb_schema.specs.Orders.{order_fault}
use Rattle.ssb_schema.specs.Refreshes.{refresh_fault}
use Rattle.ssb_schema.specs.declared.line.LineFields.{LineFields}
use Rattle.ssb_schema.specs.declared.refresh.Action.{Action}
use Rattle.ssb_schema.specs.declared.refresh.Action.TheVariants as action
use Rattle.ssb_script.specs.declared.request.Asking.{Asking}
use Rattle.ssb_script.specs.declared.request.Asking.TheVariants.{Alone, Together, Statement as Stated}
use Rattle.ssb_script.specs.declared.request.Request.{Request}
use Rattle.ssb_script.specs.declared.request.Request.TheVariants as request
use Rattle.ssb_script.specs.declared.request.Script.{Script}
use Rattle.ssb_script.specs.declared.statement.StatementAsked.{StatementAsked}
use Rattle.ssb_sql.specs.Meaning.{Means}
use Rattle.ssb_sql.specs.declared.statement.Statement.{Statement}
use Rattle.ssb_script.specs.Lines.{ScriptLine}
use Rattle.ssb_script.specs.Lines as line
use Rattle.ssb_script.specs.declared.control.OrderOpening.{OrderOpening}
use Rattle.ssb_script.specs.declared.control.OrderOpening.TheVariants.{Add, Amend, Put}

-- what a request asks: the actions of a refresh, or questions, each a query with its constants, or the lines of the
-- order of a key; or that what it began be dropped
pub data RequestRecord : Type 0 where
  Refresh : List Action → RequestRecord
  Ask : Asking → RequestRecord
  Order : ℕ → RequestRecord
  Abort : RequestRecord

abbrev pub request_of : Request → RequestRecord
request_of (request.Refresh refresh) = Refresh refresh.value
request_of (request.Ask asking) = Ask asking
request_of (request.Order key) = Order key
request_of request.Abort = Abort

-- the questions that are asked, in order
abbrev pub questions_in : Asking → List (Named × List Value)
questions_in (Alone question) = question ∷ []
questions_in (Together questions) = questions
questions_in (Stated asked) = asked.value.statement.questions.items

-- the statement that is asked, if one is
abbrev pub statement_in : Asking → Option Statement
statement_in (Alone question) = None
statement_in (Together questions) = None
statement_in (Stated asked) = Some asked.value.statement

-- the most questions of a block
abbrev pub most_questions : ℕ
most_questions = 16

-- the requests of a script, in order
abbrev pub requests_of : Script → List RequestRecord
requests_of script = map request_of script.requests.items

-- the lines of a script that spell an action, a refresh, questions
abbrev pub lines_of_action : Action → List ScriptLine
lines_of_action (action.Add order) = line.Open Add ∷ map line.Line order
lines_of_action (action.Amend order) = line.Open Amend ∷ map line.Line order
lines_of_action (action.Put order) = line.Open Put ∷ map line.Line order
lines_of_action (action.Withdraw key) = line.Withdraw key ∷ []

abbrev pub lines_of_refresh : List Action → List ScriptLine
lines_of_refresh actions = line.Begin ∷ (flat_map lines_of_action actions ++ line.Commit ∷ [])

abbrev pub lines_of_asking : Asking → List ScriptLine
lines_of_asking (Alone question) = line.Query question ∷ []
lines_of_asking (Together questions) = line.Ask ∷ (map line.Query questions ++ line.Answer ∷ [])
lines_of_asking (Stated asked) = line.Sql asked.value.text ∷ []

-- the action of an order that began so
abbrev pub action_of : OrderOpening → List LineFields → Action
action_of Add order = action.Add order
action_of Amend order = action.Amend order
action_of Put order = action.Put order

-- the order of an action is one: it has one to seven lines of one key, with distinct numbers
abbrev pub IsWholeAction : Action → Type 0
IsWholeAction (action.Add order) = order_fault order ≡ None
IsWholeAction (action.Amend order) = order_fault order ≡ None
IsWholeAction (action.Put order) = order_fault order ≡ None
IsWholeAction (action.Withdraw key) = Unit {0}

-- a statement is what its text means
abbrev pub IsWholeStatement : StatementAsked → Type 0
IsWholeStatement asked = Means asked.text asked.statement

-- a block has 1 to 16 questions
abbrev pub IsWholeAsking : Asking → Type 0
IsWholeAsking (Alone question) = Unit {0}
IsWholeAsking (Together questions) = (1 ≤ length questions) × (length questions ≤ most_questions)
IsWholeAsking (Stated asked) = IsWholeStatement asked.value

-- two statements have one text, the same group columns and the same limit
pub record AreOneStatement (one other : StatementAsked) : Type 0 where
  pub text : one.text ≡ other.text
  pub groups : one.statement.groups.items ≡ other.statement.groups.items
  pub limit : one.statement.limit ≡ other.statement.limit

-- two requests are one, but for what of a statement its text is not shown to determine
abbrev pub AskAlike : Asking → Asking → Type 0
AskAlike (Alone question) other = other ≡ Alone question
AskAlike (Together questions) other = other ≡ Together questions
AskAlike (Stated asked) (Stated other) = AreOneStatement asked.value other.value
AskAlike (Stated asked) (Alone question) = ⊥
AskAlike (Stated asked) (Together questions) = ⊥

abbrev pub AreAlike : RequestRecord → RequestRecord → Type 0
AreAlike (Ask asking) (Ask other) = AskAlike asking other
AreAlike (Ask asking) (Refresh actions) = ⊥
AreAlike (Ask asking) (Order key) = ⊥
AreAlike (Ask asking) Abort = ⊥
AreAlike (Refresh actions) other = other ≡ Refresh actions
AreAlike (Order key) other = other ≡ Order key
AreAlike Abort other = other ≡ Abort

-- whether a statement is asked, and whether one is among requests
abbrev pub is_statement : RequestRecord → Bool
is_statement (Ask asking) = is_some (statement_in asking)
is_statement (Refresh actions) = false
is_statement (Order key) = false
is_statement Abort = false

abbrev pub has_statement : List RequestRecord → Bool
has_statement asked = list_any is_statement asked

-- a refresh has 1 to 64 actions, on orders
abbrev pub IsWholeRequest : RequestRecord → Type 0
IsWholeRequest (Refresh actions) = (refresh_fault actions ≡ None) × All IsWholeAction actions
IsWholeRequest (Ask asking) = IsWholeAsking asking
IsWholeRequest (Order key) = Unit {0}
IsWholeRequest Abort = Unit {0}
