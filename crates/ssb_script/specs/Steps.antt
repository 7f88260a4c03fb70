-- What one record of a script says, and does to what is begun.
use Rattle.std.specs.Prelude.{◌≡◌, ℕ, ◌⊎◌, ◌++◌, List, [], ◌∷◌, map, All, Option, Some, None, Result, Ok, Err}
use Rattle.std.specs.Option.{option_to_list}
use Rattle.ssb_script.specs.Begun.{Begun, BegunOrder}
use Rattle.ssb_script.specs.Begun as begun
use Rattle.ssb_script.specs.Lines.{ScriptLine, RecordFault}
use Rattle.ssb_script.specs.Lines as line
use Rattle.ssb_script.specs.Requests.{RequestRecord, IsWholeRequest, action_of, request_of}
use Rattle.ssb_script.specs.Scripts.{HasRoom, IsNoStatement, IsSettled, Spell, first_of, lines_of_begun}
use Rattle.ssb_script.specs.declared.begun.Begun.{Begun as Held}
use Rattle.ssb_script.specs.declared.begun.Begun.TheVariants as held
use Rattle.ssb_script.specs.declared.begun.BegunOrder.{BegunOrder as HeldOrder}
use Rattle.ssb_script.specs.declared.begun.Ended.{Ended}
use Rattle.ssb_script.specs.declared.begun.Ended.TheVariants as ended
use Rattle.ssb_script.specs.declared.begun.ScriptStep.{ScriptStep}
use Rattle.ssb_script.specs.declared.control.Control.{Control}
use Rattle.ssb_script.specs.declared.control.Control.TheVariants as control
use Rattle.ssb_script.specs.declared.request.Request.{Request}
use Rattle.ssb_script.specs.declared.order_line.OrderLine.{OrderLine}
use Rattle.ssb_script.specs.declared.order_line.OrderLine.TheVariants as order_line
use Rattle.ssb_script.specs.declared.error.ScriptError.{ScriptError}
use Rattle.ssb_script.specs.declared.error.ScriptError.TheVariants.{OutOfMemory}

-- what is begun, of what the reading holds of it
abbrev pub begun_order : HeldOrder → BegunOrder
begun_order order = record {
  actions = order.actions;
  opening = order.opening;
  number = order.number;
  lines = order.lines;
}

abbrev pub begun_in : Held → Begun
begun_in held.Nothing = begun.Nothing
begun_in (held.Refresh actions) = begun.Refresh actions
begun_in (held.Order order) = begun.Order (begun_order order)
begun_in (held.Asked questions) = begun.Asked questions

-- what a `line` record says
abbrev pub line_of_row : OrderLine → Result ScriptLine RecordFault
line_of_row (order_line.Read row) = Ok (line.Line row)
line_of_row (order_line.Refused why) = Err (line.Refused why)
line_of_row order_line.Bad = Err line.Bad

-- what a record that is no `line` says
abbrev pub line_of_control : Control → ScriptLine
line_of_control (control.Query question) = line.Query question
line_of_control (control.Sql text) = line.Sql text
line_of_control control.Begin = line.Begin
line_of_control (control.Open opening) = line.Open opening
line_of_control (control.Withdraw key) = line.Withdraw key
line_of_control control.Commit = line.Commit
line_of_control control.Ask = line.Ask
line_of_control control.Answer = line.Answer
line_of_control (control.Order key) = line.Order key

-- what is begun once the order that was being read has ended: it is the last action of its refresh
abbrev pub ended_of : Begun → Ended
ended_of begun.Nothing = ended.Nothing
ended_of (begun.Refresh actions) = ended.Refresh actions
ended_of (begun.Order order) = ended.Refresh (order.actions ++ action_of order.opening order.lines ∷ [])
ended_of (begun.Asked questions) = ended.Asked questions

-- the same as it stands where no order is being read
abbrev pub begun_of : Ended → Begun
begun_of ended.Nothing = begun.Nothing
begun_of (ended.Refresh actions) = begun.Refresh actions
begun_of (ended.Asked questions) = begun.Asked questions

-- the request that a step ends
abbrev pub asked : ScriptStep → List RequestRecord
asked step = map request_of (option_to_list step.request)

-- these lines are those of the request that is ended, and nothing more is begun; or else of what is begun
abbrev pub AreTaken : List ScriptLine → Option Request → Begun → Type 0
AreTaken lines (Some request) b = Spell (request_of request) lines × (b ≡ begun.Nothing)
AreTaken lines None b = lines ≡ lines_of_begun b

-- a step takes up one more line, of the record of this number
pub record Follows (number : ℕ) (old : Begun) (line : ScriptLine) (step : ScriptStep) : Type 0 where
  pub taken : AreTaken (lines_of_begun old ++ line ∷ []) step.request (begun_in step.begun)
  pub whole : All IsWholeRequest (asked step)
  pub room : HasRoom number (begun_in step.begun)
  pub settled : IsSettled (begun_in step.begun)

-- an error is the first that these checks find, unless memory ran out
abbrev pub IsFoundBy : List (Option ScriptError) → ScriptError → Type 0
IsFoundBy checks e = (e ≡ OutOfMemory) ⊎ (first_of checks ≡ Some e)

-- the same of the record of a number, which says this; or these checks find none, and the text of its statement is refused
abbrev pub IsFoundIn : ℕ → Result ScriptLine RecordFault → List (Option ScriptError) → ScriptError → Type 0
IsFoundIn number spelled checks e =
    IsFoundBy checks e ⊎ ((first_of checks ≡ None) × IsNoStatement number spelled e)

-- why the text of a statement, in the record of a number, was not read
abbrev pub TellsStatement : ℕ → List ℕ → ScriptError → Type 0
TellsStatement number text e = (e ≡ OutOfMemory) ⊎ IsNoStatement number (Ok (line.Sql text)) e
