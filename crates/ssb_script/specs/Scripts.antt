-- What the text of a script spells, and its first fault.
use Rattle.std.specs.Prelude.{◌≡◌, ℕ, ◌+◌, ◌≤◌, ◌<◌, ◌⊎◌, ◌++◌, ◌&&◌, ◌||◌, Bool, true, false, not, List, [], ◌∷◌}
use Rattle.std.specs.Prelude.{length, map, All, Option, Some, None, option_map, Result, Ok, Err, nat_eq, nat_lt}
use Rattle.std.specs.Prelude.{if◌then◌else◌}
use Rattle.std.specs.List.{AllZip, flat_map}
use Rattle.ssb_text.specs.Records.{BeginsWith, HasRecords}
use Rattle.ssb_schema.specs.Orders.{order_fault, most_order_lines}
use Rattle.ssb_schema.specs.Refreshes.{most_actions}
use Rattle.ssb_schema.specs.declared.fault.SchemaFault.TheVariants as schema
use Rattle.ssb_schema.specs.declared.refresh.Action.{Action}
use Rattle.ssb_schema.specs.declared.refresh.Action.TheVariants as action
use Rattle.ssb_script.specs.Begun.{Begun}
use Rattle.ssb_script.specs.Begun as begun
use Rattle.ssb_script.specs.Lines.{is_abort, is_line, line_of, word_of, ScriptLine, RecordFault, Bad, Refused}
use Rattle.ssb_script.specs.Lines as line
use Rattle.ssb_script.specs.Requests.{RequestRecord, IsWholeAction, IsWholeRequest, Refresh, Ask, Order, Abort}
use Rattle.ssb_script.specs.Requests.{lines_of_action, lines_of_asking, lines_of_refresh, most_questions}
use Rattle.ssb_script.specs.declared.error.ScriptError.{ScriptError}
use Rattle.ssb_script.specs.declared.error.ScriptError.TheVariants as error
use Rattle.ssb_script.specs.declared.word.ScriptWord.{ScriptWord}
use Rattle.ssb_sql.specs.declared.fault.SqlFault.TheVariants as sql

-- the lines of the refresh, and in it of the order, or of the block that is begun and not ended
abbrev pub lines_of_begun : Begun → List ScriptLine
lines_of_begun begun.Nothing = []
lines_of_begun (begun.Refresh actions) = line.Begin ∷ flat_map lines_of_action actions
lines_of_begun (begun.Order order) = line.Begin ∷ (flat_map lines_of_action order.actions
    ++ line.Open order.opening ∷ map line.Line order.lines)
lines_of_begun (begun.Asked questions) = line.Ask ∷ map line.Query questions

-- what is begun has room in a refresh, an order and a block, and its order began at that record, of so many that were
-- read
abbrev pub HasRoom : ℕ → Begun → Type 0
HasRoom count begun.Nothing = Unit {0}
HasRoom count (begun.Refresh actions) = (length actions ≤ most_actions) × All IsWholeAction actions
HasRoom count (begun.Order order) =
    (length order.actions < most_actions) × All IsWholeAction order.actions × (length order.lines ≤ most_order_lines)
    × (order.number + length order.lines ≡ count)
HasRoom count (begun.Asked questions) = length questions ≤ most_questions

-- whether nothing is begun; whether a refresh is; whether an order is; whether a block is
abbrev pub is_outside : Begun → Bool
is_outside begun.Nothing = true
is_outside (begun.Refresh actions) = false
is_outside (begun.Order order) = false
is_outside (begun.Asked questions) = false

abbrev pub is_refreshing : Begun → Bool
is_refreshing begun.Nothing = false
is_refreshing (begun.Refresh actions) = true
is_refreshing (begun.Order order) = true
is_refreshing (begun.Asked questions) = false

abbrev pub is_in_order : Begun → Bool
is_in_order begun.Nothing = false
is_in_order (begun.Refresh actions) = false
is_in_order (begun.Order order) = true
is_in_order (begun.Asked questions) = false

abbrev pub is_asking : Begun → Bool
is_asking begun.Nothing = false
is_asking (begun.Refresh actions) = false
is_asking (begun.Order order) = false
is_asking (begun.Asked questions) = true

-- these lines begin a refresh or a block, be its last order whole or not, and then drop it
pub record AreDropped (lines : List ScriptLine) : Type 0 where
  pub begun : Begun
  pub inside : is_outside begun ≡ false
  pub count : ℕ
  pub room : HasRoom count begun
  pub joined : lines ≡ lines_of_begun begun ++ line.Abort ∷ []

-- these lines spell a request; those of one that is dropped may be any that begin it
abbrev pub Spell : RequestRecord → List ScriptLine → Type 0
Spell (Refresh actions) lines = lines ≡ lines_of_refresh actions
Spell (Ask asking) lines = lines ≡ lines_of_asking asking
Spell (Order key) lines = lines ≡ line.Order key ∷ []
Spell Abort lines = AreDropped lines

-- the lines of parts, one part after another
abbrev pub lines_in : List (List ScriptLine) → List ScriptLine
lines_in parts = flat_map (λ part. part) parts

-- these lines spell requests, one after another
pub record SpellAll (requests : List RequestRecord) (lines : List ScriptLine) : Type 0 where
  pub parts : List (List ScriptLine)
  pub each : AllZip Spell requests parts
  pub joined : lines ≡ lines_in parts

-- a text spells these requests: its records, at most so many, spell their lines and nothing else
pub record SpellsScript (most : ℕ) (text : List ℕ) (requests : List RequestRecord) : Type 0 where
  pub records : List (List (List ℕ))
  pub all : HasRecords text records
  pub few : length records ≤ most
  pub lines : List ScriptLine
  pub said : map line_of records ≡ map Ok lines
  pub spelled : SpellAll requests lines
  pub whole : All IsWholeRequest requests

-- whether the last of these actions adds, amends or puts an order
abbrev pub is_order : Action → Bool
is_order (action.Add order) = true
is_order (action.Amend order) = true
is_order (action.Put order) = true
is_order (action.Withdraw key) = false

abbrev pub ends_in_order : List Action → Bool
ends_in_order [] = false
ends_in_order (last ∷ []) = is_order last
ends_in_order (one ∷ next ∷ actions) = ends_in_order (next ∷ actions)

-- an order that has begun is being read until a record that is no `line` follows, and so is no action yet
abbrev pub IsSettled : Begun → Type 0
IsSettled begun.Nothing = Unit {0}
IsSettled (begun.Refresh actions) = ends_in_order actions ≡ false
IsSettled (begun.Order order) = Unit {0}
IsSettled (begun.Asked questions) = Unit {0}

-- records spell whole requests, and then what is begun
pub record Spells (records : List (List (List ℕ))) (requests : List RequestRecord) (begun : Begun) : Type 0 where
  pub lines : List ScriptLine
  pub said : map line_of records ≡ map Ok (lines ++ lines_of_begun begun)
  pub spelled : SpellAll requests lines
  pub whole : All IsWholeRequest requests
  pub room : HasRoom (length records) begun
  pub settled : IsSettled begun

-- how many actions the refresh has, that of the order which is being read among them
abbrev pub actions_in : Begun → ℕ
actions_in begun.Nothing = 0
actions_in (begun.Refresh actions) = length actions
actions_in (begun.Order order) = length order.actions + 1
actions_in (begun.Asked questions) = 0

-- how many questions the block has
abbrev pub asked_in : Begun → ℕ
asked_in begun.Nothing = 0
asked_in (begun.Refresh actions) = 0
asked_in (begun.Order order) = 0
asked_in (begun.Asked questions) = length questions

-- whether a line may stand there
abbrev pub may_stand : Begun → ScriptLine → Bool
may_stand b (line.Query question) = is_outside b || is_asking b
may_stand b line.Begin = is_outside b
may_stand b (line.Open opening) = is_refreshing b
may_stand b (line.Line row) = is_in_order b
may_stand b (line.Withdraw key) = is_refreshing b
may_stand b line.Commit = is_refreshing b
may_stand b line.Ask = is_outside b
may_stand b (line.Sql text) = is_outside b
may_stand b (line.Order key) = is_outside b
may_stand b line.Answer = is_asking b
may_stand b line.Abort = not (is_outside b)

-- whether a record spells a line, were it not for the schema, that may stand there
abbrev pub is_good : Begun → Result ScriptLine RecordFault → Bool
is_good b (Ok spelled) = may_stand b spelled
is_good b (Err (Refused why)) = is_in_order b
is_good b (Err Bad) = false

-- The checks of a record, which ends the reading at the first fault.

-- 1. it is past the bound of records
abbrev pub too_long : ℕ → ℕ → Option ScriptError
too_long most number = if nat_lt most number then Some error.TooLong else None

-- the refusal of the order that is being read
abbrev pub refusal_at_end : Begun → Option ScriptError
refusal_at_end begun.Nothing = None
refusal_at_end (begun.Refresh actions) = None
refusal_at_end (begun.Order order) = option_map (error.Row order.number) (order_fault order.lines)
refusal_at_end (begun.Asked questions) = None

-- 2. it is no `line` and no `abort`, so that the order which is being read ends, and that order is refused
abbrev pub order_refused : Begun → Option ScriptWord → Option ScriptError
order_refused b word = if is_line word || is_abort word then None else refusal_at_end b

-- 3. it spells no line, or one that may not stand there
abbrev pub bad_line : ℕ → Begun → Result ScriptLine RecordFault → Option ScriptError
bad_line number b spelled = if is_good b spelled then None else Some (error.BadLine number)

-- 4. it is a `line` that the schema refuses; then, the eighth of its order
abbrev pub line_refused : ℕ → Result ScriptLine RecordFault → Option ScriptError
line_refused number (Err (Refused why)) = Some (error.Row number why)
line_refused number (Err Bad) = None
line_refused number (Ok spelled) = None

abbrev pub too_many_lines : Begun → Result ScriptLine RecordFault → Option ScriptError
too_many_lines (begun.Order order) (Ok (line.Line row)) =
    if nat_lt (length order.lines) most_order_lines then None else Some (error.Row order.number schema.TooManyLines)
too_many_lines _ _ = None

-- 5. it begins the 65th action
abbrev pub begins_action : Result ScriptLine RecordFault → Bool
begins_action (Ok (line.Open opening)) = true
begins_action (Ok (line.Withdraw key)) = true
begins_action _ = false

abbrev pub too_many_actions : ℕ → Begun → Result ScriptLine RecordFault → Option ScriptError
too_many_actions number b spelled = if begins_action spelled && not (nat_lt (actions_in b) most_actions) then Some
    (error.Row number schema.TooManyActions) else None

-- 6. it is the `commit` of no action, or the `answer` of no question
abbrev pub empty_request : ℕ → Begun → Result ScriptLine RecordFault → Option ScriptError
empty_request number b (Ok line.Commit) = if nat_eq (actions_in b) 0 then Some (error.EmptyBlock number) else None
empty_request number b (Ok line.Answer) = if nat_eq (asked_in b) 0 then Some (error.EmptyBlock number) else None
empty_request _ _ _ = None

-- 7. it is the 17th question of a block
abbrev pub too_many_questions : ℕ → Begun → Result ScriptLine RecordFault → Option ScriptError
too_many_questions number b (Ok (line.Query question)) =
    if nat_lt (asked_in b) most_questions then None else Some (error.TooManyQuestions number)
too_many_questions _ _ _ = None

-- the first fault of several checks
abbrev pub first_of : List (Option ScriptError) → Option ScriptError
first_of [] = None
first_of (None ∷ checks) = first_of checks
first_of (Some e ∷ checks) = Some e

-- the checks of the record of a number, whose word and whose line these are, where so much is begun
abbrev pub checks_in : ℕ → Begun → Result ScriptLine RecordFault → List (Option ScriptError)
checks_in number b spelled =
    bad_line number b spelled
    ∷ line_refused number spelled
    ∷ too_many_lines b spelled
    ∷ too_many_actions number b spelled
    ∷ empty_request number b spelled
    ∷ too_many_questions number b spelled
    ∷ []

abbrev pub checks : ℕ → ℕ → Begun → Option ScriptWord → Result ScriptLine RecordFault → List (Option ScriptError)
checks most number b word spelled = too_long most number ∷ order_refused b word ∷ checks_in number b spelled

abbrev pub fault_of : ℕ → ℕ → Begun → List (List ℕ) → Option ScriptError
fault_of most number b fields = first_of (checks most number b (word_of fields) (line_of fields))

-- 8. it is a `sql` whose text is no statement; why not, the reader of statements tells
abbrev pub IsNoStatement : ℕ → Result ScriptLine RecordFault → ScriptError → Type 0
IsNoStatement number (Ok (line.Sql text)) (error.Sql n why) = (n ≡ number) × (why ≡ sql.OutOfMemory → ⊥)
IsNoStatement number spelled e = ⊥

-- a record of a number has this fault, where so much is begun
abbrev pub IsFaultOf : ℕ → ℕ → Begun → List (List ℕ) → ScriptError → Type 0
IsFaultOf most number b fields e =
    (fault_of most number b fields ≡ Some e)
    ⊎ ((fault_of most number b fields ≡ None) × IsNoStatement number (line_of fields) e)

-- a record is the first with a fault: those before it spell requests and what is begun
pub record IsFirstFault (most : ℕ) (text : List ℕ) (e : ScriptError) : Type 0 where
  pub before : List (List (List ℕ))
  pub fields : List (List ℕ)
  pub begins : BeginsWith text (before ++ fields ∷ [])
  pub few : length before ≤ most
  pub requests : List RequestRecord
  pub begun : Begun
  pub spells : Spells before requests begun
  pub is : IsFaultOf most (length before + 1) begun fields e

-- what a text lacks that ends there: the `commit` of a refresh, or the `answer` of a block
abbrev pub IsOpenEnd : Begun → ScriptError → Type 0
IsOpenEnd begun.Nothing e = ⊥
IsOpenEnd (begun.Refresh actions) e = e ≡ error.NoCommit
IsOpenEnd (begun.Order order) e = e ≡ error.NoCommit
IsOpenEnd (begun.Asked questions) e = e ≡ error.NoAnswer

-- the text ends where a refresh or a block is begun
pub record EndsOpen (most : ℕ) (text : List ℕ) (e : ScriptError) : Type 0 where
  pub records : List (List (List ℕ))
  pub all : HasRecords text records
  pub few : length records ≤ most
  pub requests : List RequestRecord
  pub begun : Begun
  pub spells : Spells records requests begun
  pub is : IsOpenEnd begun e

-- an error tells the first fault of a text; two tell nothing of it: that its reader failed, and that memory ran out
abbrev pub IsScriptFault : ℕ → List ℕ → ScriptError → Type 0
IsScriptFault most text e =
    (e ≡ error.Read) ⊎ ((e ≡ error.OutOfMemory) ⊎ (IsFirstFault most text e ⊎ EndsOpen most text e))

-- the most records of a script
abbrev pub most_records : ℕ
most_records = 1000000000

-- the bytes that a reader had left, where they are known, spell these requests
abbrev pub AreAsked : Option (List ℕ) → List RequestRecord → Type 0
AreAsked remaining requests = (text : List ℕ) → remaining ≡ Some text → SpellsScript most_records text requests
