-- Laws of what one record does to what is begun.
use Rattle.std.proofs.Common.{◌≡◌, ℕ, true, false, List, [], ◌∷◌, ◌++◌, Option, Some, None, Result, Ok, Err, map, refl}
use Rattle.std.proofs.Common.{subst, ap, ◌∙◌, inl, inr, arith, Bool}
use Rattle.std.specs.List.{flat_map}
use Rattle.std.specs.Option.{option_map}
use Rattle.std.specs.Result.{IfOk, IfErr}
use Rattle.std.specs.Bool.{if◌then◌else◌}
use Rattle.std.specs.Prelude.{◌||◌}
use Rattle.std.proofs.lemmas.List.{append-nil, length_push}
use Rattle.std.proofs.lemmas.List.Elements.{All-push}
use Rattle.std.proofs.lemmas.Grind.{flat_map-append}
use Rattle.ssb_schema.specs.Orders.{order_fault}
use Rattle.ssb_schema.specs.declared.line.LineFields.{LineFields}
use Rattle.ssb_schema.specs.declared.refresh.Action.{Action}
use Rattle.ssb_schema.specs.declared.refresh.Action.TheVariants as action
use Rattle.ssb_script.specs.Begun.{Begun}
use Rattle.ssb_script.specs.Begun as begun
use Rattle.ssb_script.specs.Lines.{ScriptLine, RecordFault, Abort, Open, Line, Begin, alone, is_abort, is_line}
use Rattle.ssb_script.specs.Lines.{line_or_bad}
use Rattle.ssb_script.specs.Requests.{IsWholeAction, action_of, lines_of_action}
use Rattle.ssb_script.specs.Scripts.{HasRoom, checks_in, ends_in_order, first_of, lines_of_begun, order_refused}
use Rattle.ssb_script.specs.Scripts.{refusal_at_end}
use Rattle.ssb_script.specs.Steps.{AreTaken, Follows, IsFoundBy, IsFoundIn, begun_in, begun_of, ended_of, line_of_control}
use Rattle.ssb_script.specs.declared.begun.Ended.{Ended}
use Rattle.ssb_script.specs.declared.begun.ScriptStep.{ScriptStep}
use Rattle.ssb_script.specs.declared.control.Control.{Control}
use Rattle.ssb_script.specs.declared.control.Control.TheVariants as control
use Rattle.ssb_script.specs.declared.control.OrderOpening.{OrderOpening}
use Rattle.ssb_script.specs.declared.control.OrderOpening.TheVariants.{Add, Amend, Put}
use Rattle.ssb_script.specs.declared.error.ScriptError.{ScriptError}
use Rattle.ssb_script.specs.declared.error.ScriptError.TheVariants as error
use Rattle.ssb_script.specs.declared.word.ScriptWord.{ScriptWord}

-- the lines of an order are those of its action
lines_of_action-action_of : (opening : OrderOpening) (order : List LineFields)
    → lines_of_action (action_of opening order) ≡ Open opening ∷ map Line order
lines_of_action-action_of Add order = refl
lines_of_action-action_of Amend order = refl
lines_of_action-action_of Put order = refl

-- the end of an order adds no line
lines-ended : (b : Begun) → lines_of_begun (begun_of (ended_of b)) ≡ lines_of_begun b
lines-ended begun.Nothing = refl
lines-ended (begun.Refresh actions) = refl
lines-ended (begun.Asked questions) = refl
lines-ended (begun.Order order) =
    let last : List ScriptLine = lines_of_action (action_of order.opening order.lines) in
    ap (λ rest. Begin ∷ rest) (flat_map-append lines_of_action order.actions (action_of order.opening order.lines ∷ [])
    ∙ ap (λ rest. flat_map lines_of_action order.actions ++ rest)
    (append-nil last ∙ lines_of_action-action_of order.opening order.lines))

-- a fault that is told of none is none
none_told : {A B : Type 0} (f : A → B) (o : Option A) → option_map f o ≡ None → o ≡ None
none_told f None e = refl
none_told f (Some x) e = absurd cc

whole-action_of : (opening : OrderOpening) (order : List LineFields) → order_fault order ≡ None
    → IsWholeAction (action_of opening order)
whole-action_of Add order whole = whole
whole-action_of Amend order whole = whole
whole-action_of Put order whole = whole

-- an order that is not refused has its place in the refresh
pub room-ended : (count after : ℕ) (b : Begun) → HasRoom count b → refusal_at_end b ≡ None
    → HasRoom after (begun_of (ended_of b))
room-ended count after begun.Nothing room whole = tt
room-ended count after (begun.Refresh actions) room whole = room
room-ended count after (begun.Asked questions) room whole = room
room-ended count after (begun.Order order) room whole =
    let last : Action = action_of order.opening order.lines in (
      rw (length_push order.actions last) (omega (arith, room.0)),
      All-push IsWholeAction order.actions last room.1
          (whole-action_of order.opening order.lines (none_told (error.Row order.number) (order_fault order.lines)
          whole)),
    )

-- what follows once the order has ended follows
pub follows-ended : (number : ℕ) (b : Begun) (line : ScriptLine) (step : ScriptStep)
    → Follows number (begun_of (ended_of b)) line step → Follows number b line step
follows-ended number b line step follows = record {
  taken = subst (λ lines. AreTaken (lines ++ line ∷ []) step.request (begun_in step.begun)) (lines-ended b)
      follows.taken;
  whole = follows.whole;
  room = follows.room;
  settled = follows.settled;
}

-- the checks of a record that is no `line` are those where the order has ended
pub checks-ended : (number : ℕ) (b : Begun) (found : Option Control)
    → first_of (checks_in number b (line_or_bad (option_map line_of_control found))) ≡ first_of
    (checks_in number (begun_of (ended_of b)) (line_or_bad (option_map line_of_control found)))
checks-ended number begun.Nothing found = refl
checks-ended number (begun.Refresh actions) found = refl
checks-ended number (begun.Asked questions) found = refl
checks-ended number (begun.Order order) None = refl
checks-ended number (begun.Order order) (Some (control.Query question)) = refl
checks-ended number (begun.Order order) (Some (control.Sql text)) = refl
checks-ended number (begun.Order order) (Some (control.Order key)) = refl
checks-ended number (begun.Order order) (Some control.Begin) = refl
checks-ended number (begun.Order order) (Some control.Ask) = refl
checks-ended number (begun.Order order) (Some control.Answer) = refl
checks-ended number (begun.Order order) (Some (control.Open opening)) =
    rw (length_push order.actions (action_of order.opening order.lines)) refl
checks-ended number (begun.Order order) (Some (control.Withdraw key)) =
    rw (length_push order.actions (action_of order.opening order.lines)) refl
checks-ended number (begun.Order order) (Some control.Commit) =
    rw (length_push order.actions (action_of order.opening order.lines)) refl

-- where no order is refused, the checks of the record decide
pub refused_later : (result : Result ScriptStep ScriptError) (b : Begun) (word : Option ScriptWord)
    (checks : List (Option ScriptError))
    → order_refused b word ≡ None → IfErr result (IsFoundBy checks)
    → IfErr result (IsFoundBy (order_refused b word ∷ checks))
refused_later (Ok step) b word checks none found = tt
refused_later (Err e) b word checks none (inl memory) = inl memory
refused_later (Err e) b word checks none (inr found) = inr (rw none found)

-- what checks find is found
pub found_in : (result : Result ScriptStep ScriptError) (number : ℕ) (spelled : Result ScriptLine RecordFault)
    (checks : List (Option ScriptError))
    → IfErr result (IsFoundBy checks) → IfErr result (IsFoundIn number spelled checks)
found_in (Ok step) number spelled checks found = tt
found_in (Err e) number spelled checks found = inl found

pub not_refused : (b : Begun) (word : Option ScriptWord) → refusal_at_end b ≡ None → order_refused b word ≡ None
not_refused b word none = by (is_line word || is_abort word)
  where
    by : (line : Bool) → (if line then None else refusal_at_end b) ≡ None
    by true = refl
    by false = none

pub line_not_refused : (b : Begun) (word : Option ScriptWord) → is_line word ≡ true → order_refused b word ≡ None
line_not_refused b word is_one = rw is_one refl

pub abort_not_refused : (b : Begun) (word : Option ScriptWord) → is_abort word ≡ true → order_refused b word ≡ None
abort_not_refused b word is_one = by (is_line word)
  where
    by : (line : Bool) → (if line || is_abort word then None else refusal_at_end b) ≡ None
    by true = refl
    by false = rw is_one refl

-- what comes of a record that is no `line`, once the order has ended
pub step_after : (result : Result ScriptStep ScriptError) (number : ℕ) (b : Begun)
    (spelled : Result ScriptLine RecordFault)
    (found : Control) (ended : Ended)
    → ended_of b ≡ ended → spelled ≡ Ok (line_of_control found)
    → IfOk result (λ step. Follows number (begun_of ended) (line_of_control found) step)
    → IfOk result (λ step. (line : ScriptLine) × (spelled ≡ Ok line) × Follows number b line step)
step_after (Ok step) number b spelled found ended at is follows =
    (line_of_control found, is, follows-ended number b (line_of_control found) step (rw at follows))
step_after (Err e) number b spelled found ended at is follows = tt

pub fault_after : (result : Result ScriptStep ScriptError) (number : ℕ) (b : Begun) (word : Option ScriptWord)
    (spelled : Result ScriptLine RecordFault) (found : Control) (ended : Ended)
    → ended_of b ≡ ended → refusal_at_end b ≡ None → spelled ≡ Ok (line_of_control found)
    → IfErr result (IsFoundIn number (Ok (line_of_control found))
    (checks_in number (begun_of ended) (Ok (line_of_control found))))
    → IfErr result (IsFoundIn number spelled (order_refused b word ∷ checks_in number b spelled))
fault_after (Ok step) number b word spelled found ended at none is faults = tt
fault_after (Err e) number b word spelled found ended at none is (inl (inl memory)) = inl (inl memory)
fault_after (Err e) number b word spelled found ended at none is (inl (inr faults)) =
    inl (inr (rw (not_refused b word none, is) (checks-ended number b (Some found) ∙ rw at faults)))
fault_after (Err e) number b word spelled found ended at none is (inr refused) = inr (
  rw (not_refused b word none, is) (checks-ended number b (Some found) ∙ rw at refused.0),
  rw is refused.1,
)

-- what ends in a withdrawal ends in no order
pub ends_withdrawn : (actions : List Action) (key : ℕ) → ends_in_order (actions ++ action.Withdraw key ∷ []) ≡ false
ends_withdrawn [] key = refl
ends_withdrawn (a ∷ []) key = refl
ends_withdrawn (a ∷ b ∷ actions) key = ends_withdrawn (b ∷ actions) key

-- what comes of an `abort`
pub abort_step : (result : Result ScriptStep ScriptError) (number : ℕ) (b : Begun) (fields : List (List ℕ))
    → IfOk result (λ step. (alone Abort fields ≡ Some Abort) × Follows number b Abort step)
    → IfOk result (λ step. (line : ScriptLine) × (line_or_bad (alone Abort fields) ≡ Ok line)
    × Follows number b line step)
abort_step (Ok step) number b fields told = (Abort, ap line_or_bad told.0, told.1)
abort_step (Err e) number b fields told = tt
