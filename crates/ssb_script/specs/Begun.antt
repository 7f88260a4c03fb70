-- What the records of a script have begun and not ended.
use Rattle.std.specs.Prelude.{ℕ, List}
use Rattle.ssb_schema.specs.declared.line.LineFields.{LineFields}
use Rattle.ssb_schema.specs.declared.refresh.Action.{Action}
use Rattle.ssb_questions.specs.declared.query.Query.{Query as Named}
use Rattle.ssb_questions.specs.declared.value.Value.{Value}
use Rattle.ssb_script.specs.declared.control.OrderOpening.{OrderOpening}

-- an order whose lines are being read
pub record BegunOrder : Type 0 where
  -- the actions before it in its refresh
  pub actions : List Action
  -- how it began, and the number of the record that began it
  pub opening : OrderOpening
  pub number : ℕ
  -- its lines so far
  pub lines : List LineFields

-- nothing is begun, or a refresh with these actions so far, or an order in a refresh, or a block with these questions
-- so far
pub data Begun : Type 0 where
  Nothing : Begun
  Refresh : List Action → Begun
  Order : BegunOrder → Begun
  Asked : List (Named × List Value) → Begun
