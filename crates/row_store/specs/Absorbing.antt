-- A commit's action on a list of lines, told apart: the earlier lines that go, and what comes behind the others.
use Rattle.std.specs.Prelude.{ℕ, not, nat_eq, List, [], ◌∷◌, filter}
use Rattle.std.specs.List.{list_any}
use Rattle.ssb_schema.specs.declared.line.LineFields.{LineFields}
use Rattle.ssb_schema.specs.declared.refresh.Action.{Action}
use Rattle.ssb_schema.specs.declared.refresh.Action.TheVariants.{Add, Amend, Put, Withdraw}
use Rattle.ssb_schema.specs.Orders.{order_key}

-- the order whose earlier lines go by an action, if there is one
abbrev pub gone_by : Action → List ℕ
gone_by (Add order) = []
gone_by (Amend order) = order_key order ∷ []
gone_by (Put order) = order_key order ∷ []
gone_by (Withdraw key) = key ∷ []

-- the lines of all orders but these
abbrev pub lines_without_all : List ℕ → List LineFields → List LineFields
lines_without_all keys lines = filter (λ line. not (list_any (λ key. nat_eq key line.order_key) keys)) lines
