-- What the clauses of the program say.
use Rattle.std.specs.Prelude.{ℕ, List}
use Rattle.std.specs.Borrow.{Bor}
use Rattle.ssb_questions.specs.Clause as spec
use Rattle.ssb_questions.specs.declared.clause.Clause.{Clause}
use Rattle.ssb_questions.specs.declared.clause.Clause.TheVariants.{Sums, GroupsBy, Is, IsNot, FromTo, QuantityIn}
use Rattle.ssb_questions.specs.declared.clause.Clause.TheVariants.{DiscountIn, BySum}
use Rattle.ssb_questions.specs.declared.clause.Spelled.{Spelled}
use Rattle.ssb_questions.specs.declared.clause.Spelled.TheVariants.{Text, Number}
use Rattle.ssb_questions.specs.declared.value.Value.{Value}
use Rattle.ssb_questions.specs.declared.value.Value.TheVariants as value

-- two texts
abbrev pub pair_now : Bor (List ℕ) × Bor (List ℕ) → List ℕ × List ℕ
pair_now texts = (texts.0.now, texts.1.now)

abbrev pub value_said : Spelled → Value
value_said (Text text) = value.Text text.now
value_said (Number number) = value.Number number

abbrev pub said : Clause → spec.Clause
said (Sums measure) = spec.Sums measure
said (GroupsBy column) = spec.GroupsBy column
said (Is column v) = spec.Is column (value_said v)
said (IsNot column v) = spec.IsNot column (value_said v)
said (FromTo column from to) = spec.FromTo column (value_said from) (value_said to)
said (QuantityIn range) = spec.QuantityIn range
said (DiscountIn range) = spec.DiscountIn range
said BySum = spec.BySum
