-- The order of values.
use Rattle.std.specs.declared.cmp.Ordering.{Ordering}
use Rattle.std.specs.declared.cmp.Ordering.TheVariants.{Less, Greater}
use Rattle.std.specs.Ordering.{nat_cmp}
use Rattle.ssb_questions.specs.Text.{text_cmp}
use Rattle.ssb_questions.specs.declared.value.Value.{Value}
use Rattle.ssb_questions.specs.declared.value.Value.TheVariants.{Text, Number}

-- how two values stand; every text stands before every number, which no column mixes
abbrev pub value_cmp : Value → Value → Ordering
value_cmp (Text a) (Text b) = text_cmp a b
value_cmp (Text a) (Number n) = Less
value_cmp (Number m) (Text b) = Greater
value_cmp (Number m) (Number n) = nat_cmp m n
