-- The constants as they stand in the program.
use Rattle.ssb_questions.specs.declared.value.Value.{Value}
use Rattle.ssb_questions.specs.declared.value.Value.TheVariants as value
use Rattle.ssb_questions.specs.declared.constants.Constant.{Constant}
use Rattle.ssb_questions.specs.declared.constants.Constant.TheVariants.{Text, Number}

abbrev pub constant_value : Constant → Value
constant_value (Text text) = value.Text text.now
constant_value (Number number) = value.Number number
