-- Equal questions.
use Rattle.std.specs.Prelude.{Bool, List}
use Rattle.std.specs.Cmp.{IsEquivalence, on_equiv, and_equiv, eq_by_cmp_equiv}
use Rattle.std.specs.Cmp.Lexicographic.{pointwise, lists_equiv, nat_list_eq_equiv}
use Rattle.std.specs.Ordering.{on, eq_of_both, eq_by_cmp}
use Rattle.ssb_questions.specs.Query.{name_of}
use Rattle.ssb_questions.specs.Text.{text_eq}
use Rattle.ssb_questions.specs.Value.{value_cmp}
use Rattle.ssb_questions.specs.ValueLaws.{value_cmp_total}
use Rattle.ssb_questions.specs.declared.query.Query.{Query}
use Rattle.ssb_questions.specs.declared.value.Value.{Value}

-- whether two questions ask one query with equal constants
abbrev pub question_eq : Query × List Value → Query × List Value → Bool
question_eq = eq_of_both (on (λ question. name_of question.0) text_eq)
    (on (λ question. question.1) (pointwise (eq_by_cmp value_cmp)))

pub question_eq-equiv : IsEquivalence question_eq
question_eq-equiv =
    and_equiv (on_equiv (λ question. name_of question.0) nat_list_eq_equiv)
    (on_equiv (λ question. question.1) (lists_equiv (eq_by_cmp_equiv value_cmp_total)))
