use Rattle.std.proofs.Common.{arith}
-- The clauses of a question ask the same of `star`.
use Rattle.std.proofs.Common.{◌≡◌, true, false}
use Rattle.ssb_questions.specs.declared.query.Query.TheVariants.{Q1_1, Q1_2, Q1_3, Q2_1, Q2_2, Q2_3, Q3_1, Q3_2, Q3_3}
use Rattle.ssb_questions.specs.declared.query.Query.TheVariants.{Q3_4}
use Rattle.ssb_questions.specs.declared.query.Query.TheVariants.{Q4_1, Q4_2, Q4_3, Star}
use Rattle.ssb_explain.specs.Laws.{ClausesAskTheSame}

not_both : true ≡ false → ⊥
not_both h = cc

pub same : ClausesAskTheSame
same Q1_1 constants is_other = grind arith
same Q1_2 constants is_other = grind arith
same Q1_3 constants is_other = grind arith
same Q2_1 constants is_other = grind arith
same Q2_2 constants is_other = grind arith
same Q2_3 constants is_other = grind arith
same Q3_1 constants is_other = grind (arith, not_both)
same Q3_2 constants is_other = grind (arith, not_both)
same Q3_3 constants is_other = grind (arith, not_both)
same Q3_4 constants is_other = grind (arith, not_both)
same Q4_1 constants is_other = grind arith
same Q4_2 constants is_other = grind arith
same Q4_3 constants is_other = grind arith
same Star constants is_other = grind (arith, not_both)
