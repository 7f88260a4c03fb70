-- The names of the queries, and how a report prints them.
use Rattle.std.specs.Prelude.{ℕ, Bool, true, false, List, codes}
use Rattle.ssb_questions.specs.declared.query.Query.{Query}
use Rattle.ssb_questions.specs.declared.query.Query.TheVariants.{Q1_1, Q1_2, Q1_3, Q2_1, Q2_2, Q2_3, Q3_1, Q3_2, Q3_3}
use Rattle.ssb_questions.specs.declared.query.Query.TheVariants.{Q3_4}
use Rattle.ssb_questions.specs.declared.query.Query.TheVariants.{Q4_1, Q4_2, Q4_3, Star}

abbrev pub name_of : Query → List ℕ
name_of Q1_1 = codes "Q1.1"
name_of Q1_2 = codes "Q1.2"
name_of Q1_3 = codes "Q1.3"
name_of Q2_1 = codes "Q2.1"
name_of Q2_2 = codes "Q2.2"
name_of Q2_3 = codes "Q2.3"
name_of Q3_1 = codes "Q3.1"
name_of Q3_2 = codes "Q3.2"
name_of Q3_3 = codes "Q3.3"
name_of Q3_4 = codes "Q3.4"
name_of Q4_1 = codes "Q4.1"
name_of Q4_2 = codes "Q4.2"
name_of Q4_3 = codes "Q4.3"
name_of Star = codes "star"

-- whether a report prints the sum before the group columns, as the first two flights have it
abbrev pub sum_first : Query → Bool
sum_first Q1_1 = true
sum_first Q1_2 = true
sum_first Q1_3 = true
sum_first Q2_1 = true
sum_first Q2_2 = true
sum_first Q2_3 = true
sum_first Q3_1 = false
sum_first Q3_2 = false
sum_first Q3_3 = false
sum_first Q3_4 = false
sum_first Q4_1 = false
sum_first Q4_2 = false
sum_first Q4_3 = false
sum_first Star = false
