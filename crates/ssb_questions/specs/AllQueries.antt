-- The queries, in the order of their names.
use Rattle.std.specs.Prelude.{List, [], ◌∷◌, ◌++◌}
use Rattle.ssb_questions.specs.declared.query.Query.{Query}
use Rattle.ssb_questions.specs.declared.query.Query.TheVariants.{Q1_1, Q1_2, Q1_3, Q2_1, Q2_2, Q2_3, Q3_1, Q3_2, Q3_3}
use Rattle.ssb_questions.specs.declared.query.Query.TheVariants.{Q3_4}
use Rattle.ssb_questions.specs.declared.query.Query.TheVariants.{Q4_1, Q4_2, Q4_3, Star}

-- the benchmark's thirteen
abbrev pub all_queries : List Query
all_queries =
    Q1_1 ∷ Q1_2 ∷ Q1_3 ∷ Q2_1 ∷ Q2_2 ∷ Q2_3 ∷ Q3_1 ∷ Q3_2 ∷ Q3_3 ∷ Q3_4 ∷ Q4_1 ∷ Q4_2 ∷ Q4_3 ∷ []

-- those that have a name
abbrev pub queries_and_star : List Query
queries_and_star = all_queries ++ Star ∷ []
