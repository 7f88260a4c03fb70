-- The question of each sum is one of `star`.
use Rattle.std.proofs.Common.{ap, sym, ◌∷◌, length}
use Rattle.std.specs.List.{filter_map}
use Rattle.ssb_questions.specs.Clause.{Sums}
use Rattle.ssb_questions.specs.Star.{group_in, order_of, star_plan}
use Rattle.ssb_statements.specs.Laws.{QuestionsAreOfStar}

pub of_star : QuestionsAreOfStar
of_star clauses first measure unordered =
    ap
    (λ by_sum. record (star_plan (Sums measure ∷ clauses)) {
      order = order_of by_sum (length (filter_map group_in clauses));
    }) (sym unordered)
