use Rattle.std.proofs.Common.{arith}
-- What queries read in a column is what the row has there.
use Rattle.std.proofs.Common.{◌≡◌, ◌-◌, inl, inr}
use Rattle.ssb_answers.specs.ColumnValues.{ColumnsHaveTheirValues}

pub columns_have_their_values : ColumnsHaveTheirValues
columns_have_their_values column combination (inl e) = grind arith
columns_have_their_values column combination (inr (inl e)) = grind arith
columns_have_their_values column combination (inr (inr (inl e))) = grind arith
columns_have_their_values column combination (inr (inr (inr (inl e)))) = grind arith
columns_have_their_values column combination (inr (inr (inr (inr (inl e))))) = grind arith
columns_have_their_values column combination (inr (inr (inr (inr (inr (inl e)))))) = grind arith
columns_have_their_values column combination (inr (inr (inr (inr (inr (inr (inl e))))))) = grind arith
columns_have_their_values column combination (inr (inr (inr (inr (inr (inr (inr (inl e)))))))) = grind arith
columns_have_their_values column combination (inr (inr (inr (inr (inr (inr (inr (inr (inl e))))))))) = grind arith
columns_have_their_values column combination (inr (inr (inr (inr (inr (inr (inr (inr (inr (inl e)))))))))) = grind arith
columns_have_their_values column combination (inr (inr (inr (inr (inr (inr (inr (inr (inr (inr (inl e))))))))))) = grind arith
columns_have_their_values column combination
    (inr (inr (inr (inr (inr (inr (inr (inr (inr (inr (inr (inl e)))))))))))) = grind arith
columns_have_their_values column combination
    (inr (inr (inr (inr (inr (inr (inr (inr (inr (inr (inr (inr (inl e))))))))))))) = grind arith
columns_have_their_values column combination
    (inr (inr (inr (inr (inr (inr (inr (inr (inr (inr (inr (inr (inr none))))))))))))) = grind arith
