-- Values that tie are the same.
use Rattle.std.proofs.Common.{◌≡◌, true, ap, subst}
use Rattle.std.specs.Bool.{Decides}
use Rattle.std.specs.Cmp.{Equal-is, tied_itself}
use Rattle.std.specs.FinMap.{IsAntisymmetric, nat_cmp-IsAntisymmetric, slice_cmp-IsAntisymmetric}
use Rattle.std.specs.Ordering.{is_eq, eq_by_cmp}
use Rattle.ssb_questions.specs.Value.{value_cmp}
use Rattle.ssb_questions.specs.ValueLaws.{less-not-equal, greater-not-equal, value_cmp_total}
use Rattle.ssb_questions.specs.declared.value.Value.{Value}
use Rattle.ssb_questions.specs.declared.value.Value.TheVariants.{Text, Number}

pub value_cmp-same : IsAntisymmetric value_cmp
value_cmp-same (Text a) (Text b) e = ap Text (slice_cmp-IsAntisymmetric nat_cmp-IsAntisymmetric a b e)
value_cmp-same (Text a) (Number n) e = absurd (less-not-equal e)
value_cmp-same (Number m) (Text b) e = absurd (greater-not-equal e)
value_cmp-same (Number m) (Number n) e = ap Number (nat_cmp-IsAntisymmetric m n e)

-- `==` of values decides whether they are the same
pub value_Decides : (a b : Value) → Decides (eq_by_cmp value_cmp a b) (a ≡ b)
value_Decides a b = (
  λ t. value_cmp-same a b ((Equal-is (value_cmp a b)).0 t),
  λ e. subst (λ (x : Value). is_eq (value_cmp a x) ≡ true) e (ap is_eq (tied_itself value_cmp_total a)),
)
