-- The order of values is total.
use Rattle.std.specs.Prelude.{◌≡◌, refl}
use Rattle.std.proofs.Common.{subst}
use Rattle.std.specs.declared.cmp.Ordering.{Ordering}
use Rattle.std.specs.declared.cmp.Ordering.TheVariants.{Less, Equal, Greater}
use Rattle.std.specs.Ordering.{ordering_reverse}
use Rattle.std.specs.Cmp.{IsTotalOrder, nat_cmp_total}
use Rattle.std.specs.Cmp.Lexicographic.{nat_list_cmp_total}
use Rattle.ssb_questions.specs.Value.{value_cmp}
use Rattle.ssb_questions.specs.declared.value.Value.{Value}
use Rattle.ssb_questions.specs.declared.value.Value.TheVariants.{Text, Number}

-- it is less or greater
abbrev pub Differs : Ordering → Type 0
Differs Equal = ⊥
Differs _ = Unit {0}

-- it is greater
abbrev pub IsGreater : Ordering → Type 0
IsGreater Greater = Unit {0}
IsGreater _ = ⊥

pub greater-not-less : Greater ≡ Less → ⊥
greater-not-less e = subst IsGreater e tt

pub less-not-equal : Less ≡ Equal → ⊥
less-not-equal e = subst Differs e tt

pub greater-not-equal : Greater ≡ Equal → ⊥
greater-not-equal e = subst Differs e tt

value_antisymm : (x y : Value) → value_cmp x y ≡ ordering_reverse (value_cmp y x)
value_antisymm (Text a) (Text b) = nat_list_cmp_total.antisymm a b
value_antisymm (Text a) (Number n) = refl
value_antisymm (Number m) (Text b) = refl
value_antisymm (Number m) (Number n) = nat_cmp_total.antisymm m n

value_trans : (x y z : Value) → value_cmp x y ≡ Less → value_cmp y z ≡ Less → value_cmp x z ≡ Less
value_trans (Text a) (Text b) (Text c) p q = nat_list_cmp_total.trans a b c p q
value_trans (Text a) (Text b) (Number n) p q = refl
value_trans (Text a) (Number m) (Text c) p q = absurd (greater-not-less q)
value_trans (Text a) (Number m) (Number n) p q = refl
value_trans (Number l) (Text b) z p q = absurd (greater-not-less p)
value_trans (Number l) (Number m) (Text c) p q = absurd (greater-not-less q)
value_trans (Number l) (Number m) (Number n) p q = nat_cmp_total.trans l m n p q

value_congr : (x y z : Value) → value_cmp x y ≡ Equal → value_cmp x z ≡ value_cmp y z
value_congr (Text a) (Text b) (Text c) p = nat_list_cmp_total.congr a b c p
value_congr (Text a) (Text b) (Number n) p = refl
value_congr (Text a) (Number m) z p = absurd (less-not-equal p)
value_congr (Number l) (Text b) z p = absurd (greater-not-equal p)
value_congr (Number l) (Number m) (Text c) p = refl
value_congr (Number l) (Number m) (Number n) p = nat_cmp_total.congr l m n p

pub value_cmp_total : IsTotalOrder value_cmp
value_cmp_total = record { antisymm = value_antisymm; trans = value_trans; congr = value_congr }
