-- Which constants spell a star question, and the first that does not.
use Rattle.std.specs.Prelude.{ℕ, Bool, true, false, not, ◌&&◌, nat_eq, nat_lt, nat_le, max, List, length, take, find}
use Rattle.std.specs.Prelude.{Option, None, Some, option_map, option_and_then, slice_get, if◌then◌else◌}
use Rattle.std.specs.List.{filter_map, list_all, count_by, range_with_len}
use Rattle.ssb_schema.specs.Columns.{column_name}
use Rattle.ssb_schema.specs.declared.column.Column.{Column}
use Rattle.ssb_questions.specs.Clause.{Clause, Sums, GroupsBy, Is, IsNot, FromTo, QuantityIn, DiscountIn, BySum}
use Rattle.ssb_questions.specs.Clause.{clause_of}
use Rattle.ssb_questions.specs.Text.{text_eq}
use Rattle.ssb_questions.specs.declared.clauses.Subject.{Subject}
use Rattle.ssb_questions.specs.declared.clauses.Subject.TheVariants.{Measure, Group, OneValue, Exclusion, Range}
use Rattle.ssb_questions.specs.declared.clauses.Subject.TheVariants.{Quantity, Discount, Order}
use Rattle.ssb_questions.specs.declared.value.Value.{Value}
use Rattle.ssb_questions.specs.declared.value.Value.TheVariants as value

-- what a constant says; a number says nothing
abbrev pub clause_said : Value → Option Clause
clause_said (value.Text bytes) = clause_of bytes
clause_said (value.Number number) = None

-- the clauses that constants spell
abbrev pub clauses_of : List Value → List Clause
clauses_of constants = filter_map clause_said constants

-- what a clause speaks of, without its values
abbrev pub subject : Clause → Subject
subject (Sums measure) = Measure
subject (GroupsBy column) = Group column
subject (Is column v) = OneValue column
subject (IsNot column v) = Exclusion column
subject (FromTo column from to) = Range column
subject (QuantityIn range) = Quantity
subject (DiscountIn range) = Discount
subject BySum = Order

abbrev pub subject_of : Value → Option Subject
subject_of constant = option_map subject (clause_said constant)

abbrev pub subjects_of : List Value → List Subject
subjects_of constants = filter_map subject_of constants

abbrev pub same_column : Column → Column → Bool
same_column a b = text_eq (column_name a) (column_name b)

abbrev pub same_subject : Subject → Subject → Bool
same_subject Measure Measure = true
same_subject (Group a) (Group b) = same_column a b
same_subject (OneValue a) (OneValue b) = same_column a b
same_subject (Exclusion a) (Exclusion b) = same_column a b
same_subject (Range a) (Range b) = same_column a b
same_subject Quantity Quantity = true
same_subject Discount Discount = true
same_subject Order Order = true
same_subject _ _ = false

-- how many clauses speak of a subject
abbrev pub count_of : Subject → List Subject → ℕ
count_of wanted subjects = count_by (same_subject wanted) subjects

abbrev pub is_absent : Subject → List Subject → Bool
is_absent wanted subjects = nat_eq (count_of wanted subjects) 0

-- whether it is the measure or a group column
abbrev pub is_head : Subject → Bool
is_head Measure = true
is_head (Group column) = true
is_head _ = false

-- whether one value more may be excluded of a column after these
abbrev pub may_exclude : List Subject → Column → Bool
may_exclude earlier column = is_absent Order earlier && nat_lt (count_of (Exclusion column) earlier) 16

-- whether a clause may stand at a place behind the first, after these: a group column behind the measure and at most
-- three others, and not twice; a test of a column behind tests of other kinds, and at most 16 values of one column, and 16
-- that it has not; a test of quantity and one of discount; nothing behind the order
abbrev pub may_follow : ℕ → List Subject → Subject → Bool
may_follow place earlier Measure = false
may_follow place earlier (Group column) =
    nat_le place 4 && list_all is_head earlier && is_absent (Group column) earlier
may_follow place earlier (OneValue column) =
    is_absent Order earlier && is_absent (Range column) earlier && nat_lt (count_of (OneValue column) earlier) 16
may_follow place earlier (Exclusion column) = may_exclude earlier column
may_follow place earlier (Range column) =
    is_absent Order earlier && is_absent (Range column) earlier && is_absent (OneValue column) earlier
may_follow place earlier Quantity = is_absent Order earlier && is_absent Quantity earlier
may_follow place earlier Discount = is_absent Order earlier && is_absent Discount earlier
may_follow place earlier Order = is_absent Order earlier

abbrev pub is_measure : Subject → Bool
is_measure Measure = true
is_measure _ = false

-- whether a clause may stand at a place, counted from 0: the measure at the first, and no other there
abbrev pub may_stand_at : ℕ → List Subject → Option Subject → Bool
may_stand_at place earlier None = false
may_stand_at place earlier (Some s) = if nat_eq place 0 then is_measure s else may_follow place earlier s

-- whether the constant at a place says what may stand there, behind the earlier ones; at most 64 constants may
abbrev pub may_stand : List Value → ℕ → Bool
may_stand constants place =
    nat_lt place 64
    && may_stand_at place (subjects_of (take place constants)) (option_and_then subject_of (slice_get constants place))

-- the first place at which no constant stands that may; the first place of all has to have one
abbrev pub first_bad : List Value → Option ℕ
first_bad constants = find (λ place. not (may_stand constants place)) (range_with_len 0 (max 1 (length constants)))
