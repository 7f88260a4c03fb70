-- The group columns and the limit that pieces say.
use Rattle.std.proofs.Common.{◌≡◌, ◌∙◌, ◌<◌, ◌+◌, ◌-◌, ℕ, Bool, true, false, List, [], ◌∷◌, ◌++◌, ap, refl, length, take}
use Rattle.std.proofs.Common.{get_or, append-nil, Option, None, Some, arith, sym}
use Rattle.std.specs.Prelude.{filter_map, option_to_list, slice_get}
use Rattle.std.specs.List.{cons_option}
use Rattle.std.proofs.lemmas.List.{take_more}
use Rattle.std.proofs.lemmas.List.Elements.{filter_map-append}
use Rattle.ssb_schema.specs.declared.column.Column.{Column}
use Rattle.ssb_schema.specs.declared.table.Table.{Table}
use Rattle.ssb_questions.specs.declared.clause.Spelled.{Spelled}
use Rattle.ssb_sql.specs.Laws.{StatementsSayTheirGroups}
use Rattle.ssb_sql.specs.Said.{group_said, groups_said, limit_said, most_said}
use Rattle.ssb_sql.specs.Select.{Name, Select, aggregate_of, number_of}
use Rattle.ssb_sql.specs.Select.{Item, Plain, PlainNamed, PlainNamedAs, Total, Named, NamedAs}
use Rattle.ssb_sql.specs.Select.{Source, Beside, JoinedOn, JoinedOnTurned, Having}
use Rattle.ssb_sql.specs.Select.{Condition, Joins, JoinsTurned, Compares, LiesBetween, OneOf, NoneOf, Choice}
use Rattle.ssb_sql.specs.Select.{excluded_say}
use Rattle.ssb_sql.specs.Select.{By, ByColumn, ByName, ByPlace, ByAggregate, Direction, Unsaid, Upwards, Downwards, Key}
use Rattle.ssb_sql.specs.Select.{item_says, items_say, source_says, sources_say, values_say, choices_say, condition_says, compared_piece}
use Rattle.ssb_sql.specs.Select.{conditions_say, groups_say, having_says, by_piece, direction_says, keys_say, limit_says}
use Rattle.ssb_sql.specs.declared.piece.Comparison.TheVariants as comparison
use Rattle.ssb_sql.specs.declared.piece.Operand.{Operand}
use Rattle.ssb_sql.specs.declared.piece.Comparison.{Comparison}
use Rattle.ssb_sql.specs.declared.piece.Aggregate.{Aggregate}
use Rattle.ssb_sql.specs.declared.piece.SignedNumber.{SignedNumber}
use Rattle.ssb_sql.specs.declared.piece.SqlPiece.{SqlPiece}
use Rattle.ssb_sql.specs.declared.piece.SqlPiece.TheVariants as piece

one_said : (p : SqlPiece) (said : Option Column) → group_said p ≡ said
    → filter_map group_said (p ∷ []) ≡ option_to_list said
one_said p None told = ap (λ s. filter_map (λ q. s) (p ∷ [])) told
one_said p (Some column) told = ap (λ s. filter_map (λ q. s) (p ∷ [])) told

-- a piece more
pub groups_more : (pieces : List SqlPiece) (i : ℕ) (d : SqlPiece) (old new : List Column) → i < length pieces
    → new ≡ old ++ option_to_list (group_said (get_or pieces i d)) → old ≡ groups_said (take i pieces)
    → new ≡ groups_said (take (i + 1) pieces)
groups_more pieces i d old new within is told =
    is
    ∙ (ap (λ columns. columns ++ option_to_list (group_said (get_or pieces i d))) told
    ∙ (ap (λ columns. groups_said (take i pieces) ++ columns)
    (sym (one_said (get_or pieces i d) (group_said (get_or pieces i d)) refl))
    ∙ (sym (filter_map-append group_said (take i pieces) (get_or pieces i d ∷ []))
    ∙ ap groups_said (sym (take_more pieces i d within)))))

-- nothing is said by the first piece
pub nothing_more : (p : SqlPiece) (rest : List SqlPiece) → most_said p ≡ None → limit_said (p ∷ rest) ≡ limit_said rest
nothing_more p rest none = ap (λ o. slice_get (cons_option o (filter_map most_said rest)) 0) none

no_group_by : (by : By) → group_said (by_piece by) ≡ None
no_group_by (ByColumn column) = refl
no_group_by (ByName name) = refl
no_group_by (ByPlace place) = refl
no_group_by (ByAggregate c) = refl

no_most_by : (by : By) → most_said (by_piece by) ≡ None
no_most_by (ByColumn column) = refl
no_most_by (ByName name) = refl
no_most_by (ByPlace place) = refl
no_most_by (ByAggregate c) = refl

-- ---- a statement as it is written

-- what is looked for is neither printed, nor read, tested, kept nor sorted by
record Ignores {X : Type 0} (f : SqlPiece → Option X) : Type 0 where
  prints : (column : Column) → f (piece.Prints column) ≡ None
  computes : (made : Aggregate) → f (piece.Computes made) ≡ None
  called : (name : Name) → f (piece.Called name) ≡ None
  from : (table : Table) → f (piece.From table) ≡ None
  joined : (table : Table) → f (piece.Joined table) ≡ None
  is : (o : Operand) (v : Spelled) → f (piece.Is o v) ≡ None
  or_is : (o : Operand) (v : Spelled) → f (piece.OrIs o v) ≡ None
  stands : (o : Operand) (how : Comparison) (v : Spelled) → f (piece.Stands o how v) ≡ None
  between : (o : Operand) (from to : Spelled) → f (piece.Between o from to) ≡ None
  keeps : (made : Aggregate) (how : Comparison) (number : SignedNumber) → f (piece.Keeps made how number) ≡ None
  by : (by : By) → f (by_piece by) ≡ None
  descending : f piece.Descending ≡ None

skip : {X : Type 0} (f : SqlPiece → Option X) (p : SqlPiece) (rest : List SqlPiece) → f p ≡ None
    → filter_map f (p ∷ rest) ≡ filter_map f rest
skip f p rest none = ap (λ o. cons_option o (filter_map f rest)) none

module _ {X : Type 0} (f : SqlPiece → Option X) (no : Ignores f) where
  item_no : (i : Item) (rest : List SqlPiece) → filter_map f (item_says i rest) ≡ filter_map f rest
  item_no (Plain column) rest = skip f _ rest (no.prints column)
  item_no (PlainNamed column name) rest =
      skip f _ (piece.Called name ∷ rest) (no.prints column) ∙ skip f _ rest (no.called name)
  item_no (PlainNamedAs column name) rest =
      skip f _ (piece.Called name ∷ rest) (no.prints column) ∙ skip f _ rest (no.called name)
  item_no (Total c) rest = skip f _ rest (no.computes (aggregate_of c))
  item_no (Named c name) rest =
      skip f _ (piece.Called name ∷ rest) (no.computes (aggregate_of c)) ∙ skip f _ rest (no.called name)
  item_no (NamedAs c name) rest =
      skip f _ (piece.Called name ∷ rest) (no.computes (aggregate_of c)) ∙ skip f _ rest (no.called name)

  items_no : (items : List Item) (rest : List SqlPiece) → filter_map f (items_say items rest) ≡ filter_map f rest
  items_no [] rest = refl
  items_no (item ∷ items) rest = item_no item (items_say items rest) ∙ items_no items rest

  source_no : (source : Source) (rest : List SqlPiece) → filter_map f (source_says source rest) ≡ filter_map f rest
  source_no (Beside own) rest = skip f _ rest (no.from own)
  source_no (JoinedOn is_inner own) rest =
      skip f _ (piece.Joined own ∷ rest) (no.from own) ∙ skip f _ rest (no.joined own)
  source_no (JoinedOnTurned is_inner own) rest =
      skip f _ (piece.Joined own ∷ rest) (no.from own) ∙ skip f _ rest (no.joined own)

  sources_no : (sources : List Source) (rest : List SqlPiece)
      → filter_map f (sources_say sources rest) ≡ filter_map f rest
  sources_no [] rest = refl
  sources_no (source ∷ sources) rest = source_no source (sources_say sources rest) ∙ sources_no sources rest

  values_no : (o : Operand) (values : List Spelled) (rest : List SqlPiece)
      → filter_map f (values_say o values rest) ≡ filter_map f rest
  values_no o [] rest = refl
  values_no o (v ∷ values) rest = skip f _ (values_say o values rest) (no.or_is o v) ∙ values_no o values rest

  excluded_no : (o : Operand) (values : List Spelled) (rest : List SqlPiece)
      → filter_map f (excluded_say o values rest) ≡ filter_map f rest
  excluded_no o [] rest = refl
  excluded_no o (v ∷ values) rest =
      skip f _ (excluded_say o values rest) (no.stands o comparison.NotEqual v) ∙ excluded_no o values rest

  choices_no : (choices : List (Operand × Spelled)) (rest : List SqlPiece)
      → filter_map f (choices_say choices rest) ≡ filter_map f rest
  choices_no [] rest = refl
  choices_no (c ∷ choices) rest = skip f _ (choices_say choices rest) (no.or_is c.0 c.1) ∙ choices_no choices rest

  compared_no : (o : Operand) (how : Comparison) (v : Spelled) → f (compared_piece o how v) ≡ None
  compared_no o comparison.Equal v = no.is o v
  compared_no o comparison.NotEqual v = no.stands o comparison.NotEqual v
  compared_no o comparison.Less v = no.stands o comparison.Less v
  compared_no o comparison.LessOrEqual v = no.stands o comparison.LessOrEqual v
  compared_no o comparison.Greater v = no.stands o comparison.Greater v
  compared_no o comparison.GreaterOrEqual v = no.stands o comparison.GreaterOrEqual v

  condition_no : (condition : Condition) (rest : List SqlPiece)
      → filter_map f (condition_says condition rest) ≡ filter_map f rest
  condition_no (Joins own) rest = skip f _ rest (no.joined own)
  condition_no (JoinsTurned own) rest = skip f _ rest (no.joined own)
  condition_no (Compares by_bytes o how v) rest = skip f _ rest (compared_no o how v)
  condition_no (LiesBetween by_bytes o from to) rest = skip f _ rest (no.between o from to)
  condition_no (OneOf by_bytes o v values) rest =
      skip f _ (values_say o values rest) (no.is o v) ∙ values_no o values rest
  condition_no (NoneOf by_bytes o v values) rest =
      skip f _ (excluded_say o values rest) (no.stands o comparison.NotEqual v) ∙ excluded_no o values rest
  condition_no (Choice o v choices) rest = skip f _ (choices_say choices rest) (no.is o v) ∙ choices_no choices rest

  conditions_no : (conditions : List Condition) (rest : List SqlPiece)
      → filter_map f (conditions_say conditions rest) ≡ filter_map f rest
  conditions_no [] rest = refl
  conditions_no (condition ∷ conditions) rest =
      condition_no condition (conditions_say conditions rest) ∙ conditions_no conditions rest

  having_no : (tests : List Having) (rest : List SqlPiece) → filter_map f (having_says tests rest) ≡ filter_map f rest
  having_no [] rest = refl
  having_no (test ∷ tests) rest =
      skip f _ (having_says tests rest)
      (no.keeps (aggregate_of test.computed) test.how (number_of test.is_negative test.amount))
      ∙ having_no tests rest

  direction_no : (direction : Direction) (rest : List SqlPiece)
      → filter_map f (direction_says direction rest) ≡ filter_map f rest
  direction_no Unsaid rest = refl
  direction_no Upwards rest = refl
  direction_no Downwards rest = skip f _ rest no.descending

  keys_no : (keys : List Key) (rest : List SqlPiece) → filter_map f (keys_say keys rest) ≡ filter_map f rest
  keys_no [] rest = refl
  keys_no (key ∷ keys) rest =
      skip f _ (direction_says key.direction (keys_say keys rest)) (no.by key.by)
      ∙ (direction_no key.direction (keys_say keys rest) ∙ keys_no keys rest)

  -- what is said before the groups, and between these and the limit
  before_groups : (s : Select) (rest : List SqlPiece)
      → filter_map f (item_says s.item (items_say s.items (piece.From s.table
      ∷ sources_say s.sources (conditions_say s.conditions rest)))) ≡ filter_map f rest
  before_groups s rest =
      let tests = conditions_say s.conditions rest in
      let tables = sources_say s.sources tests in
      item_no s.item (items_say s.items (piece.From s.table ∷ tables))
      ∙ (items_no s.items (piece.From s.table ∷ tables)
      ∙ (skip f _ tables (no.from s.table) ∙ (sources_no s.sources tests ∙ conditions_no s.conditions rest)))

  behind_groups : (s : Select) (rest : List SqlPiece)
      → filter_map f (having_says s.having (keys_say s.keys rest)) ≡ filter_map f rest
  behind_groups s rest = having_no s.having (keys_say s.keys rest) ∙ keys_no s.keys rest

no_group : Ignores group_said
no_group = record {
  prints = λ column. refl;
  computes = λ made. refl;
  called = λ name. refl;
  from = λ own. refl;
  joined = λ own. refl;
  is = λ o v. refl;
  or_is = λ o v. refl;
  stands = λ o how v. refl;
  between = λ o from to. refl;
  keeps = λ made how number. refl;
  by = no_group_by;
  descending = refl;
}

no_most : Ignores most_said
no_most = record {
  prints = λ column. refl;
  computes = λ made. refl;
  called = λ name. refl;
  from = λ own. refl;
  joined = λ own. refl;
  is = λ o v. refl;
  or_is = λ o v. refl;
  stands = λ o how v. refl;
  between = λ o from to. refl;
  keeps = λ made how number. refl;
  by = no_most_by;
  descending = refl;
}

groups_are : (columns : List Column) (rest : List SqlPiece)
    → groups_said (groups_say columns rest) ≡ columns ++ groups_said rest
groups_are [] rest = refl
groups_are (column ∷ columns) rest = ap (λ all. column ∷ all) (groups_are columns rest)

groups_no : (columns : List Column) (rest : List SqlPiece)
    → filter_map most_said (groups_say columns rest) ≡ filter_map most_said rest
groups_no [] rest = refl
groups_no (column ∷ columns) rest = groups_no columns rest

limit_no : (limit : Option ℕ) → groups_said (limit_says limit) ≡ []
limit_no None = refl
limit_no (Some most) = refl

limit_is : (limit : Option ℕ) → limit_said (limit_says limit) ≡ limit
limit_is None = refl
limit_is (Some most) = refl

pub say_groups : StatementsSayTheirGroups
say_groups s =
    let last = limit_says s.limit in
    let behind = having_says s.having (keys_say s.keys last) in (
      before_groups group_said no_group s (groups_say s.groups behind)
          ∙ (groups_are s.groups behind
          ∙ (ap (λ others. s.groups ++ others) (behind_groups group_said no_group s last ∙ limit_no s.limit)
          ∙ append-nil s.groups)),
      ap (λ all. slice_get all 0)
          (before_groups most_said no_most s (groups_say s.groups behind)
          ∙ (groups_no s.groups behind ∙ behind_groups most_said no_most s last))
          ∙ limit_is s.limit,
    )
