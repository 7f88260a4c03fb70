-- What may stand in each place of a question's constants.
use Rattle.std.specs.Prelude.{◌^◌, Bool, false, not, is_some, nat_lt, List, [], ◌∷◌, Option, Some, None}
use Rattle.ssb_schema.specs.Columns as columns
use Rattle.ssb_schema.specs.Columns.{column_fault, C_CITY, C_NATION, C_REGION, S_CITY, S_NATION, S_REGION}
use Rattle.ssb_schema.specs.Columns.{P_MFGR, P_CATEGORY, P_BRAND1, D_YEARMONTH}
use Rattle.ssb_schema.specs.declared.kind.Kind.TheVariants as kind
use Rattle.ssb_questions.specs.declared.kind.ConstantKind.{ConstantKind}
use Rattle.ssb_questions.specs.declared.kind.ConstantKind.TheVariants.{Text, Number}
use Rattle.ssb_questions.specs.declared.query.Query.{Query}
use Rattle.ssb_questions.specs.declared.query.Query.TheVariants.{Q1_1, Q1_2, Q1_3, Q2_1, Q2_2, Q2_3, Q3_1, Q3_2, Q3_3}
use Rattle.ssb_questions.specs.declared.query.Query.TheVariants.{Q3_4}
use Rattle.ssb_questions.specs.declared.query.Query.TheVariants.{Q4_1, Q4_2, Q4_3, Star}
use Rattle.ssb_questions.specs.declared.value.Value.{Value}
use Rattle.ssb_questions.specs.declared.value.Value.TheVariants as value

-- whether a constant may stand there: a number of 32 bits, or a text that the column could hold
abbrev pub fits : ConstantKind → Value → Bool
fits (Text column) (value.Text text) = not (is_some (column_fault column kind.Text (columns.Text text)))
fits Number (value.Number number) = nat_lt number (2 ^ 32)
fits _ _ = false

-- the kinds of each query's constants, in the order in which a question gives them; none of `star`, whose constants are
-- clauses, as many as are given
abbrev pub constant_kinds : Query → Option (List ConstantKind)
constant_kinds Q1_1 = Some (Number ∷ Number ∷ Number ∷ Number ∷ Number ∷ [])
constant_kinds Q1_2 = Some (Number ∷ Number ∷ Number ∷ Number ∷ Number ∷ [])
constant_kinds Q1_3 = Some (Number ∷ Number ∷ Number ∷ Number ∷ Number ∷ Number ∷ [])
constant_kinds Q2_1 = Some (Text P_CATEGORY ∷ Text S_REGION ∷ [])
constant_kinds Q2_2 = Some (Text P_BRAND1 ∷ Text P_BRAND1 ∷ Text S_REGION ∷ [])
constant_kinds Q2_3 = Some (Text P_BRAND1 ∷ Text S_REGION ∷ [])
constant_kinds Q3_1 = Some (Text C_REGION ∷ Text S_REGION ∷ Number ∷ Number ∷ [])
constant_kinds Q3_2 = Some (Text C_NATION ∷ Text S_NATION ∷ Number ∷ Number ∷ [])
constant_kinds Q3_3 = Some (Text C_CITY ∷ Text C_CITY ∷ Text S_CITY ∷ Text S_CITY ∷ Number ∷ Number ∷ [])
constant_kinds Q3_4 = Some (Text C_CITY ∷ Text C_CITY ∷ Text S_CITY ∷ Text S_CITY ∷ Text D_YEARMONTH ∷ [])
constant_kinds Q4_1 = Some (Text C_REGION ∷ Text S_REGION ∷ Text P_MFGR ∷ Text P_MFGR ∷ [])
constant_kinds Q4_2 = Some (Text C_REGION ∷ Text S_REGION ∷ Text P_MFGR ∷ Text P_MFGR ∷ Number ∷ Number ∷ [])
constant_kinds Q4_3 = Some (Text C_REGION ∷ Text S_NATION ∷ Number ∷ Number ∷ Text P_CATEGORY ∷ [])
constant_kinds Star = None
