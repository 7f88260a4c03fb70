-- The question that the words of a command line ask.
use Rattle.std.specs.Prelude.{◌≡◌, ◌⊎◌, ℕ, ◌^◌, List, [], ◌∷◌, map, Option, Some, None, nat_lt, if◌then◌else◌}
use Rattle.std.specs.Prelude.{unwrap_or}
use Rattle.ssb_schema.specs.Numerals.{number_of}
use Rattle.ssb_questions.specs.Kind.{constant_kinds}
use Rattle.ssb_questions.specs.Queries.{standard_constants}
use Rattle.ssb_questions.specs.Query.{name_of}
use Rattle.ssb_questions.specs.Question.{constants_fault}
use Rattle.ssb_questions.specs.declared.kind.ConstantKind.{ConstantKind}
use Rattle.ssb_questions.specs.declared.kind.ConstantKind.TheVariants as kind
use Rattle.ssb_questions.specs.declared.query.Query.{Query}
use Rattle.ssb_questions.specs.declared.query.Query.TheVariants.{Q1_1, Q1_2, Q1_3, Q2_1, Q2_2, Q2_3, Q3_1, Q3_2, Q3_3}
use Rattle.ssb_questions.specs.declared.query.Query.TheVariants.{Q3_4, Q4_1, Q4_2, Q4_3}
use Rattle.ssb_questions.specs.declared.question.ConstantsFault.{ConstantsFault}
use Rattle.ssb_questions.specs.declared.value.Value.{Value}
use Rattle.ssb_questions.specs.declared.value.Value.TheVariants.{Text, Number}

-- a number of 32 bits, or the word as a text, which no number is
abbrev pub number_or_text : Option ℕ → List ℕ → Value
number_or_text (Some n) word = if nat_lt n (2 ^ 32) then Number n else Text word
number_or_text None word = Text word

-- the constant of a kind that a word stands for: where the kind is a number, the number that it spells; else the word
abbrev pub value_spelled : Option ConstantKind → List ℕ → Value
value_spelled (Some kind.Number) word = number_or_text (number_of word) word
value_spelled (Some (kind.Text column)) word = Text word
value_spelled None word = Text word

-- the constants that words stand for, one after the other
abbrev pub values_spelled : List ConstantKind → List (List ℕ) → List Value
values_spelled kinds [] = []
values_spelled [] (word ∷ words) = value_spelled None word ∷ values_spelled [] words
values_spelled (kind ∷ kinds) (word ∷ words) = value_spelled (Some kind) word ∷ values_spelled kinds words

-- the kinds of a query's constants; `star` has none, and each of its words is a text
abbrev pub kinds_of : Query → List ConstantKind
kinds_of query = unwrap_or (constant_kinds query) []

-- the constants of a query: the benchmark's where no words are given, which `star` does not take
abbrev pub constants_asked : Query → List (List ℕ) → List Value
constants_asked query [] = standard_constants query
constants_asked query (word ∷ words) = values_spelled (kinds_of query) (word ∷ words)

-- a name and words ask this question, whose constants are not refused
pub record IsAsked (name : List ℕ) (words : List (List ℕ)) (question : Query × List Value) : Type 0 where
  pub named : name_of question.0 ≡ name
  pub constants : question.1 ≡ constants_asked question.0 words
  pub taken : constants_fault question.0 question.1 ≡ None

-- the constants that words stand for are refused for a query of the name
pub record AreRefused (name : List ℕ) (words : List (List ℕ)) : Type 0 where
  pub query : Query
  pub named : name_of query ≡ name
  pub fault : ConstantsFault
  pub is : constants_fault query (constants_asked query words) ≡ Some fault

-- a name and words ask no question: no query has the name, or the constants are refused
abbrev pub AskNothing : List ℕ → List (List ℕ) → Type 0
AskNothing name words = ((query : Query) → name_of query ≡ name → ⊥) ⊎ AreRefused name words

-- the thirteen queries, flight by flight
abbrev pub queries_in_order : List Query
queries_in_order = Q1_1 ∷ Q1_2 ∷ Q1_3 ∷ Q2_1 ∷ Q2_2 ∷ Q2_3 ∷ Q3_1 ∷ Q3_2 ∷ Q3_3 ∷ Q3_4 ∷ Q4_1 ∷ Q4_2 ∷ Q4_3 ∷ []

-- a query with the benchmark's constants
abbrev pub standard_question : Query → Query × List Value
standard_question query = (query, standard_constants query)

-- the benchmark: each query once, in order, with the benchmark's constants
abbrev pub standard_questions : List (Query × List Value)
standard_questions = map standard_question queries_in_order
