-- What explains the question that the words of a command line ask.
use Rattle.std.specs.Prelude.{ℕ, List, [], ◌∷◌, Option, Some, None}
use Rattle.std.specs.List.{concat}
use Rattle.std.specs.Io.KnownBytes.{Appends}
use Rattle.query_command.specs.Asked.{IsAsked}
use Rattle.query_command.specs.Sizes.{sizes_text}
use Rattle.ssb_base.specs.Base.{Dimensions, Tables}
use Rattle.ssb_explain.specs.Statement.{statement_text}
use Rattle.ssb_explain.specs.Words.{explanation_text}
use Rattle.ssb_explain.specs.declared.statement.SqlTarget.{SqlTarget}
use Rattle.ssb_questions.specs.Queries.{plan_over}
use Rattle.ssb_questions.specs.declared.query.Query.{Query}
use Rattle.ssb_questions.specs.declared.value.Value.{Value}
use Rattle.ssb_text.specs.Written.{AppendsPart}

-- in words, or as a statement of a system's SQL
abbrev pub explained_text : Option SqlTarget → Query × List Value → List ℕ
explained_text None question = explanation_text question.0 question.1 (plan_over question.0 question.1)
explained_text (Some target) question =
    statement_text target.system target.lines question.0 (plan_over question.0 question.1)

-- known bytes grow by what explains the question that the name and the words ask
pub record Explains (name : List ℕ) (words : List (List ℕ)) (sql : Option SqlTarget) (old new : Option (List ℕ))
    : Type 0 where
  pub question : Query × List Value
  pub asked : IsAsked name words question
  pub appends : Appends old new (explained_text sql question)

-- known bytes grow by a part of that from its beginning on
pub record ExplainsPart (name : List ℕ) (words : List (List ℕ)) (sql : Option SqlTarget) (old new : Option (List ℕ))
    : Type 0 where
  pub question : Query × List Value
  pub asked : IsAsked name words question
  pub appends : AppendsPart old new (explained_text sql question)

-- in words, and how much it is about over a base
abbrev pub sized_text : Query × List Value → Dimensions → List ℕ
sized_text question dimensions = concat
    (explained_text None question ∷ sizes_text (plan_over question.0 question.1) dimensions ∷ [])

-- known bytes grow by what explains the question that the name and the words ask, over a base
pub record ExplainsOver (base : Tables) (name : List ℕ) (words : List (List ℕ)) (old new : Option (List ℕ))
    : Type 0 where
  pub question : Query × List Value
  pub asked : IsAsked name words question
  pub appends : Appends old new (sized_text question base.dimensions)

-- known bytes grow by a part of that from its beginning on
pub record ExplainsOverPart (base : Tables) (name : List ℕ) (words : List (List ℕ)) (old new : Option (List ℕ))
    : Type 0 where
  pub question : Query × List Value
  pub asked : IsAsked name words question
  pub appends : AppendsPart old new (sized_text question base.dimensions)
