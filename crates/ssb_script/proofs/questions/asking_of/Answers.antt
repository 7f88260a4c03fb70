use Rattle.std.proofs.Common.{◌≡◌, ◌∙◌, ap, false, subst, sym, true}
use Rattle.std.specs.Option.{IfSome}
use Rattle.std.specs.Result.{IfOk}
use Rattle.csv.specs.Records.{fields_of}
use Rattle.ssb_script.specs.Lines.{is_query, is_sql, word_of}
use Rattle.ssb_script.specs.Questions.{Says}
use Rattle.ssb_script.proofs.QuestionsLaws.{asks_nothing, says_question, says_statement}
use Rattle.ssb_script.proofs.questions.asking_of.Goals as goal

pub returns-then-is_query-clause-some : goal.returns-then-is_query-clause-some
returns-then-is_query-clause-some c =
    let is : is_query (word_of (fields_of c.args.fields.now)) ≡ true = ap is_query (sym c.word_of-word.ensures)
    ∙ sym c.is_query.ensures ∙ c.if-is_query.true in
    subst (λ spelled. IfOk c.question_in.result (λ asking. IfSome asking (Says spelled)))
    (sym (says_question (fields_of c.args.fields.now) is)) c.question_in.ensures.some

pub returns-then-is_query-clause-none : goal.returns-then-is_query-clause-none
returns-then-is_query-clause-none c =
    let is : is_query (word_of (fields_of c.args.fields.now)) ≡ true = ap is_query (sym c.word_of-word.ensures)
    ∙ sym c.is_query.ensures ∙ c.if-is_query.true in
    rw (says_question (fields_of c.args.fields.now) is) c.question_in.ensures.none

pub returns-then-is_query-clause-fault : goal.returns-then-is_query-clause-fault
returns-then-is_query-clause-fault c =
    let is : is_query (word_of (fields_of c.args.fields.now)) ≡ true = ap is_query (sym c.word_of-word.ensures)
    ∙ sym c.is_query.ensures ∙ c.if-is_query.true in
    rw (says_question (fields_of c.args.fields.now) is) c.question_in.ensures.fault

pub returns-then-is_sql-clause-some : goal.returns-then-is_sql-clause-some
returns-then-is_sql-clause-some c =
    let is : is_sql (word_of (fields_of c.args.fields.now)) ≡ true = ap is_sql (sym c.word_of-word.ensures)
    ∙ sym c.is_sql.ensures ∙ c.if-is_sql.true in
    subst (λ spelled. IfOk c.statement_in.result (λ asking. IfSome asking (Says spelled)))
    (sym (says_statement (fields_of c.args.fields.now) is)) c.statement_in.ensures.some

pub returns-then-is_sql-clause-none : goal.returns-then-is_sql-clause-none
returns-then-is_sql-clause-none c =
    let is : is_sql (word_of (fields_of c.args.fields.now)) ≡ true = ap is_sql (sym c.word_of-word.ensures)
    ∙ sym c.is_sql.ensures ∙ c.if-is_sql.true in
    rw (says_statement (fields_of c.args.fields.now) is) c.statement_in.ensures.none

pub returns-then-is_sql-clause-fault : goal.returns-then-is_sql-clause-fault
returns-then-is_sql-clause-fault c =
    let is : is_sql (word_of (fields_of c.args.fields.now)) ≡ true = ap is_sql (sym c.word_of-word.ensures)
    ∙ sym c.is_sql.ensures ∙ c.if-is_sql.true in
    rw (says_statement (fields_of c.args.fields.now) is) c.statement_in.ensures.fault

pub returns-clause-none : goal.returns-clause-none
returns-clause-none c =
    let query : is_query (word_of (fields_of c.args.fields.now)) ≡ false = ap is_query (sym c.word_of-word.ensures)
    ∙ sym c.is_query.ensures ∙ c.if-is_query.false in
    let other : is_sql (word_of (fields_of c.args.fields.now)) ≡ false = ap is_sql (sym c.word_of-word.ensures)
    ∙ sym c.is_sql.ensures ∙ c.if-is_sql.false in
    asks_nothing (fields_of c.args.fields.now) query other
