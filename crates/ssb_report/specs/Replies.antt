-- The replies to requests: those of the one-thread warehouse, and those that may stand in their place.
use Rattle.std.specs.Prelude.{◌≡◌, ◌⊎◌, ℕ, Bool, true, List, [], ◌∷◌, ◌++◌, length, map, flat_map, Option, None, Some, Result, Ok, Err}
use Rattle.ssb_questions.specs.declared.query.Query.{Query as Named}
use Rattle.ssb_questions.specs.declared.value.Value.{Value}
use Rattle.ssb_schema.specs.Facts.{facts_of}
use Rattle.ssb_answers.specs.Answer.{answer_of}
use Rattle.ssb_answers.specs.declared.answer.Answer.{Answer}
use Rattle.ssb_answers.specs.declared.answer.Answer.TheVariants.{Rows, Unserved}
use Rattle.ssb_answers.specs.declared.answer.Unserved.{Unserved as Cause}
use Rattle.row_store.specs.History.{CommitRecord, Warehouse, lines_after}
use Rattle.row_store.specs.Lines.{lines_of}
use Rattle.row_store.specs.Legal.{warehouse_reply, IsRefreshReply}
use Rattle.row_store.specs.declared.commit.Receipt.{Receipt}
use Rattle.row_store.specs.declared.refusal.RefreshError.{RefreshError}
use Rattle.ssb_script.specs.Requests.{RequestRecord}
use Rattle.ssb_script.specs.Requests.{Refresh, Ask, Order, Abort, questions_in, statement_in}
use Rattle.ssb_sql.specs.declared.statement.Statement.{Statement}
use Rattle.ssb_statements.specs.Listing.{IsListing, ListingRecord, true_listing}
use Rattle.ssb_report.specs.RefreshText.{aborted_text, receipt_text, refusal_text}
use Rattle.ssb_report.specs.AnswerText.{answer_text}
use Rattle.ssb_report.specs.OrderText.{order_text}
use Rattle.ssb_report.specs.StatementText.{listing_text}
use Rattle.ssb_report.specs.declared.order.ShownOrder.{ShownOrder}
use Rattle.ssb_report.specs.declared.order.ShownOrder.TheVariants as order

-- what a request is answered
pub data Reply : Type 0 where
  Refreshed : Result Receipt RefreshError → Reply
  -- an answer to each question that was asked, in order
  Answered : List Answer → Reply
  -- an answer to each question of a statement, and what is listed of these
  Listed : List Answer → ListingRecord → Reply
  -- the lines of an order
  Shown : ShownOrder → Reply
  -- what was begun is dropped
  Aborted : Reply

-- the report of a reply
abbrev pub reply_text : Reply → List ℕ
reply_text (Refreshed (Ok receipt)) = receipt_text receipt
reply_text (Refreshed (Err error)) = refusal_text error
reply_text (Answered answers) = flat_map answer_text answers
reply_text (Listed answers listing) = listing_text listing
reply_text (Shown shown) = order_text shown
reply_text Aborted = aborted_text

-- the rows that answer a question over the live lines, after all commits so far
abbrev pub warehouse_answer : Warehouse → Named × List Value → Answer
warehouse_answer warehouse question =
    Rows question (length warehouse.log) (answer_of question warehouse.base.dimensions
    (facts_of (lines_after warehouse.base warehouse.log)))

-- what is told of answers: these, or where a statement was asked, what is listed of them
abbrev pub reply_of_answers : Option Statement → List Answer → Reply
reply_of_answers None answers = Answered answers
reply_of_answers (Some statement) answers = Listed answers (true_listing statement answers)

-- the live lines of the order of a key, after all commits so far
abbrev pub warehouse_order : Warehouse → ℕ → ShownOrder
warehouse_order warehouse key = order.Lines key (length warehouse.log)
    (lines_of key (lines_after warehouse.base warehouse.log))

-- the reply of the one-thread warehouse
abbrev pub true_reply : Warehouse → RequestRecord → Reply
true_reply warehouse (Refresh actions) = Refreshed (warehouse_reply warehouse.base warehouse.log actions)
true_reply warehouse (Ask asking) =
    reply_of_answers (statement_in asking) (map (warehouse_answer warehouse) (questions_in asking))
true_reply warehouse (Order key) = Shown (warehouse_order warehouse key)
true_reply warehouse Abort = Aborted

-- the questions that are asked together have the answers of the one-thread warehouse, or are all left unanswered for one
-- of the causes that may stand
abbrev pub AreAnswers : (Cause → Bool) → Warehouse → List (Named × List Value) → List Answer → Type 0
AreAnswers causes warehouse questions answers = (answers ≡ map (warehouse_answer warehouse) questions)
    ⊎ ((cause : Cause) × (causes cause ≡ true) × (answers ≡ map (λ question. Unserved question cause) questions))

-- this may be listed of the statement that is asked, if one is, whose questions have these answers
abbrev pub IsListedOf : Option Statement → List Answer → ListingRecord → Type 0
IsListedOf None answers listing = ⊥
IsListedOf (Some statement) answers listing = IsListing statement answers listing

-- a reply that may be given: to a refresh that of the one-thread warehouse, or that memory ran out where that is a
-- receipt; of an order its lines in the one-thread warehouse, or that memory ran out for them; to an `abort` that alone
abbrev pub IsReply : (Cause → Bool) → Warehouse → RequestRecord → Reply → Type 0
IsReply causes warehouse (Refresh actions) (Refreshed reply) = IsRefreshReply warehouse.base warehouse.log actions reply
IsReply causes warehouse (Ask asking) (Answered answers) =
    (statement_in asking ≡ None) × AreAnswers causes warehouse (questions_in asking) answers
IsReply causes warehouse (Ask asking) (Listed answers listing) =
    IsListedOf (statement_in asking) answers listing × AreAnswers causes warehouse (questions_in asking) answers
IsReply causes warehouse (Order key) (Shown shown) =
    (shown ≡ warehouse_order warehouse key) ⊎ (shown ≡ order.Unserved key)
IsReply causes warehouse Abort Aborted = Unit {0}
IsReply causes warehouse request reply = ⊥

-- the commit that a client's request becomes where the reply is a receipt
abbrev pub committed_by : ℕ → RequestRecord → Reply → List CommitRecord
committed_by client (Refresh actions) (Refreshed (Ok receipt)) = record { client = client; actions = actions } ∷ []
committed_by client request reply = []

-- the warehouse with these commits more
abbrev pub with_commits : Warehouse → List CommitRecord → Warehouse
with_commits warehouse commits = record { base = warehouse.base; log = warehouse.log ++ commits }
