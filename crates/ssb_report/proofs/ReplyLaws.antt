use Rattle.std.proofs.Common.{arith}
-- The replies of the one-thread warehouse, and others.
use Rattle.std.proofs.Common.{◌≡◌, ◌⊎◌, Bool, true, List, [], ◌∷◌, Option, None, Some, Result, map, refl, sym, ◌∙◌}
use Rattle.std.proofs.Common.{ap, inl, inr}
use Rattle.ssb_schema.specs.declared.refresh.Action.{Action}
use Rattle.ssb_questions.specs.declared.query.Query.{Query as Named}
use Rattle.ssb_questions.specs.declared.value.Value.{Value}
use Rattle.ssb_answers.specs.declared.answer.Answer.{Answer}
use Rattle.ssb_answers.specs.declared.answer.Answer.TheVariants.{Unserved}
use Rattle.ssb_answers.specs.declared.answer.Unserved.{Unserved as Cause}
use Rattle.row_store.specs.History.{Warehouse}
use Rattle.row_store.specs.Legal.{IsRefreshReply}
use Rattle.row_store.specs.declared.commit.Receipt.{Receipt}
use Rattle.row_store.specs.declared.refusal.RefreshError.{RefreshError}
use Rattle.ssb_script.specs.Requests.{RequestRecord, Refresh, Ask, Order, Abort, questions_in, statement_in}
use Rattle.ssb_script.specs.declared.request.Asking.TheVariants.{Alone, Together, Statement as Stated}
use Rattle.ssb_sql.specs.declared.statement.Statement.{Statement}
use Rattle.ssb_statements.specs.Listing.{ListingRecord, cause_in, true_listing}
use Rattle.ssb_statements.specs.Listing as listed
use Rattle.ssb_statements.proofs.ListingLaws.{rows_are_true, true_is_listing}
use Rattle.ssb_report.specs.Replies.{Reply, Refreshed, Answered, Listed, Shown, Aborted, true_reply, warehouse_answer}
use Rattle.ssb_report.specs.Replies.{AreAnswers, IsListedOf, IsReply, reply_of_answers}
use Rattle.ssb_report.specs.Replies.{committed_by, with_commits}
use Rattle.ssb_report.specs.Laws.{any_unserved, gives_up, TrueRepliesAnswer, OthersGiveUp}

-- a reply is that of the one-thread warehouse, or gives up
abbrev TrueOrGivenUp : Warehouse → RequestRecord → Reply → Type 0
TrueOrGivenUp warehouse request reply = (reply ≡ true_reply warehouse request) ⊎ (gives_up reply ≡ true)

refreshed_so : (warehouse : Warehouse) (actions : List Action) (reply : Result Receipt RefreshError)
    → IsRefreshReply warehouse.base warehouse.log actions reply
    → TrueOrGivenUp warehouse (Refresh actions) (Refreshed reply)
refreshed_so warehouse actions reply is = grind arith

-- answers without rows give up, where something is asked
left_or_none : (warehouse : Warehouse) (questions : List (Named × List Value)) (answers : List Answer) (cause : Cause)
    → answers ≡ map (λ question. Unserved question cause) questions
    → (answers ≡ map (warehouse_answer warehouse) questions) ⊎ (any_unserved answers ≡ true)
left_or_none warehouse [] answers cause is = inl is
left_or_none warehouse (question ∷ questions) answers cause is = inr (ap any_unserved is)

answered_so : (causes : Cause → Bool) (warehouse : Warehouse) (questions : List (Named × List Value))
    (answers : List Answer) → AreAnswers causes warehouse questions answers
    → (answers ≡ map (warehouse_answer warehouse) questions) ⊎ (any_unserved answers ≡ true)
answered_so causes warehouse questions answers is = grind (arith, left_or_none)

-- where all are left unanswered, and none is, nothing was asked
none_asked : (questions : List (Named × List Value)) (cause : Cause)
    → cause_in (map (λ question. Unserved question cause) questions) ≡ None → questions ≡ []
none_asked [] cause none = refl
none_asked (question ∷ questions) cause none = absurd cc

all_answered : (causes : Cause → Bool) (warehouse : Warehouse) (questions : List (Named × List Value))
    (answers : List Answer) → cause_in answers ≡ None → AreAnswers causes warehouse questions answers
    → answers ≡ map (warehouse_answer warehouse) questions
all_answered causes warehouse questions answers none (inl same) = same
all_answered causes warehouse questions answers none (inr left) =
    let nothing : questions ≡ [] = none_asked questions left.0 (ap cause_in (sym left.2) ∙ none) in
    left.2 ∙ (ap (map (λ question. Unserved question left.0)) nothing ∙ ap (map (warehouse_answer warehouse)) (sym nothing))

-- what is listed of a statement is the one-thread warehouse's listing, or gives up
listed_so : (causes : Cause → Bool) (warehouse : Warehouse) (asked : Option Statement)
    (questions : List (Named × List Value)) (answers : List Answer) (listing : ListingRecord)
    → IsListedOf asked answers listing → AreAnswers causes warehouse questions answers
    → (Listed answers listing ≡ reply_of_answers asked (map (warehouse_answer warehouse) questions))
    ⊎ (gives_up (Listed answers listing) ≡ true)
listed_so causes warehouse None questions answers listing is are = absurd is
listed_so causes warehouse (Some statement) questions answers (listed.Unserved cause) is are = inr refl
listed_so causes warehouse (Some statement) questions answers (listed.Rows rows) is are =
    let same = all_answered causes warehouse questions answers is.0 are in
    inl (ap (λ all. Listed answers (listed.Rows all)) (rows_are_true statement answers rows is.1)
    ∙ ap (λ all. Listed all (true_listing statement all)) same)

true_or_given_up : (causes : Cause → Bool) (warehouse : Warehouse) (request : RequestRecord) (reply : Reply)
    → IsReply causes warehouse request reply → TrueOrGivenUp warehouse request reply
true_or_given_up causes warehouse (Refresh actions) (Refreshed reply) is = refreshed_so warehouse actions reply is
true_or_given_up causes warehouse (Order key) (Shown shown) (inl same) = inl (ap Shown same)
true_or_given_up causes warehouse (Order key) (Shown shown) (inr left) = inr (ap (λ o. gives_up (Shown o)) left)
true_or_given_up causes warehouse Abort Aborted is = inl refl
true_or_given_up causes warehouse (Ask asking) (Answered answers) is =
    let true_answers = map (warehouse_answer warehouse) (questions_in asking) in
    elim (answered_so causes warehouse (questions_in asking) answers is.1) [
      | inl same ↦ inl (ap Answered same ∙ ap (λ asked. reply_of_answers asked true_answers) (sym is.0))
      | inr left ↦ inr left
    ]
true_or_given_up causes warehouse (Ask asking) (Listed answers listing) is =
    listed_so causes warehouse (statement_in asking) (questions_in asking) answers listing is.0 is.1
true_or_given_up causes warehouse request reply is = absurd is

all_served : (warehouse : Warehouse) (questions : List (Named × List Value))
    → cause_in (map (warehouse_answer warehouse) questions) ≡ None
all_served warehouse [] = refl
all_served warehouse (question ∷ questions) = all_served warehouse questions

true_reply_may : (causes : Cause → Bool) (warehouse : Warehouse) (request : RequestRecord)
    → IsReply causes warehouse request (true_reply warehouse request)
true_reply_may causes warehouse (Refresh actions) = inl refl
true_reply_may causes warehouse (Ask (Alone question)) = (refl, inl refl)
true_reply_may causes warehouse (Ask (Together questions)) = (refl, inl refl)
true_reply_may causes warehouse (Ask (Stated asked)) = (
  true_is_listing asked.value.statement
      (map (warehouse_answer warehouse) asked.value.statement.questions.items)
      (all_served warehouse asked.value.statement.questions.items),
  inl refl,
)
true_reply_may causes warehouse (Order key) = inl refl
true_reply_may causes warehouse Abort = tt

pub true_replies_answer : TrueRepliesAnswer
true_replies_answer causes client warehouse [] = grind arith
true_replies_answer causes client warehouse (request ∷ requests) = grind (arith, true_reply_may, true_replies_answer causes client (with_commits warehouse (committed_by client request (true_reply warehouse request))) requests)

pub others_give_up : OthersGiveUp
others_give_up causes client warehouse [] [] are served = grind arith
others_give_up causes client warehouse [] (reply ∷ replies) are served = grind arith
others_give_up causes client warehouse (request ∷ requests) [] are served = grind arith
others_give_up causes client warehouse (request ∷ requests) (reply ∷ replies) are served = grind (arith, true_or_given_up, others_give_up causes client (with_commits warehouse (committed_by client request reply)) requests replies are.1 served.1)
