-- What a client is told counts no more commits than a log has; and answers that are told one after another with the
-- commits that came before.
use Rattle.std.proofs.Common.{◌≡◌, ◌∙◌, ℕ, suc, ◌<◌, ◌≤◌, List, [], ◌∷◌, length, map, get_or}
use Rattle.std.proofs.Common.{Option, None, Some, Result, Ok, Err, arith, ap, refl, subst, sym}
use Rattle.std.specs.List.{AllByRecursion}
use Rattle.ssb_schema.specs.declared.refresh.Action.{Action}
use Rattle.row_store.proofs.FewLaws.{few_commits_of}
use Rattle.row_store.specs.declared.commit.Receipt.{Receipt}
use Rattle.row_store.specs.declared.refusal.RefreshError.{RefreshError}
use Rattle.row_store.specs.declared.refusal.RefreshError.TheVariants as refresh
use Rattle.ssb_base.specs.Limits.{most_commits}
use Rattle.ssb_answers.specs.declared.answer.Answer.TheVariants as variant
use Rattle.ssb_answers.specs.declared.answer.ResultRow.{ResultRow}
use Rattle.ssb_answers.specs.declared.answer.Unserved.{Unserved as Cause}
use Rattle.history_core.specs.Events.{Question, Questions}
use Rattle.history_core.specs.Responses.{answers_in, answers_with}
use Rattle.history_core.specs.declared.response.Response.{Response}
use Rattle.history_core.specs.declared.response.Response.TheVariants.{Rows, Unserved}
use Rattle.history.specs.Tokens.{IsSound, TokenRecord}
use Rattle.history.specs.Words.{IsRight}
use Rattle.history.specs.declared.request.PostedRequest.{PostedRequest}
use Rattle.ssb_base.specs.Base.{Tables}
use Rattle.row_store.specs.History.{CommitRecord}
use Rattle.ssb_clients.specs.Clients as client
use Rattle.ssb_answers.specs.declared.answer.Answer.{Answer}
use Rattle.ssb_report.specs.Replies.{Reply, Refreshed, Answered, Listed, Shown, Aborted, IsListedOf}
use Rattle.ssb_report.specs.declared.order.ShownOrder.TheVariants as order
use Rattle.ssb_script.specs.Requests.{RequestRecord, Refresh, Ask, Order, Abort, questions_in, statement_in}
use Rattle.ssb_sql.specs.declared.statement.Statement.{Statement}
use Rattle.ssb_statements.specs.Listing.{ListingRecord, moment_of}
use Rattle.ssb_statements.specs.Listing as listing
use Rattle.stream_sessions.specs.Served.{IsAnswered, IsServed}
use Rattle.stream_sessions.specs.WithPast.{IsOfFew, IsOfFewAnswer, IsOfFewListing, IsOfFewOutcome}

few_seen : (t : TokenRecord) → IsSound t → length t.seen ≤ most_commits
few_seen t sound =
    omega (arith, few_commits_of t.table.base t.seen sound.legal, t.table.base.limits.commits_range.1)

few_outcome : (before : TokenRecord) (number : ℕ) (actions : List Action) (outcome : Result Receipt RefreshError)
    (after : TokenRecord) → client.Refreshed before number actions outcome after → IsSound after
    → IsOfFewOutcome outcome
few_outcome before number actions (Ok receipt) after refreshed sound =
    omega (arith, refreshed.number_is, few_seen after sound)
few_outcome before number actions (Err (refresh.Refused at action cause)) after refreshed sound =
    omega (arith, refreshed.0, few_seen after sound)
few_outcome before number actions (Err refresh.OutOfMemory) after refreshed sound = tt

few_with : (at : ℕ) (questions : Questions) (rows : List (List ResultRow)) → at ≤ most_commits
    → AllByRecursion IsOfFewAnswer (answers_with at questions rows)
few_with at [] rows few = tt
few_with at (question ∷ questions) [] few = tt
few_with at (question ∷ questions) (list ∷ rows) few = (few, few_with at questions rows few)

few_unserved : (cause : Cause) (questions : Questions)
    → AllByRecursion IsOfFewAnswer (map (λ (question : Question). variant.Unserved question cause) questions)
few_unserved cause [] = tt
few_unserved cause (question ∷ questions) = (tt, few_unserved cause questions)

few_answers : (base : Tables) (history : List CommitRecord) (asked : PostedRequest) (response : Response)
    → length history ≤ most_commits → IsRight base history asked response
    → AllByRecursion IsOfFewAnswer (answers_in response)
few_answers base history asked (Rows questions at rows) few right =
    few_with at questions rows (omega (arith, few, right.2))
few_answers base history asked (Unserved questions cause) few right = few_unserved cause questions

few_moment : (answers : List Answer) → AllByRecursion IsOfFewAnswer answers → moment_of answers ≤ most_commits
few_moment [] few = omega arith
few_moment (variant.Rows question at rows ∷ answers) few = few.0
few_moment (variant.Unserved question cause ∷ answers) few = omega arith

few_listing : (statement : Option Statement) (answers : List Answer) (listed : ListingRecord)
    → AllByRecursion IsOfFewAnswer answers → IsListedOf statement answers listed → IsOfFewListing listed
few_listing None answers listed few is = absurd is
few_listing (Some statement) answers (listing.Rows rows) few is =
    omega (arith, is.1.at_is, few_moment answers few)
few_listing (Some statement) answers (listing.Unserved cause) few is = tt

answered_few : (before after : TokenRecord) (questions : Questions) (answers : List Answer)
    → IsAnswered before questions answers after → AllByRecursion IsOfFewAnswer answers
answered_few before after questions answers is =
    subst (AllByRecursion IsOfFewAnswer) (sym is.answers_are)
    (few_answers is.asking.table.base after.seen is.polled.asked is.response (few_seen after is.sound) is.polled.right)

-- what is served tells of no more commits than a log has
pub served_is_of_few : (number : ℕ) (before after : TokenRecord) (request : RequestRecord) (reply : Reply)
    → IsServed number before request reply after → IsOfFew reply
served_is_of_few number before after (Refresh actions) (Refreshed outcome) is =
    few_outcome before number actions outcome after is.0 is.1
served_is_of_few number before after (Ask asking) (Answered answers) is =
    answered_few before after (questions_in asking) answers is.1
served_is_of_few number before after (Ask asking) (Listed answers listed) is =
    let few = answered_few before after (questions_in asking) answers is.1 in
    (few, few_listing (statement_in asking) answers listed few is.0)
served_is_of_few number before after (Order key) (Shown (order.Lines shown at lines)) is =
    omega (arith, is.0.1, few_seen after is.1)
served_is_of_few number before after (Order key) (Shown (order.Unserved shown)) is = tt
served_is_of_few number before after Abort Aborted is = tt
served_is_of_few number before after request reply is = absurd is

-- a list of which each element is that of another, mapped
pub mapped_all : {X : Type 0} (f : X → X) (old new : List X) → length new ≡ length old
    → ((k : ℕ) (t : X) → k < length old → get_or new k t ≡ f (get_or old k t)) → new ≡ map f old
mapped_all {X} f [] [] same all = refl
mapped_all {X} f [] (y ∷ ys) same all = absurd (omega (arith, same))
mapped_all {X} f (x ∷ xs) [] same all = absurd (omega (arith, same))
mapped_all {X} f (x ∷ xs) (y ∷ ys) same all =
    ap (λ head. head ∷ ys) (all 0 x (omega arith))
    ∙ ap (λ rest. f x ∷ rest)
    (mapped_all f xs ys (omega (arith, same)) (λ k t below. all (suc k) t (omega (arith, below))))
