-- A client alone: what it has made is what it sees, so its replies are the one-thread warehouse's.
use Rattle.std.proofs.Common.{◌≡◌, ◌≢◌, ℕ, ◌+◌, ◌==◌, not, true, false, suc, List, [], ◌∷◌, ◌++◌, length, map, take}
use Rattle.std.proofs.Common.{None, Result, Ok, Err, refl, sym, ◌∙◌, ap, subst, inl, inr, length-append, arith}
use Rattle.std.proofs.lemmas.Bool.Decides.{nat_tests}
use Rattle.std.proofs.lemmas.List.{append_cancel_right, take_all}
use Rattle.ssb_schema.specs.declared.refresh.Action.{Action}
use Rattle.ssb_answers.specs.declared.answer.Answer.{Answer}
use Rattle.ssb_answers.specs.declared.answer.Answer.TheVariants as answer
use Rattle.history_core.specs.declared.response.Response.{Response}
use Rattle.history_core.specs.declared.response.Response.TheVariants.{Rows, Unserved}
use Rattle.history_core.specs.Events.{Questions}
use Rattle.history_core.specs.Responses.{answers_in}
use Rattle.history_core.proofs.ResponseLaws.{in_order}
use Rattle.ssb_answers.specs.declared.answer.Unserved.{Unserved as Cause}
use Rattle.ssb_answers.specs.declared.answer.Unserved.TheVariants.{OutOfMemory, Twin}
use Rattle.row_store.specs.History.{CommitRecord, lines_after}
use Rattle.row_store.specs.Lines.{lines_of}
use Rattle.row_store.specs.Legal.{IsRefreshReply, reply_at}
use Rattle.row_store.specs.declared.commit.Receipt.{Receipt}
use Rattle.row_store.specs.declared.refusal.RefreshError.{RefreshError}
use Rattle.row_store.specs.declared.refusal.RefreshError.TheVariants as refusal
use Rattle.history_core.specs.OwnCommits.{IsOfClients, commits_of}
use Rattle.history_core.specs.World.{rows_after, all_rows_after}
use Rattle.history_core.proofs.HistoryLaws.{some_injective}
use Rattle.history.specs.Tokens.{TokenRecord, IsSound, new_token}
use Rattle.history.specs.Words.{Owns, IsCause, IsRight, request}
use Rattle.history.specs.declared.request.PostedRequest.{PostedRequest as Asked}
use Rattle.std.specs.Option.{is_some}
use Rattle.history_core.specs.declared.event.Who.TheVariants.{Client}
use Rattle.ssb_script.specs.Requests.{RequestRecord, Refresh, Ask, Order, Abort, questions_in}
use Rattle.ssb_script.specs.declared.request.Asking.{Asking}
use Rattle.ssb_report.specs.Replies.{Reply, Refreshed, Answered, Listed, Shown, Aborted, AreAnswers, IsReply, committed_by}
use Rattle.ssb_report.specs.Replies.{with_commits}
use Rattle.ssb_report.specs.Replies.{warehouse_answer}
use Rattle.ssb_report.specs.Report.{AreReplies, committed}
use Rattle.ssb_report.specs.declared.order.ShownOrder.{ShownOrder}
use Rattle.ssb_report.specs.declared.order.ShownOrder.TheVariants as order
use Rattle.ssb_report.proofs.CommitLaws.{with_none, with_both}
use Rattle.ssb_clients.specs.Clients as client
use Rattle.run_command.specs.Alone.{IsAlone, own, may_be_told, OneClientIsOneThread, AloneSeesItsOwn, AloneIsOneThread}
use Rattle.run_command.specs.Alone.{AloneEndsAsOneThread}
use Rattle.stream_sessions.specs.Served.{AreServed, IsShown}
use Rattle.stream_sessions.specs.declared.serve_error.ServeError.TheVariants as error
use Rattle.stream_sessions.specs.OneRequest.{AreAlike}
use Rattle.stream_sessions.proofs.RequestLaws.{refreshed_alike, answered_alike, asked_nothing}
use Rattle.stream_sessions.proofs.RequestLaws.{handed_alike, shown_hands}

-- where there is one client, the commits of its number are all
all_of_one : (history : List CommitRecord) → IsOfClients 1 history → commits_of 1 history ≡ history
all_of_one [] named = refl
all_of_one (commit ∷ history) named =
    let bounds = named.named 0 commit refl in
    let is : (commit.client == 1) ≡ true = grind (arith, nat_tests, bounds.0, bounds.1) in
    rw is (ap (λ t. commit ∷ t) (all_of_one history (record
    { named = λ place other at. named.named (suc place) other at })))

-- what it has made is what it sees
pub alone_sees : (t : TokenRecord) → IsAlone t → IsSound t → t.mine ≡ t.seen
alone_sees t alone sound =
    subst (λ who. Owns who t.mine t.seen) alone.who sound.owns
    ∙ all_of_one t.seen (subst (λ clients. IsOfClients clients t.seen) alone.clients sound.named)

pub alone_still : (before after : TokenRecord) → AreAlike before after → IsAlone before → IsAlone after
alone_still before after alike alone = grind arith

-- a receipt tells the number of commits then
committed_reply : (number : ℕ) (history : List CommitRecord) (actions : List Action) (receipt : Receipt)
    → receipt.number ≡ length history + 1
    → Ok receipt ≡ reply_at (length history) None
committed_reply number history actions receipt is = ap (λ n. Ok (record { number = n })) is

-- the reply to a refresh
pub refreshed_reply : (before after : TokenRecord) (actions : List Action) (reply : Result Receipt RefreshError)
    → client.Refreshed before 1 actions reply after → IsAlone after → IsSound after
    → IsRefreshReply before.table.base before.mine actions reply
refreshed_reply before after actions (Ok receipt) refreshed alone sound = grind (arith, alone_sees, append_cancel_right, length-append, committed_reply)
refreshed_reply before after actions (Err (refusal.Refused at action cause)) refreshed alone sound = grind (arith, alone_sees)
refreshed_reply before after actions (Err refusal.OutOfMemory) refreshed alone sound = grind (arith, alone_sees)

-- its own commits then
pub refreshed_own : (before after : TokenRecord) (actions : List Action) (reply : Result Receipt RefreshError)
    → client.Refreshed before 1 actions reply after → own after ≡ with_commits (own before)
    (committed_by 1 (Refresh actions) (Refreshed reply))
refreshed_own before after actions (Ok receipt) refreshed = ap own refreshed.now
refreshed_own before after actions (Err (refusal.Refused at action cause)) refreshed =
    ap own refreshed.2.now ∙ sym (with_none (own before))
refreshed_own before after actions (Err refusal.OutOfMemory) refreshed =
    ap own refreshed.1.now ∙ sym (with_none (own before))

-- a cause that a dispatcher may tell
told_apart : (told found : ℕ) → told ≢ found → not (told == found) ≡ true
told_apart told found apart = let differ : (told == found) ≡ false = grind (arith, nat_tests, apart) in ap not differ

cause_may : (cause : Cause) → IsCause cause → may_be_told cause ≡ true
cause_may OutOfMemory is = refl
cause_may (Twin told found) is = told_apart told found is

-- what is seen when the question is asked, and when it is answered, are the client's own commits
record Stays (before asking after : TokenRecord) : Type 0 where
  base : asking.table.base ≡ before.table.base
  asked : asking.seen ≡ before.mine
  answered : after.seen ≡ before.mine

stays : (before asking after : TokenRecord) (questions : Questions) (response : Response)
    → client.Asks before questions asking → client.Polls asking response after
    → IsAlone before → IsSound asking → IsSound after → Stays before asking after
stays before asking after questions response asked polled alone sound ended = grind (arith, alone_sees)

-- the answers of a response that is right within the floor and the whole history are the warehouse's
right_answers : (before asking after : TokenRecord) (questions : Questions) (response : Response) (asked : Asked)
    → Stays before asking after
    → asked ≡ request questions (length asking.seen) → IsRight asking.table.base after.seen asked response
    → AreAnswers may_be_told (own before) questions (answers_in response)
right_answers before asking after questions (Rows asked_for at rows) asked stays was right =
    let base = before.table.base in
    let same : asked_for ≡ questions = right.0 ∙ ap (λ (a : Asked). a.questions) was in
    let at_is : at ≡ length before.mine = omega (
      arith,
      right.1,
      right.2,
      ap (λ (a : Asked). a.floor) was,
      ap length stays.asked,
      ap length stays.answered,
    ) in
    let all : take at after.seen ≡ before.mine = take_all at after.seen (omega (arith, at_is, ap length stays.answered))
    ∙ stays.answered in
    let rows_are : rows ≡ all_rows_after base asked_for before.mine =
    right.3 ∙ ap (λ h. all_rows_after asking.table.base asked_for h) all
    ∙ ap (λ b. all_rows_after b asked_for before.mine) stays.base in
    inl (in_order base before.mine asked_for at rows rows_are
    ∙ ap (λ n. map (λ question. answer.Rows question n (rows_after base question before.mine)) asked_for) at_is
    ∙ ap (λ qs. map (warehouse_answer (own before)) qs) same)
right_answers before asking after questions (Unserved asked_for cause) asked stays was right =
    inr (
      cause,
      cause_may cause right.1,
      ap (λ qs. map (λ question. answer.Unserved question cause) qs)
          (right.0 ∙ ap (λ (a : Asked). a.questions) was),
    )

-- the answers to questions
pub answered_reply : (before asking after : TokenRecord) (questions : Questions) (response : Response)
    (answers : List Answer) → client.Asks before questions asking → client.Polls asking response after
    → IsAlone before → IsSound asking → IsSound after → answers ≡ answers_in response
    → AreAnswers may_be_told (own before) questions answers
answered_reply before asking after questions response answers asked polled alone sound ended are =
    let was : polled.asked ≡ request questions (length asking.seen) =
    some_injective polled.asked (request questions (length asking.seen))
    (sym polled.was ∙ ap (λ (t : TokenRecord). t.asked) asked.now) in
    subst (AreAnswers may_be_told (own before) questions) (sym are)
    (right_answers before asking after questions response polled.asked
    (stays before asking after questions response asked polled alone sound ended) was polled.right)

pub answered_own : (before asking after : TokenRecord) (asking_is : Asking) (response : Response) (answers : List Answer)
    → client.Asks before (questions_in asking_is) asking → client.Polls asking response after
    → own after ≡ with_commits (own before) (committed_by 1 (Ask asking_is) (Answered answers))
answered_own before asking after asking_is response answers asked polled =
    ap own polled.now ∙ ap own asked.now ∙ sym (with_none (own before))

-- the lines of an order
shown_reply : (before after : TokenRecord) (key : ℕ) (shown : ShownOrder) → IsShown before key shown after
    → IsAlone after → IsSound after → IsReply may_be_told (own before) (Order key) (Shown shown)
shown_reply before after key (order.Lines shown at lines) is alone sound =
    let base = before.table.base in
    let same : after.seen ≡ before.mine =
    sym (alone_sees after alone sound) ∙ ap (λ (t : TokenRecord). t.mine) is.3.now in
    let count : at ≡ length before.mine = is.1 ∙ ap length same in
    let found : lines ≡ lines_of key (lines_after base before.mine) =
    is.2 ∙ ap (λ h. lines_of key (lines_after base h)) same in
    let key_is : shown ≡ key = is.0 in
    inl cc
shown_reply before after key (order.Unserved shown) is alone sound = inr (ap order.Unserved is.0)

-- the replies of the one-thread warehouse, and its commits
record AreOneThreads (old new : TokenRecord) (requests : List RequestRecord) (replies : List Reply) : Type 0 where
  answered : AreReplies may_be_told 1 (own old) requests replies
  grown : own new ≡ with_commits (own old) (committed 1 requests replies)

-- one reply, and those after it
one_more : (old mid new : TokenRecord) (request : RequestRecord) (reply : Reply) (requests : List RequestRecord)
    (replies : List Reply)
    → IsReply may_be_told (own old) request reply → own mid ≡ with_commits (own old) (committed_by 1 request reply)
    → AreOneThreads mid new requests replies → AreOneThreads old new (request ∷ requests) (reply ∷ replies)
one_more old mid new request reply requests replies is grown rest = record {
  answered = (is, subst (λ w. AreReplies may_be_told 1 w requests replies) grown rest.answered);
  grown = rest.grown ∙ ap (λ w. with_commits w (committed 1 requests replies)) grown
      ∙ with_both (own old) (committed_by 1 request reply) (committed 1 requests replies);
}

are_one_threads : (old new : TokenRecord) (requests : List RequestRecord) (replies : List Reply)
    → AreServed 1 old requests replies new → IsAlone old → is_some old.asked ≡ false
    → AreOneThreads old new requests replies
are_one_threads old new [] [] served alone quiet =
    record { answered = tt; grown = ap own served ∙ sym (with_none (own old)) }
are_one_threads old new [] (reply ∷ replies) served alone quiet = absurd served
are_one_threads old new (request ∷ requests) [] served alone quiet = absurd served
are_one_threads old new (Refresh actions ∷ requests) (Refreshed reply ∷ replies) served alone quiet =
    let mid = served.0 in
    let refreshed = served.1.0 in
    let alike = refreshed_alike old 1 actions reply mid refreshed quiet in
    let still = alone_still old mid alike alone in
    one_more old mid new (Refresh actions) (Refreshed reply) requests replies
    (refreshed_reply old mid actions reply refreshed still served.1.1) (refreshed_own old mid actions reply refreshed)
    (are_one_threads mid new requests replies served.2 still (asked_nothing mid.asked alike.quiet))
are_one_threads old new (Ask asking ∷ requests) (Answered answers ∷ replies) served alone quiet =
    let mid = served.0 in
    let is = served.1.1 in
    let questions = questions_in asking in
    let alike = answered_alike old is.asking mid questions is.response is.asked is.polled in
    let still = alone_still old mid alike alone in
    one_more old mid new (Ask asking) (Answered answers) requests replies (
      served.1.0,
      answered_reply old is.asking mid questions is.response answers is.asked is.polled alone is.asking_sound is.sound
          is.answers_are,
    )
    (answered_own old is.asking mid asking is.response answers is.asked is.polled)
    (are_one_threads mid new requests replies served.2 still (asked_nothing mid.asked alike.quiet))
are_one_threads old new (Ask asking ∷ requests) (Listed answers listing ∷ replies) served alone quiet =
    let mid = served.0 in
    let is = served.1.1 in
    let questions = questions_in asking in
    let alike = answered_alike old is.asking mid questions is.response is.asked is.polled in
    let still = alone_still old mid alike alone in
    one_more old mid new (Ask asking) (Listed answers listing) requests replies (
      served.1.0,
      answered_reply old is.asking mid questions is.response answers is.asked is.polled alone is.asking_sound is.sound
          is.answers_are,
    )
    (answered_own old is.asking mid asking is.response answers is.asked is.polled)
    (are_one_threads mid new requests replies served.2 still (asked_nothing mid.asked alike.quiet))
are_one_threads old new (Abort ∷ requests) (Aborted ∷ replies) served alone quiet =
    let mid = served.0 in
    let same : mid ≡ old = served.1 in
    one_more old mid new Abort Aborted requests replies tt (ap own same ∙ sym (with_none (own old)))
    (are_one_threads mid new requests replies served.2 (subst IsAlone (sym same) alone)
    (subst (λ (t : TokenRecord). is_some t.asked ≡ false) (sym same) quiet))
are_one_threads old new (Order key ∷ requests) (Shown shown ∷ replies) served alone quiet =
    let mid = served.0 in
    let handed = shown_hands old key shown mid served.1.0 in
    let alike = handed_alike old mid handed quiet in
    let still = alone_still old mid alike alone in
    one_more old mid new (Order key) (Shown shown) requests replies
    (shown_reply old mid key shown served.1.0 still served.1.1) (ap own handed.now ∙ sym (with_none (own old)))
    (are_one_threads mid new requests replies served.2 still (asked_nothing mid.asked alike.quiet))
are_one_threads old new (request ∷ requests) (reply ∷ replies) served alone quiet = absurd served.1

pub alone_sees_its_own : AloneSeesItsOwn
alone_sees_its_own t alone sound = sym (alone_sees t alone sound)

pub alone_is_one_thread : AloneIsOneThread
alone_is_one_thread before after requests told_old told_new was is alone quiet served = grind (arith, asked_nothing, are_one_threads)

pub alone_ends_as_one_thread : AloneEndsAsOneThread
alone_ends_as_one_thread (error.Write done) before after requests told_old told_new was is alone quiet ends =
    let all = are_one_threads before after (take (done + 1) requests) (ends.replies ++ ends.last ∷ []) ends.served alone
    (asked_nothing before.asked quiet) in
    record {
      replies = ends.replies;
      last = ends.last;
      count = ends.count;
      answered = all.answered;
      grown = all.grown;
      part = ends.part;
      rest = ends.rest;
      begins = ends.begins;
      left = ends.left;
      written = ends.written;
    }
alone_ends_as_one_thread (error.OutOfMemory done) before after requests told_old told_new was is alone quiet ends = (
  ends.0,
  alone_is_one_thread before after (take done requests) told_old told_new was is alone quiet ends.1,
)

-- a new token asks nothing
pub one_client_is_one_thread : OneClientIsOneThread
one_client_is_one_thread table after requests told_old told_new was is one served =
    alone_is_one_thread (new_token table (Client 1)) after requests told_old told_new was is
    (record { who = refl; clients = one }) refl served
