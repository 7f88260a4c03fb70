-- The answers to the questions of one request are of one moment.
use Rattle.std.proofs.Common.{◌≡◌, ◌⊎◌, inl, inr, ℕ, ◌≤◌, List, length, map, take, ap, ◌∙◌, length-append, arith}
use Rattle.ssb_answers.specs.declared.answer.Answer.{Answer}
use Rattle.ssb_answers.specs.declared.answer.Answer.TheVariants as answer
use Rattle.row_store.specs.History.{CommitRecord, IsPrefix}
use Rattle.history_core.specs.declared.response.Response.{Response}
use Rattle.history_core.specs.declared.response.Response.TheVariants.{Rows, Unserved}
use Rattle.history_core.specs.Events.{Question, Questions}
use Rattle.history_core.specs.World.{rows_after}
use Rattle.history_core.specs.Responses.{answers_in}
use Rattle.history_core.proofs.ResponseLaws.{in_order}
use Rattle.history.specs.declared.request.PostedRequest.{PostedRequest}
use Rattle.history.specs.Tokens.{TableRecord, TokenRecord}
use Rattle.history.specs.Words.{IsRight, request}
use Rattle.ssb_clients.specs.Clients.{Asks}
use Rattle.stream_sessions.specs.Moment.{AreOfOneMoment, AreUnserved, OneMoment}
use Rattle.stream_sessions.proofs.RequestLaws.{asked_is}

no_fewer : (shorter longer : List CommitRecord) → IsPrefix shorter longer → length shorter ≤ length longer
no_fewer shorter longer begins = omega (arith, ap length begins.whole, length-append shorter begins.rest)

-- the answers by this table's base
abbrev by_rows : TableRecord → List CommitRecord → ℕ → Questions → List Answer
by_rows table history at questions =
    map (λ (question : Question). answer.Rows question at (rows_after table.base question (take at history))) questions

of_right : (before asking after : TokenRecord) (questions : Questions) (answers : List Answer) (asked : PostedRequest)
    (response : Response) → Asks before questions asking → asked ≡ request questions (length asking.seen)
    → IsRight asking.table.base after.seen asked response → answers ≡ answers_in response
    → AreOfOneMoment before questions answers after ⊎ AreUnserved questions answers
of_right before asking after questions answers asked (Rows others at rows) asks same right are =
    let floor = ap (λ (r : PostedRequest). r.floor) same in
    let question = right.0 ∙ ap (λ (r : PostedRequest). r.questions) same in
    let table = ap (λ (t : TokenRecord). t.table) asks.now in
    inl (record {
      at = at;
      not_older = omega (arith, no_fewer before.seen asking.seen asks.begins, floor, right.1);
      not_newer = right.2;
      answers_are = are ∙ in_order asking.table.base (take at after.seen) others at rows right.3
          ∙ ap (by_rows asking.table after.seen at) question
          ∙ ap (λ (t : TableRecord). by_rows t after.seen at questions) table;
    })
of_right before asking after questions answers asked (Unserved others cause) asks same right are =
    let question = right.0 ∙ ap (λ (r : PostedRequest). r.questions) same in
    inr (cause, are ∙ ap (map (λ (q : Question). answer.Unserved q cause)) question)

pub one_moment : OneMoment
one_moment before after questions answers is =
    of_right before is.asking after questions answers is.polled.asked is.response is.asked
    (asked_is before is.asking after questions is.response is.asked is.polled) is.polled.right is.answers_are
