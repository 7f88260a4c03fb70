-- What is kept of what a client is told.
use Rattle.std.specs.Prelude.{◌≡◌, ℕ, List, ◌++◌, length, Option, Some, None}
use Rattle.ssb_audit.specs.declared.trace.Told.{Told}
use Rattle.ssb_report.specs.Replies.{Reply, Refreshed, Answered, Listed, Shown, Aborted}
use Rattle.ssb_script.specs.Requests.{RequestRecord, Refresh, Ask, Order, Abort, questions_in}

-- these answers are kept behind those that were kept before, where any are kept
abbrev pub KeepsMore : Option (List Told) → Option (List Told) → List Told → Type 0
KeepsMore None None more = Unit {0}
KeepsMore (Some old) (Some new) more = new ≡ old ++ more
KeepsMore None (Some new) more = ⊥
KeepsMore (Some old) None more = ⊥

-- how many answers a reply has
abbrev pub answer_count : Reply → ℕ
answer_count (Answered answers) = length answers
answer_count (Listed answers listing) = length answers
answer_count (Refreshed reply) = 0
answer_count (Shown shown) = 0
answer_count Aborted = 0

-- how many questions a request has
abbrev pub question_count : RequestRecord → ℕ
question_count (Ask asking) = length (questions_in asking)
question_count (Refresh actions) = 0
question_count (Order key) = 0
question_count Abort = 0
