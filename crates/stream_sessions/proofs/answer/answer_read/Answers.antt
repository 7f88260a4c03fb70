use Rattle.std.proofs.Common.{◌≡◌, true, false, [], ◌∷◌, ◌||◌, length, take, refl, sym, ap, ◌∙◌, inl, append-nil, arith, rules}
use Rattle.history.specs.Members.{number_of}
use Rattle.ssb_script.specs.Requests.{request_of}
use Rattle.stream_sessions.specs.Speaking.{IsTaken, is_refresh, speaking}
use Rattle.stream_sessions.proofs.AnswerLaws.{adds_nothing, adds_replies, one_taken, shown_next}
use Rattle.stream_sessions.proofs.answer.answer_read.Goals.{else-not-manner-via-then-not-manner+else-is_refresh}
use Rattle.stream_sessions.proofs.answer.answer_read.Goals.{else-not-manner-via-else-not-manner}
use Rattle.stream_sessions.proofs.answer.answer_read.Goals as goal

pub returns-then-is_refresh-clause-answered : goal.returns-then-is_refresh-clause-answered
returns-then-is_refresh-clause-answered g c = λ text spelled.
    let one = request_of c.args.request in
    let is : is_refresh one ≡ true = search rules in
    let none : c.args.manner.terms.takes_refreshes ≡ false = search rules in
    c.refuse_refresh.ensures (number_of c.args.client.now.who) text (one ∷ []) c.args.client.now spelled
    (ap (λ b. b || false) is) none

pub returns-in-Ok-clause-answered : goal.returns-in-Ok-clause-answered
returns-in-Ok-clause-answered g c = λ text spelled.
    let one = request_of c.args.request in
    let next = c.in-Ok.ensures.added in
    let before = c.args.replies.now.items in
    let taken : IsTaken (speaking c.args.client.now c.args.manner) (one ∷ []) = elim c.else-not-manner.branch [
      | else-not-manner-via-then-not-manner+else-is_refresh w ↦
          let no : is_refresh one ≡ false = search rules in one_taken (speaking c.args.client.now c.args.manner) one no
      | else-not-manner-via-else-not-manner w ↦ inl (search rules)
    ] in
    adds_replies (number_of c.args.client.now.who) text c.args.client.now c.add_reply.new.client c.args.manner
    (one ∷ []) (one ∷ []) (next.reply ∷ []) before c.add_reply.new.replies.items spelled taken refl
    (c.add_reply.new.client, next.served, refl)
    (shown_next c.args.manner.format c.args.manner.terms.past [] next.reply before before c.add_reply.new.replies.items (sym (append-nil before))
    next.added)

pub returns-in-Err-clause-answered : goal.returns-in-Err-clause-answered
returns-in-Err-clause-answered g c = λ text spelled.
    let one = request_of c.args.request in
    let before = c.args.replies.now in
    let taken : IsTaken (speaking c.args.client.now c.args.manner) (one ∷ []) = elim c.else-not-manner.branch [
      | else-not-manner-via-then-not-manner+else-is_refresh w ↦
          let no : is_refresh one ≡ false = search rules in one_taken (speaking c.args.client.now c.args.manner) one no
      | else-not-manner-via-else-not-manner w ↦ inl (search rules)
    ] in
    let count : c.len-before.result ≡ length before.items = omega (arith, before.ok.0, c.len-before.ensures) in
    adds_nothing text c.args.client.now c.args.client.now c.add_reply.new.client c.args.manner (one ∷ []) [] [] one []
    before.items before.items c.add_reply.new.replies.items c.truncate.new.self.items spelled taken refl refl refl
    (sym (append-nil before.items)) c.in-Err.ensures.added
    (c.truncate.ensures.items ∙ ap (λ n. take n c.add_reply.new.replies.items) count)
