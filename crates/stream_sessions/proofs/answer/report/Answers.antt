use Rattle.std.proofs.Common.{◌≡◌, [], ◌∷◌, ◌++◌, length, map, take, refl, ap, sym, ◌∙◌, append_assoc, append-nil}
use Rattle.std.proofs.Common.{arith}
use Rattle.std.proofs.lemmas.List.{nil_from_length}
use Rattle.std.specs.Vec.Iter.{into_iter_items}
use Rattle.history.specs.Members.{number_of}
use Rattle.ssb_script.specs.Requests.{request_of, requests_of}
use Rattle.stream_sessions.proofs.AnswerLaws.{adds_nothing, adds_replies, served_next, shown_next}
use Rattle.stream_sessions.proofs.RequestLaws.{alike_both, alike_itself}
use Rattle.stream_sessions.proofs.answer.report.Goals as goal

pub loop-request-init : goal.loop-request-init
loop-request-init g c = (
  [],
  [],
  ap (map request_of) (sym c.into_iter-requests.ensures.rest),
  refl,
  sym (append-nil c.args.replies.now.items),
  alike_itself _ c.requires.quiet,
)

pub loop-request-preserved : goal.loop-request-preserved
loop-request-preserved g c =
    let inv = c.loop-request.invariant in
    let one = request_of c.in-Some.request in
    let left = into_iter_items c.next.new.self in
    let next = c.in-Ok.ensures.added in (
      inv.0 ++ one ∷ [],
      inv.1 ++ next.reply ∷ [],
      inv.2 ∙ ap (λ t. inv.0 ++ map request_of t) c.in-Some.ensures.items
          ∙ sym (append_assoc inv.0 (one ∷ []) (map request_of left)),
      served_next c.args.client.now c.loop-request.client c.add_reply.new.client inv.0 inv.1 one next.reply inv.3
          inv.5.who next.served,
      shown_next c.args.manner.format c.args.manner.terms.past inv.1 next.reply c.args.replies.now.items c.loop-request.replies.items
          c.add_reply.new.replies.items inv.4 next.added,
      alike_both _ _ _ inv.5 c.add_reply.ensures.same,
    )

pub returns-in-Err-clause-answered : goal.returns-in-Err-clause-answered
returns-in-Err-clause-answered g c = λ request spelled.
    let inv = c.loop-request.invariant in
    let one = request_of c.in-Some.request in
    let left = map request_of (into_iter_items c.next.new.self) in
    let whole : requests_of c.args.script ≡ inv.0 ++ one ∷ left
    = inv.2 ∙ ap (λ t. inv.0 ++ map request_of t) c.in-Some.ensures.items in
    let before = c.args.replies.now in
    let count : c.len-before.result ≡ length before.items = omega (arith, before.ok.0, c.len-before.ensures) in
    adds_nothing request c.args.client.now c.loop-request.client c.add_reply.new.client c.args.manner
    (requests_of c.args.script) inv.0 left one inv.1 before.items c.loop-request.replies.items
    c.add_reply.new.replies.items c.truncate.new.self.items spelled c.requires.taken whole inv.3 inv.5.who inv.4
    c.in-Err.ensures.added
    (c.truncate.ensures.items ∙ ap (λ n. take n c.add_reply.new.replies.items) count)

pub returns-clause-answered : goal.returns-clause-answered
returns-clause-answered g c = λ request spelled.
    let inv = c.loop-request.invariant in
    let left = c.next.new.self.rest in
    let none : left.items ≡ []
    = nil_from_length left.items (omega (arith, left.ok.0, c.in_default.ensures.cases.1)) in
    let whole : requests_of c.args.script ≡ inv.0
    = inv.2 ∙ ap (λ t. inv.0 ++ map request_of t) (c.in_default.ensures.items ∙ none) ∙ append-nil inv.0 in
    adds_replies (number_of c.args.client.now.who) request c.args.client.now c.loop-request.client c.args.manner
    (requests_of c.args.script) inv.0 inv.1 c.args.replies.now.items c.loop-request.replies.items spelled
    c.requires.taken whole inv.3 inv.4
