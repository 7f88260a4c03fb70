use Rattle.std.proofs.Common.{◌≡◌, [], ◌∷◌, ◌++◌, length, map, refl, ap, sym, ◌∙◌, append_assoc, length-append, arith}
use Rattle.std.proofs.lemmas.List.{length-map}
use Rattle.std.specs.Vec.Iter.{into_iter_items}
use Rattle.ssb_script.specs.Requests.{request_of, requests_of}
use Rattle.stream_sessions.proofs.RequestLaws.{serves_none, serves_more_still, ends_there_still, alike_itself}
use Rattle.stream_sessions.proofs.RequestLaws.{alike_both}
use Rattle.stream_sessions.proofs.requests.serve_requests.Goals as goal

pub loop-request-init : goal.loop-request-init
loop-request-init g c = (
  [],
  ap (map request_of) (sym c.into_iter-requests.ensures.rest),
  refl,
  serves_none _ _ _ _,
  alike_itself _ c.requires.quiet,
)

pub overflow_add-done : goal.overflow_add-done
overflow_add-done g c =
    let inv = c.loop-request.invariant in
    let requests = c.args.script.requests in
    let request = request_of c.in-Some.request in
    let left = map request_of (into_iter_items c.next.new.self) in
    let whole : requests_of c.args.script ≡ inv.0 ++ request ∷ left =
    inv.1 ∙ ap (λ t. inv.0 ++ map request_of t) c.in-Some.ensures.items in
    omega (
      arith,
      requests.ok.0,
      requests.ok.1,
      requests.small,
      length-map requests.items request_of,
      ap length whole,
      length-append inv.0 (request ∷ left),
      inv.2,
    )

pub loop-request-preserved : goal.loop-request-preserved
loop-request-preserved g c =
    let inv = c.loop-request.invariant in
    let request = request_of c.in-Some.request in
    let left = into_iter_items c.next.new.self in (
      inv.0 ++ request ∷ [],
      inv.1 ∙ ap (λ t. inv.0 ++ map request_of t) c.in-Some.ensures.items
          ∙ sym (append_assoc inv.0 (request ∷ []) (map request_of left)),
      omega (arith, length-append inv.0 (request ∷ []), inv.2),
      serves_more_still _ _ _ inv.0 request _ _ _ _ _ _ inv.3 inv.4.who c.in-Ok.ensures.served,
      alike_both _ _ _ inv.4 c.serve_request.ensures.same,
    )

pub returns-in-Err-clause-ended : goal.returns-in-Err-clause-ended
returns-in-Err-clause-ended g c =
    let inv = c.loop-request.invariant in
    let request = request_of c.in-Some.request in
    let left = map request_of (into_iter_items c.next.new.self) in
    let whole : requests_of c.args.script ≡ inv.0 ++ request ∷ left =
    inv.1 ∙ ap (λ t. inv.0 ++ map request_of t) c.in-Some.ensures.items in
    rw (c.after.ensures, sym inv.2, whole)
    (ends_there_still c.in-Err.stop _ _ _ inv.0 left request _ _ _ _ _ _ inv.3 inv.4.who c.in-Err.ensures.stopped)
