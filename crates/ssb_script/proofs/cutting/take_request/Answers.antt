use Rattle.std.proofs.Common.{◌<◌, ◌≡◌, Bool, Ok, sym, subst, ◌∙◌, length, arith}
use Rattle.std.proofs.lemmas.Bool.{eqb-false}
use Rattle.std.proofs.lemmas.Result.{err_from_is_err_and}
use Rattle.ssb_script.specs.Taking.{Took, TellsLine}
use Rattle.ssb_script.proofs.TakingLaws.{line_behind, request_ends, request_goes_on, request_left, request_fault}
use Rattle.ssb_script.proofs.TakingLaws.{taken_on}
use Rattle.ssb_script.proofs.cutting.take_request.Goals as goal

pub returns-in_err-next_line-clause-fault : goal.returns-in_err-next_line-clause-fault
returns-in_err-next_line-clause-fault g c =
    let inv = c.loop-request.invariant in
    let why = err_from_is_err_and c.from_residual.result c.from_residual.ensures.1 in
    let fault = request_fault c.in_err-next_line.field-0.0 c.loop-request.begun _ _ _ _ _ c.args.limit inv.begun
    inv.taken c.in_err-next_line.ensures.took in
    rw (why.1, why.2) fault

pub returns-else-is_empty-clause-found : goal.returns-else-is_empty-clause-found
returns-else-is_empty-clause-found g c =
    let remaining = g.R.Read.remaining in
    let inv = c.loop-request.invariant in
    let new = c.next_line.new in
    let took = subst (λ (whole : Bool). Took (remaining c.loop-request.reader) (remaining new.reader)
    c.loop-request.request.items new.buffer.items (TellsLine (Ok whole) c.args.limit (length new.buffer.items)
    (remaining c.loop-request.reader))) c.if-not-branch.true c.in_ok-next_line.ensures.took in
    let left = request_left c.loop-request.begun _ _ _ _ _ c.args.limit (length new.buffer.items) inv.begun inv.taken
    took in
    let filled = eqb-false _ _ (sym c.is_empty.ensures ∙ c.if-is_empty.false) in
    let some : 0 < length new.buffer.items = omega (arith, new.buffer.ok.0) in
    (left.0, some, left.1)

pub returns-then-ends_request-clause-found : goal.returns-then-ends_request-clause-found
returns-then-ends_request-clause-found g c =
    let remaining = g.R.Read.remaining in
    let new = c.next_line.new in
    let took = subst (λ (whole : Bool). Took (remaining c.loop-request.reader) (remaining new.reader)
    c.loop-request.request.items new.buffer.items (TellsLine (Ok whole) c.args.limit (length new.buffer.items)
    (remaining c.loop-request.reader))) c.if-not-branch.false c.in_ok-next_line.ensures.took in
    let at : c.len-start.result ≡ length c.loop-request.request.items =
    omega (arith, c.len-start.ensures, c.loop-request.request.ok.0) in
    let line = line_behind c.deref.result.now _ _ took.bytes c.len-start.result c.deref.ensures.value at
    took.appended in
    request_ends c.loop-request.begun _ _ _ _ _ c.loop-request.invariant.begun took line
    (sym c.if-ends_request.ensures)

pub loop-request-preserved : goal.loop-request-preserved
loop-request-preserved g c =
    let remaining = g.R.Read.remaining in
    let inv = c.loop-request.invariant in
    let new = c.next_line.new in
    let took = subst (λ (whole : Bool). Took (remaining c.loop-request.reader) (remaining new.reader)
    c.loop-request.request.items new.buffer.items (TellsLine (Ok whole) c.args.limit (length new.buffer.items)
    (remaining c.loop-request.reader))) c.if-not-branch.false c.in_ok-next_line.ensures.took in
    let at : c.len-start.result ≡ length c.loop-request.request.items =
    omega (arith, c.len-start.ensures, c.loop-request.request.ok.0) in
    let line = line_behind c.deref.result.now _ _ took.bytes c.len-start.result c.deref.ensures.value at
    took.appended in
    record {
      within = c.next_line.ensures.within;
      taken = taken_on _ _ _ _ _ _ inv.taken took;
      begun = rw c.begun_behind-begun.ensures (request_goes_on c.loop-request.begun _ _ _ _ _ inv.begun took line
          (sym c.if-ends_request.ensures));
    }
