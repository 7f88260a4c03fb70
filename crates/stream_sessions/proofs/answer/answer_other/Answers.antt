use Rattle.stream_sessions.proofs.answer.answer_other.Goals as goal

pub returns-in-Some : goal.returns-in-Some
returns-in-Some g c = λ number client table fault.
    let asks = rw c.in-Some.is at c.in-Ok.ensures.asked in
    c.answer_own.ensures number c.args.request.now client table asks
