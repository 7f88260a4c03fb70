use Rattle.std.proofs.Common.{◌<◌, arith, inr, length, refl}
use Rattle.ssb_journal.proofs.KeptLaws.{no_trace, batch_spelled}
use Rattle.ssb_journal.proofs.commits.batch_of_records.Goals as goal

pub returns-in-Err : goal.returns-in-Err
returns-in-Err c =
    let other = c.is_of_text.ensures c.if-is_of_text.true in
    no_trace 18446744073709551615 c.args.text.now c.in-Err.error other.0 other.1 (c.in-Err.ensures.fault c.args.text.now refl)

pub returns-then-len-gt0 : goal.returns-then-len-gt0
returns-then-len-gt0 c =
    let some : 0 < length c.in-Ok.trace.answers = omega (arith, c.len.ensures, c.if-len-gt0.true) in
    inr (inr (18446744073709551615, c.in-Ok.trace, c.in-Ok.ensures.trace c.args.text.now refl, some))

pub returns : goal.returns
returns c =
    batch_spelled 18446744073709551615 c.args.text.now c.in-Ok.trace c.into_vec.result.items (c.in-Ok.ensures.trace c.args.text.now refl)
    (omega (arith, c.len.ensures, c.if-len-gt0.false)) c.into_vec.ensures
