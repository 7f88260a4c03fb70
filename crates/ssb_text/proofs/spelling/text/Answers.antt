use Rattle.ssb_text.proofs.Utf8Laws.{text_is_utf8, no_text_is_not}
use Rattle.ssb_text.proofs.spelling.text.Goals as goal

pub returns-in-Ok : goal.returns-in-Ok
returns-in-Ok c = let t = c.in-Ok.ensures.cases in rw (text_is_utf8 c.args.bytes.now t.1, t.0)

pub returns-in-Err : goal.returns-in-Err
returns-in-Err c = rw (no_text_is_not c.args.bytes.now _ c.in-Err.ensures.cases.1)
