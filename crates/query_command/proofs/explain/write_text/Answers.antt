use Rattle.std.proofs.Common.{◌∙◌, subst, sym}
use Rattle.std.specs.Io.KnownBytes.{Appends}
use Rattle.ssb_text.specs.Written.{AppendsPart}
use Rattle.ssb_text.proofs.WrittenLaws.{part_of_short}
use Rattle.ssb_files.proofs.FlushedLaws.{appended_kept, appended_whole}
use Rattle.ssb_files.proofs.ResultLaws.{is_ok_of, is_err_of}
use Rattle.query_command.proofs.explain.write_text.Goals as goal

pub returns-in-Err-clause-written : goal.returns-in-Err-clause-written
returns-in-Err-clause-written g c =
    let written : Appends (g.W.Write.contents c.args.out.now) (g.W.Write.contents c.write_bytes.new.writer)
    c.args.text.now = subst
    (Appends (g.W.Write.contents c.args.out.now) (g.W.Write.contents c.write_bytes.new.writer)) c.as_bytes.ensures.value
    (is_ok_of c.write_bytes.result _ _ c.write_bytes.ensures (sym c.is_err.ensures.value ∙ c.if-is_err.false)) in
    appended_whole _ _ _ (appended_kept _ _ _ _ written c.flush.ensures.bytes)

pub returns-in-Ok-clause-written : goal.returns-in-Ok-clause-written
returns-in-Ok-clause-written g c =
    let written : Appends (g.W.Write.contents c.args.out.now) (g.W.Write.contents c.write_bytes.new.writer)
    c.args.text.now = subst
    (Appends (g.W.Write.contents c.args.out.now) (g.W.Write.contents c.write_bytes.new.writer)) c.as_bytes.ensures.value
    (is_ok_of c.write_bytes.result _ _ c.write_bytes.ensures (sym c.is_err.ensures.value ∙ c.if-is_err.false)) in
    appended_kept _ _ _ _ written c.flush.ensures.bytes

pub returns-then-is_err-clause-written : goal.returns-then-is_err-clause-written
returns-then-is_err-clause-written g c = subst
    (AppendsPart (g.W.Write.contents c.args.out.now) (g.W.Write.contents c.write_bytes.new.writer))
    c.as_bytes.ensures.value (part_of_short _ _ _
    (is_err_of c.write_bytes.result _ _ c.write_bytes.ensures (sym c.is_err.ensures.value ∙ c.if-is_err.true)))
