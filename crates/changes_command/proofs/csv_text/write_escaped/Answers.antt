use Rattle.std.proofs.Common.{◌∷◌, [], ap, arith, flat_map, refl, rules, subst, ◌∙◌}
use Rattle.std.proofs.lemmas.List.{take_all}
use Rattle.std.specs.Io.KnownBytes.{Appends}
use Rattle.csv.specs.Writing.{default_writer, escaped}
use Rattle.ssb_text.proofs.WrittenLaws.{part_item, writes_stopped}
use Rattle.ssb_text.specs.Written.{StopsShort}
use Rattle.changes_command.proofs.CsvLaws.{bytes_escaped}
use Rattle.changes_command.proofs.csv_text.write_escaped.Goals as goal

pub returns-in_err-write_byte : goal.returns-in_err-write_byte
returns-in_err-write_byte g c =
    let a = g.W.Write.contents c.args.out.now in
    let e = g.W.Write.contents c.write_byte.new.out in
    writes_stopped _ c.from_residual.result a e _ c.from_residual.ensures.1
    (subst (StopsShort a e) (bytes_escaped c.args.bytes.now)
    (part_item (λ byte. escaped default_writer (byte ∷ [])) c.args.bytes.now c.loop-byte.byte-index _ 0 a
    (g.W.Write.contents c.loop-byte.out) e (search rules) refl c.loop-byte.invariant c.in_err-write_byte.ensures))

pub returns : goal.returns
returns g c =
    subst (Appends (g.W.Write.contents c.args.out.now) (g.W.Write.contents c.loop-byte.out))
    (ap (flat_map (λ byte. escaped default_writer (byte ∷ []))) (take_all c.loop-byte.byte-index c.args.bytes.now
    (omega (arith, c.loop-byte-test.false))) ∙ bytes_escaped c.args.bytes.now) c.loop-byte.invariant
