use Rattle.std.proofs.Common.{sym}
use Rattle.std.proofs.lemmas.Option.{IfSome_then}
use Rattle.std.specs.Cmp.Lexicographic.{same_text}
use Rattle.ssb_text.proofs.WordedLaws.{parted_at, word_alone}
use Rattle.ssb_text.proofs.worded.take_word.Goals as goal

pub returns : goal.returns
returns c =
    let text = c.args.text.now in
    let word = c.args.word.now in
    let cases = c.in_ok-strip_prefix.ensures.cases in
    IfSome_then c.take_byte.result c.take_byte.ensures (λ behind next. word_alone text word behind.now c.requires
    (parted_at text word _ behind.now 10 (same_text _ word (sym cases.0)) cases.1 next))
