use Rattle.std.proofs.Common.{refl}
use Rattle.csv.specs.Reading.{strip_bom}
use Rattle.ssb_text.proofs.DirectLaws.{no_bytes}
use Rattle.ssb_text.proofs.RecordTextLaws.{no-mark}
use Rattle.ssb_text.proofs.direct.may_be_marked.Goals as goal

pub returns-in-Some : goal.returns-in-Some
returns-in-Some c = λ other. rw c.in-Some.ensures.cases.0 (no-mark c.in-Some.first.now _ other)

pub returns-in-None : goal.returns-in-None
unfolding strip_bom
returns-in-None c = λ other. rw (no_bytes c.args.text.now c.in-None.ensures.cases) refl
