use Rattle.std.proofs.Common.{map}
use Rattle.std.proofs.lemmas.Bool.Decides.{Decides-eqb, same_from_decides}
use Rattle.std.proofs.lemmas.Slice.Eq.{slice_eq-Decides}
use Rattle.std.specs.Char.{to_ascii_lowercase}
use Rattle.ssb_questions.specs.Text.{text_eq}
use Rattle.ssb_sql.proofs.words.same_word.Goals as goal
use Rattle.std.proofs.Common.{refl}

pub returns : goal.returns
returns c =
    let a = map to_ascii_lowercase c.args.a.now in
    let b = map to_ascii_lowercase c.args.b.now in
    same_from_decides _ (text_eq a b) c.eq_ignore_ascii_case.ensures.test
    (slice_eq-Decides Decides-eqb a b (text_eq a b) refl)
