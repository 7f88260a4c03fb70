use Rattle.std.proofs.Common.{arith}
use Rattle.std.proofs.lemmas.Str.Pattern.{strip_suffix_char}
use Rattle.ssb_sql.proofs.CutLaws.{before_from}
use Rattle.ssb_sql.proofs.cutting.before_quote.Goals as goal

pub returns : goal.returns
returns c =
    before_from 39 c.args.text.now _ (strip_suffix_char 39 c.args.text.now _ c.strip_suffix.ensures.cases (omega arith))
