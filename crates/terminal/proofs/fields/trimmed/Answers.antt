use Rattle.std.proofs.Common.{refl}
use Rattle.std.proofs.lemmas.Str.Ascii.{trim_ascii_is}
use Rattle.terminal.specs.Typed.{begun_at_word}
use Rattle.terminal.proofs.fields.trimmed.Goals as goal

pub returns : goal.returns
returns c = trim_ascii_is c.args.bytes.now _ (begun_at_word c.args.bytes.now) refl c.trim_ascii.ensures.value
