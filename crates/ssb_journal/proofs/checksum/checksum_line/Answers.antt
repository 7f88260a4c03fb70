use Rattle.std.proofs.Common.{[], ◌∷◌, ◌++◌, ◌∙◌, ap}
use Rattle.hex.specs.Hex.{encode_lower}
use Rattle.ssb_journal.specs.Seals.{checksum_line}
use Rattle.ssb_journal.proofs.checksum.checksum_line.Goals as goal

pub returns : goal.returns
unfolding checksum_line
returns c =
    let digest = c.as_slice.ensures ∙ c.digest-digest.ensures in
    ap (λ digits. digits ++ 10 ∷ []) (c.in-Ok.ensures.written ∙ ap encode_lower digest)
