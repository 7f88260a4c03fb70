use Rattle.ssb_text.proofs.ChecksumLaws.{piece_ended}
use Rattle.ssb_text.proofs.checksum.PieceHash.end_piece.Goals as goal

pub returns-clause-hashed : goal.returns-clause-hashed
returns-clause-hashed c = λ text hashed.
    piece_ended c.args.self.now c.args.bytes.now text _ _ _ c.requires hashed
    (λ m holds. c.finalize_reset-digest.ensures.digest _ (c.update.ensures m holds)) c.update-2.ensures
    c.finalize_reset-digest.ensures.empty
