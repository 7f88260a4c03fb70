use Rattle.std.proofs.Common.{◌≡◌, ℕ, List, ◌++◌, length}
use Rattle.ssb_text.specs.Checksums.{IsHashed, piece_size}
use Rattle.ssb_text.proofs.checksum.PieceHashTableHash.update.Given as goal

-- what is left comes behind what was hashed
abbrev pub invariant-loop-rest : goal.invariant-loop-rest
invariant-loop-rest l = record {
  whole : l.self.lacks ≡ piece_size;
  hashed : (front : List ℕ) × (l.bytes ≡ front ++ l.rest)
      × ((text : List ℕ) → IsHashed l.fn.self text → IsHashed l.self (text ++ front));
}

abbrev pub decreases-loop-rest : goal.decreases-loop-rest
decreases-loop-rest l = length l.rest
