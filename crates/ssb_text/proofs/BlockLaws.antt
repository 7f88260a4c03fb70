use Rattle.std.proofs.Common.{arith}
-- What is known of the bytes of a source while blocks are cut from them.
use Rattle.std.proofs.Common.{◌≡◌, ◌<◌, ℕ, true, List, [], ◌∷◌, ◌++◌, append-nil, append_assoc, length, take, drop}
use Rattle.std.proofs.Common.{get_or, drop-cons, Option, Some, None, refl, sym, ap, ◌∙◌}
use Rattle.std.proofs.lemmas.List.{take-append-drop}
use Rattle.std.specs.Io.KnownBytes.{Consumes, IsAtEnd, prepend_known}
use Rattle.ssb_text.specs.Blocks.{AreCut, Follows, GivesBlock, GivesBlocks, WasAll, joined, starts_line}
use Rattle.ssb_text.specs.BlockReading.{ReadsMore}

-- of whatever bytes were left, these were read, and the source's stand behind them
abbrev pub BlockSoFar : Option (List ℕ) → Option (List ℕ) → List ℕ → Type 0
BlockSoFar old source block = (text : List ℕ) → old ≡ Some text
    → (rest : List ℕ) × (source ≡ Some rest) × (text ≡ block ++ rest)

pub consumes_known : (old new : Option (List ℕ)) (rest bytes : List ℕ) → old ≡ Some rest → Consumes old new bytes
    → (later : List ℕ) × (new ≡ Some later) × (rest ≡ bytes ++ later)
consumes_known None new rest bytes is consumed = grind arith
consumes_known (Some all) None rest bytes is consumed = grind arith
consumes_known (Some all) (Some later) rest bytes is consumed = grind arith

pub block_more : (old before after : Option (List ℕ)) (block more : List ℕ) (count : ℕ) → BlockSoFar old before block
    → ReadsMore before after block more count → BlockSoFar old after more
block_more old before after block more count so_far read text is = grind (arith, consumes_known, append_assoc)

pub end_known : (known : Option (List ℕ)) (rest : List ℕ) → known ≡ Some rest → IsAtEnd known → rest ≡ []
end_known None rest is ended = cc is
end_known (Some all) rest is ended = let same : all ≡ rest = cc is in sym same ∙ ended

-- the source is at its end, and nothing was read
pub block_none : (old source : Option (List ℕ)) (carry block : List ℕ) → BlockSoFar old source block → IsAtEnd source
    → carry ≡ [] → block ≡ [] → WasAll old (prepend_known carry source)
block_none old source carry block so_far ended none empty text is = grind (arith, end_known)

-- the source is at its end, and what was read is the last block
pub block_last : (old source : Option (List ℕ)) (carry block : List ℕ) → BlockSoFar old source block → IsAtEnd source
    → carry ≡ [] → GivesBlock old (prepend_known carry source) block
block_last old source carry block so_far ended none text is = grind (arith, end_known)

line_starts : (bytes rest : List ℕ) (at : ℕ) → at < length bytes → get_or bytes at 0 ≡ 10
    → starts_line (drop at bytes ++ rest) ≡ true
line_starts bytes rest at within feed = rw (drop-cons bytes at 0 within, feed) refl

-- what was read is cut before a line feed
pub block_cut : (old source : Option (List ℕ)) (block : List ℕ) (at : ℕ) → BlockSoFar old source block
    → at < length block → get_or block at 0 ≡ 10
    → GivesBlock old (prepend_known (drop at block) source) (take at block)
block_cut old source block at so_far within feed text is =
    let here = so_far text is in (
      drop at block ++ here.0,
      rw here.1 refl,
      here.2 ∙ ap (λ (front : List ℕ). front ++ here.0) (sym (take-append-drop at block))
          ∙ append_assoc (take at block) (drop at block) here.0,
      line_starts block here.0 at within feed,
    )

joined-push : (blocks : List (List ℕ)) (block : List ℕ) → joined (blocks ++ block ∷ []) ≡ joined blocks ++ block
joined-push [] block = grind (arith, append-nil)
joined-push (b ∷ bs) block = grind (arith, append_assoc, joined-push bs block)

cut_more : (blocks : List (List ℕ)) (block rest : List ℕ) → AreCut blocks (block ++ rest) → starts_line rest ≡ true
    → AreCut (blocks ++ block ∷ []) rest
cut_more [] block rest cut line = grind arith
cut_more (b ∷ bs) block rest cut line = grind (arith, joined-push, append_assoc, cut_more bs block rest cut.1 line)

-- one block more was given
pub blocks_more : (old now new : Option (List ℕ)) (blocks : List (List ℕ)) (block : List ℕ)
    → GivesBlocks old now blocks → GivesBlock now new block → GivesBlocks old new (blocks ++ block ∷ [])
blocks_more old now new blocks block given next text is = grind (arith, append_assoc, joined-push, cut_more)

-- there were no more bytes
pub blocks_end : (old now new : Option (List ℕ)) (blocks : List (List ℕ)) → GivesBlocks old now blocks → WasAll now new
    → GivesBlocks old new blocks
blocks_end old now new blocks given ended text is = grind arith

-- what begins with a block follows if the block does
pub follows_block : (done block rest : List ℕ) → Follows done (block ++ rest) → Follows done block
follows_block [] block rest follows = tt
follows_block (x ∷ done) [] rest follows = refl
follows_block (x ∷ done) (b ∷ block) rest follows = follows

-- a line may stand behind anything
pub line_follows : (done next : List ℕ) → starts_line next ≡ true → Follows done next
line_follows [] next line = tt
line_follows (x ∷ done) next line = line

-- what stands behind blocks follows them
pub follows_blocks : (done rest : List ℕ) (blocks : List (List ℕ)) → Follows done (joined blocks ++ rest)
    → AreCut blocks rest → Follows (done ++ joined blocks) rest
follows_blocks done rest [] follows cut = grind (arith, append-nil)
follows_blocks done rest (b ∷ bs) follows cut = grind (arith, append_assoc, line_follows, follows_blocks (done ++ b) rest bs (line_follows (done ++ b) (joined bs ++ rest) cut.0) cut.1)
