-- The checksum of a text: MD5 of the MD5s of its pieces, each of which has 2^20 bytes, but for the last one.
use Rattle.std.specs.Prelude.{◌≡◌, ℕ, ◌+◌, ◌<◌, ◌^◌, List, [], ◌∷◌, ◌++◌, length, flat_map}
use Rattle.std.specs.List.{AllByRecursion, concat}
use Rattle.md5.specs.Md5.{md5, Holds}
use Rattle.ssb_schema.specs.declared.table.Table.{Table}
use Rattle.ssb_text.specs.Load.{reader_of}
use Rattle.ssb_text.specs.declared.loading.Tables.{Tables}
use Rattle.ssb_text.specs.declared.checksum.PieceHash.{PieceHash}

abbrev pub piece_size : ℕ
piece_size = 1048576

-- the whole pieces of a text, and what is behind them, which is no whole piece
pub record ArePieces (text : List ℕ) (whole : List (List ℕ)) (last : List ℕ) : Type 0 where
  pub joined : text ≡ concat whole ++ last
  pub each : AllByRecursion (λ piece. length piece ≡ piece_size) whole
  pub short : length last < piece_size

-- the digest of what is behind the whole pieces, if anything is
abbrev pub last_digest : List ℕ → List ℕ
last_digest [] = []
last_digest (b ∷ rest) = md5 (b ∷ rest)

-- a text has this checksum
abbrev pub HasChecksum : List ℕ → List ℕ → Type 0
HasChecksum text checksum =
    (whole : List (List ℕ)) × (last : List ℕ) × ArePieces text whole last
    × (checksum ≡ md5 (flat_map md5 whole ++ last_digest last))

-- these bytes were hashed
pub record IsHashed (hash : PieceHash) (text : List ℕ) : Type 0 where
  pub whole : List (List ℕ)
  pub last : List ℕ
  pub are : ArePieces text whole last
  pub digests : Holds hash.digests (flat_map md5 whole)
  pub piece : Holds hash.piece last
  pub lacks : hash.lacks + length last ≡ piece_size

-- each table's text is hashed to what stands in its place
abbrev pub AreHashed : {C : Type 0} → (List ℕ → C → Type 0) → (Table → List ℕ) → Tables C → Type 0
AreHashed is_checksum texts checksums = (t : Table) → is_checksum (texts t) (reader_of checksums t)

-- each table's text has the checksum that stands in its place
abbrev pub AreChecksums : (Table → List ℕ) → Tables (List ℕ) → Type 0
AreChecksums texts checksums = AreHashed HasChecksum texts checksums
