-- What more bytes do to those that were hashed.
use Rattle.std.proofs.Common.{◌≡◌, ◌∙◌, ◌+◌, ℕ, List, [], ◌∷◌, ◌++◌, length, length-append, append_assoc, append-nil}
use Rattle.std.proofs.Common.{Option, Some, ap, subst, arith}
use Rattle.std.proofs.lemmas.List.{drop_at}
use Rattle.std.proofs.lemmas.List.Folds.{concat-append}
use Rattle.std.proofs.lemmas.List.Concat.{flat_map-append}
use Rattle.std.specs.List.{AllByRecursion, concat, flat_map}
use Rattle.std.specs.Prelude.{drop}
use Rattle.md5.specs.Md5.{Holds, md5}
use Rattle.md5.specs.declared.Md5.{Md5}
use Rattle.ssb_text.specs.Blocks.{HasHashed, bytes_left}
use Rattle.ssb_text.specs.BlockReading.{ReadsMore}
use Rattle.ssb_schema.specs.declared.table.Table.{Table}
use Rattle.ssb_schema.specs.declared.table.Table.TheVariants as table
use Rattle.ssb_text.specs.Checksums.{AreHashed, IsHashed, piece_size}
use Rattle.ssb_text.specs.declared.blocks.Blocks.{Blocks}
use Rattle.ssb_text.specs.declared.checksum.PieceHash.{PieceHash}
use Rattle.ssb_text.specs.declared.loading.Tables.{Tables}
use Rattle.ssb_text.proofs.BlockLaws.{consumes_known}
use Rattle.ssb_text.proofs.LoadLaws.{each_table}

pub all-push : {X : Type 0} (P : X → Type 0) (xs : List X) (x : X) → AllByRecursion P xs → P x
    → AllByRecursion P (xs ++ x ∷ [])
all-push P [] x all here = (here, tt)
all-push P (y ∷ ys) x all here = (all.0, all-push P ys x all.1 here)

-- one whole piece more
joined_piece : (whole : List (List ℕ)) (last bytes text : List ℕ) → text ≡ concat whole ++ last
    → text ++ bytes ≡ concat (whole ++ (last ++ bytes) ∷ []) ++ []
joined_piece whole last bytes text is = grind (arith, append_assoc, append-nil, concat-append)

digests_piece : (whole : List (List ℕ)) (piece digest : List ℕ) → digest ≡ md5 piece
    → flat_map md5 whole ++ digest ≡ flat_map md5 (whole ++ piece ∷ [])
digests_piece whole piece digest is = grind (arith, append-nil, flat_map-append)

-- the bytes that a piece lacked were hashed
pub piece_ended : (old : PieceHash) (bytes text digest : List ℕ) (digests piece : Md5) → length bytes ≡ old.lacks
    → IsHashed old text
    → ((m : List ℕ) → Holds old.piece m → digest ≡ md5 (m ++ bytes))
    → ((m : List ℕ) → Holds old.digests m → Holds digests (m ++ digest))
    → Holds piece []
    → IsHashed (record { digests = digests; piece = piece; lacks = piece_size }) (text ++ bytes)
piece_ended old bytes text digest digests piece long hashed is more none =
    let last = hashed.last in
    record {
      whole = hashed.whole ++ (last ++ bytes) ∷ [];
      last = [];
      are = record {
        joined = joined_piece hashed.whole last bytes text hashed.are.joined;
        each = all-push (λ (p : List ℕ). length p ≡ piece_size) hashed.whole (last ++ bytes) hashed.are.each
            (omega (arith, long, hashed.lacks, length-append last bytes));
        short = omega arith;
      };
      digests = subst (λ (m : List ℕ). Holds digests m)
          (digests_piece hashed.whole (last ++ bytes) digest (is last hashed.piece))
          (more (flat_map md5 hashed.whole) hashed.digests);
      piece = none;
      lacks = omega arith;
    }

-- bytes in two parts were hashed one after the other
pub hashed_both : (hash : PieceHash) (text front behind bytes : List ℕ) → bytes ≡ front ++ behind
    → IsHashed hash ((text ++ front) ++ behind) → IsHashed hash (text ++ bytes)
hashed_both hash text front behind bytes is hashed = grind (arith, append_assoc)

-- the bytes that a read put behind those that were there were hashed
pub hashed_more : {R H : Type 0} (remaining : R → Option (List ℕ)) (holds : H → List ℕ → Type 0)
    (mid new : Blocks R H) (before after bytes : List ℕ) (from count : ℕ) (text : List ℕ)
    → HasHashed remaining holds text mid
    → ReadsMore (remaining mid.source) (remaining new.source) before after count → length before ≡ from
    → bytes ≡ drop from after
    → ((m : List ℕ) → holds mid.hash m → holds new.hash (m ++ bytes))
    → HasHashed remaining holds text new
hashed_more remaining holds mid new before after bytes from count text h read long is more = grind (arith, consumes_known, drop_at, append_assoc)

no_rest : (carry rest : List ℕ) → carry ++ rest ≡ [] → rest ≡ []
no_rest [] rest is = is
no_rest (b ∷ carry) rest is = absurd (omega (arith, ap length is))

-- where no bytes are left, those of the text were hashed
pub all_hashed : {R H : Type 0} (remaining : R → Option (List ℕ)) (holds : H → List ℕ → Type 0) (blocks : Blocks R H)
    (text : List ℕ) → HasHashed remaining holds text blocks → bytes_left remaining blocks ≡ Some []
    → holds blocks.hash text
all_hashed remaining holds blocks text h none = grind (arith, no_rest, append-nil)

-- each of the five texts was hashed
pub each_hashed : {C : Type 0} (is_checksum : List ℕ → C → Type 0) (texts : Table → List ℕ) (all : Tables C)
    → is_checksum (texts table.Customer) all.customer → is_checksum (texts table.Supplier) all.supplier
    → is_checksum (texts table.Part) all.part → is_checksum (texts table.Date) all.date
    → is_checksum (texts table.Lineorder) all.lineorder → AreHashed is_checksum texts all
each_hashed is_checksum texts all customer supplier part date lineorder = grind (arith, each_table)
