-- What a read puts behind the bytes that are there.
use Rattle.std.proofs.Common.{◌≡◌, ◌≤◌, ◌+◌, ℕ, List, ◌++◌, length, take, drop, take_at, Option, ◌∙◌, arith}
use Rattle.std.proofs.Math.Seq.{take-add}
use Rattle.std.proofs.lemmas.List.{take_all, length-drop, length-take-le}
use Rattle.std.specs.Io.KnownBytes.{Consumes, IsAtEnd}
use Rattle.ssb_text.specs.BlockReading.{ReadsMore}

-- bytes that are made longer have the same front
pub front_kept : (before pad : List ℕ) (from more : ℕ) → from ≡ length before
    → take from (take (from + more) before ++ pad) ≡ before
front_kept before pad from more long = grind (arith, take_all, take_at)

-- so many of the bytes behind the front were read
pub reads_behind : (old new : Option (List ℕ)) (before bytes : List ℕ) (from count : ℕ) → take from bytes ≡ before
    → from + count ≤ length bytes → Consumes old new (take count (drop from bytes)) → (count ≡ 0 → IsAtEnd new)
    → ReadsMore old new before (take (from + count) bytes) count
reads_behind old new before bytes from count front within consumed ended = grind (arith, take-add, length-take-le, length-drop)
