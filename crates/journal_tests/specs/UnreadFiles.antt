-- What was read of a file in memory.
use Rattle.std.specs.Prelude.{◌≡◌, ℕ, Bool, true, List, length, take, drop}
use Rattle.std.proofs.Common.{◌∙◌, ap, sym, take-append-drop}
use Rattle.std.proofs.Math.Seq.{drop-length}
use Rattle.journal.specs.Disk.{BeginsAsRead}

-- the file begins with its bytes up to this place
pub known : (place : ℕ) (ended : Bool) (bytes : List ℕ) → (ended ≡ true → place ≡ length bytes)
    → BeginsAsRead (take place bytes) (ended ≡ true) bytes
known place ended bytes all = record {
  rest = drop place bytes;
  begins = sym (take-append-drop place bytes);
  whole = λ is. ap (λ n. drop n bytes) (all is) ∙ drop-length bytes;
}
