-- What was read of a stream in the place of a file.
use Rattle.std.specs.Prelude.{◌≡◌, ℕ, Bool, true, false, List, [], ◌∷◌, ◌++◌, Option, Some, None, IfSome}
use Rattle.std.proofs.Common.{◌∙◌, ap, append-nil, refl, subst, sym}
use Rattle.std.specs.Io.KnownBytes.{prepend_known}
use Rattle.journal.specs.Disk.{BeginsAsRead}
use Rattle.journal.specs.Groups.{recovered}
use Rattle.journal.specs.Promises.{AreLeft}

-- the bytes that the first of these inputs gives, where they are known
abbrev pub given_by : {I : Type 0} → (I → Option (List ℕ)) → List I → Option (List ℕ)
given_by remaining [] = None
given_by remaining (input ∷ more) = remaining input

-- bytes are known
abbrev pub AreGiven : Option (List ℕ) → Type 0
AreGiven None = ⊥
AreGiven (Some bytes) = Unit {0}

-- the groups of a stream, once they were promised
abbrev pub groups_promised : Bool → List ℕ → List (List ℕ)
groups_promised false bytes = []
groups_promised true bytes = recovered bytes

-- whatever a crash leaves of a stream, which is all of it, begins with them
pub are_left : (is_promised : Bool) (bytes : List ℕ) → AreLeft (groups_promised is_promised bytes) (λ c. c ≡ bytes)
are_left false bytes = λ file is. (recovered file, refl)
are_left true bytes = λ file is. ([], ap recovered is ∙ sym (append-nil (recovered bytes)))

abbrev bytes_in : Option (List ℕ) → List ℕ
bytes_in None = []
bytes_in (Some bytes) = bytes

-- the bytes that were read are the first of those that are given, and all of them where the end was found
pub known : (given left : Option (List ℕ)) (taken : List ℕ) (ended : Bool)
    → (AreGiven given → prepend_known taken left ≡ given) → (ended ≡ true → AreGiven given → left ≡ Some [])
    → IfSome given (BeginsAsRead taken (ended ≡ true))
known None left taken ended begins ends = tt
known (Some whole) None taken ended begins ends = absurd (subst AreGiven (sym (begins tt)) tt)
known (Some whole) (Some rest) taken ended begins ends = record {
  rest = rest;
  begins = sym (ap bytes_in (begins tt));
  whole = λ is. ap bytes_in (ends is tt);
}
