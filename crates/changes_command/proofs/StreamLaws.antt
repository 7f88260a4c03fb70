-- What one read more takes of a stream.
use Rattle.std.proofs.Common.{◌≡◌, ◌∙◌, ℕ, List, [], ◌∷◌, ◌++◌, Option, Some, None, Vec, Global, ap, subst, sym, append_assoc}
use Rattle.std.proofs.Common.{append-nil}
use Rattle.std.proofs.lemmas.Grind.{flat_map-append}
use Rattle.std.specs.Io.KnownBytes.{Consumes, IsAtEnd, Keeps, prepend_known}
use Rattle.journal_file.specs.Parts.{bytes_of}
use Rattle.changes_command.specs.Streams.{AreGiven}

pub bytes_more : (parts : List (Vec ℕ Global)) (part : Vec ℕ Global)
    → bytes_of (parts ++ part ∷ []) ≡ bytes_of parts ++ part.items
bytes_more parts part =
    flat_map-append (λ (p : Vec ℕ Global). p.items) parts (part ∷ [])
    ∙ ap (λ (l : List ℕ). bytes_of parts ++ l) (append-nil part.items)

-- a read that gave some bytes
pub reads_on : (given left next : Option (List ℕ)) (taken part : List ℕ)
    → (AreGiven given → prepend_known taken left ≡ given) → Consumes left next part
    → AreGiven given → prepend_known (taken ++ part) next ≡ given
reads_on given None next taken part begins read are = absurd (subst AreGiven (sym (begins are)) are)
reads_on given (Some xs) None taken part begins read are = absurd read
reads_on given (Some xs) (Some ys) taken part begins read are =
    ap Some (append_assoc taken part ys ∙ ap (λ (l : List ℕ). taken ++ l) (sym read)) ∙ begins are

-- one that failed
pub reads_none : (given left next : Option (List ℕ)) (taken : List ℕ)
    → (AreGiven given → prepend_known taken left ≡ given) → Keeps left next
    → AreGiven given → prepend_known taken next ≡ given
reads_none given None next taken begins kept are = absurd (subst AreGiven (sym (begins are)) are)
reads_none given (Some xs) None taken begins kept are = absurd kept
reads_none given (Some xs) (Some ys) taken begins kept are = ap (λ (l : List ℕ). Some (taken ++ l)) kept ∙ begins are

-- one that found the end
pub ends_here : (given next : Option (List ℕ)) (taken : List ℕ) → (AreGiven given → prepend_known taken next ≡ given)
    → IsAtEnd next → AreGiven given → next ≡ Some []
ends_here given None taken begins at are = absurd (subst AreGiven (sym (begins are)) are)
ends_here given (Some ys) taken begins at are = ap Some at
