-- A journal's file of which something was read, and what is known of it.
use Rattle.std.proofs.Common.{◌≡◌, ℕ, List, [], ◌++◌, Option, None, Some, refl, sym, append-nil}
use Rattle.std.specs.Prelude.{IfSome}
use Rattle.journal.specs.Disk.{BeginsAsRead}
use Rattle.journal_opening.specs.Kept.{IsKnown}

-- a file of which so much was read; it is the known one, where one is known
pub record IsReadOf (known : Option (List ℕ)) (taken : List ℕ) (Ended : Type 0) : Type 0 where
  pub file : List ℕ
  pub is_file : IsKnown known file
  pub begins : BeginsAsRead taken Ended file

pub file_read : (known : Option (List ℕ)) (taken : List ℕ) (Ended : Type 0) → IfSome known (BeginsAsRead taken Ended)
    → IsReadOf known taken Ended
file_read None taken Ended as_known = record {
  file = taken;
  is_file = tt;
  begins = record { rest = []; begins = sym (append-nil taken); whole = λ ended. refl };
}
file_read (Some file) taken Ended as_known = record { file = file; is_file = refl; begins = as_known }
