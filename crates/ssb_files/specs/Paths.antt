-- The paths of a command that may be used together.
use Rattle.std.specs.Prelude.{◌≡◌, ◌<◌, ℕ, Bool, true, false, not, ◌&&◌, ◌||◌, List, length, take, find, slice_get}
use Rattle.std.specs.Prelude.{Option, Some, None, nat_eq, bytes_eq, string_bytes}
use Rattle.std.specs.List.{list_any}
use Rattle.ssb_files.specs.declared.fault.Fault.{Fault}
use Rattle.ssb_files.specs.declared.fault.Fault.TheVariants as fault
use Rattle.ssb_files.specs.declared.identity.FileIdentity.{FileIdentity}
use Rattle.ssb_files.specs.declared.path_fault.PathFault.TheVariants as path
use Rattle.ssb_files.specs.declared.paths.PathUse.{PathUse}
use Rattle.ssb_files.specs.declared.paths.PathUse.TheVariants.{Read, Input, Output}
use Rattle.ssb_files.specs.declared.paths.UsedPath.{UsedPath}

-- both have a device and an inode, and the same
abbrev pub are_one_node : Option (ℕ × ℕ) → Option (ℕ × ℕ) → Bool
are_one_node (Some one) (Some other) = nat_eq one.0 other.0 && nat_eq one.1 other.1
are_one_node _ _ = false

-- two files are one: the same path once it is resolved, or the same device and inode; of two that are not there yet
-- these are of their folders, and their names are the same
abbrev pub are_one : FileIdentity → FileIdentity → Bool
are_one one other = bytes_eq (string_bytes one.name) (string_bytes other.name)
    && (bytes_eq (string_bytes one.path) (string_bytes other.path) || are_one_node one.node other.node)

-- one file may be used in both ways: it is only read, and is no end of two clients
abbrev pub may_share : PathUse → PathUse → Bool
may_share Read Read = true
may_share Read Input = true
may_share Input Read = true
may_share _ _ = false

abbrev pub are_one_file : Option FileIdentity → Option FileIdentity → Bool
are_one_file (Some one) (Some other) = are_one one other
are_one_file _ _ = false

-- two paths are one file, and may not be
abbrev pub clash : UsedPath → UsedPath → Bool
clash one other = not (may_share one.usage other.usage) && are_one_file one.file other.file

abbrev pub clashes_with_any : List UsedPath → UsedPath → Bool
clashes_with_any earlier path = list_any (λ one. clash one path) earlier

-- none of the first so many paths clashes with one before it
abbrev pub AreApartUpTo : List UsedPath → ℕ → Type 0
AreApartUpTo paths count = (place : ℕ) (path : UsedPath) → place < count → slice_get paths place ≡ Some path
    → clashes_with_any (take place paths) path ≡ false

abbrev pub AreApart : List UsedPath → Type 0
AreApart paths = AreApartUpTo paths (length paths)

-- the path clashes with one before it, and none before it does
pub record IsFirstClash (paths : List UsedPath) (path : UsedPath) : Type 0 where
  pub place : ℕ
  pub there : slice_get paths place ≡ Some path
  pub clashes : clashes_with_any (take place paths) path ≡ true
  pub first : AreApartUpTo paths place

-- a client would be answered to a plain file with bytes in it
abbrev pub is_output : PathUse → Bool
is_output Output = true
is_output _ = false

abbrev pub is_full : UsedPath → Bool
is_full path = is_output path.usage && path.has_bytes

-- no two paths clash, and no client is answered to a plain file with bytes in it
pub record AreReady (paths : List UsedPath) : Type 0 where
  pub apart : AreApart paths
  pub empty : find is_full paths ≡ None

-- the first path that clashes with one before it; where none does, the first with bytes; or memory ran out
abbrev pub IsPathFault : List UsedPath → Fault → Type 0
IsPathFault paths (fault.Paths (path.SameFile name)) = (one : UsedPath) × IsFirstClash paths one
    × (string_bytes name ≡ string_bytes one.path)
IsPathFault paths (fault.Paths (path.HasBytes name)) = AreApart paths × ((one : UsedPath)
    × (find is_full paths ≡ Some one) × (string_bytes name ≡ string_bytes one.path))
IsPathFault paths why = why ≡ fault.OutOfMemory
