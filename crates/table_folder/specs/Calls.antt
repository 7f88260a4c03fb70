-- The calls on a folder that takes the five tables, the newest first: what stands under the tables' names after them, and
-- what a crash leaves there.
use Rattle.std.specs.Prelude.{◌≡◌, ◌⊎◌, ℕ, Bool, true, false, ◌&&◌, List, [], ◌∷◌, Option, Some, None, IfSome}
use Rattle.std.specs.Prelude.{if◌then◌else◌}
use Rattle.std.specs.List.{list_any}
use Rattle.ssb_schema.specs.declared.table.Table.{Table}
use Rattle.ssb_schema.specs.declared.table.Table.TheVariants.{Customer, Supplier, Part, Date, Lineorder}

-- a call, and whether it succeeded
pub data FolderCall : Type 0 where
  -- the folder was made, where it was not there, and its own name is on the disk
  Made : Bool → FolderCall
  -- a new file for a table was made, of another name
  Begun : Table → Bool → FolderCall
  -- this file was synced, when it had these bytes, if they are known
  Synced : Table → Option (List ℕ) → Bool → FolderCall
  -- it got the table's name
  Named : Table → Bool → FolderCall
  -- the names in the folder were synced
  NamesSynced : Bool → FolderCall

abbrev pub same_table : Table → Table → Bool
same_table Customer Customer = true
same_table Supplier Supplier = true
same_table Part Part = true
same_table Date Date = true
same_table Lineorder Lineorder = true
same_table _ _ = false

-- the bytes of a table's file that are on the disk, whatever its name; nothing is known of them before a sync
abbrev pub on_disk : List FolderCall → Table → Option (List ℕ)
on_disk [] t = None
on_disk (Begun u ok ∷ calls) t = if same_table u t then None else on_disk calls t
on_disk (Synced u bytes ok ∷ calls) t = if same_table u t then (if ok then bytes else None) else on_disk calls t
on_disk (_ ∷ calls) t = on_disk calls t

-- under a table's name stands the file that just got it: with the bytes that are on the disk, where they are
abbrev pub IsNew : List FolderCall → Table → Option (List ℕ) → Type 0
IsNew calls t found = (bytes : List ℕ) × (found ≡ Some bytes) × IfSome (on_disk calls t) (λ synced. bytes ≡ synced)

-- what stands under a table's name; a name that could not be given may be given all the same
abbrev pub IsThere : List FolderCall → Table → Option (List ℕ) → Type 0
IsThere [] t found = found ≡ None
IsThere (Named u ok ∷ calls) t found =
    ((same_table u t ≡ true) × IsNew calls t found) ⊎ (((same_table u t && ok) ≡ false) × IsThere calls t found)
IsThere (_ ∷ calls) t found = IsThere calls t found

-- the folder is there, and its own name is on the disk
abbrev pub is_made : FolderCall → Bool
is_made (Made ok) = ok
is_made _ = false

-- what a crash may leave under a table's name: a name that was given since the last sync may be there or not
abbrev pub MayLeave : List FolderCall → Table → Option (List ℕ) → Type 0
MayLeave [] t left = left ≡ None
MayLeave (Named u ok ∷ calls) t left =
    MayLeave calls t left ⊎ ((same_table u t ≡ true) × IsNew calls t left)
MayLeave (NamesSynced ok ∷ calls) t left =
    MayLeave calls t left × ((ok && list_any is_made calls) ≡ true → IsThere calls t left)
MayLeave (_ ∷ calls) t left = MayLeave calls t left

-- what is under the five names
abbrev pub Shows : List FolderCall → (Table → Option (List ℕ)) → Type 0
Shows calls found = (t : Table) → IsThere calls t (found t)

-- what a crash now may leave under the five names
abbrev pub Leaves : List FolderCall → (Table → Option (List ℕ)) → Type 0
Leaves calls left = (t : Table) → MayLeave calls t (left t)

-- what a crash might have left, in the course of a call or between two
abbrev pub LeftAnyTime : List FolderCall → (Table → Option (List ℕ)) → Type 0
LeftAnyTime [] left = Leaves [] left
LeftAnyTime (call ∷ calls) left = Leaves (call ∷ calls) left ⊎ LeftAnyTime calls left
