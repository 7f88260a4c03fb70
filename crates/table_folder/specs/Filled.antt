-- What a folder has that took the five tables.
use Rattle.std.specs.Prelude.{◌≡◌, ◌⊎◌, ℕ, Bool, true, false, List, [], ◌∷◌, Option, Some, None}
use Rattle.std.specs.List.{list_any}
use Rattle.table_folder.specs.Calls.{FolderCall, Made, Begun, Synced, Named, NamesSynced, Shows, Leaves, LeftAnyTime}
use Rattle.ssb_schema.specs.declared.table.Table.{Table}
use Rattle.ssb_schema.specs.declared.table.Table.TheVariants.{Customer, Supplier, Part, Date, Lineorder}

-- under each table's name stands its text
abbrev pub AreAll : (Table → List ℕ) → (Table → Option (List ℕ)) → Type 0
AreAll texts found = (t : Table) → found t ≡ Some (texts t)

-- under the name of lineorder stands nothing, or under each name its text
abbrev pub AreNoneOrAll : (Table → List ℕ) → (Table → Option (List ℕ)) → Type 0
AreNoneOrAll texts left = (left Lineorder ≡ None) ⊎ AreAll texts left

-- the folder has the five texts, and each crash from now on leaves them
pub record HasAll (texts : Table → List ℕ) (calls : List FolderCall) : Type 0 where
  pub shows : (found : Table → Option (List ℕ)) → Shows calls found → AreAll texts found
  pub leaves : (left : Table → Option (List ℕ)) → Leaves calls left → AreAll texts left

-- a crash at any moment left no lineorder, or all five texts
abbrev pub LeftNoneOrAll : (Table → List ℕ) → List FolderCall → Type 0
LeftNoneOrAll texts calls = (left : Table → Option (List ℕ)) → LeftAnyTime calls left → AreNoneOrAll texts left

-- whether lineorder may have got its name by the call
abbrev pub names_lineorder : FolderCall → Bool
names_lineorder (Named Lineorder ok) = true
names_lineorder _ = false

-- by none of the calls it may
abbrev pub HasNoLineorder : List FolderCall → Type 0
HasNoLineorder calls = list_any names_lineorder calls ≡ false

-- the files of all tables are on the disk, with their texts, and have no names
abbrev pub written_calls : (Table → List ℕ) → List FolderCall → List FolderCall
written_calls texts calls =
    Synced Lineorder (Some (texts Lineorder)) true ∷ Begun Lineorder true
    ∷ Synced Date (Some (texts Date)) true ∷ Begun Date true
    ∷ Synced Part (Some (texts Part)) true ∷ Begun Part true
    ∷ Synced Supplier (Some (texts Supplier)) true ∷ Begun Supplier true
    ∷ Synced Customer (Some (texts Customer)) true ∷ Begun Customer true ∷ calls

-- the dimensions have their names, on the disk
abbrev pub named_calls : List FolderCall → List FolderCall
named_calls calls =
    NamesSynced true ∷ Named Date true ∷ Named Part true ∷ Named Supplier true ∷ Named Customer true ∷ calls

-- all is on the disk but the name of lineorder
abbrev pub ready_calls : (Table → List ℕ) → List FolderCall
ready_calls texts = named_calls (written_calls texts (Made true ∷ []))
