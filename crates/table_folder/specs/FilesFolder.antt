-- What a folder of the operating system shows.
use Rattle.std.specs.Prelude.{◌≡◌, ℕ, List, []}
use Rattle.ssb_schema.specs.declared.table.Table.{Table}
use Rattle.table_folder.specs.Calls.{FolderCall}
use Rattle.table_folder.specs.Filled.{HasAll}
use Rattle.table_folder.specs.Noted.{calls_of}
use Rattle.table_folder.specs.declared.files_folder.FilesFolder.{FilesFolder}

-- the calls that were made on it, the newest first
abbrev pub calls_on : {F File Dir : Type 0} → FilesFolder F File Dir → List FolderCall
calls_on folder = calls_of folder.noted.items

-- no call was made on it
abbrev pub IsUntouched : {F File Dir : Type 0} → FilesFolder F File Dir → Type 0
IsUntouched folder = calls_on folder ≡ []

-- it has five texts, and each crash from now on leaves them
abbrev pub IsFilled : {F File Dir : Type 0} → FilesFolder F File Dir → Type 0
IsFilled folder = (texts : Table → List ℕ) × HasAll texts (calls_on folder)
