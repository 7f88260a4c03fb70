-- The calls that a folder of the operating system has noted.
use Rattle.std.specs.Prelude.{List, map, reverse, Some}
use Rattle.table_folder.specs.Calls as folder
use Rattle.table_folder.specs.Calls.{FolderCall}
use Rattle.table_folder.specs.declared.transcript.Noted.{Noted}
use Rattle.table_folder.specs.declared.transcript.Noted.TheVariants.{Made, Begun, Synced, Named, NamesSynced}

abbrev pub call_of : Noted → FolderCall
call_of (Made done) = folder.Made done
call_of (Begun t done) = folder.Begun t done
call_of (Synced t written done) = folder.Synced t (Some written.items) done
call_of (Named t done) = folder.Named t done
call_of (NamesSynced done) = folder.NamesSynced done

-- the newest first
abbrev pub calls_of : List Noted → List FolderCall
calls_of noted = reverse (map call_of noted)
