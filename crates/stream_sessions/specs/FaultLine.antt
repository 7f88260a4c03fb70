-- What is told of a request's fault.
use Rattle.std.specs.Prelude.{ℕ, List, [], ◌∷◌, ◌++◌, codes, decimal, Option, Some, None}
use Rattle.std.specs.List.{concat}
use Rattle.ssb_schema.specs.Columns.{column_name, table_name}
use Rattle.ssb_schema.specs.declared.fault.SchemaFault.{SchemaFault}
use Rattle.ssb_schema.specs.declared.fault.SchemaFault.TheVariants as schema
use Rattle.ssb_script.specs.declared.error.ScriptError.{ScriptError}
use Rattle.ssb_script.specs.declared.error.ScriptError.TheVariants as script
use Rattle.ssb_sql.specs.FaultNames.{name_of, place_of}
use Rattle.ssb_sql.specs.declared.fault.SqlFault.{SqlFault}
use Rattle.ssb_sql.specs.declared.fault.TextPlace.{TextPlace}
use Rattle.ssb_formats.specs.ReplyTexts.{fault_shown}
use Rattle.ssb_formats.specs.declared.reply_format.ReplyFormat.{ReplyFormat}

-- the number, the name and the values of a fault of the schema
abbrev pub schema_text : SchemaFault → List ℕ
schema_text schema.NoLines = codes "1 NoLines"
schema_text schema.TooManyLines = codes "2 TooManyLines"
schema_text schema.KeysDiffer = codes "3 KeysDiffer"
schema_text (schema.LineRepeated number) = concat (codes "4 LineRepeated " ∷ decimal number ∷ [])
schema_text schema.NoActions = codes "5 NoActions"
schema_text schema.TooManyActions = codes "6 TooManyActions"
schema_text (schema.KeyRepeated table row) =
    concat (codes "7 KeyRepeated " ∷ table_name table ∷ codes " " ∷ decimal row ∷ [])
schema_text (schema.UnknownKey line table) =
    concat (codes "8 UnknownKey " ∷ decimal line ∷ codes " " ∷ table_name table ∷ [])
schema_text (schema.TooManyRows table) = concat (codes "9 TooManyRows " ∷ table_name table ∷ [])
schema_text (schema.OutOfRange column) = concat (codes "10 OutOfRange " ∷ column_name column ∷ [])
schema_text (schema.FieldTooLong column) = concat (codes "11 FieldTooLong " ∷ column_name column ∷ [])

-- a name, and the line and the character of a place, both from 1, where there is one
abbrev pub placed_text : List ℕ → Option TextPlace → List ℕ
placed_text name None = name
placed_text name (Some place) =
    concat (name ∷ codes " " ∷ decimal place.line ∷ codes " " ∷ decimal place.column ∷ [])

-- the number, the name and the place of a statement's fault
abbrev pub sql_text : SqlFault → List ℕ
sql_text fault = placed_text (name_of fault) (place_of fault)

-- the number, the name and the values of a script's fault
abbrev pub fault_text : ScriptError → List ℕ
fault_text (script.BadLine record_number) = concat (codes "70 BadLine " ∷ decimal record_number ∷ [])
fault_text script.NoCommit = codes "71 NoCommit"
fault_text (script.EmptyBlock record_number) = concat (codes "72 EmptyBlock " ∷ decimal record_number ∷ [])
fault_text (script.Row record_number why) =
    concat (codes "73 Row " ∷ decimal record_number ∷ codes " " ∷ []) ++ schema_text why
fault_text script.TooLong = codes "74 TooLong"
fault_text script.Read = codes "75 Read"
fault_text script.NoAnswer = codes "77 NoAnswer"
fault_text (script.TooManyQuestions record_number) = concat (codes "78 TooManyQuestions " ∷ decimal record_number ∷ [])
fault_text (script.Sql record_number why) =
    concat (codes "79 Sql " ∷ decimal record_number ∷ codes " " ∷ []) ++ sql_text why
fault_text script.OutOfMemory = codes "out of memory"

-- what is told of a fault
abbrev pub fault_line : ReplyFormat → ScriptError → List ℕ
fault_line format fault = fault_shown format (fault_text fault)

-- what is told of a request that has a refresh, in a session that takes none
abbrev pub read_only_line : ReplyFormat → List ℕ
read_only_line format = fault_shown format (codes "68 ReadOnly")

-- what is told of a request that is too long
abbrev pub too_long_line : ReplyFormat → List ℕ
too_long_line format = fault_shown format (codes "76 RequestTooLong")
