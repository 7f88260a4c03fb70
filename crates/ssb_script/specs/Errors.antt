-- The errors of a script whose next record cannot be read.
use Rattle.ssb_text.specs.declared.records.ReadError.{ReadError}
use Rattle.ssb_text.specs.declared.records.ReadError.TheVariants as read
use Rattle.ssb_script.specs.declared.error.ScriptError.{ScriptError}
use Rattle.ssb_script.specs.declared.error.ScriptError.TheVariants as error

abbrev pub error_of_read : ReadError → ScriptError
error_of_read read.Read = error.Read
error_of_read read.OutOfMemory = error.OutOfMemory
