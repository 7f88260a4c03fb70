-- The commits of a log in memory.
use Rattle.std.specs.Prelude.{List}
use Rattle.ssb_schema.specs.declared.refresh.Action.{Action}
use Rattle.row_store.specs.History.{CommitRecord}

-- the commit of client 1 with these actions
abbrev pub own : List Action → CommitRecord
own actions = record { client = 1; actions = actions }
