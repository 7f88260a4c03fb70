-- Laws of the copies.
use Rattle.std.specs.Prelude.{◌≡◌, List, length}
use Rattle.row_store.specs.History.{CommitRecord, IsPrefix}
use Rattle.row_store.specs.State.{State, StandsFor}

-- where a state stands for a list that begins with the told one, and has as many commits as were told, it stands for
-- the told one
abbrev pub ToldNumberIsToldList : Type 0
ToldNumberIsToldList = (state : State) (list told : List CommitRecord) → StandsFor state list → IsPrefix told list
    → state.commits ≡ length told → StandsFor state told
