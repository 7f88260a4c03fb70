-- A history as signed lines: those that its commits brought, and those that they took away.
use Rattle.std.specs.Prelude.{ℕ, ◌+◌, Bool, true, nat_lt, List, [], ◌∷◌, ◌++◌, map, filter}
use Rattle.row_store.specs.History.{CommitRecord}
use Rattle.row_store.specs.Lines.{added_by, lines_after_action, lines_after_refresh, lines_of}
use Rattle.ssb_base.specs.Base.{Tables}
use Rattle.ssb_schema.specs.Orders.{order_key}
use Rattle.ssb_schema.specs.declared.line.LineFields.{LineFields}
use Rattle.ssb_schema.specs.declared.refresh.Action.{Action}
use Rattle.ssb_schema.specs.declared.refresh.Action.TheVariants.{Add, Amend, Put, Withdraw}
use Rattle.changes_command.specs.declared.signed.ChangesStart.{ChangesStart}
use Rattle.changes_command.specs.declared.signed.ChangesStart.TheVariants.{Loaded, Behind}
use Rattle.changes_command.specs.declared.signed.Sign.{Sign}
use Rattle.changes_command.specs.declared.signed.Sign.TheVariants.{Came, Went}

-- the most commits that may come before those of a journal: 2^62
abbrev pub most_past : ℕ
most_past = 4611686018427387904

-- a line, whether it came or went, and by which commit; the loaded lines came by the last one before the journal's
pub record SignedLine : Type 0 where
  pub commit : ℕ
  pub sign : Sign
  pub line : LineFields

-- these lines, with one commit and one sign
abbrev pub signed : ℕ → Sign → List LineFields → List SignedLine
signed commit sign lines = map (λ line. record { commit = commit; sign = sign; line = line }) lines

-- the live lines that go by an action: those of the order that it amends, puts or withdraws
abbrev pub taken_by : List LineFields → Action → List LineFields
taken_by lines (Add order) = []
taken_by lines (Amend order) = lines_of (order_key order) lines
taken_by lines (Put order) = lines_of (order_key order) lines
taken_by lines (Withdraw key) = lines_of key lines

-- what an action changes: the lines that go by it, and then those that it adds
abbrev pub changes_by : ℕ → List LineFields → Action → List SignedLine
changes_by commit lines action = signed commit Went (taken_by lines action) ++ signed commit Came (added_by action)

-- what the actions of a commit change, one after another
abbrev pub changes_by_all : ℕ → List LineFields → List Action → List SignedLine
changes_by_all commit lines [] = []
changes_by_all commit lines (action ∷ later) =
    changes_by commit lines action ++ changes_by_all commit (lines_after_action lines action) later

-- what commits change, one after another, which come behind so many others
abbrev pub changes_behind : ℕ → List LineFields → List CommitRecord → List SignedLine
changes_behind before lines [] = []
changes_behind before lines (commit ∷ later) =
    changes_by_all (before + 1) lines commit.actions
    ++ changes_behind (before + 1) (lines_after_refresh lines commit.actions) later

-- a history, where so many commits came before it: the loaded lines, and then what its commits change
abbrev pub signed_lines : ℕ → Tables → List CommitRecord → List SignedLine
signed_lines past base history = signed past Came base.lines ++ changes_behind past base.lines history

-- whether the changes of a commit are asked for
abbrev pub is_asked : ChangesStart → ℕ → Bool
is_asked Loaded commit = true
is_asked (Behind count) commit = nat_lt count commit

-- those of the signed lines that are asked for
abbrev pub asked_of : ChangesStart → List SignedLine → List SignedLine
asked_of start lines = filter (λ (l : SignedLine). is_asked start l.commit) lines
