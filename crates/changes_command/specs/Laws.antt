-- What holds of the signed lines of every history.
use Rattle.std.specs.Prelude.{◌≡◌, ℕ, ◌+◌, Bool, true, false, not, ◌&&◌, nat_le, List, take, count_by}
use Rattle.row_store.specs.History.{CommitRecord, lines_after}
use Rattle.ssb_base.specs.Base.{Tables}
use Rattle.ssb_schema.specs.declared.line.LineFields.{LineFields}
use Rattle.changes_command.specs.Signed.{SignedLine, signed_lines}
use Rattle.changes_command.specs.declared.signed.Sign.{Sign}
use Rattle.changes_command.specs.declared.signed.Sign.TheVariants.{Came, Went}

abbrev pub is_came : Sign → Bool
is_came Came = true
is_came Went = false

-- a line of which something holds came by one of the first commits, so many of them, or before them
abbrev pub came_by : ℕ → (LineFields → Bool) → SignedLine → Bool
came_by count holds l = is_came l.sign && (nat_le l.commit count && holds l.line)

-- it went by one of them
abbrev pub went_by : ℕ → (LineFields → Bool) → SignedLine → Bool
went_by count holds l = not (is_came l.sign) && (nat_le l.commit count && holds l.line)

-- the signs add up: of the lines of which something holds, whatever it is, as many came by the first commits as went by
-- them and are among the lines after them, however many commits came before. So of each line: what holds of it may be
-- that it is this line
abbrev pub SignsAddUp : Type 0
SignsAddUp = (past : ℕ) (base : Tables) (history : List CommitRecord) (count : ℕ) (holds : LineFields → Bool)
    → count_by (came_by (past + count) holds) (signed_lines past base history)
    ≡ count_by (went_by (past + count) holds) (signed_lines past base history)
    + count_by holds (lines_after base (take count history))
