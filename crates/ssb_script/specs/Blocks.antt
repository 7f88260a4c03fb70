-- The lines that begin and end a block, which is a request of several lines.
use Rattle.std.specs.Prelude.{ℕ, Bool, List, ◌||◌, Option, Some, None, is_none, nat_eq, if◌then◌else◌}
use Rattle.std.specs.Cmp.Lexicographic.{pointwise}
use Rattle.std.specs.Io.BufRead.{strip_last}
use Rattle.csv.specs.Reading.{strip_bom}
use Rattle.ssb_text.specs.Spelling.{without_spaces}
use Rattle.ssb_script.specs.Lines.{spelling_of}
use Rattle.ssb_script.specs.declared.block.BlockKind.{BlockKind}
use Rattle.ssb_script.specs.declared.block.BlockKind.TheVariants.{Refreshing, Asking}
use Rattle.ssb_script.specs.declared.word.ScriptWord.{ScriptWord}
use Rattle.ssb_script.specs.declared.word.ScriptWord.TheVariants as word

-- the text that a line has alone: without LF or CR LF, a closing bar, and spaces at its end
abbrev pub text_alone : List ℕ → List ℕ
text_alone line = without_spaces (strip_last 124 (strip_last 13 (strip_last 10 line)))

-- whether a line has this word alone
unfoldable pub has_alone : ScriptWord → List ℕ → Bool
has_alone w line = pointwise nat_eq (text_alone line) (spelling_of w)

-- the words of the lines that begin and end a block
abbrev pub opening_word : BlockKind → ScriptWord
opening_word Refreshing = word.Begin
opening_word Asking = word.Ask

abbrev pub closing_word : BlockKind → ScriptWord
closing_word Refreshing = word.Commit
closing_word Asking = word.Answer

-- whether a line begins this block; it may be the first of a text of its own, with a byte order mark
abbrev pub begins : BlockKind → List ℕ → Bool
begins block line = has_alone (opening_word block) (strip_bom line)

-- the block that a line begins
abbrev pub opens : List ℕ → Option BlockKind
opens line = if begins Refreshing line then Some Refreshing else if begins Asking line then Some Asking else None

-- whether a line ends a block: its own last line does, and an `abort`
abbrev pub closes : BlockKind → List ℕ → Bool
closes block line = has_alone (closing_word block) line || has_alone word.Abort line

-- whether a line ends the block that was begun, or, where none was, is a request
abbrev pub ends_request : Option BlockKind → List ℕ → Bool
ends_request (Some block) line = closes block line
ends_request None line = is_none (opens line)

-- the block that is begun behind a line which ends no request
abbrev pub begun_behind : Option BlockKind → List ℕ → Option BlockKind
begun_behind (Some block) line = Some block
begun_behind None line = opens line
