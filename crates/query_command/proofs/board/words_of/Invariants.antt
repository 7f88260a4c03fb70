use Rattle.std.proofs.Common.{◌≡◌, ◌++◌, drop, map}
use Rattle.csv.specs.Records.{fields_of}
use Rattle.query_command.specs.Board.{words_of}
use Rattle.ssb_text.specs.Spelling.{without_spaces}
use Rattle.query_command.proofs.board.words_of.Given as goal

-- the words so far, and those of the fields not yet read
abbrev pub invariant-loop-place : goal.invariant-loop-place
invariant-loop-place l =
    map (λ word. word.now) l.words.items ++ map without_spaces (drop l.place (fields_of l.fields))
    ≡ words_of (fields_of l.fields)
