use Rattle.std.proofs.Common.{◌∙◌, ℕ, List, Option, Some, option_map, ap}
use Rattle.terminal.specs.Typed.{said_by, spelling_among, spellings}
use Rattle.terminal.specs.declared.word.Spelling.{Spelling}
use Rattle.terminal.specs.declared.word.TerminalWord.{TerminalWord}
use Rattle.terminal.proofs.word.TerminalWord.typed.Goals as goal

pub returns : goal.returns
returns c =
    ap (λ (word : TerminalWord). Some word) c.word.ensures
    ∙ ap (λ (spelling : Option Spelling). option_map said_by spelling)
    (c.in_ok-spelling.ensures ∙ ap (λ (text : List ℕ). spelling_among spellings text) c.said.ensures)
