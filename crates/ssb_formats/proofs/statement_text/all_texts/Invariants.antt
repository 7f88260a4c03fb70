use Rattle.std.proofs.Common.{◌≡◌, map, take}
use Rattle.ssb_report.specs.StatementText.{texts_of}
use Rattle.ssb_formats.proofs.statement_text.all_texts.Given as goal

abbrev pub invariant-loop-row : goal.invariant-loop-row
invariant-loop-row l = l.all.items ≡ map texts_of (take l.row-index l.rows)
