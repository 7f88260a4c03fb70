use Rattle.ssb_text.proofs.HeadsLaws.{ReadsLine}
use Rattle.ssb_text.proofs.heads.parts_of_line.Given as goal

abbrev pub invariant-loop : goal.invariant-loop
invariant-loop g l =
    ReadsLine l.delimiter (g.R.Read.remaining l.fn.reader) (g.R.Read.remaining l.reader) l.counter l.parts
