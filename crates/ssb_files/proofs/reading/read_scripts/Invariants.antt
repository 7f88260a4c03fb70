use Rattle.std.proofs.Common.{◌≡◌, ◌++◌, map}
use Rattle.ssb_files.specs.Scripts.{AreScripts}
use Rattle.ssb_files.proofs.reading.read_scripts.Given as goal

-- the sources so far are the scripts, and the others are left
abbrev pub invariant-loop-source : goal.invariant-loop-source
invariant-loop-source g l = record {
  parted : map g.I.Read.remaining l.fn.sources.items ≡ map g.I.Read.remaining l.yielded ++ map g.I.Read.remaining
      l.source-iterator.rest.items;
  are : AreScripts (map g.I.Read.remaining l.yielded) l.scripts.items;
}
