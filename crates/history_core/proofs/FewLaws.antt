-- The lines after a beginning of a legal history are few enough to be summed.
use Rattle.std.proofs.Common.{◌≡◌, ℕ, ◌≤◌, List, length, take, ◌∙◌, arith}
use Rattle.ssb_schema.specs.declared.line.LineFields.{LineFields}
use Rattle.ssb_base.specs.Base.{Tables, IsSound}
use Rattle.row_store.specs.History.{CommitRecord, Warehouse, lines_after}
use Rattle.row_store.specs.Legal.{IsLegal}
use Rattle.ssb_base.specs.Limits.{most_lines}
use Rattle.row_store.proofs.FewLaws.{few_after}

-- the lines of a replica that has taken the first `at` commits
pub few_lines : (base : Tables) (history : List CommitRecord) (at : ℕ) (plain : Warehouse) (found : List LineFields)
    → IsLegal base history → IsSound base → plain ≡ record { base = base; log = take at history }
    → found ≡ lines_after plain.base plain.log → length found ≤ most_lines
few_lines base history at plain found legal sound is lines = grind (arith, few_after)
