use Rattle.std.proofs.Common.{◌≤◌, List, map, vec_len}
use Rattle.std.specs.Vec.Iter.{into_iter_items}
use Rattle.ssb_schema.specs.Columns.{Value}
use Rattle.ssb_schema.specs.Rows.{line_values}
use Rattle.ssb_text.specs.declared.error.LoadError.{LoadError}
use Rattle.ssb_text.specs.Joining.{Joins, Stops}
use Rattle.ssb_text.specs.Parsing.{IsParsedOk}
use Rattle.ssb_text.proofs.joining.join_blocks.Given as goal

-- what comes of the blocks that are still to come comes of all
abbrev pub invariant-loop-block : goal.invariant-loop-block
invariant-loop-block l = record {
  few : vec_len l.lines ≤ l.limit;
  joins : (new : List (List Value)) → Joins IsParsedOk (into_iter_items l.block-iterator) (map line_values l.lines.items) new
      → Joins IsParsedOk l.fn.parsed.items (map line_values l.fn.lines.items) new;
  stops : (e : LoadError) → Stops IsParsedOk (into_iter_items l.block-iterator) l.limit (map line_values l.lines.items) e
      → Stops IsParsedOk l.fn.parsed.items l.limit (map line_values l.fn.lines.items) e;
}
