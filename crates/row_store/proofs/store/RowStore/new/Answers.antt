use Rattle.std.proofs.Common.{◌≡◌, length, sym, ap, ◌∙◌, subst, arith}
use Rattle.std.specs.List.Sorted.{IsNonDecreasingBy}
use Rattle.ssb_base.specs.Base.{is_same_line}
use Rattle.ssb_schema.specs.FirstFault.{AreDistinct}
use Rattle.row_store.specs.Lines.{lines_of}
use Rattle.row_store.specs.Keyed.{key_at, lines_at}
use Rattle.row_store.proofs.SevenLaws.{at_most_seven}
use Rattle.row_store.proofs.store.RowStore.new.Goals as goal

pub place_runs-requires-clause-sorted : goal.place_runs-requires-clause-sorted
place_runs-requires-clause-sorted c = subst (IsNonDecreasingBy (key_at c.lines-lines.result.now))
    (sym c.deref-2.ensures.value) c.in_ok-index.ensures.sorted

pub place_runs-requires-clause-orders : goal.place_runs-requires-clause-orders
place_runs-requires-clause-orders c key =
    let lines = c.lines-lines.result.now in
    let same : lines_of key (lines_at lines c.deref-2.result.now) ≡ lines_of key lines =
    ap (λ index. lines_of key (lines_at lines index)) c.deref-2.ensures.value ∙ c.in_ok-index.ensures.same key in
    let apart : AreDistinct is_same_line lines = subst (AreDistinct is_same_line) (sym c.lines-lines.ensures.lines)
    c.lines-lines.ensures.sound.numbered in
    let few = at_most_seven lines apart c.look_through.ensures key in
    omega (arith, few, ap length same)
