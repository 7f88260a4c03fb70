use Rattle.std.proofs.Common.{arith, ap, ◌∙◌, ◌≡◌, ◌<◌, ◌≤◌, sym, ℕ, Bool, List, length, get_or, map, false}
use Rattle.std.specs.Prelude.{◌&&◌}
use Rattle.std.proofs.lemmas.List.{length-map, get_or_default}
use Rattle.ssb_questions.specs.declared.value.Value.{Value}
use Rattle.ssb_questions.specs.declared.value.Value.TheVariants.{Number}
use Rattle.ssb_questions.specs.Cond.{holds}
use Rattle.dimension_index.specs.Bitmaps.{narrowed}
use Rattle.dimension_index.proofs.BitLaws.{written_more, not_yet, narrowed_at, length_narrowed, passes_at, written_all}
use Rattle.dimension_index.proofs.coded.CodedColumn.narrow.Goals as goal

pub loop-row-preserved : goal.loop-row-preserved
loop-row-preserved c =
    let test = holds c.args.cond.now in
    let values = c.args.self.now in
    let dictionary = c.self.inside.dictionary in
    let codes = c.self.inside.codes.items in
    let old = c.args.rows.now in
    let passes = map test values in
    let wanted = narrowed old passes in
    let row = c.loop-row.row in
    let now = c.loop-row.rows in
    let x = get_or now row false && c.index.result.now in
    let coded : row < length codes = omega (arith, c.loop-row-test.true, ap length c.deref-code-items.ensures.value) in
    let value : ℕ → Value = λ code. get_or dictionary code (Number 0) in
    let same : length old ≡ length passes = omega (arith, c.requires, length-map values test) in
    let within : row < length old = omega (arith, coded, c.requires, length-map codes value, ap length c.self.view_is)
    in
    let there : row < length wanted = omega (arith, within, length_narrowed old passes same) in
    let known : get_or codes row 0 < length dictionary = c.self.invariant.within row 0 coded in
    let read : c.index.result.now ≡ get_or passes row false =
    c.index.ensures
    ∙ ap (λ (l : List Bool). get_or l (get_or c.deref-code-items.result.now row 0) c.index.result.now)
    c.in_ok-passes.ensures
    ∙ ap (λ (l : List ℕ). get_or (map test dictionary) (get_or l row 0) c.index.result.now)
    c.deref-code-items.ensures.value
    ∙ get_or_default (map test dictionary) (get_or codes row 0) c.index.result.now false
    (omega (arith, known, length-map dictionary test))
    ∙ sym (passes_at test dictionary values codes row false c.self.view_is coded known) in
    let wants : x ≡ get_or wanted row x =
    ap (λ b. b && c.index.result.now) (not_yet wanted old now row false c.loop-row.invariant)
    ∙ ap (λ b. get_or old row false && b) read
    ∙ sym (narrowed_at old passes row false same within)
    ∙ get_or_default wanted row false x there in
    written_more wanted old now row x (omega (arith, within, c.loop-row.auto.rows)) there wants c.loop-row.invariant

pub returns : goal.returns
returns c =
    let test = holds c.args.cond.now in
    let values = c.args.self.now in
    let codes = c.self.inside.codes.items in
    let old = c.args.rows.now in
    let passes = map test values in
    let value : ℕ → Value = λ code. get_or c.self.inside.dictionary code (Number 0) in
    let same : length old ≡ length passes = omega (arith, c.requires, length-map values test) in
    let end : length old ≤ c.loop-row.row = omega (
      arith,
      c.loop-row-test.false,
      ap length c.deref-code-items.ensures.value,
      c.requires,
      length-map codes value,
      ap length c.self.view_is,
    ) in
    written_all (narrowed old passes) old c.loop-row.rows c.loop-row.row (omega (arith, end, c.loop-row.auto.rows))
    (omega (arith, end, length_narrowed old passes same)) c.loop-row.invariant
