use Rattle.std.proofs.Common.{ℕ, ◌+◌, ◌<◌, ◌≤◌, ◌%◌, ◌^◌, min, length, drop, arith, sym, ap, ◌∙◌, add-zero}
use Rattle.std.proofs.Math.Nat.{mod-eq_of_lt}
use Rattle.shared_scan.specs.Standing.{parts_of_line}
use Rattle.shared_scan.proofs.StandingLaws.{parts_step_at, parts_end, part_added}
use Rattle.shared_scan.proofs.of_line.parts_of_line.Goals as goal

pub loop-at-preserved : goal.loop-at-preserved
loop-at-preserved c =
    let base = c.args.index.now in
    let columns = c.args.columns.now in
    let parts = c.args.parts.now in
    let line = c.args.line.now in
    let i = c.loop-at.at in
    let in_columns : i < length columns = omega arith in
    let in_parts : i < length parts = omega arith in
    let rest : ℕ = parts_of_line base (drop (i + 1) columns) (drop (i + 1) parts) line in
    let step = parts_step_at base columns parts line i _ c.index-parts-at.result in_columns in_parts
    c.index-parts-at.is ∙ ap (λ (v : ℕ). v + rest) (sym c.part_of_line-added.ensures) in
    part_added c.loop-at.group c.from-group.result rest (parts_of_line base columns parts line)
    (ap (λ (v : ℕ). (c.loop-at.group + v) % 2 ^ 64) (sym (step ∙ ap (λ (v : ℕ). v + rest) (sym c.from-group.ensures)))
    ∙ c.loop-at.invariant)

pub returns : goal.returns
returns c =
    let base = c.args.index.now in
    let columns = c.args.columns.now in
    let parts = c.args.parts.now in
    let line = c.args.line.now in
    let i = c.loop-at.at in
    let past : min (length columns) (length parts) ≤ i = omega arith in
    let none = parts_end base columns parts line i past in
    let fits : c.loop-at.group < 2 ^ 64 = omega arith in
    sym (mod-eq_of_lt fits) ∙ ap (λ (v : ℕ). v % 2 ^ 64) (sym (ap (λ (v : ℕ). c.loop-at.group + v) none
    ∙ add-zero c.loop-at.group)) ∙ c.loop-at.invariant
