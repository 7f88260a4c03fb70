use Rattle.std.proofs.Common.{ℕ, ◌≡◌, ◌≤◌, ◌*◌, ◌^◌, map, take, get_or, sym, ap, ◌∙◌, arith}
use Rattle.std.proofs.Math.Nat.{mul_comm, mul-le-mul}
use Rattle.std.proofs.lemmas.List.{map_push, take_more}
use Rattle.scan_kernel.specs.Groups.{size_of}
use Rattle.shared_scan.specs.GroupCounts.{count_passing}
use Rattle.ssb_schema.specs.declared.column.Column.{Column}
use Rattle.ssb_schema.specs.declared.table.Table.TheVariants.{Customer}
use Rattle.query_command.proofs.SizeLaws.{size_more}
use Rattle.query_command.proofs.sizes.most_choices.Goals as goal

pub loop-column-preserved : goal.loop-column-preserved
loop-column-preserved c =
    let any : Column = record { table = Customer; place = 0 } in
    let i = c.loop-column.column-index in
    let groups = c.args.columns.now in
    let count_of : Column → ℕ = count_passing c.args.base.now.dimensions c.args.plan.now in
    let column = get_or groups i any in
    let old = c.loop-column.most in
    let counts = map count_of (take i groups) in
    let count = c.in_ok-count.count in
    let counted : count ≡ count_of column = c.in_ok-count.ensures.values in
    let few : count ≤ 2 ^ 20 = c.in_ok-count.ensures.few in
    record {
      most = ap (λ (n : ℕ). n * old) counted ∙ mul_comm (count_of column) old
          ∙ ap (λ (n : ℕ). n * count_of column) c.loop-column.invariant.most ∙ sym (size_more counts (count_of column))
          ∙ ap size_of (sym (map_push count_of (take i groups) column)
          ∙ ap (map count_of) (sym (take_more groups i any c.loop-column-test.true)));
      none = λ h. absurd (omega (arith, h));
      one = λ h. omega (arith, mul-le-mul few (c.loop-column.invariant.none (omega (arith, h))));
      two = λ h. omega (arith, mul-le-mul few (c.loop-column.invariant.one (omega (arith, h))));
      three = λ h. omega (arith, mul-le-mul few (c.loop-column.invariant.two (omega (arith, h))));
    }
