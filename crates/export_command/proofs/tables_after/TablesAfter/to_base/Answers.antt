use Rattle.std.proofs.Common.{◌≡◌, ◌∙◌, Err, Some, None, ap, rules, subst, sym}
use Rattle.ssb_base.specs.Base.{IsSound, Tables, base_fault}
use Rattle.ssb_base.specs.BaseNew.{Answers}
use Rattle.ssb_base.specs.declared.base.BaseError.TheVariants as errors
use Rattle.export_command.specs.Standing.{left_of}
use Rattle.export_command.proofs.FaultlessLaws.{sound_has_no_fault}
use Rattle.export_command.proofs.tables_after.TablesAfter.to_base.Goals as goal

-- what is refused keeps what a base keeps
pub unreachable-requires : goal.unreachable-requires
unreachable-requires c =
    let base = c.self.inside.base.value in
    let customers : c.in_ok-copied_rows.field-0.items ≡ base.dimensions.customers = search rules in
    let suppliers : c.in_ok-copied_rows-2.field-0.items ≡ base.dimensions.suppliers = search rules in
    let parts : c.in_ok-copied_rows-3.field-0.items ≡ base.dimensions.parts = search rules in
    let dates : c.in_ok-copied_rows-4.field-0.items ≡ base.dimensions.dates = search rules in
    let limits : c.limits.result ≡ base.limits = search rules in
    let loaded : c.lines.result.now ≡ base.lines = search rules in
    let lines : c.in_ok-lines_left.field-0.items ≡ left_of base.lines c.self.inside.orders =
    c.in_ok-lines_left.ensures ∙ ap (λ lines. left_of lines c.self.inside.orders) loaded in
    let made : Tables = record {
      limits = c.limits.result;
      dimensions = record {
        customers = c.in_ok-copied_rows.field-0.items;
        suppliers = c.in_ok-copied_rows-2.field-0.items;
        parts = c.in_ok-copied_rows-3.field-0.items;
        dates = c.in_ok-copied_rows-4.field-0.items;
      };
      lines = c.in_ok-lines_left.field-0.items;
    } in
    let same : made ≡ c.args.self.now = (λ i. record {
      limits = limits i;
      dimensions = record { customers = customers i; suppliers = suppliers i; parts = parts i; dates = dates i };
      lines = lines i;
    }) ∙ c.self.view_is in
    let none : base_fault made ≡ None = sound_has_no_fault made (subst IsSound (sym same) c.soundness.ensures) in
    let is : c.new.result ≡ Err (errors.Refused c.in-Err-Refused.field-0-0) = search rules in
    let some : base_fault made ≡ Some c.in-Err-Refused.field-0-0.fault =
    subst (λ answer. Answers answer (base_fault made)) is c.new.ensures.fault in
    absurd cc
