use Rattle.std.proofs.Common.{◌∙◌, ◌+◌, ◌-◌, ap, arith, inr, length, rules, sym}
use Rattle.ssb_sql.proofs.PartLaws as law
use Rattle.ssb_sql.specs.Parts.{part_now}
use Rattle.ssb_sql.specs.Tokens.{found_now}
use Rattle.ssb_sql.proofs.found.parts_of.Goals as goal

pub loop-number-init : goal.loop-number-init
loop-number-init c = record {
  text = search rules;
  told = law.begins c.args.text.now _ _ _ (omega arith) c.nothing-found.ensures c.behind_gaps-rest.ensures;
  left = omega (arith, law.without_within c.args.text.now, ap length c.behind_gaps-rest.ensures);
}

pub returns-in-Err-Bad-clause-fault : goal.returns-in-Err-Bad-clause-fault
returns-in-Err-Bad-clause-fault c =
    inr (law.part_wrong (length c.args.text.now) c.loop-number._number c.loop-number.rest.now
    (found_now c.loop-number.found) _ c.loop-number-test.true (law.some_left _ c.if-is_empty.ensures)
    (sym c.in-Err-Bad.ensures) c.loop-number.invariant.told)

pub returns-in-Err-UnknownName-clause-fault : goal.returns-in-Err-UnknownName-clause-fault
returns-in-Err-UnknownName-clause-fault c =
    inr (law.part_wrong (length c.args.text.now) c.loop-number._number c.loop-number.rest.now
    (found_now c.loop-number.found) _ c.loop-number-test.true (law.some_left _ c.if-is_empty.ensures)
    (sym c.in-Err-UnknownName.ensures) c.loop-number.invariant.told)

pub returns-in-Err-Unexpected-clause-fault : goal.returns-in-Err-Unexpected-clause-fault
returns-in-Err-Unexpected-clause-fault c =
    inr (law.part_stops (length c.args.text.now) c.loop-number._number c.loop-number.rest.now (part_now c.in-Ok.part)
    (found_now c.loop-number.found) _ c.loop-number-test.true (law.some_left _ c.if-is_empty.ensures)
    (sym c.in-Ok.ensures) (rw c.in-Err-Unexpected.field-0-is at c.in-Err-Unexpected.ensures.refused)
    c.loop-number.invariant.told)

pub loop-number-preserved : goal.loop-number-preserved
loop-number-preserved c =
    let below = law.next_below c.loop-number.rest.now (part_now c.in-Ok.part) (sym c.in-Ok.ensures) in
    let behind = c.behind_gaps-rest-in-Ok-add.ensures in
    record {
      text = search rules;
      told = ap
          (λ rest. law.reading (found_now c.add.new.self) (length c.args.text.now - (c.loop-number._number + 1)) rest)
          behind
          ∙ law.part_more (length c.args.text.now) c.loop-number._number c.loop-number.rest.now (part_now c.in-Ok.part)
          (found_now c.loop-number.found) (found_now c.add.new.self) _ c.loop-number-test.true
          (law.some_left _ c.if-is_empty.ensures) (sym c.in-Ok.ensures) c.in-Ok-add.ensures.added
          c.loop-number.invariant.told;
      left = omega (arith, below, ap length behind, c.loop-number.invariant.left);
    }
