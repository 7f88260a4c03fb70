use Rattle.std.proofs.Common.{◌≡◌, ◌∙◌, true, false, Option, Some, None, is_some, length, take, sym, refl, subst}
use Rattle.std.specs.List.{slice_get}
use Rattle.std.proofs.lemmas.List.{take_all}
use Rattle.std.proofs.lemmas.Option.{slice_get_read}
use Rattle.ssb_base.specs.Base.{repeated_fault, has_key_of, has_key}
use Rattle.ssb_base.specs.Indexed.{IsIndexOf}
use Rattle.ssb_base.specs.Places.{place_in}
use Rattle.ssb_base.proofs.BaseLaws.{few_rows, repeated_found, repeated_absent, index_next}
use Rattle.ssb_schema.proofs.FirstFaultLaws.{not_is, rows_fault_next, rows_fault_ends, or_else_found, or_else_absent}
use Rattle.ssb_base.proofs.index.Index.of.Goals as goal

none_is : {X : Type 0} (found : Option X) → is_some found ≡ false → found ≡ None
none_is None none = refl
none_is (Some x) none = absurd cc

pub returns-in-Ok-false-clause-fault : goal.returns-in-Ok-false-clause-fault
returns-in-Ok-false-clause-fault g c =
    let key = g.F.Keyed.key_of in
    let t = g.F.Fields.of_table in
    let rows = c.args.rows.now in
    let row = c.index-rows-i.result in
    let at : slice_get rows c.loop-i.i ≡ Some row
    = slice_get_read rows (length rows) c.loop-i.i row refl c.loop-i-test.true c.index-rows-i.is in
    let fresh = rw c.key.ensures at c.in-Ok-false.ensures.fresh in
    let found : has_key key (take c.loop-i.i rows) (key row) ≡ true
    = sym (c.loop-i.invariant.index.contains (key row)) ∙ not_is _ _ (sym c.in-Ok-false.field-0-test ∙ fresh) in
    rw c.table-in-Ok-false.ensures (few_rows _ t _ rows c.if-rows-limits.false ∙ sym c.loop-i.invariant.rest
    ∙ rows_fault_next (repeated_fault t (has_key_of key)) rows c.loop-i.i row at
    ∙ or_else_found _ _ _ (repeated_found t (has_key_of key) rows c.loop-i.i row at found))

pub loop-i-preserved : goal.loop-i-preserved
loop-i-preserved g c =
    let key = g.F.Keyed.key_of in
    let t = g.F.Fields.of_table in
    let rows = c.args.rows.now in
    let row = c.index-rows-i.result in
    let at : slice_get rows c.loop-i.i ≡ Some row
    = slice_get_read rows (length rows) c.loop-i.i row refl c.loop-i-test.true c.index-rows-i.is in
    let fresh = rw c.key.ensures at c.in-Ok-true.ensures.fresh in
    let none : is_some (place_in c.loop-i.places (key row)) ≡ false =
    not_is _ _ (sym c.in-Ok-true.field-0-test ∙ fresh) in
    let absent : has_key key (take c.loop-i.i rows) (key row) ≡ false
    = sym (c.loop-i.invariant.index.contains (key row)) ∙ none in
    record {
      rest = sym (rows_fault_next (repeated_fault t (has_key_of key)) rows c.loop-i.i row at
          ∙ or_else_absent _ _ (repeated_absent t (has_key_of key) (take c.loop-i.i rows) row absent))
          ∙ c.loop-i.invariant.rest;
      index = index_next key rows c.loop-i.i row _ _ at (none_is _ none)
          (rw c.key.ensures at c.in-Ok-true.ensures.updated c.in-Ok-true.field-0-test) c.loop-i.invariant.index;
    }

pub returns-clause-fault : goal.returns-clause-fault
returns-clause-fault g c =
    let rows = c.args.rows.now in
    few_rows _ g.F.Fields.of_table _ rows c.if-rows-limits.false ∙ sym c.loop-i.invariant.rest
    ∙ rows_fault_ends _ _ rows c.loop-i.i c.loop-i-test.false

pub returns-clause-index : goal.returns-clause-index
returns-clause-index g c =
    let rows = c.args.rows.now in
    subst (λ first. IsIndexOf g.F.Keyed.key_of first rows (place_in c.loop-i.places))
    (take_all c.loop-i.i rows c.loop-i-test.false) c.loop-i.invariant.index
