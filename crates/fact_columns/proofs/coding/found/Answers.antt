use Rattle.std.proofs.Common.{◌∙◌, sym}
use Rattle.std.specs.Prelude.{nat_eq}
use Rattle.std.proofs.lemmas.List.Quantifiers.{position-Some}
use Rattle.dimension_index.specs.Keys.{keys_of}
use Rattle.fact_columns.proofs.coding.found.Goals as goal

pub class-requires : goal.class-requires
class-requires c = (position-Some (λ own. nat_eq own c.args.key) (keys_of c.args.index.now c.args.table)
    c.in-Some.position 0 (sym c.position.ensures ∙ c.in-Some.is)).0
