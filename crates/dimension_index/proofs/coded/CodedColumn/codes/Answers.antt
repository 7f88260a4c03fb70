use Rattle.std.proofs.Common.{ap, ◌∙◌}
use Rattle.dimension_index.specs.Codes.{codes_of}
use Rattle.dimension_index.proofs.CodeLaws.{codes_read}
use Rattle.dimension_index.proofs.coded.CodedColumn.codes.Goals as goal

pub returns : goal.returns
returns c = c.as_slice.ensures.value ∙ codes_read c.self.inside.dictionary c.self.inside.codes.items c.self.invariant
    ∙ ap codes_of c.self.view_is
