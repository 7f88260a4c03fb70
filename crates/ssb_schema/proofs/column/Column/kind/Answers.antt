use Rattle.std.proofs.Common.{◌∙◌, arith}
use Rattle.ssb_schema.proofs.ColumnLaws.{kind_at}
use Rattle.ssb_schema.proofs.column.Column.kind.Goals as goal

pub returns : goal.returns
returns c = c.kind_at.ensures ∙ kind_at c.args.self _ (omega (arith, c.if-self-eq0.false)) c.kinds.ensures
