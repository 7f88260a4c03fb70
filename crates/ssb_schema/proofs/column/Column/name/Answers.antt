use Rattle.std.proofs.Common.{◌∙◌, arith}
use Rattle.ssb_schema.proofs.ColumnLaws.{name_at}
use Rattle.ssb_schema.proofs.column.Column.name.Goals as goal

pub returns : goal.returns
returns c = c.name_at.ensures ∙ name_at c.args.self _ (omega (arith, c.if-self-eq0.false)) c.names.ensures
