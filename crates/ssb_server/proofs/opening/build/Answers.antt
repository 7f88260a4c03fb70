use Rattle.std.proofs.Common.{◌≡◌, ◌≤◌, ◌∙◌, ap, sym, subst}
use Rattle.ssb_clients.specs.Counts.{at_table, most_at_table}
use Rattle.ssb_server.proofs.ReaderLaws.{table_range}
use Rattle.ssb_server.proofs.opening.build.Goals as goal

pub table_over-requires-clause-tokens : goal.table_over-requires-clause-tokens
table_over-requires-clause-tokens g c κs outlives = subst (λ n. (1 ≤ n) × (n ≤ most_at_table)) (sym c.count_at_table.ensures)
    (table_range c.args.keeps c.args.dispatchers c.requires.counts.1)
