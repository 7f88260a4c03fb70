use Rattle.std.proofs.Common.{◌++◌, sym}
use Rattle.ssb_server.specs.Turns.{Follows}
use Rattle.ssb_server.proofs.SnapshotLaws.{fetched_all, taken_follows, same_base, along}
use Rattle.ssb_server.proofs.following.carry_over.Goals as goal

pub fetch-requires-clause-taken : goal.fetch-requires-clause-taken
fetch-requires-clause-taken g c = record {
  list = c.args.writer.published ++ c.args.writer.pending;
  more = c.requires.writer.more;
  beside_is = c.requires.writer.beside_is;
  count_is = c.taken-taken.ensures;
}

pub returns-in-Ok-clause-writer : goal.returns-in-Ok-clause-writer
returns-in-Ok-clause-writer g c =
    let all = fetched_all c.args.token.now c.args.writer c.taken-taken.result c.fetch.new.token c.in-Ok.commits.items
    c.requires.writer c.taken-taken.ensures c.in-Ok.ensures.fetched c.in-Ok.ensures.commits in
    along (λ base list. Follows base list c.level.result.0)
    (sym (same_base c.args.token.now c.args.writer c.fetch.new.token c.requires.writer c.in-Ok.ensures.fetched)) all
    c.level.ensures

pub returns-in-Err-clause-writer : goal.returns-in-Err-clause-writer
returns-in-Err-clause-writer g c = taken_follows c.args.token.now c.args.writer c.fetch.new.token c.requires.writer
    c.in-Err.ensures.fetched
