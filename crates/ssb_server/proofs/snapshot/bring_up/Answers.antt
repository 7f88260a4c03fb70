use Rattle.std.proofs.Common.{◌++◌, sym}
use Rattle.std.specs.Prelude.{MatchResult}
use Rattle.ssb_server.specs.Turns.{Knows, StandsAt, Misses, Follows}
use Rattle.ssb_server.proofs.SnapshotLaws.{fetched_all, taken_follows, knows_later, same_base, along}
use Rattle.ssb_server.proofs.snapshot.bring_up.Goals as goal

pub fetch-requires-clause-taken : goal.fetch-requires-clause-taken
fetch-requires-clause-taken g c = record {
  list = c.args.writer.published ++ c.args.writer.pending;
  more = c.requires.writer.more;
  beside_is = c.requires.writer.beside_is;
  count_is = c.taken-taken.ensures;
}

pub catch_up-requires : goal.catch_up-requires
catch_up-requires g c =
    let all = fetched_all c.args.token.now c.args.writer c.taken-taken.result c.fetch.new.token c.in-Ok.commits.items
    c.requires.writer c.taken-taken.ensures c.in-Ok.ensures.fetched c.in-Ok.ensures.commits in
    along (λ base list. Knows base list c.args.reader)
    (same_base c.args.token.now c.args.writer c.fetch.new.token c.requires.writer c.in-Ok.ensures.fetched) (sym all)
    (knows_later c.args.token.now c.args.reader c.fetch.new.token c.in-Ok.ensures.fetched c.requires.reader)

pub returns-in-Ok-clause-writer : goal.returns-in-Ok-clause-writer
returns-in-Ok-clause-writer g c =
    let all = fetched_all c.args.token.now c.args.writer c.taken-taken.result c.fetch.new.token c.in-Ok.commits.items
    c.requires.writer c.taken-taken.ensures c.in-Ok.ensures.fetched c.in-Ok.ensures.commits in
    along (λ base list. Follows base list c.catch_up.result.0)
    (sym (same_base c.args.token.now c.args.writer c.fetch.new.token c.requires.writer c.in-Ok.ensures.fetched)) all
    c.catch_up.ensures.writer

pub returns-in-Ok-clause-entered : goal.returns-in-Ok-clause-entered
returns-in-Ok-clause-entered g c =
    let all = fetched_all c.args.token.now c.args.writer c.taken-taken.result c.fetch.new.token c.in-Ok.commits.items
    c.requires.writer c.taken-taken.ensures c.in-Ok.ensures.fetched c.in-Ok.ensures.commits in
    along (λ base list. MatchResult c.catch_up.result.1 (StandsAt base list) (Misses base list))
    (sym (same_base c.args.token.now c.args.writer c.fetch.new.token c.requires.writer c.in-Ok.ensures.fetched)) all
    c.catch_up.ensures.entered

pub returns-in-Err-clause-writer : goal.returns-in-Err-clause-writer
returns-in-Err-clause-writer g c = taken_follows c.args.token.now c.args.writer c.fetch.new.token c.requires.writer
    c.in-Err.ensures.fetched

pub returns-in-Err-clause-entered : goal.returns-in-Err-clause-entered
returns-in-Err-clause-entered g c = record {
  reader = knows_later c.args.token.now c.args.reader c.fetch.new.token
      c.in-Err.ensures.fetched c.requires.reader;
  cause = tt;
  found = tt;
}
