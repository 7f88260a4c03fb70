use Rattle.std.proofs.Common.{◌≡◌, ◌-◌, ◌≤◌, ◌++◌, take, drop, ap, sym, subst, ◌∙◌, arith}
use Rattle.std.specs.Prelude.{OnOk}
use Rattle.row_store.specs.State.{state_of}
use Rattle.fact_columns.specs.Stored.{columns_state}
use Rattle.ssb_audit.proofs.SnapshotLaws.{taken_more}
use Rattle.ssb_audit.proofs.snapshot.advance.Goals as goal

pub returns : goal.returns
returns c =
    let commits = c.args.commits.now in
    let columns = c.args.columns.now in
    let taken = c.commits-taken.result in
    let same : taken ≡ columns.commits = c.commits-taken.ensures in
    let le : taken ≤ c.args.at = omega (arith, same, c.requires.ahead) in
    let log : take columns.commits commits ++ take (c.args.at - taken) (drop taken commits) ≡ take c.args.at commits =
    ap (λ n. take n commits ++ take (c.args.at - taken) (drop taken commits)) (sym same)
    ∙ taken_more commits taken c.args.at le c.requires.within in
    subst (λ log. OnOk c.absorb_all.result (columns_state c.absorb_all.new.columns ≡ state_of columns.base log)) log
    (c.absorb_all.ensures (take columns.commits commits) c.requires.stands)
