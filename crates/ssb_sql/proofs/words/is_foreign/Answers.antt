use Rattle.ssb_sql.proofs.words.is_foreign.Goals as goal

pub returns : goal.returns
returns c = c.is_listed.ensures
