use Rattle.ssb_sql.proofs.words.line_key_named.Goals as goal

pub returns : goal.returns
returns c = c.named.ensures
