use Rattle.std.proofs.Common.{ap, ◌∙◌}
use Rattle.stream_sessions.proofs.LookupLaws.{from_here}
use Rattle.stream_sessions.proofs.lookup.put_value.Goals as goal

pub returns : goal.returns
returns g c =
    let value_of = g.F.QueryFields.value_of c.args.place in
    from_here value_of c.args.rows.now c.args.at c.index-rows-at.result c.in_ok-value.value _ _ c.requires.within
    (c.in_ok-value.ensures ∙ c.value.ensures ∙ ap value_of c.index-rows-at.is) c.requires.behind c.in-Ok.ensures.keys
