use Rattle.std.proofs.Common.{length, ap, ◌∙◌}
use Rattle.shared_scan.specs.Answers as scan
use Rattle.ssb_server.proofs.PassLaws.{found_count, grouped_answers}
use Rattle.ssb_server.proofs.passes.answer_all.Goals as goal

pub group-requires : goal.group-requires
group-requires g c =
    let at = c.requires.snapshot in
    found_count c.args.columns.now.base at.history c.as_slice.result.now c.in_ok-rows.rows.items
    (c.in_ok-rows.ensures at.history at.stands)
    ∙ ap length (c.as_slice.ensures.value ∙ c.in_ok-questions.ensures)

pub returns : goal.returns
returns g c history stands =
    c.in_ok-found.ensures
    ∙ grouped_answers c.args.columns.now.base history c.args.requests.now c.in_ok-rows.rows.items
    (c.in_ok-rows.ensures history stands
    ∙ ap (scan.answers_after c.args.columns.now.base history) (c.as_slice.ensures.value ∙ c.in_ok-questions.ensures))
