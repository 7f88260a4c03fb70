use Rattle.std.proofs.Common.{◌≡◌, ◌∙◌, ◌+◌, Option, None, Ok, ap, sym, refl, inl, inr}
use Rattle.std.specs.Option.{option_map}
use Rattle.ssb_script.specs.Lines.{line_or_bad}
use Rattle.ssb_script.specs.Steps.{ended_of, begun_in, begun_of, line_of_control}
use Rattle.ssb_script.specs.declared.begun.Ended.TheVariants.{Nothing, Refresh, Asked}
use Rattle.ssb_script.specs.declared.control.Control.{Control}
use Rattle.ssb_script.specs.Scripts.{checks_in}
use Rattle.ssb_script.proofs.StepLaws.{fault_after, found_in, room-ended, step_after}
use Rattle.ssb_script.proofs.begun.Begun.with_control.Goals as goal

pub inside-requires : goal.inside-requires
inside-requires c =
    let ended : ended_of (begun_in c.args.self) ≡ Refresh c.in-Some-Refresh.actions =
    sym c.in_ok-ended.ensures.ended ∙ c.in-Some-Refresh.is-1 in
    rw ended at (room-ended c.args.before (c.args.before + 1) (begun_in c.args.self) c.requires.room
    c.in_ok-ended.ensures.whole)

pub returns-in-None-default-clause-fault : goal.returns-in-None-default-clause-fault
returns-in-None-default-clause-fault c = inl (inr (rw (c.in-None-default.is-0, c.in_ok-ended.ensures.whole) refl))

pub returns-in-Some-Nothing-clause-step : goal.returns-in-Some-Nothing-clause-step
returns-in-Some-Nothing-clause-step c =
    let spelled = ap (λ (o : Option Control). line_or_bad (option_map line_of_control o)) c.in-Some-Nothing.is-0 in
    let ended : ended_of (begun_in c.args.self) ≡ Nothing =
    sym c.in_ok-ended.ensures.ended ∙ c.in-Some-Nothing.is-1 in
    step_after c.outside.result (c.args.before + 1) (begun_in c.args.self)
    (line_or_bad (option_map line_of_control c.args.control)) c.in-Some-Nothing.control Nothing ended spelled
    c.outside.ensures.step

pub returns-in-Some-Nothing-clause-fault : goal.returns-in-Some-Nothing-clause-fault
returns-in-Some-Nothing-clause-fault c =
    let spelled = ap (λ (o : Option Control). line_or_bad (option_map line_of_control o)) c.in-Some-Nothing.is-0 in
    let ended : ended_of (begun_in c.args.self) ≡ Nothing =
    sym c.in_ok-ended.ensures.ended ∙ c.in-Some-Nothing.is-1 in
    fault_after c.outside.result (c.args.before + 1) (begun_in c.args.self) None
    (line_or_bad (option_map line_of_control c.args.control)) c.in-Some-Nothing.control Nothing ended
    c.in_ok-ended.ensures.whole spelled c.outside.ensures.fault

pub returns-in-Some-Refresh-clause-step : goal.returns-in-Some-Refresh-clause-step
returns-in-Some-Refresh-clause-step c =
    let spelled = ap (λ (o : Option Control). line_or_bad (option_map line_of_control o)) c.in-Some-Refresh.is-0 in
    let ended : ended_of (begun_in c.args.self) ≡ Refresh c.in-Some-Refresh.actions =
    sym c.in_ok-ended.ensures.ended ∙ c.in-Some-Refresh.is-1 in
    step_after c.inside.result (c.args.before + 1) (begun_in c.args.self)
    (line_or_bad (option_map line_of_control c.args.control)) c.in-Some-Refresh.control
    (Refresh c.in-Some-Refresh.actions)
    ended spelled c.inside.ensures.step

pub returns-in-Some-Refresh-clause-fault : goal.returns-in-Some-Refresh-clause-fault
returns-in-Some-Refresh-clause-fault c =
    let spelled = ap (λ (o : Option Control). line_or_bad (option_map line_of_control o)) c.in-Some-Refresh.is-0 in
    let ended : ended_of (begun_in c.args.self) ≡ Refresh c.in-Some-Refresh.actions =
    sym c.in_ok-ended.ensures.ended ∙ c.in-Some-Refresh.is-1 in
    fault_after c.inside.result (c.args.before + 1) (begun_in c.args.self) None
    (line_or_bad (option_map line_of_control c.args.control)) c.in-Some-Refresh.control
    (Refresh c.in-Some-Refresh.actions)
    ended c.in_ok-ended.ensures.whole spelled
    (found_in c.inside.result (c.args.before + 1) (Ok (line_of_control c.in-Some-Refresh.control))
    (checks_in (c.args.before + 1) (begun_of (Refresh c.in-Some-Refresh.actions))
    (Ok (line_of_control c.in-Some-Refresh.control))) c.inside.ensures.fault)

pub in_block-requires : goal.in_block-requires
in_block-requires c =
    let ended : ended_of (begun_in c.args.self) ≡ Asked c.in-Some-Asked.questions =
    sym c.in_ok-ended.ensures.ended ∙ c.in-Some-Asked.is-1 in
    rw ended at (room-ended c.args.before (c.args.before + 1) (begun_in c.args.self) c.requires.room
    c.in_ok-ended.ensures.whole)

pub returns-in-Some-Asked-clause-step : goal.returns-in-Some-Asked-clause-step
returns-in-Some-Asked-clause-step c =
    let spelled = ap (λ (o : Option Control). line_or_bad (option_map line_of_control o)) c.in-Some-Asked.is-0 in
    let ended : ended_of (begun_in c.args.self) ≡ Asked c.in-Some-Asked.questions =
    sym c.in_ok-ended.ensures.ended ∙ c.in-Some-Asked.is-1 in
    step_after c.in_block.result (c.args.before + 1) (begun_in c.args.self)
    (line_or_bad (option_map line_of_control c.args.control)) c.in-Some-Asked.control (Asked c.in-Some-Asked.questions)
    ended spelled c.in_block.ensures.step

pub returns-in-Some-Asked-clause-fault : goal.returns-in-Some-Asked-clause-fault
returns-in-Some-Asked-clause-fault c =
    let spelled = ap (λ (o : Option Control). line_or_bad (option_map line_of_control o)) c.in-Some-Asked.is-0 in
    let ended : ended_of (begun_in c.args.self) ≡ Asked c.in-Some-Asked.questions =
    sym c.in_ok-ended.ensures.ended ∙ c.in-Some-Asked.is-1 in
    fault_after c.in_block.result (c.args.before + 1) (begun_in c.args.self) None
    (line_or_bad (option_map line_of_control c.args.control)) c.in-Some-Asked.control (Asked c.in-Some-Asked.questions)
    ended c.in_ok-ended.ensures.whole spelled
    (found_in c.in_block.result (c.args.before + 1) (Ok (line_of_control c.in-Some-Asked.control))
    (checks_in (c.args.before + 1) (begun_of (Asked c.in-Some-Asked.questions))
    (Ok (line_of_control c.in-Some-Asked.control))) c.in_block.ensures.fault)
