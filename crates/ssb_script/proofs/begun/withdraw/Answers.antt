use Rattle.std.proofs.Common.{rules, ◌≡◌, ◌+◌, ◌≤◌, ◌++◌, ◌∷◌, [], length, sym, ◌∙◌, arith}
use Rattle.std.proofs.lemmas.Bool.{ltb-true}
use Rattle.std.proofs.lemmas.List.{length_push}
use Rattle.std.proofs.lemmas.List.Elements.{All-push, All-nil}
use Rattle.std.proofs.lemmas.Grind.{flat_map-append}
use Rattle.ssb_schema.specs.declared.refresh.Action.TheVariants.{Withdraw}
use Rattle.ssb_script.specs.Requests.{IsWholeAction, IsWholeRequest, lines_of_action}
use Rattle.ssb_script.proofs.StepLaws.{ends_withdrawn}
use Rattle.ssb_script.proofs.begun.withdraw.Goals as goal

pub returns-clause-step : goal.returns-clause-step
returns-clause-step c =
    let more : c.in_ok-pushed.field-0 ≡ c.args.actions ++ Withdraw c.args.key ∷ [] = c.in_ok-pushed.ensures in
    let room = ltb-true (length c.args.actions) 64 (sym c.has_room.ensures ∙ c.if-not-has_room.false) in
    let few : length c.args.actions + 1 ≤ 64 = omega (arith, room) in
    record {
      taken = rw (more, flat_map-append lines_of_action c.args.actions (Withdraw c.args.key ∷ [])) (search rules);
      whole = All-nil IsWholeRequest;
      room = (
        rw (more, length_push c.args.actions (Withdraw c.args.key)) few,
        rw more (All-push IsWholeAction c.args.actions (Withdraw c.args.key) c.requires.1 tt),
      );
      settled = rw more (ends_withdrawn c.args.actions c.args.key);
    }
