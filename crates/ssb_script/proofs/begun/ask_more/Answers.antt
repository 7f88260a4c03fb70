use Rattle.std.proofs.Common.{rules, ◌≡◌, ◌+◌, ◌<◌, ◌≤◌, ◌++◌, ◌∷◌, [], length, arith}
use Rattle.std.proofs.lemmas.List.{length_push, map_push}
use Rattle.std.proofs.lemmas.List.Elements.{All-nil}
use Rattle.ssb_script.specs.Lines.{Query}
use Rattle.ssb_script.specs.Requests.{IsWholeRequest}
use Rattle.ssb_script.proofs.begun.ask_more.Goals as goal

pub returns-clause-step : goal.returns-clause-step
returns-clause-step c =
    let more : c.in_ok-pushed.field-0 ≡ c.args.questions ++ c.args.question ∷ [] = c.in_ok-pushed.ensures in
    let room : length c.args.questions < 16 = search rules in
    let few : length c.args.questions + 1 ≤ 16 = omega (arith, room) in
    record {
      taken = rw (more, map_push Query c.args.questions c.args.question) (search rules);
      whole = All-nil IsWholeRequest;
      room = rw (more, length_push c.args.questions c.args.question) few;
      settled = tt;
    }
