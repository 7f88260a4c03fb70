use Rattle.std.proofs.Common.{◌≡◌, length, refl, arith}
use Rattle.std.proofs.lemmas.List.{length-map}
use Rattle.ssb_script.specs.Requests.{request_of, requests_of}
use Rattle.ssb_script.proofs.AheadLaws.{ask_in_turn}
use Rattle.ssb_script.proofs.together.read_together.Goals as goal

pub returns : goal.returns
returns c =
    let script = c.in-Ok.script in
    let count : length (requests_of script) ≡ c.args.count =
    omega (arith, length-map script.requests.items request_of) in
    ask_in_turn c.args.count c.args.text.now (requests_of script)
    (c.is_plain_text.ensures.0 c.if-not-is_plain_text.false) (c.in-Ok.ensures.script c.args.text.now refl) count
