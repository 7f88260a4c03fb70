use Rattle.ssb_script.proofs.ScriptLaws.{script_of_requests_of}
use Rattle.ssb_script.proofs.laws.script_of_requests.Goals as goal

pub returns : goal.returns
returns c = script_of_requests_of
