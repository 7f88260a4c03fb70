use Rattle.std.proofs.Common.{◌≡◌, map, take}
use Rattle.serde_json.specs.View.{view}
use Rattle.ssb_formats.specs.ReplyJson.{answer_data}
use Rattle.ssb_formats.proofs.reply_json.objects.Given as goal

abbrev pub invariant-loop-answer : goal.invariant-loop-answer
invariant-loop-answer l = map view l.list.items ≡ map answer_data (take l.answer-index l.answers)
