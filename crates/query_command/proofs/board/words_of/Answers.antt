use Rattle.std.proofs.Common.{Bor, List, ℕ, arith, map}
use Rattle.csv.specs.Records.{fields_of}
use Rattle.query_command.specs.Board.{words_of}
use Rattle.query_command.proofs.BoardLaws.{words_all, words_more}
use Rattle.query_command.proofs.board.words_of.Goals as goal

pub loop-place-preserved : goal.loop-place-preserved
loop-place-preserved c =
    let fields = fields_of c.args.fields.now in
    words_more fields c.loop-place.place c.loop-place.words.items c.push.new.self.items c.in-Some.word
    (words_of fields) (omega arith) c.in_ok-push.ensures.items c.in-Some.ensures c.loop-place.invariant

pub returns : goal.returns
returns c =
    let fields = fields_of c.args.fields.now in
    words_all fields c.loop-place.place (map (λ (w : Bor (List ℕ)). w.now) c.loop-place.words.items)
    (words_of fields) (omega arith) c.loop-place.invariant
