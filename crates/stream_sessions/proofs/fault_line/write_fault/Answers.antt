use Rattle.std.proofs.Common.{[], ◌∷◌, codes, decimal}
use Rattle.std.specs.List.{concat}
use Rattle.stream_sessions.specs.FaultLine.{schema_text, sql_text}
use Rattle.ssb_text.proofs.WrittenLaws.{writes_stopped, writes_next, part_longer}
use Rattle.stream_sessions.proofs.fault_line.write_fault.Goals as goal

pub returns-in-NoCommit : goal.returns-in-NoCommit
returns-in-NoCommit g c = rw c.in-NoCommit.is c.write_pieces-in-NoCommit.ensures

pub returns-in-NoAnswer : goal.returns-in-NoAnswer
returns-in-NoAnswer g c = rw c.in-NoAnswer.is c.write_pieces-in-NoAnswer.ensures

pub returns-in-TooManyQuestions : goal.returns-in-TooManyQuestions
returns-in-TooManyQuestions g c = rw c.in-TooManyQuestions.is c.write_pieces-in-TooManyQuestions.ensures

pub returns-in-EmptyBlock : goal.returns-in-EmptyBlock
returns-in-EmptyBlock g c = rw c.in-EmptyBlock.is c.write_pieces-in-EmptyBlock.ensures

pub returns-in_err-write_pieces-in-Row : goal.returns-in_err-write_pieces-in-Row
returns-in_err-write_pieces-in-Row g c =
    let contents = g.W.Write.contents in
    let a = contents c.args.writer.now in
    let b = contents c.write_pieces-in-Row.new.writer in
    let head = concat (codes "73 Row " ∷ decimal c.in-Row.record ∷ codes " " ∷ []) in
    writes_stopped _ c.from_residual.result a b _ c.from_residual.ensures.1
    (rw c.in-Row.is (part_longer a b head (schema_text c.in-Row.why) c.in_err-write_pieces-in-Row.ensures))

pub returns-in_ok-write_pieces-in-Row : goal.returns-in_ok-write_pieces-in-Row
returns-in_ok-write_pieces-in-Row g c =
    let contents = g.W.Write.contents in
    let a = contents c.args.writer.now in
    let b = contents c.write_pieces-in-Row.new.writer in
    let head = concat (codes "73 Row " ∷ decimal c.in-Row.record ∷ codes " " ∷ []) in
    rw c.in-Row.is (writes_next a b _ head (schema_text c.in-Row.why) c.write_schema_fault.result
    c.in_ok-write_pieces-in-Row.ensures c.write_schema_fault.ensures)

pub returns-in_err-write_pieces-in-Sql : goal.returns-in_err-write_pieces-in-Sql
returns-in_err-write_pieces-in-Sql g c =
    let contents = g.W.Write.contents in
    let a = contents c.args.writer.now in
    let b = contents c.write_pieces-in-Sql.new.writer in
    let head = concat (codes "79 Sql " ∷ decimal c.in-Sql.record ∷ codes " " ∷ []) in
    writes_stopped _ c.from_residual-in_err-write_pieces-in-Sql.result a b _
    c.from_residual-in_err-write_pieces-in-Sql.ensures.1
    (rw c.in-Sql.is (part_longer a b head (sql_text c.in-Sql.why) c.in_err-write_pieces-in-Sql.ensures))

pub returns-in_ok-write_pieces-in-Sql : goal.returns-in_ok-write_pieces-in-Sql
returns-in_ok-write_pieces-in-Sql g c =
    let contents = g.W.Write.contents in
    let a = contents c.args.writer.now in
    let b = contents c.write_pieces-in-Sql.new.writer in
    let head = concat (codes "79 Sql " ∷ decimal c.in-Sql.record ∷ codes " " ∷ []) in
    rw c.in-Sql.is (writes_next a b _ head (sql_text c.in-Sql.why) c.write_sql_fault.result
    c.in_ok-write_pieces-in-Sql.ensures c.write_sql_fault.ensures)
