use Rattle.stream_sessions.proofs.fault_line.write_schema_fault.Goals as goal

pub returns-in-LineRepeated : goal.returns-in-LineRepeated
returns-in-LineRepeated g c =
    rw c.in-LineRepeated.is (rw c.from.ensures at c.write_pieces-in-LineRepeated.ensures)

pub returns-in-NoActions : goal.returns-in-NoActions
returns-in-NoActions g c = rw c.in-NoActions.is c.write_pieces-in-NoActions.ensures

pub returns-in-TooManyActions : goal.returns-in-TooManyActions
returns-in-TooManyActions g c = rw c.in-TooManyActions.is c.write_pieces-in-TooManyActions.ensures

pub returns-in-KeyRepeated : goal.returns-in-KeyRepeated
returns-in-KeyRepeated g c =
    rw c.in-KeyRepeated.is (rw c.name.ensures at c.write_pieces-in-KeyRepeated.ensures)

pub returns-in-UnknownKey : goal.returns-in-UnknownKey
returns-in-UnknownKey g c =
    rw c.in-UnknownKey.is (rw c.name-in-UnknownKey.ensures at c.write_pieces-in-UnknownKey.ensures)

pub returns-in-TooManyRows : goal.returns-in-TooManyRows
returns-in-TooManyRows g c =
    rw c.in-TooManyRows.is (rw c.name-in-TooManyRows.ensures at c.write_pieces-in-TooManyRows.ensures)

pub returns-in-OutOfRange : goal.returns-in-OutOfRange
returns-in-OutOfRange g c =
    rw c.in-OutOfRange.is (rw c.name-in-OutOfRange.ensures at c.write_pieces-in-OutOfRange.ensures)

pub returns-in-FieldTooLong : goal.returns-in-FieldTooLong
returns-in-FieldTooLong g c =
    rw c.in-FieldTooLong.is (rw c.name-in-FieldTooLong.ensures at c.write_pieces-in-FieldTooLong.ensures)
