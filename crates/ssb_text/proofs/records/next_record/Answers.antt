use Rattle.csv.specs.Records.{fields_of}
use Rattle.ssb_text.proofs.GivenLaws.{read_gives}
use Rattle.ssb_text.proofs.records.next_record.Goals as goal

pub returns-in-Ok-clause-next : goal.returns-in-Ok-clause-next
returns-in-Ok-clause-next g c =
    let is = c.requires in
    read_gives g.R.Read.remaining c.args.reader.now c.read_byte_record.new.self c.in-Ok.found
    (fields_of c.read_byte_record.new.row) is (c.in-Ok.ensures.reads is.trim is.ready)
