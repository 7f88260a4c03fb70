use Rattle.ssb_script.proofs.NextLaws.{found_next_of, too_long_of}
use Rattle.ssb_script.proofs.cutting.next_request.Goals as goal

pub returns-clause-next : goal.returns-clause-next
returns-clause-next g c =
    found_next_of c.take_request.result (g.R.Read.remaining c.args.reader.now)
    (g.R.Read.remaining c.take_request.new.reader) c.take_request.new.request.items c.take_request.ensures.taken
    c.take_request.ensures.found

pub returns-clause-too_long : goal.returns-clause-too_long
returns-clause-too_long g c =
    too_long_of c.take_request.result c.args.limit (g.R.Read.remaining c.args.reader.now)
    (g.R.Read.remaining c.take_request.new.reader) c.take_request.new.request.items c.take_request.ensures.taken
    c.take_request.ensures.fault
