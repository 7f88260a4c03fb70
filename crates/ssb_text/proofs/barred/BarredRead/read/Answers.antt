use Rattle.std.proofs.Common.{◌≡◌, Err, rules}
use Rattle.ssb_text.proofs.LayoutLaws.{barred_kept, barred_read}
use Rattle.ssb_text.proofs.barred.BarredRead.read.Goals as goal

pub returns-clause-bytes : goal.returns-clause-bytes
returns-clause-bytes g c =
    let old = c.args.self.now in
    let read = c.in_ok-count.ensures in
    rw c.put_bars.ensures
    (barred_read old.delimiter (g.R.Read.remaining old.reader) (g.R.Read.remaining c.read.new.self) c.read.new.buf
    c.in_ok-count.count read.bound.0 read.bytes.0 read.bytes.1)

pub returns-in_err-count-clause-bytes : goal.returns-in_err-count-clause-bytes
returns-in_err-count-clause-bytes g c =
    let old = c.args.self.now in
    let is : c.from_residual.result ≡ Err c.in_err-count.field-0.0 = search rules in
    rw is (barred_kept old.delimiter (g.R.Read.remaining old.reader) (g.R.Read.remaining c.read.new.self)
    c.in_err-count.ensures.bytes)
