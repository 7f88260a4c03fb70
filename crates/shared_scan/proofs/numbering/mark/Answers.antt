use Rattle.std.proofs.Common.{◌<◌, length, get_or, bit_or, arith}
use Rattle.std.proofs.lemmas.List.{length-set}
use Rattle.shared_scan.proofs.NumberingLaws.{mark_more, mark_only}
use Rattle.shared_scan.proofs.numbering.mark.Goals as goal

pub loop-row-preserved : goal.loop-row-preserved
loop-row-preserved c =
    let seen = c.loop-row.seen in
    let codes = c.args.codes.now in
    let row = c.loop-row.row in
    let within : get_or codes row 0 < length seen = omega
    (arith, c.requires.within row 0 c.loop-row-test.true, c.loop-row.invariant.len) in
    record {
      len = omega (
        arith,
        length-set seen (get_or codes row 0)
            (bit_or (get_or seen (get_or codes row 0) 0) (get_or c.args.masks.now row 0)),
        c.loop-row.invariant.len,
      );
      each = mark_more seen codes c.args.masks.now row within c.loop-row.invariant.each;
      only = mark_only c.args.seen.now seen codes c.args.masks.now row within c.loop-row-test.true
          c.loop-row.invariant.only;
    }
