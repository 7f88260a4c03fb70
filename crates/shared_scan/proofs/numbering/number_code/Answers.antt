use Rattle.std.proofs.Common.{◌≡◌, ◌<◌, length, get_or, arith, sym, ◌∙◌}
use Rattle.std.proofs.lemmas.List.{get_or_read}
use Rattle.shared_scan.proofs.NumberingLaws.{numbered_more}
use Rattle.shared_scan.proofs.numbering.number_code.Goals as goal

pub returns-in_ok-push-clause-is : goal.returns-in_ok-push-clause-is
returns-in_ok-push-clause-is c =
    let numbers = c.args.numbering.now.numbers.items in
    let kept = c.args.numbering.now.kept.items in
    let inside : c.args.code < length numbers = omega (arith, c.requires.code, c.args.numbering.now.numbers.ok) in
    let n : length kept ≡ c.len-number.result = omega (arith, c.len-number.ensures, c.args.numbering.now.kept.ok) in
    let few : length kept < 4294967295 = omega (arith, c.requires.room, c.args.numbering.now.kept.ok) in
    let none : get_or numbers c.args.code 0 ≡ 4294967295 =
    sym (get_or_read numbers c.args.code c.index.result.now inside c.index.ensures 0) ∙ c.if-index.true in
    rw (c.in_ok-push.ensures.items, ← n) (numbered_more numbers kept c.args.code inside none few c.requires.was)
