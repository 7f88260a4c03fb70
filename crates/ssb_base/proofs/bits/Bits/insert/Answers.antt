use Rattle.std.proofs.Common.{◌≡◌, ◌/◌, ◌<◌, length, get_or, arith}
use Rattle.std.proofs.lemmas.Grind.{get_or_default_zero}
use Rattle.ssb_base.proofs.BitLaws.{one_more}
use Rattle.ssb_base.proofs.bits.Bits.insert.Goals as goal

pub returns-clause-set : goal.returns-clause-set
returns-clause-set c =
    let words = c.args.self.now.words.items in
    let word = c.index_mut.result.now in
    let within : c.args.number / 64 < length words = omega (arith, c.requires) in
    let read = c.index_mut.ensures.value in
    let zero = get_or_default_zero words (c.args.number / 64) word within in
    let at : get_or words (c.args.number / 64) 0 ≡ word = cc in
    one_more words c.args.number within word at
