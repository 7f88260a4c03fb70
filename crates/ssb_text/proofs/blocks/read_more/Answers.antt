use Rattle.std.proofs.Common.{◌≡◌, ◌∙◌, length, true, take, ap, rules}
use Rattle.std.proofs.lemmas.List.{with_items_is, places}
use Rattle.std.specs.Result.{is_ok}
use Rattle.ssb_text.proofs.BlockReadingLaws.{front_kept, reads_behind}
use Rattle.ssb_text.proofs.blocks.read_more.Goals as goal

pub returns : goal.returns
returns g c =
    let from = c.len-from.result in
    let before = c.args.bytes.now.items in
    let bytes = c.read_at.new.bytes in
    let read = c.in_ok-count.ensures in
    let long : length bytes ≡ c.resize.new.self.len = search (rules, places) in
    let count : from ≡ length before = search (rules, places) in
    let good : is_ok c.resize.result ≡ true = search rules in
    let resized = rw good at c.resize.ensures.items in
    let front : take from bytes ≡ before =
    read.front ∙ ap (take from) (c.as_mut_slice.ensures.value ∙ resized)
    ∙ front_kept before _ from _ count in
    rw (c.truncate.ensures.items, with_items_is c.resize.new.self bytes long)
    (reads_behind _ _ before bytes from c.in_ok-count.count front read.within read.bytes read.end)
