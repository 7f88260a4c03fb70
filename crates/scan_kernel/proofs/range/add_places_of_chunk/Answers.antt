use Rattle.std.proofs.Common.{◌≤◌, length, length-take, take, arith}
use Rattle.std.specs.Prelude.{vec_len}
use Rattle.scan_kernel.proofs.DealtLaws.{lists_fewer}
use Rattle.scan_kernel.proofs.range.add_places_of_chunk.Goals as goal

pub add_found-requires-clause-room : goal.add_found-requires-clause-room
add_found-requires-clause-room c =
    let room = c.args.room.now in
    let all = c.deref.result.now in
    let found = length (take c.search-count.result all) in
    let fewer : found ≤ vec_len room.places = omega (arith, length-take c.search-count.result all, c.deref.ensures.len) in
    record {
      lists = lists_fewer (vec_len room.places) found room.dealt.lists.items fewer c.requires.room.dealt.lists;
      groups = omega (arith, fewer, c.requires.room.dealt.groups);
    }
