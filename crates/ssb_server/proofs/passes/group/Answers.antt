use Rattle.std.proofs.Common.{rules, ◌≡◌, length, take, drop, ap, ◌∙◌, arith}
use Rattle.std.proofs.lemmas.List.{length-drop}
use Rattle.std.specs.Prelude.{vec_len}
use Rattle.ssb_server.proofs.PassLaws.{group_next, count_next}
use Rattle.ssb_server.proofs.passes.group.Goals as goal

pub split_off-requires : goal.split_off-requires
split_off-requires c =
    let long : vec_len c.loop-request.rest ≡ length c.loop-request.rest.items = search rules in
    let count = count_next c.args.requests.now c.loop-request.request-index c.request-item.result
    (length c.loop-request.rest.items) c.loop-request-test.true c.request-item.is c.loop-request.invariant.count in
    omega (arith, long, count, c.len.ensures)

pub loop-request-preserved : goal.loop-request-preserved
loop-request-preserved c =
    let inv = c.loop-request.invariant in
    let count = count_next c.args.requests.now c.loop-request.request-index c.request-item.result
    (length c.loop-request.rest.items) c.loop-request-test.true c.request-item.is inv.count in
    let after = c.replace-own.ensures.after in
    let left : c.replace-own.new.dest.items ≡ c.in_ok-later.later.items = cc in
    let size : c.len.result ≡ length c.request-item.result = c.len.ensures in
    let value = c.replace-own.ensures.value in
    let head = c.in_ok-later.ensures.items in
    let own : c.replace-own.result.items ≡ take (length c.request-item.result) c.loop-request.rest.items = cc in
    let later : c.replace-own.new.dest.items ≡ drop (length c.request-item.result) c.loop-request.rest.items =
    left ∙ c.in_ok-later.ensures.tail ∙ ap (λ n. drop n c.loop-request.rest.items) size in
    let made = c.in_ok-join_rows.ensures in
    let grown = c.in_ok-push.ensures.items in
    record {
      count = omega (
        arith,
        count,
        c.len.ensures,
        ap length left,
        ap length c.in_ok-later.ensures.tail,
        length-drop c.len.result c.loop-request.rest.items,
      );
      groups = group_next c.args.requests.now c.loop-request.request-index c.request-item.result
          c.loop-request.rest.items c.replace-own.result.items c.replace-own.new.dest.items c.loop-request.found.items
          c.push.new.self.items _ c.in_ok-join_rows.field-0 c.loop-request-test.true c.request-item.is own later made
          grown inv.groups;
    }
