use Rattle.std.proofs.Common.{◌≡◌, ◌<◌, ◌≤◌, ◌+◌, ◌++◌, true, map, length, length-append, arith, rules}
use Rattle.std.proofs.lemmas.List.{length-map, map-append}
use Rattle.std.specs.Result.{is_ok}
use Rattle.ssb_schema.specs.Rows.{line_values}
use Rattle.ssb_schema.specs.declared.table.Table.TheVariants as table
use Rattle.ssb_text.specs.Tables.{in_row}
use Rattle.ssb_text.specs.Parsing.{IsParsed}
use Rattle.ssb_text.proofs.JoiningLaws.{begun_until, joins_one, stops_at_limit, stops_in_row, stops_many}
use Rattle.ssb_text.proofs.joining.join_block.Goals as goal

pub returns-then-len-limit-clause-stops : goal.returns-then-len-limit-clause-stops
returns-then-len-limit-clause-stops c =
    let old = map line_values c.args.lines.now.items in
    let more = map line_values c.args.parsed.lines.items in
    let good : is_ok c.append.result ≡ true = search rules in
    let len = rw good at c.append.ensures.len in
    let many : c.args.limit < length (old ++ more) = omega (
      arith,
      len,
      length-append old more,
      length-map c.args.lines.now.items line_values,
      length-map c.args.parsed.lines.items line_values,
      c.args.lines.now.ok,
      c.args.parsed.lines.ok,
    ) in
    rw c.too_many.ensures (stops_many IsParsed c.args.parsed c.args.limit old more (λ block parsed.
    begun_until block more c.args.parsed.fault parsed) many)

pub returns-in-None-clause-joined : goal.returns-in-None-clause-joined
returns-in-None-clause-joined c =
    let old = map line_values c.args.lines.now.items in
    let more = map line_values c.args.parsed.lines.items in
    let good : is_ok c.append.result ≡ true = search rules in
    let items = rw good at c.append.ensures.items in
    rw (items, map-append line_values c.args.lines.now.items c.args.parsed.lines.items)
    (joins_one IsParsed c.args.parsed old more (λ block parsed. rw c.in-None.is at parsed))

pub returns-in-Some-clause-stops : goal.returns-in-Some-clause-stops
returns-in-Some-clause-stops c =
    let old = map line_values c.args.lines.now.items in
    let more = map line_values c.args.parsed.lines.items in
    let good : is_ok c.append.result ≡ true = search rules in
    let len = rw good at c.append.ensures.len in
    let full : length (old ++ more) ≡ c.args.limit = omega (
      arith,
      len,
      length-append old more,
      length-map c.args.lines.now.items line_values,
      length-map c.args.parsed.lines.items line_values,
      c.args.lines.now.ok,
      c.args.parsed.lines.ok,
    ) in
    rw c.too_many-in-Some.ensures (stops_at_limit IsParsed c.args.parsed c.args.limit old more _ (λ block parsed.
    rw c.in-Some.is at parsed) full)

pub returns-clause-stops : goal.returns-clause-stops
returns-clause-stops c =
    let old = map line_values c.args.lines.now.items in
    let more = map line_values c.args.parsed.lines.items in
    let good : is_ok c.append.result ≡ true = search rules in
    let len = rw good at c.append.ensures.len in
    let count : length (old ++ more) + 1 ≡ c.len-in-Some-2.result + 1 = omega (
      arith,
      len,
      length-append old more,
      length-map c.args.lines.now.items line_values,
      length-map c.args.parsed.lines.items line_values,
      c.args.lines.now.ok,
      c.args.parsed.lines.ok,
    ) in
    let few : length (old ++ more) + 1 ≤ c.args.limit = omega (arith, count, c.if-len-limit.false) in
    let is : c.in_row.result ≡ in_row table.Lineorder (length (old ++ more) + 1) c.in-Some-2.fault =
    rw count c.in_row.ensures in
    rw is (stops_in_row IsParsed c.args.parsed c.args.limit old more c.in-Some-2.fault (λ block parsed.
    rw c.in-Some-2.is at parsed) few)
