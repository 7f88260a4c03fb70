use Rattle.std.proofs.Common.{◌≡◌, ◌≢◌, ℕ, arith, rules, subst}
use Rattle.std.specs.Io.KnownBytes.{IsAtEnd}
use Rattle.ssb_text.specs.Layouts.{most_heads, parts}
use Rattle.ssb_text.proofs.HeadsLaws.{ReadsLine, line_begun, line_more, no_line_left, no_short_line}
use Rattle.ssb_text.proofs.heads.parts_of_line.Goals as goal

pub loop-init : goal.loop-init
loop-init g c = line_begun c.args.delimiter (g.R.Read.remaining c.args.reader.now)

pub loop-preserved : goal.loop-preserved
loop-preserved g c =
    let byte = c.in-Some.byte in
    let no_feed : byte ≢ 10 = search rules in
    line_more c.args.delimiter (g.R.Read.remaining c.args.reader.now) (g.R.Read.remaining c.loop.reader)
    (g.R.Read.remaining c.next_byte.new.reader) c.loop.counter c.loop.parts _ byte c.loop.invariant
    (rw c.in-Some.is at c.in_ok-byte.ensures) no_feed (omega (arith, c.count_part-parts.ensures))

pub returns-in_default : goal.returns-in_default
returns-in_default g c =
    let ended : IsAtEnd (g.R.Read.remaining c.loop.reader) = search rules in
    no_line_left c.args.delimiter (g.R.Read.remaining c.args.reader.now) (g.R.Read.remaining c.loop.reader)
    c.loop.counter c.loop.parts c.loop.invariant ended

pub returns : goal.returns
returns g c =
    let old = g.R.Read.remaining c.args.reader.now in
    let mid = g.R.Read.remaining c.loop.reader in
    let all : c.loop.counter ≡ most_heads = omega arith in
    no_short_line c.args.delimiter old mid c.loop.parts
    (subst (λ (n : ℕ). ReadsLine c.args.delimiter old mid n c.loop.parts) all c.loop.invariant)
