use Rattle.std.proofs.Common.{◌≡◌, ◌⊎◌, ◌+◌, ℕ, length, refl, sym, subst, inr, rules}
use Rattle.ssb_schema.specs.Columns.{kinds_of}
use Rattle.ssb_text.specs.HeadsReading.{EndsLine}
use Rattle.ssb_text.proofs.HeadsLaws.{heads_are, other_heads}
use Rattle.ssb_text.proofs.heads.read_heads.Goals as goal

pub returns-clause-heads : goal.returns-clause-heads
returns-clause-heads g c =
    let old = g.R.Read.remaining c.args.reader.now in
    let new = g.R.Read.remaining c.parts_of_line.new.reader in
    let columns = length (kinds_of c.args.table) in
    let parts = c.in-Some.parts in
    let ends : EndsLine c.args.delimiter old new parts = rw c.in-Some.is at c.in-Ok.ensures in
    let enough : (parts + 1 ≡ columns) ⊎ (parts ≡ columns) = rw c.kinds.ensures at (c.are_enough.ensures.yes (search rules)) in
    heads_are c.args.delimiter old new parts columns ends
    (λ line counted. subst (λ (n : ℕ). (n + 1 ≡ columns) ⊎ (n ≡ columns)) (sym counted) enough)

pub returns-then-not-are_enough-clause-fault : goal.returns-then-not-are_enough-clause-fault
returns-then-not-are_enough-clause-fault g c =
    let old = g.R.Read.remaining c.args.reader.now in
    let new = g.R.Read.remaining c.parts_of_line.new.reader in
    let parts = c.in-Some.parts in
    let ends : EndsLine c.args.delimiter old new parts = rw c.in-Some.is at c.in-Ok.ensures in
    let fewer = rw c.kinds.ensures at (c.are_enough.ensures.no (search rules)) in
    inr (refl, other_heads c.args.delimiter old new parts (length (kinds_of c.args.table)) ends fewer.0 fewer.1)
