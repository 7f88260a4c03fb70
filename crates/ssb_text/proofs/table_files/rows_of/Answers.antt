use Rattle.std.proofs.Common.{◌≡◌, true, false, inl, inr, ⊎_elim, rules}
use Rattle.ssb_text.specs.Layouts.{IsHeadsFault}
use Rattle.ssb_text.proofs.LayoutLaws.{below_heads, below_none, no_rows}
use Rattle.ssb_text.proofs.table_files.rows_of.Goals as goal

pub returns-then-not-layout-clause-rows : goal.returns-then-not-layout-clause-rows
returns-then-not-layout-clause-rows g c = λ text is.
    let none : c.args.layout.has_heads ≡ false = search rules in
    rw (c.new.ensures.reader, c.new.ensures.delimiter)
    (below_none c.args.layout c.args.table (g.R.Read.remaining c.args.file) text none is)

pub returns-in_err-read_heads-clause-fault : goal.returns-in_err-read_heads-clause-fault
returns-in_err-read_heads-clause-fault g c =
    let layout = c.args.layout in
    let known = g.R.Read.remaining c.args.file in
    let has : layout.has_heads ≡ true = search rules in
    let e = c.in_err-read_heads.field-0.0 in
    let here : IsHeadsFault layout c.args.table known e =
    ⊎_elim (λ failed. inl failed) (λ told. inr (told.0, no_rows layout c.args.table known has told.1))
    c.in_err-read_heads.ensures.fault in
    search rules

pub returns-clause-rows : goal.returns-clause-rows
returns-clause-rows g c = λ text is.
    let has : c.args.layout.has_heads ≡ true = search rules in
    rw (c.new-2.ensures.reader, c.new-2.ensures.delimiter)
    (below_heads c.args.layout c.args.table (g.R.Read.remaining c.args.file)
    (g.R.Read.remaining c.read_heads.new.reader) text has c.in_ok-read_heads.ensures.heads is)
