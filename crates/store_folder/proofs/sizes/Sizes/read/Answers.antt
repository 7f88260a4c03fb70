use Rattle.std.proofs.Common.{◌≡◌, ◌∙◌, List, ℕ, ap, drop, sym}
use Rattle.std.proofs.lemmas.Bool.{both_ways}
use Rattle.std.proofs.lemmas.Bool.Decides.{Decides-eqb}
use Rattle.std.proofs.lemmas.List.{take_rest}
use Rattle.std.proofs.lemmas.Slice.Eq.{slice_eq-Decides}
use Rattle.ssb_journal.specs.Seals.{sealed}
use Rattle.ssb_journal.proofs.SealLaws.{drop-sealed, short_not_sealed}
use Rattle.store_folder.specs.Texts.{tables_text}
use Rattle.store_folder.proofs.sizes.Sizes.read.Goals as goal

pub returns-then-bytes-lt-CHECKSUM_LINE-clause-read_back : goal.returns-then-bytes-lt-CHECKSUM_LINE-clause-read_back
returns-then-bytes-lt-CHECKSUM_LINE-clause-read_back c = λ after store lines small one same.
    absurd (short_not_sealed c.args.bytes.now c.if-bytes-lt-CHECKSUM_LINE.true (tables_text after store lines) same)

pub returns-in_default-clause-read_back : goal.returns-in_default-clause-read_back
returns-in_default-clause-read_back c = λ after store lines small one same.
    absurd (rw c.in_default.is at (c.in_ok-sizes.ensures after store lines small one
    (take_rest c.args.bytes.now 33 ∙ ap (drop 33) same ∙ drop-sealed (tables_text after store lines))))

pub returns-then-eq-clause-read_back : goal.returns-then-eq-clause-read_back
returns-then-eq-clause-read_back c = λ after store lines small one same.
    rw c.in-Some.is at (c.in_ok-sizes.ensures after store lines small one
    (take_rest c.args.bytes.now 33 ∙ ap (drop 33) same ∙ drop-sealed (tables_text after store lines)))

pub returns-else-eq-clause-read_back : goal.returns-else-eq-clause-read_back
returns-else-eq-clause-read_back c = λ after store lines small one same.
    let sizes = c.in-Some.sizes in
    let read = rw c.in-Some.is at (c.in_ok-sizes.ensures after store lines small one
    (take_rest c.args.bytes.now 33 ∙ ap (drop 33) same ∙ drop-sealed (tables_text after store lines))) in
    let equal : tables_text sizes.after sizes.of.items sizes.lines.items ≡ tables_text after store lines =
    ap (λ (n : ℕ). tables_text n sizes.of.items sizes.lines.items) read.0
    ∙ ap (λ (l : List ℕ). tables_text after l sizes.lines.items) read.1 ∙ ap (tables_text after store) read.2 in
    absurd (both_ways _ c.if-eq.false
    ((slice_eq-Decides Decides-eqb c.as_slice.result.now c.args.bytes.now c.eq.result c.eq.ensures).1
    (c.as_slice.ensures.value ∙ c.in_ok-text.ensures ∙ ap sealed equal ∙ sym same)))
