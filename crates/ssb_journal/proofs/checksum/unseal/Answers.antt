use Rattle.std.proofs.Common.{◌≡◌, length, ◌-◌, take, drop, refl, sym, ◌∙◌, ap, rules}
use Rattle.std.proofs.lemmas.List.{take_rest}
use Rattle.ssb_journal.specs.Seals.{checksum_line, sealed}
use Rattle.ssb_journal.proofs.SealLaws.{sealed_here, not_sealed_here, short_not_sealed}
use Rattle.ssb_journal.proofs.checksum.unseal.Goals as goal

pub returns-then-group-lt-CHECKSUM_LINE : goal.returns-then-group-lt-CHECKSUM_LINE
returns-then-group-lt-CHECKSUM_LINE c = short_not_sealed c.args.group.now c.if-group-lt-CHECKSUM_LINE.true

pub returns-then-starts_with : goal.returns-then-starts_with
returns-then-starts_with c =
    let group = c.args.group.now in
    let line = c.checksum_line-line.ensures ∙ ap checksum_line (take_rest group 33) in
    let copied : c.in_ok-to_vec.field-0.items ≡ take (length group - 33) (drop 33 group) = search rules in
    sealed_here group (drop 33 group) c.checksum_line-line.result refl line
    (sym c.starts_with.ensures.value ∙ c.if-starts_with.true) ∙ ap sealed (sym (copied ∙ take_rest group 33))

pub returns : goal.returns
returns c =
    let group = c.args.group.now in
    let line = c.checksum_line-line.ensures ∙ ap checksum_line (take_rest group 33) in
    not_sealed_here group (drop 33 group) c.checksum_line-line.result refl line
    (sym c.starts_with.ensures.value ∙ c.if-starts_with.false)
