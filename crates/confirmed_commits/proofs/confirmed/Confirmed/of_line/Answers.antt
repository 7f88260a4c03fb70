use Rattle.std.proofs.Common.{ap, refl, true, ◌≡◌, ◌∙◌, not, nat_eq, subst, sym, decimal, Ok}
use Rattle.std.proofs.lemmas.Slice.Eq.{slice_eq-Decides}
use Rattle.std.specs.Cmp.{unsigned_Decides}
use Rattle.std.specs.Cmp.Lexicographic.{pointwise}
use Rattle.std.proofs.lemmas.Fmt.{IsAscii-decimal, parse-decimal}
use Rattle.std.proofs.lemmas.Str.{IsUtf8-from_ascii}
use Rattle.std.specs.Str.{IsUtf8}
use Rattle.confirmed_commits.proofs.confirmed.Confirmed.of_line.Goals as goal

pub returns-in_default-clause-each : goal.returns-in_default-clause-each
returns-in_default-clause-each c number small is =
    let rest : c.in_ok-number.number.now ≡ decimal number =
    rw (c.as_slice.ensures, is) at c.in_ok-number.ensures.cases.1 in
    absurd (c.in_default.ensures.cases.0 (subst IsUtf8 (sym rest) (IsUtf8-from_ascii (decimal number)
    (IsAscii-decimal number small))))

pub returns-in_default-parse-clause-each : goal.returns-in_default-parse-clause-each
returns-in_default-parse-clause-each c number small is =
    let rest : c.in_ok-number.number.now ≡ decimal number =
    rw (c.as_slice.ensures, is) at c.in_ok-number.ensures.cases.1 in
    absurd (c.in_default-parse.not-Ok number (parse-decimal 64 number c.in-Ok.text.now c.parse.result small small
    (c.in-Ok.ensures.cases.0 ∙ rest) c.parse.ensures.value.0))

pub returns-then-ne-clause-each : goal.returns-then-ne-clause-each
returns-then-ne-clause-each c number small is =
    let rest : c.in_ok-number.number.now ≡ decimal number =
    rw (c.as_slice.ensures, is) at c.in_ok-number.ensures.cases.1 in
    let read : c.parse.result ≡ Ok number = parse-decimal 64 number c.in-Ok.text.now c.parse.result small small
    (c.in-Ok.ensures.cases.0 ∙ rest) c.parse.ensures.value.0 in
    let commits : c.in-Ok-parse.commits ≡ number = cc in
    let same : c.as_bytes.result.now ≡ c.in_ok-number.number.now =
    c.as_bytes.ensures.value ∙ c.format.ensures.text ∙ ap decimal commits ∙ sym rest in
    let test : pointwise nat_eq c.as_bytes.result.now c.in_ok-number.number.now ≡ true =
    (slice_eq-Decides unsigned_Decides c.as_bytes.result.now c.in_ok-number.number.now _ refl).1 same in
    sym (c.if-ne.ensures ∙ ap not test)
