use Rattle.std.proofs.Common.{◌≡◌, ◌∙◌, ℕ, None, Some, refl, rules, sym}
use Rattle.std.proofs.lemmas.Bool.{both_ways}
use Rattle.std.proofs.lemmas.List.{take_rest}
use Rattle.ssb_journal.specs.Heads.{IsNewer}
use Rattle.ssb_journal.proofs.NewerLaws.{digits_are, has_end, is_read, newer_text, no_words, some_is, none_is}
use Rattle.ssb_journal.proofs.head.newer_form.Goals as goal

pub returns-then-not-starts_with : goal.returns-then-not-starts_with
returns-then-not-starts_with c = λ number newer.
    no_words c.args.text.now number newer (sym c.starts_with.ensures.value ∙ c.if-not-starts_with.true)

pub returns-in_err-end : goal.returns-in_err-end
returns-in_err-end c =
    let is : c.from_residual.result ≡ None = search rules in
    let none : c.memchr.result ≡ None = search rules in
    let no : (number : ℕ) → IsNewer number c.args.text.now → ⊥ = λ number newer.
    has_end c.args.text.now number newer _ (take_rest c.args.text.now 17) c.memchr.result c.memchr.ensures none in
    rw is no

pub returns-in_err-form : goal.returns-in_err-form
returns-in_err-form c =
    let is : c.from_residual-in_err-form.result ≡ None = search rules in
    let none : c.number.result ≡ None = search rules in
    let here : c.memchr.result ≡ Some c.in_ok-end.end = search rules in
    let no : (number : ℕ) → IsNewer number c.args.text.now → ⊥ = λ number newer.
    none_is number (sym none ∙ c.number.ensures ∙ is_read c.args.text.now number newer _ (take_rest c.args.text.now 17)
    c.memchr.result c.memchr.ensures _ c.in_ok-end.end here refl) in
    rw is no

pub returns-then-is_newer : goal.returns-then-is_newer
returns-then-is_newer c =
    let here : c.memchr.result ≡ Some c.in_ok-end.end = search rules in
    let is = c.is_newer.ensures.yes c.if-is_newer.true in
    newer_text c.args.text.now _ _ c.memchr.result c.in_ok-end.end c.in_ok-form.form
    (sym c.starts_with.ensures.value ∙ c.if-not-starts_with.false) (take_rest c.args.text.now 17) c.memchr.ensures here
    refl is.0 is.1 is.2

pub returns-else-is_newer : goal.returns-else-is_newer
returns-else-is_newer c =
    let here : c.memchr.result ≡ Some c.in_ok-end.end = search rules in
    let some : c.number.result ≡ Some c.in_ok-form.form = search rules in
    λ number newer.
    let form : c.in_ok-form.form ≡ number = some_is _ _ (sym some ∙ c.number.ensures ∙ is_read c.args.text.now number newer
    _ (take_rest c.args.text.now 17) c.memchr.result c.memchr.ensures _ c.in_ok-end.end here refl) in
    let digits = digits_are c.args.text.now number newer _ (take_rest c.args.text.now 17) c.memchr.result
    c.memchr.ensures _ c.in_ok-end.end here refl in
    both_ways _ c.if-is_newer.false (c.is_newer.ensures.no (rw form newer.newer) (rw form digits))
