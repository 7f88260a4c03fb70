use Rattle.std.proofs.Common.{◌≡◌, ◌∙◌, ◌<◌, ◌^◌, ℕ, None, Some, rules, sym}
use Rattle.std.specs.Prelude.{decimal}
use Rattle.std.proofs.lemmas.Bool.{both_ways}
use Rattle.std.proofs.lemmas.Bool.Decides.{Decides-eqb}
use Rattle.std.proofs.lemmas.Slice.Eq.{strip_prefix_is}
use Rattle.store_folder.specs.Texts.{name_of}
use Rattle.store_folder.proofs.LineLaws.{digits_are, none_is, number_is, some_is}
use Rattle.store_folder.proofs.file_name.number_in.Goals as goal

pub returns-in_err-digits : goal.returns-in_err-digits
returns-in_err-digits c =
    let is : c.from_residual.result ≡ None = search rules in
    let none : c.strip_prefix.result ≡ None = search rules in
    let cases = rw none at (strip_prefix_is Decides-eqb c.args.name.now c.args.begin.now c.strip_prefix.result c.strip_prefix.ensures.cases) in
    let no : (n : ℕ) → n < 2 ^ 64 → c.args.name.now ≡ name_of c.args.begin.now n → ⊥ = λ n small named. cases (decimal n) named in
    rw is no

pub returns-in_err-found : goal.returns-in_err-found
returns-in_err-found c =
    let is : c.from_residual-in_err-found.result ≡ None = search rules in
    let none : c.number.result ≡ None = search rules in
    let here : c.strip_prefix.result ≡ Some c.in_ok-digits.digits = search rules in
    let cases = rw here at (strip_prefix_is Decides-eqb c.args.name.now c.args.begin.now c.strip_prefix.result c.strip_prefix.ensures.cases) in
    let no : (n : ℕ) → n < 2 ^ 64 → c.args.name.now ≡ name_of c.args.begin.now n → ⊥ = λ n small named.
    none_is n (sym none ∙ c.number.ensures ∙ number_is _ n small (digits_are c.args.name.now c.args.begin.now _ n cases named)) in
    rw is no

pub returns-then-are_digits : goal.returns-then-are_digits
returns-then-are_digits c =
    let here : c.strip_prefix.result ≡ Some c.in_ok-digits.digits = search rules in
    let cases = rw here at (strip_prefix_is Decides-eqb c.args.name.now c.args.begin.now c.strip_prefix.result c.strip_prefix.ensures.cases) in
    rw (sym (c.are_digits.ensures.0 c.if-are_digits.true)) cases

pub returns-else-are_digits : goal.returns-else-are_digits
returns-else-are_digits c =
    let here : c.strip_prefix.result ≡ Some c.in_ok-digits.digits = search rules in
    let some : c.number.result ≡ Some c.in_ok-found.found = search rules in
    let cases = rw here at (strip_prefix_is Decides-eqb c.args.name.now c.args.begin.now c.strip_prefix.result c.strip_prefix.ensures.cases) in
    λ n small named.
    let digits = digits_are c.args.name.now c.args.begin.now _ n cases named in
    let same : c.in_ok-found.found ≡ n = some_is _ _ (sym some ∙ c.number.ensures ∙ number_is _ n small digits) in
    both_ways _ c.if-are_digits.false (c.are_digits.ensures.1 (rw same digits))
