use Rattle.std.proofs.Common.{rules, ◌≡◌, List, length, get_or, sym, ap, ◌∙◌, arith, subst}
use Rattle.std.proofs.lemmas.List.{length-map}
use Rattle.ssb_base.specs.Base.{Dimensions}
use Rattle.ssb_schema.specs.declared.line.LineFields.{LineFields}
use Rattle.ssb_schema.specs.Facts.{fact_of, facts_of}
use Rattle.row_store.specs.State.{fact_counts}
use Rattle.fact_columns.specs.Laid.{StandsAt, lines_at, no_line}
use Rattle.fact_columns.specs.Loading.{IsLoaded}
use Rattle.fact_columns.proofs.CodingLaws.{codes_length}
use Rattle.fact_columns.proofs.LaidLaws.{laid_counts, numbers_len, spanned_laid}
use Rattle.fact_columns.proofs.LoadingLaws.{loaded_count}
use Rattle.fact_columns.proofs.columns.Columns.new.Goals as goal

pub invariant_of-result : goal.invariant_of-result
invariant_of-result g c =
    let dimensions : Dimensions = c.args.index.value.dimensions in
    let lines : List LineFields = c.lines-lines.result.now in
    let laid = c.in_ok-table.field-0 in
    let places = laid.table.places in
    let is : IsLoaded dimensions lines laid = rw c.in_ok-table.was at c.join-laid.ensures.first in
    let as_many : length (facts_of (lines_at lines is.numbers)) ≡ length lines =
    length-map (lines_at lines is.numbers) fact_of
    ∙ length-map is.numbers (λ number. get_or lines number no_line) ∙ numbers_len (length lines) is.numbers is.each in
    let count : length places ≡ length lines =
    codes_length dimensions (facts_of (lines_at lines is.numbers)) places is.codes ∙ as_many in
    let limit = c.base-base.result.now.limits.lines_range in
    let few = c.lines-lines.ensures.sound.few in
    let own = ap length c.lines-lines.ensures.lines in
    record {
      spanned = spanned_laid (record { by_key = c.in_ok-by_key.by_key; loaded = c.in_ok-loaded.loaded }) dimensions
          lines is.numbers places is.each is.codes
          (subst (StandsAt is.numbers) (sym c.in_ok-loaded.ensures.ok) is.stands)
          (rw c.in_ok-by_key.was at c.join-laid.ensures.second);
      behind = omega (
        arith,
        ap length c.in_ok-loaded.ensures.ok,
        is.stands.len,
        numbers_len (length lines) is.numbers is.each,
        count,
      );
      counted = sym (loaded_count dimensions (facts_of (lines_at lines is.numbers)) places is.codes ∙ as_many);
      within = is.codes.inside;
      few = omega (arith, count, limit, few, own);
    }

pub returns : goal.returns
returns g c =
    let dimensions : Dimensions = c.args.index.value.dimensions in
    let lines : List LineFields = c.lines-lines.result.now in
    let laid = c.in_ok-table.field-0 in
    let is : IsLoaded dimensions lines laid = rw c.in_ok-table.was at c.join-laid.ensures.first in
    let loaded : lines ≡ c.args.index.value.lines = search rules in
    let counts = laid_counts dimensions lines is.numbers laid.table.places is.each is.codes
    ∙ ap (λ l. fact_counts (facts_of l)) loaded in
    λ i. record { base = c.args.index.value; commits = 0; counts = counts i }
