use Rattle.std.proofs.Common.{◌≡◌, ◌∙◌, ℕ, List, length, subst, sym}
use Rattle.std.specs.List.{range_with_len}
use Rattle.std.specs.List.Sorted.{IsPermutation}
use Rattle.std.proofs.lemmas.List.{length-map}
use Rattle.ssb_base.specs.Base.{Dimensions}
use Rattle.ssb_schema.specs.declared.line.LineFields.{LineFields}
use Rattle.ssb_schema.specs.Facts.{fact_of, facts_of}
use Rattle.fact_columns.specs.Coded.{AreCodesOf}
use Rattle.fact_columns.specs.Laid.{AreLaid, IsLayout, StandsAt}
use Rattle.fact_columns.proofs.CodingLaws.{codes_length}
use Rattle.fact_columns.proofs.LaidLaws.{codes_laid}
use Rattle.fact_columns.proofs.ZoneLaws.{no_place}
use Rattle.fact_columns.proofs.loading.laid_lines.Goals as goal

pub returns : goal.returns
returns g c =
    let dimensions : Dimensions = c.args.index.now.dimensions in
    let lines : List LineFields = c.args.lines.now in
    let coded = c.in_ok-columns.columns.places in
    let codes : AreCodesOf dimensions (facts_of lines) coded = c.in_ok-columns.ensures in
    let places : List ℕ = c.in_ok-places.places.items in
    let laid : AreLaid places = c.in_ok-places.ensures.1 in
    let numbers : List ℕ = laid.numbers in
    let count : length places ≡ length lines = c.in_ok-places.ensures.0
    ∙ codes_length dimensions (facts_of lines) coded codes ∙ length-map lines fact_of in
    let each : IsPermutation (range_with_len 0 (length lines)) numbers =
    subst (λ n. IsPermutation (range_with_len 0 n) numbers) count laid.layout.each in
    let own : IsLayout c.deref.result.now numbers =
    subst (λ (ps : List ℕ). IsLayout ps numbers) (sym c.deref.ensures.value) laid.layout in
    record {
      numbers = numbers;
      each = each;
      codes = codes_laid dimensions lines coded c.in_ok-of.field-0.places numbers no_place each codes
          (c.in_ok-of.ensures ∙ c.in_ok-laid.ensures.laid numbers no_place own);
      stands = subst (StandsAt numbers) (sym c.from_vec.ensures) laid.layout.stands;
    }
