-- Of texts that spell sound tables nothing is refused.
use Rattle.std.proofs.Common.{◌≡◌, ℕ, ◌+◌, ◌≤◌, List, [], ◌∷◌, ◌++◌, length, Ok, Err, sym, ap, ◌∙◌, subst}
use Rattle.std.proofs.Common.{inl, inr, arith, append_assoc, length-append}
use Rattle.std.specs.List.{AllZip}
use Rattle.std.proofs.lemmas.Option.{none-some}
use Rattle.ssb_base.specs.Base.{IsSound, Tables, base_fault}
use Rattle.ssb_base.specs.declared.limits.Limits.{Limits}
use Rattle.ssb_schema.specs.Columns.{Value}
use Rattle.ssb_schema.specs.declared.table.Table.{Table}
use Rattle.ssb_schema.specs.declared.table.Table.TheVariants as table
use Rattle.ssb_text.specs.Load.{IsBaseFault, SpellsBase, StopsAt, StopsIn, all_tables, limit_of, values_in}
use Rattle.ssb_text.specs.Row.{row_of}
use Rattle.ssb_text.specs.Tables.{IsFirstFault, IsReadFault, SpellsRow, SpellsRows}
use Rattle.ssb_text.specs.declared.error.LineFault.{LineFault}
use Rattle.ssb_text.specs.declared.error.LoadError.{LoadError}
use Rattle.ssb_text.specs.declared.error.LoadError.TheVariants as errors
use Rattle.ssb_text.specs.RoundTrip.{NothingIsRefused}
use Rattle.ssb_text.proofs.OneBaseLaws.{texts_spell_one_base}
use Rattle.ssb_text.proofs.OneListLaws.{text_begins}
use Rattle.ssb_text.proofs.SoundLaws.{sound_has_no_fault}

-- a record among those that spell rows spells one
spells-there : (t : Table) (front : List (List (List ℕ))) (fields : List (List ℕ)) (more : List (List (List ℕ)))
    (rows : List (List Value)) → AllZip (SpellsRow t) (front ++ fields ∷ more) rows
    → (values : List Value) × (row_of t fields ≡ Ok values)
spells-there t [] fields more [] are = absurd are
spells-there t [] fields more (values ∷ rows) are = (values, are.0)
spells-there t (first ∷ front) fields more [] are = absurd are
spells-there t (first ∷ front) fields more (values ∷ rows) are = spells-there t front fields more rows are.1

ok-no-err : (values : List Value) (why : LineFault) → Ok values ≡ Err why → ⊥
ok-no-err values why e = cc

-- a text that spells rows has no first fault
no-first-fault : (t : Table) (limit : ℕ) (text : List ℕ) (rows : List (List Value)) (e : LoadError)
    → SpellsRows t limit text rows → IsFirstFault t limit text e → ⊥
no-first-fault t limit text rows e is first =
    let before = first.before in
    let fields = first.fields in
    let found = text_begins text (before ++ fields ∷ []) is.records first.begins is.all in
    let split : is.records ≡ before ++ fields ∷ found.0 = found.1 ∙ append_assoc before (fields ∷ []) found.0 in
    let said = spells-there t before fields found.0 rows
    (subst (λ rs. AllZip (SpellsRow t) rs rows) split is.spelled) in
    let few : length before + 1 ≤ limit =
    omega (arith, is.few, ap length split, length-append before (fields ∷ found.0)) in
    elim first.has_fault [
      | inl many ↦ absurd (omega (arith, few, many.0))
      | inr none ↦ ok-no-err said.0 none.1 (sym said.1 ∙ none.2)
    ]

stops-read : (limits : Limits) (texts : Table → List ℕ) (t : Table) (rows : List (List Value)) (e : LoadError)
    → SpellsRows t (limit_of limits t) (texts t) rows → StopsAt limits texts t e → IsReadFault t e
stops-read limits texts t rows e is stops = elim stops [
  | inl read ↦ read
  | inr first ↦ absurd (no-first-fault t (limit_of limits t) (texts t) rows e is first)
]

stops-in : (base : Tables) (texts : Table → List ℕ) (tables : List Table) (e : LoadError) → SpellsBase texts base
    → StopsIn base.limits texts tables e → (t : Table) × IsReadFault t e
stops-in base texts [] e is stops = absurd stops
stops-in base texts (t ∷ tables) e is stops = elim stops [
  | inl here ↦ (t, stops-read base.limits texts t (values_in base t) e (is t) here)
  | inr later ↦ stops-in base texts tables e is later.1
]

-- other tables that the texts spell are the same
same-base : (one other : Tables) → one.limits ≡ other.limits → one.dimensions ≡ other.dimensions
    → one.lines ≡ other.lines → one ≡ other
same-base one other limits dimensions lines = grind arith

no-base-fault : (texts : Table → List ℕ) (base : Tables) (e : LoadError) → SpellsBase texts base → IsSound base
    → IsBaseFault base.limits texts e → ⊥
no-base-fault texts base e is sound fault =
    let both = texts_spell_one_base texts fault.base base fault.spelled is in
    let same : fault.base ≡ base = same-base fault.base base fault.limited both.0 both.1 in
    none-some fault.why (sym (ap base_fault same ∙ sound_has_no_fault base sound) ∙ fault.first)

of-memory : (e : LoadError) → e ≡ errors.OutOfMemory → (t : Table) × IsReadFault t e
of-memory e is = (table.Customer, subst (IsReadFault table.Customer) (sym is) tt)

pub nothing_is_refused : NothingIsRefused
nothing_is_refused texts base e is sound fault = elim fault [
  | inl stops ↦ stops-in base texts all_tables e is stops
  | inr rest ↦ elim rest [
    | inl between ↦ absurd (no-base-fault texts base e is sound between)
    | inr memory ↦ of-memory e memory
  ]
]
