-- What a crash leaves of journals and of table folders, and of the machine of stores.
use Rattle.std.proofs.Common.{◌≡◌, ℕ, List, [], ◌∷◌, ◌++◌, length, map, take_all, le_refl, arith, length-append}
use Rattle.std.proofs.Common.{refl, sym, ap, ◌∙◌, inl, inr, Some, None}
use Rattle.std.proofs.Math.Seq.{take-append_seam}
use Rattle.journal.specs.Groups.{recovered}
use Rattle.row_store.specs.History.{CommitRecord}
use Rattle.ssb_journal.specs.Kept.{KeepsCommits, SpellCommits}
use Rattle.ssb_journal.specs.Texts.{AreSealed}
use Rattle.ssb_journal.specs.Heads.{head_text}
use Rattle.ssb_journal.specs.Seals.{sealed}
use Rattle.ssb_journal.specs.declared.head.HeadForm.{HeadForm}
use Rattle.ssb_journal.specs.declared.head.TableMark.{TableMark}
use Rattle.segment_steps.specs.Steps.{AppendingIsAStep, ANewSegmentIsEmpty, AFolderHasTablesOrNone}

pub appending_is_a_step : AppendingIsAStep
appending_is_a_step marks before more file (inl without) =
    (before, without, (length before, le_refl (length before), ap Some (sym (take-append_seam before more))))
appending_is_a_step marks before more file (inr with_more) = (
  before ++ more,
  with_more,
  (
    length (before ++ more),
    (let l = length-append before more in omega (arith, l)),
    ap Some (sym (take_all (length (before ++ more)) (before ++ more) (le_refl (length (before ++ more))))),
  ),
)

-- a journal has a head
has_head : (form : HeadForm) (marks : List TableMark) (texts : List (List ℕ)) (groups : List (List ℕ)) → groups ≡ []
    → AreSealed form marks texts groups → ⊥
has_head form marks texts groups none is = absurd (let e : [] ≡ map sealed (head_text form marks ∷ texts) = sym none ∙ is in cc)

no_texts : SpellCommits [] []
no_texts = record { batches = []; spelled = tt; whole = refl }

abbrev pub OneList : Type 0
OneList = (marks : List TableMark) (file : List ℕ) (commits others : List CommitRecord)
    → KeepsCommits marks commits file → KeepsCommits marks others file → commits ≡ others

pub a_new_segment_is_empty : OneList → ANewSegmentIsEmpty
a_new_segment_is_empty one marks file kept fresh (inl is) = is.2
a_new_segment_is_empty one marks file kept (inl none) (inr old) =
    absurd (has_head kept.form marks old.1.texts (recovered file) none.0 old.1.sealed)
a_new_segment_is_empty one marks file kept (inr head) (inr old) =
    one marks file kept.commits.items []
    (record { texts = old.1.texts; is_journal = (kept.form, old.1.sealed); spelled = old.1.spelled })
    (record { texts = []; is_journal = head; spelled = no_texts })

pub a_folder_has_tables_or_none : AFolderHasTablesOrNone
a_folder_has_tables_or_none texts left (inl none) = (None, none, inl refl)
a_folder_has_tables_or_none texts left (inr all) = (Some texts, all, inr (texts, refl, λ e. refl))
