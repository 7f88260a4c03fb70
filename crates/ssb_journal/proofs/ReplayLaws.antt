-- What is told of a commit that is not made again.
use Rattle.std.proofs.Common.{◌≡◌, ◌∙◌, ℕ, ◌+◌, ◌<◌, List, ◌++◌, length, get_or, take, refl, sym, ap, subst, arith, length-append}
use Rattle.std.proofs.lemmas.List.{length-take-le}
use Rattle.std.proofs.lemmas.Option.{slice_get_read}
use Rattle.std.proofs.Math.Seq.{take-append-add}
use Rattle.row_store.specs.History.{CommitRecord, Warehouse}
use Rattle.row_store.specs.Legal.{Fails, IsLegal}
use Rattle.row_store.specs.Refusals.{refusal_of}
use Rattle.row_store.specs.declared.refusal.ApplyError.{ApplyError}
use Rattle.row_store.specs.declared.refusal.ApplyError.TheVariants as apply
use Rattle.ssb_base.specs.Base.{Tables}
use Rattle.ssb_journal.specs.Replays.{not_applied, IsReplayFault}
use Rattle.ssb_journal.proofs.ReadingLaws.{at_behind}

pub fault_told : (base : Tables) (old commits : List CommitRecord) (store : Warehouse) (i n : ℕ) (commit : CommitRecord)
    (error : ApplyError) → i < length commits → commit ≡ get_or commits i commit
    → store ≡ record { base = base; log = old ++ take i commits } → IsLegal store.base store.log
    → Fails error (refusal_of store.base store.log commit.actions) → n ≡ length store.log
    → IsReplayFault base (old ++ commits) (not_applied (n + 1) error)
fault_told base old commits store i n commit (apply.Refused refusal) inside here is legal fails count =
    let whole : take (length old + i) (old ++ commits) ≡ store.log =
    take-append-add old commits i ∙ sym (ap (λ (w : Warehouse). w.log) is) in
    let same : store.base ≡ base = ap (λ (w : Warehouse). w.base) is in
    record {
      place = length old + i;
      numbered = omega (
        arith,
        count,
        ap (λ (w : Warehouse). length w.log) is,
        length-append old (take i commits),
        length-take-le i commits (omega arith),
      );
      commit = commit;
      is = at_behind old commits i (length old + i) commit refl (slice_get_read commits (length commits) i commit refl inside here);
      legal = subst (IsLegal base) (sym whole) (subst (λ (b : Tables). IsLegal b store.log) same legal);
      refused = ap (λ (l : List CommitRecord). refusal_of base l commit.actions) whole
          ∙ ap (λ (b : Tables). refusal_of b store.log commit.actions) (sym same) ∙ fails;
    }
fault_told base old commits store i n commit apply.OutOfMemory inside here is legal fails count = tt
