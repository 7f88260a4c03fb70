-- The body does nothing. The borrow is opened, and closed where the list has one call more.
use Rattle.std.proofs.Common.{[], ◌∷◌, refl, w64}
use Rattle.std.proofs.raw_atomic.Walks.{proved}
use mir.Syntax.{named}
use mir.Val.{vunit}
use base.Logic.{id⊢}
use base.Fml.{flft, ftrue}
use types.Kit.{‵, ◌⊛◌, ◌$◌, ◌∵◌, !, qed, move, keep, use1, split, join, fsplit3, feq_i, suffices, frame, group, done}
use types.Run.{unit_lit, of_opd, returns, enter}
use types.ByLocal.{alloc_all, pass_all, free_all, look_at, sets}
use denote.Builtin.{bool, u8, u64}
use denote.Exit.{yes}
use denote.Plain.{bool_vals, bool_Tells, uint_vals, uint_Tells}
use denote.Ref.{MutRef, mut_vals, mut_Tells}
use denote.Slice.{ShrSlice, shr_slice_vals, shr_slice_Tells}
use denote.Signature.{plain}
use denote.Steps.{nothing, opens, closes}
use denote.Triple.Walked.{says, Stays, walk_of, stay_ref, stay_dropped, stay_none_slice, Goes-ref, Goes-dropped}
use denote.Triple.Walked.{Goes-none_slice, ends_at}
use Rattle.journal.specs.Calls.{wrote}
use Rattle.journal_file.specs.declared.transcript.Transcript.{Transcript}
use Rattle.journal_file.specs.contracts.transcript.Transcript as T
use Rattle.journal_file.specs.contracts.transcript.Transcript.wrote as f
use Rattle.journal_file.proofs.transcript.Transcript.wrote.Statement.{statement}
use Rattle.journal_file.proofs.transcript.Transcript.wrote.Code as code

abbrev stayed : Stays f.ended.signature.params f.ended.kept
stayed = (stay_ref (0 ∷ []) tt (plain (λ _. T.the_row)), (stay_dropped _ yes, (stay_none_slice (1 ∷ []) tt (plain (λ _. u8)) yes, (stay_dropped _ yes, tt))))

pub wrote_spec : {M : Type 1} → statement M
wrote_spec 𝓤 𝓛 𝓜 𝓡 wired =
    let c = f.clauses 𝓛 𝓜.mem 𝓡.returns in let W = walk_of 𝓛 f.ended stayed c in
    proved 𝓛 f.ended stayed c 𝓜 𝓡 (
      Goes-ref 𝓛 2 0 tt (plain (λ _. T.the_row)),
      (
        Goes-dropped 𝓛 2 (plain (λ _. u64)) yes (λ κs x w. refl),
        (Goes-none_slice 𝓛 2 (1 ∷ []) tt (plain (λ _. u8)) yes, (Goes-dropped 𝓛 2 (plain (λ _. bool)) yes (λ κs x w. refl), tt)),
      ),
    )
    f.Key.name code.function (code.unfolded 𝓤 𝓛.H 𝓜 𝓡 wired)
    (λ κs. (mut_vals, (uint_vals w64, (shr_slice_vals, (bool_vals, tt)))))
    (λ κs. (mut_Tells (named 0) κs.0 T.the_row, (uint_Tells w64, (shr_slice_Tells (named 1) κs.1.0 u8, (bool_Tells, tt)))))
    (λ κs qs bounds a _ are.
    let κ = κs.0 in let q = qs.0 in let r = a.0 in let b = r.ref_ptr.0 in let o = r.ref_ptr.1 in let at = a.1.0 in let bytes = a.1.1.0 in let done_is = a.1.1.1.0 in
    let κ' = κs.1.0 in let q' = qs.1.0 in
    let h : Transcript = r.now in
    let h' : Transcript = record { marker = h.marker; calls = wrote at bytes.now done_is ∷ h.calls } in
    let y : W.Ghost = ((κs, qs, bounds, a, (mut_vals r, (uint_vals w64 at, (shr_slice_vals bytes, (bool_vals done_is, tt))))), tt) in
    qed 𝓛 (((‵ (flft κ q) ⊛ ‵ (flft κ' q') ⊛ ‵ ftrue)
    ⊛ ‵ ((MutRef (named 0) κ T.the_row).own_val r (mut_vals r)) ⊛ ‵ (u64.own_val at (uint_vals w64 at))
    ⊛ ‵ ((ShrSlice (named 1) κ' u8).own_val bytes (shr_slice_vals bytes)) ⊛ ‵ (bool.own_val done_is (bool_vals done_is)) ⊛ ‵ ftrue)
    ∷ ‵ ftrue ∷ []) ∵
    split ! $ split ! $ move ! (1 ∷ []) $ split ! $ move ! (3 ∷ []) $ split ! $ move ! (1 ∷ []) $ split ! $
    move ! (1 ∷ []) $ split ! $ keep ! (3 ∷ 6 ∷ 0 ∷ 4 ∷ []) $
    enter ! _ _ _ _ _ $ alloc_all ! (λ l. pass_all ! refl ((tt, tt), ((tt, record { fits = are.1.0.1 }), ((tt, (tt, (record { fits = are.1.1.0.0.1.0 }, tt))), ((tt, tt), tt)))) $
    -- [the transcript; the token of κ; the bytes; the token of κ']
    fsplit3 ! $ move ! (1 ∷ 2 ∷ 3 ∷ []) $ opens ! tt T.the_row {h = h} b o (λ vs.
    sets ! (of_opd ! (unit_lit !)) refl (tt, tt) $
    move ! (1 ∷ []) $ use1 𝓛 (‵ ((T.the_row).own_val h' vs)) (id⊢ 𝓤 _) $ move ! (1 ∷ 0 ∷ []) $
    closes ! tt T.the_row h' vs b o $
    returns ! (look_at ! 0 refl) $ free_all ! refl $ keep ! (3 ∷ 0 ∷ 1 ∷ 2 ∷ 4 ∷ 5 ∷ []) $
    suffices ! _ (ends_at 𝓛 f.ended stayed c y vunit tt (h', (tt, (tt, (tt, tt)))) (tt, (tt, (tt, (tt, tt))))) $ says ! refl $
    group ! 3 $ nothing ! $ nothing ! $ join ! $ move ! (3 ∷ 0 ∷ []) $ join ! $ nothing ! $ join ! $ move ! (1 ∷ 0 ∷ []) $ join ! $
    nothing ! $ move ! (3 ∷ 0 ∷ []) $ join ! $ move ! (2 ∷ 0 ∷ []) $ join ! $ frame ! $ frame ! $ feq_i ! _ (vunit ∷ []) _ refl $ done !)))
