use Rattle.std.proofs.Common.{arith}
-- Each step of the cell keeps the rule.
use Rattle.std.proofs.Common.{◌≡◌, ℕ, ◌≢◌, List, [], ◌∷◌, ◌++◌, fold, length, set, Some, sym, refl, ap, ◌∙◌, subst}
use Rattle.std.proofs.Common.{⊎_elim}
use mathlib.Core.Option.{some}
use lib.ListN.{get_elem?}
use Rattle.left_right.specs.Register.{Admits, TurnsAt, Forks, Merges}
use Rattle.atomic_table.proofs.Lists.{at_set, at_snoc}
use Rattle.row_store.specs.History.{CommitRecord, IsPrefix}
use Rattle.ssb_base.specs.Base.{Tables}
use Rattle.row_store.specs.State.{State, state_of, state_after}
use Rattle.row_store.proofs.StateLaws.{state_after-all}
use Rattle.twin_cell.specs.declared.rule.CellView.{CellView}
use Rattle.twin_cell.specs.Rule.{Follows, IsOver, HasSeen, HasPublished, newcomer}
use Rattle.row_store.proofs.PrefixLaws.{begins_with_itself, prefix_empty, prefix_longer, as_long_is_the_whole}

-- what the rule says of one view
record Fits (base : Tables) (list : List CommitRecord) (v : CellView) : Type 0 where
  told : IsPrefix v.told list
  over : IsOver base v

each : {s : State} {views : List CellView} (h : Follows s views) (seat : ℕ) (v : CellView)
    → get_elem? views seat ≡ some v → Fits s.base h.list v
each h seat v at = record { told = h.told seat v at; over = h.over seat v at }

follows : (s : State) (views : List CellView) (list : List CommitRecord) → s ≡ state_of s.base list
    → ((seat : ℕ) (v : CellView) → get_elem? views seat ≡ some v → Fits s.base list v) → Follows s views
follows s views list stands fits = record {
  list = list;
  stands = stands;
  told = λ seat v at. (fits seat v at).told;
  over = λ seat v at. (fits seat v at).over;
}

fits_newcomer : (base : Tables) (list : List CommitRecord) → Fits base list newcomer
fits_newcomer base list = record { told = prefix_empty list; over = λ b e. absurd (cc) }

-- one view changes, and the others fit still
fits_set : (base : Tables) (list : List CommitRecord) (views : List CellView) (seat : ℕ) (w : CellView)
    → ((j : ℕ) (v : CellView) → get_elem? views j ≡ some v → Fits base list v) → Fits base list w
    → (j : ℕ) (v : CellView) → get_elem? (set views seat w) j ≡ some v → Fits base list v
fits_set base list views seat w fits now j v at =
    ⊎_elim (λ (t : (j ≡ seat) × (w ≡ v)). subst (Fits base list) t.1 now)
    (λ (t : (j ≢ seat) × (get_elem? views j ≡ some v)). fits j v t.1) (at_set views seat j w v at)

-- one view more
fits_snoc : (base : Tables) (list : List CommitRecord) (views : List CellView) (w : CellView)
    → ((j : ℕ) (v : CellView) → get_elem? views j ≡ some v → Fits base list v) → Fits base list w
    → (j : ℕ) (v : CellView) → get_elem? (views ++ w ∷ []) j ≡ some v → Fits base list v
fits_snoc base list views w fits now j v at =
    ⊎_elim (λ (e : get_elem? views j ≡ some v). fits j v e) (λ (e : w ≡ v). subst (Fits base list) e now)
    (at_snoc views w v j at)

over_some : (base : Tables) (w : CellView) → w.base ≡ Some base → IsOver base w
over_some base w is b e = let same : Some b ≡ Some base = sym e ∙ is in cc

-- the state after a publication stands for the list with the commits that were added
pub stands_after : (s t : State) (told more now : List CommitRecord) → t ≡ fold state_after s more
    → s ≡ state_of s.base told → now ≡ told ++ more → t ≡ state_of t.base now
stands_after s t told more now is stands longer = grind (arith, fold, state_after-all)

pub base_after : (s t : State) (more : List CommitRecord) → t ≡ fold state_after s more → t.base ≡ s.base
base_after s t [] is = ap (λ s. s.base) is
base_after s t (commit ∷ more) is = base_after (state_after s commit) t more is

module _ {X : Type 0} (state : X → State) where
  abbrev Holds : X → List CellView → Type 0
  Holds x = Follows (state x)

  pub admits : Admits Holds newcomer
  admits x views h = follows (state x) _ h.list h.stands
      (fits_snoc (state x).base h.list views newcomer (each h) (fits_newcomer _ _))

  pub enters : (seat : ℕ) (v : CellView) (x : X) → TurnsAt Holds seat v x x (λ v x y w. HasSeen v (state y) w)
  enters seat v x views h at =
      let w : CellView = record { base = Some (state x).base; told = v.told; seen = h.list } in
      let now : Fits (state x).base h.list w = record {
        told = h.told seat v at;
        over = over_some (state x).base w refl;
      } in (
        w,
        follows (state x) _ h.list h.stands (fits_set (state x).base h.list views seat w (each h) now),
        record { stands = h.stands; begins = h.told seat v at; told = refl; over = h.over seat v at; base = refl },
      )

  -- the writer knows the whole list, since it is as long as the replica's number of commits
  pub publishes : (seat : ℕ) (v : CellView) (x y : X) (more : List CommitRecord)
      → state x ≡ state_of (state x).base v.told → state y ≡ fold state_after (state x) more
      → TurnsAt Holds seat v x y (λ v x y w. HasPublished more v (state y) w)
  publishes seat v x y more stands is views h at =
      let counted : length v.told ≡ length h.list = sym (ap (λ s. s.commits) stands) ∙ ap (λ s. s.commits) h.stands in
      let whole : v.told ≡ h.list = as_long_is_the_whole v.told h.list (h.told seat v at) counted in
      let list : List CommitRecord = h.list ++ more in
      let next : state y ≡ state_of (state x).base list =
      is ∙ ap (λ s. fold state_after s more) h.stands ∙ state_after-all (state x).base h.list more in
      let same : (state y).base ≡ (state x).base = ap (λ s. s.base) next in
      let w : CellView = record { base = Some (state y).base; told = v.told ++ more; seen = v.seen } in
      let old : (j : ℕ) (u : CellView) → get_elem? views j ≡ some u → Fits (state y).base list u =
      λ j u e. subst (λ b. Fits b list u) (sym same) (record
      { told = prefix_longer u.told h.list more (h.told j u e); over = h.over j u e }) in
      let now : Fits (state y).base list w = record {
        told = subst (λ l. IsPrefix (l ++ more) list) (sym whole)
            (begins_with_itself list);
        over = over_some (state y).base w refl;
      } in (
        w,
        follows (state y) _ list (next ∙ ap (λ b. state_of b list) (sym same))
            (fits_set (state y).base list views seat w old now),
        record { told = refl; base = refl },
      )

  pub forks : (seat : ℕ) (v : CellView) → Forks Holds seat v v v
  forks seat v x views h at =
      let now : Fits (state x).base h.list v = each h seat v at in
      follows (state x) _ h.list h.stands (fits_snoc (state x).base h.list (set views seat v) v
      (fits_set (state x).base h.list views seat v (each h) now) now)

  pub merges : (seat : ℕ) (v : CellView) (other : ℕ) (w : CellView) → Merges Holds seat v other w w newcomer
  merges seat v other w x views h at apart there =
      let theirs : get_elem? views other ≡ some w = ⊎_elim (λ (t : (other ≡ seat) × (w ≡ w)). absurd (apart t.0))
      (λ (t : (other ≢ seat) × (get_elem? views other ≡ some w)). t.1) (at_set views seat other w w there) in
      let now : Fits (state x).base h.list w = each h other w theirs in
      follows (state x) _ h.list h.stands (fits_set (state x).base h.list (set views seat w) other newcomer
      (fits_set (state x).base h.list views seat w (each h) now) (fits_newcomer _ _))
