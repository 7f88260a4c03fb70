-- One commit more of some that are made again.
use Rattle.std.proofs.Common.{◌≡◌, ◌∙◌, ℕ, zero, suc, ◌+◌, ◌-◌, ◌<◌, List, [], ◌∷◌, ◌++◌, length, take, drop, get_or}
use Rattle.std.proofs.Common.{slice_get, Option, Some, None, refl, sym, ap, subst, arith, append_assoc, length-append}
use Rattle.std.proofs.lemmas.List.{take-append-drop, take_more}
use Rattle.std.specs.Io.KnownBytes.{Appends}
use Rattle.row_store.specs.History.{CommitRecord, Warehouse, lines_after}
use Rattle.row_store.specs.Legal.{IsLegal}
use Rattle.row_store.specs.Refusals.{refusal_of}
use Rattle.ssb_base.specs.Base.{Tables}
use Rattle.ssb_journal.specs.Replays.{IsReplayFault}
use Rattle.ssb_journal.specs.declared.replaying.ReplayFault.{ReplayFault}
use Rattle.ssb_schema.specs.declared.refresh.Action.{Action}
use Rattle.ssb_text.proofs.WrittenLaws.{appends_both}
use Rattle.changes_command.specs.Signed.{asked_of, changes_behind, changes_by_all}
use Rattle.changes_command.specs.SignedText.{lines_text}
use Rattle.changes_command.specs.declared.format.ChangesFormat.{ChangesFormat}
use Rattle.changes_command.specs.declared.signed.ChangesStart.{ChangesStart}
use Rattle.changes_command.proofs.AskedLaws.{lines_after_more, lines_behind, text_of_next}
use Rattle.changes_command.proofs.FaultLaws.{refused_of_more}

at_seam : {X : Type 0} (front : List X) (x : X) (back : List X) → slice_get (front ++ x ∷ back) (length front) ≡ Some x
at_seam [] x back = refl
at_seam (y ∷ front) x back = at_seam front x back

front_of : {X : Type 0} (front back : List X) → take (length front) (front ++ back) ≡ front
front_of [] back = refl
front_of (y ∷ front) back = ap (λ l. y ∷ l) (front_of front back)

one_at : {X : Type 0} (xs : List X) (i : ℕ) (d : X) → i < length xs → take 1 (drop i xs) ≡ get_or xs i d ∷ []
one_at [] i d within = absurd (omega (arith, within))
one_at (x ∷ xs) zero d within = refl
one_at (x ∷ xs) (suc i) d within = one_at xs i d (omega (arith, within))

-- the part of a list that is one element
pub part_of_one : {X : Type 0} (xs : List X) (i : ℕ) (d : X) → i < length xs
    → take (i + 1 - i) (drop i xs) ≡ get_or xs i d ∷ []
part_of_one xs i d within =
    let one : i + 1 - i ≡ 1 = omega arith in ap (λ n. take n (drop i xs)) one ∙ one_at xs i d within

module _ (log commits : List CommitRecord) (i : ℕ) (d : CommitRecord) (within : i < length commits) where
  -- behind a log, the first commits and the next
  pub log_of_next : (log ++ take i commits) ++ take (i + 1 - i) (drop i commits) ≡ log ++ take (i + 1) commits
  log_of_next =
      ap (λ l. (log ++ take i commits) ++ l) (part_of_one commits i d within)
      ∙ append_assoc log (take i commits) (get_or commits i d ∷ [])
      ∙ ap (λ l. log ++ l) (sym (take_more commits i d within))

  -- and the others
  log_of_all : log ++ commits ≡ ((log ++ take i commits) ++ take (i + 1 - i) (drop i commits)) ++ drop (i + 1) commits
  log_of_all =
      ap (λ l. log ++ l) (sym (take-append-drop (i + 1) commits))
      ∙ sym (append_assoc log (take (i + 1) commits) (drop (i + 1) commits))
      ∙ ap (λ l. l ++ drop (i + 1) commits) (sym log_of_next)

  pub next_refused : (base : Tables) (store : Warehouse) (why : ReplayFault)
      → store ≡ record { base = base; log = log ++ take i commits }
      → IsReplayFault store.base (store.log ++ take (i + 1 - i) (drop i commits)) why
      → IsReplayFault base (log ++ commits) why
  next_refused base store why is told =
      let part = take (i + 1 - i) (drop i commits) in
      subst (λ history. IsReplayFault base history why) (sym log_of_all)
      (refused_of_more base ((log ++ take i commits) ++ part) (drop (i + 1) commits) why
      (subst (λ (s : Warehouse). IsReplayFault s.base (s.log ++ part) why) is told))

  pub next_made : (base : Tables) (store new : Warehouse) → store ≡ record { base = base; log = log ++ take i commits }
      → new ≡ record { base = store.base; log = store.log ++ take (i + 1 - i) (drop i commits) }
      → new ≡ record { base = base; log = log ++ take (i + 1) commits }
  next_made base store new is made =
      made
      ∙ ap (λ (s : Warehouse). record { base = s.base; log = s.log ++ take (i + 1 - i) (drop i commits) }) is
      ∙ ap (λ l. record { base = base; log = l }) log_of_next

-- a commit that was made was not refused
pub made_is_accepted : (store new : Warehouse) (part : List CommitRecord) (commit : CommitRecord) (actions : List Action)
    → new ≡ record { base = store.base; log = store.log ++ part } → part ≡ commit ∷ [] → actions ≡ commit.actions
    → IsLegal new.base new.log → refusal_of store.base store.log actions ≡ None
made_is_accepted store new part commit actions made one same legal =
    let whole : IsLegal store.base (store.log ++ commit ∷ []) =
    subst (λ l. IsLegal store.base (store.log ++ l)) one (subst (λ (s : Warehouse). IsLegal s.base s.log) made legal) in
    let accepted : refusal_of store.base store.log commit.actions ≡ None =
    subst (λ history. refusal_of store.base history commit.actions ≡ None) (front_of store.log (commit ∷ []))
    (whole.accepted (length store.log) commit (at_seam store.log commit [])) in
    subst (λ l. refusal_of store.base store.log l ≡ None) (sym same) accepted

-- what one commit more changes
pub next_written : (format : ChangesFormat) (start : ChangesStart) (past : ℕ) (base : Tables) (log commits : List CommitRecord)
    (store : Warehouse) (i : ℕ) (commit : CommitRecord) (actions : List Action) (a b e : Option (List ℕ))
    → i < length commits → commit ≡ get_or commits i commit → store ≡ record { base = base; log = log ++ take i commits }
    → actions ≡ commit.actions
    → Appends a b (lines_text format (asked_of start (changes_behind (past + length log) (lines_after base log)
    (take i commits))))
    → Appends b e (lines_text format (asked_of start (changes_by_all (past + length store.log + 1)
    (lines_after store.base store.log) actions)))
    → Appends a e (lines_text format (asked_of start (changes_behind (past + length log) (lines_after base log)
    (take (i + 1) commits))))
next_written format start past base log commits store i commit actions a b e within is_there is same so_far more =
    let front = take i commits in
    let lines = lines_after base log in
    let before = past + length log in
    let next : take (i + 1) commits ≡ front ++ commit ∷ [] =
    take_more commits i commit within ∙ ap (λ c. front ++ c ∷ []) (sym is_there) in
    let moved : Appends b e (lines_text format (asked_of start (changes_by_all (past + length (log ++ front) + 1)
    (lines_after base (log ++ front)) actions)))
    = subst (λ (s : Warehouse). Appends b e (lines_text format (asked_of start (changes_by_all (past + length s.log + 1)
    (lines_after s.base s.log) actions)))) is more in
    let many : past + length (log ++ front) ≡ before + length front = omega (arith, length-append log front) in
    let own : Appends b e (lines_text format (asked_of start (changes_by_all (before + length front + 1)
    (lines_behind lines front) commit.actions)))
    = subst (λ l. Appends b e (lines_text format (asked_of start (changes_by_all (before + length front + 1)
    (lines_behind lines front) l)))) same
    (subst (λ l. Appends b e (lines_text format (asked_of start (changes_by_all (before + length front + 1) l actions))))
    (lines_after_more base log front)
    (subst (λ n. Appends b e (lines_text format (asked_of start (changes_by_all (n + 1) (lines_after base (log ++ front))
    actions)))) many moved)) in
    subst (λ l. Appends a e (lines_text format (asked_of start (changes_behind before lines l)))) (sym next)
    (subst (Appends a e) (sym (text_of_next format start before lines front commit))
    (appends_both a b e (lines_text format (asked_of start (changes_behind before lines front)))
    (lines_text format (asked_of start (changes_by_all (before + length front + 1) (lines_behind lines front)
    commit.actions))) so_far own))
