-- What a crash leaves of a journal that is being made, and that it is opened.
use Rattle.std.proofs.Common.{◌≡◌, ℕ, suc, zero, ◌≤◌, inl, inr, true, List, [], ◌∷◌, ◌++◌, length, get_or, take, drop}
use Rattle.std.proofs.Common.{refl, sym, ◌∙◌, ap, subst, arith, append_assoc, take-append-drop}
use Rattle.std.specs.Prelude.{◌⊎◌, nat_eq, Result, Ok, Err, IfOk, IfErr, IsErr}
use Rattle.std.specs.Result.{IsErrAnd}
use Rattle.std.specs.List.{starts_with, flat_map}
use Rattle.std.proofs.lemmas.Bool.{both_ways}
use Rattle.std.proofs.lemmas.Bool.Decides.{Decides-eqb}
use Rattle.std.proofs.lemmas.Grind.{flat_map-append}
use Rattle.std.proofs.lemmas.List.{append-nil, length-append, length-take, length-map}
use Rattle.std.proofs.lemmas.Option.{slice_get_within, get_or_from_slice_get}
use Rattle.std.proofs.lemmas.Slice.Eq.{starts_is}
use Rattle.journal.specs.Disk.{LeavesOnly}
use Rattle.journal.proofs.MomentLaws.{leaves, then_leaves, both}
use Rattle.journal.specs.Groups.{recovered, blocks, behind, IsBeforeOrAfter, IsMending, IsAppending}
use Rattle.ssb_journal.specs.Seals.{sealed}
use Rattle.ssb_journal.specs.Heads.{title, mark_line, head_text, new_head, IsHeadFault, IsLineFault, IsTitleFault}
use Rattle.ssb_journal.specs.declared.head.HeadForm.{HeadForm}
use Rattle.ssb_journal.specs.declared.head.HeadForm.TheVariants.{Checksums}
use Rattle.ssb_journal.specs.Kept.{IsAsItWasOrNew}
use Rattle.ssb_journal.specs.Texts.{IsBeginning, IsBeginningOf, IsNewJournal, IsDamaged, behind_first_gate}
use Rattle.ssb_journal.specs.Opening.{IsOpenFault}
use Rattle.ssb_journal.specs.declared.head.TableMark.{TableMark}
use Rattle.ssb_journal.specs.declared.fault.JournalFault.{JournalFault}
use Rattle.ssb_journal.specs.declared.fault.JournalFault.TheVariants.{NotAJournal, NewerForm, OtherTables, Damaged, OutOfMemory}
use Rattle.ssb_journal.proofs.SealLaws.{sealed-injective}
use Rattle.ssb_journal.proofs.HeadLaws.{one_title}
use Rattle.ssb_journal.proofs.NewerLaws.{known_is_not_newer}

-- a text begins with each of its beginnings
starts : (text front back : List ℕ) → text ≡ front ++ back → starts_with nat_eq text front ≡ true
starts text front back is = (starts_is Decides-eqb text front _ refl).1 back is

-- where no group is, all of a file stands behind the groups
all_behind : (file : List ℕ) → recovered file ≡ [] → behind file ≡ file
all_behind file none = ap (λ (groups : List (List ℕ)). drop (length (blocks groups)) file) none

module _ (marks : List TableMark) where
  short_begins : (form : HeadForm) (bytes : List ℕ) → length bytes ≤ 1 → IsBeginningOf form marks bytes
  short_begins form [] short = inl (starts (behind_first_gate form marks) [] (behind_first_gate form marks) refl)
  short_begins form (gate ∷ []) short =
      inl (starts (behind_first_gate form marks) [] (behind_first_gate form marks) refl)
  short_begins form (gate ∷ b ∷ bytes) short = absurd (omega (arith, short))

  -- a beginning is cut to a beginning
  cut_begins : (form : HeadForm) (n : ℕ) (bytes : List ℕ) → IsBeginningOf form marks bytes
      → IsBeginningOf form marks (take n bytes)
  cut_begins form zero bytes is = short_begins form [] (omega arith)
  cut_begins form (suc n) [] is = is
  cut_begins form (suc n) (gate ∷ rest) (inl begins) =
      let whole = behind_first_gate form marks in
      let back = drop (length rest) whole in
      let split : whole ≡ rest ++ back = (starts_is Decides-eqb whole rest _ refl).0 begins in
      let parted : whole ≡ take n rest ++ (drop n rest ++ back) = split ∙ ap (λ (l : List ℕ). l ++ back) (sym (take-append-drop n rest)) ∙ append_assoc (take n rest) (drop n rest) back in
      inl (starts whole (take n rest) (drop n rest ++ back) parted)
  cut_begins form (suc n) (gate ∷ rest) (inr shut) = inr (shut.0, omega (arith, length-take n rest, shut.1))

  -- while what is there is cut off
  pub mending_begins : (old file : List ℕ) → recovered old ≡ [] → IsBeginning marks (behind old) → recovered file ≡ recovered old → IsMending old file → IsNewJournal marks file
  mending_begins old file none begins same (inl cut) =
      let now : recovered file ≡ [] = same ∙ none in
      let was : IsBeginning marks old = subst (IsBeginning marks) (all_behind old none) begins in
      inl (now, subst (IsBeginning marks) (sym (all_behind file now ∙ cut)) (was.0, cut_begins was.0 (length file) old was.1))
  mending_begins old file none begins same (inr (rest, is, short)) =
      let now : recovered file ≡ [] = same ∙ none in
      let alone : file ≡ rest = is ∙ ap (λ (groups : List (List ℕ)). blocks groups ++ rest) none in
      inl (now, subst (IsBeginning marks) (sym (all_behind file now ∙ alone)) (Checksums, short_begins Checksums rest short))

  torn_begins : (gate : ℕ) (rest : List ℕ) → (rest ≡ behind_first_gate Checksums marks) ⊎ ((gate ≡ 48) × (length rest ≤ length (behind_first_gate Checksums marks))) → IsBeginning marks (gate ∷ rest)
  torn_begins gate rest (inl is) =
      (Checksums, inl (starts (behind_first_gate Checksums marks) rest [] (sym is ∙ sym (append-nil rest))))
  torn_begins gate rest (inr shut) = (Checksums, inr shut)

  -- while its head is appended
  pub appending_begins : (groups : List (List ℕ)) (file : List ℕ) → groups ≡ [] → IsBeforeOrAfter groups (sealed (new_head marks)) file → IsAppending groups (sealed (new_head marks)) file → IsNewJournal marks file
  appending_begins groups file none (inl same) (gate, rest, is, how) =
      let now : recovered file ≡ [] = same ∙ none in
      let alone : file ≡ gate ∷ rest = is ∙ ap (λ (groups : List (List ℕ)). blocks groups ++ gate ∷ rest) none in
      inl (now, subst (IsBeginning marks) (sym (all_behind file now ∙ alone)) (torn_begins gate rest how))
  appending_begins groups file none (inr one) left = inr (Checksums, one ∙ ap (λ (groups : List (List ℕ)). groups ++ sealed (new_head marks) ∷ []) none)

  -- a file while the head is appended behind no groups
  pub as_it_was_or_new : (groups now : List (List ℕ)) (group : List ℕ) → now ≡ groups → groups ≡ [] → group ≡ sealed (new_head marks)
      → (file : List ℕ) → IsBeforeOrAfter now group file → IsAsItWasOrNew marks groups file
  as_it_was_or_new groups now group same none is file (inl before) = inl (before ∙ same)
  as_it_was_or_new groups now group same none is file (inr after) =
      inr (none, (Checksums, after ∙ ap (λ (gs : List (List ℕ)). gs ++ group ∷ []) (same ∙ none) ∙ ap (λ (g : List ℕ). g ∷ []) is))

  -- the head of these tables is no other
  line_is_told : (form : HeadForm) (fault : JournalFault) → IsLineFault form marks (head_text form marks) fault → ⊥
  line_is_told form NotAJournal more = absurd (omega (arith, more.1))
  line_is_told form (OtherTables table) (mark, is, other) =
      let until = head_text form (other.before ++ mark ∷ []) in
      let among : marks ≡ (other.before ++ mark ∷ []) ++ other.after = other.among ∙ sym (append_assoc other.before (mark ∷ []) other.after) in
      let split : head_text form marks ≡ until ++ flat_map (mark_line form) other.after =
      ap (head_text form) among
      ∙ ap (λ (l : List ℕ). title form ++ l) (flat_map-append (mark_line form) (other.before ++ mark ∷ []) other.after)
      ∙ sym (append_assoc (title form) (flat_map (mark_line form) (other.before ++ mark ∷ [])) (flat_map (mark_line form) other.after)) in
      both_ways _ other.other (starts (head_text form marks) until (flat_map (mark_line form) other.after) split)
  line_is_told form (NewerForm number) fault = fault
  line_is_told form (Damaged number) fault = fault
  line_is_told form OutOfMemory fault = fault

  title_is_told : (form : HeadForm) (fault : JournalFault) → IsTitleFault (head_text form marks) fault → ⊥
  title_is_told form NotAJournal none =
      both_ways _ (none.0 form) (starts (head_text form marks) (title form) (flat_map (mark_line form) marks) refl)
  title_is_told form (NewerForm number) newer =
      known_is_not_newer form (flat_map (mark_line form) marks) number newer
  title_is_told form (OtherTables table) fault = fault
  title_is_told form (Damaged number) fault = fault
  title_is_told form OutOfMemory fault = fault

  head_is_told : (form : HeadForm) (fault : JournalFault) → IsHeadFault marks (head_text form marks) fault → ⊥
  head_is_told form fault (inl none) = title_is_told form fault none
  head_is_told form fault (inr (other, begins, line)) =
      line_is_told form fault (subst (λ (f : HeadForm). IsLineFault f marks (head_text form marks) fault)
      (one_title form other (flat_map (mark_line form) marks) begins) line)

  damaged_none : (groups : List (List ℕ)) (fault : JournalFault) → groups ≡ [] → IsDamaged groups fault → ⊥
  damaged_none groups (Damaged number) none damaged = absurd (omega (arith, slice_get_within groups number damaged.group damaged.is, ap length none))
  damaged_none groups NotAJournal none damaged = damaged
  damaged_none groups (NewerForm number) none damaged = damaged
  damaged_none groups (OtherTables table) none damaged = damaged
  damaged_none groups OutOfMemory none damaged = damaged

  damaged_head : (form : HeadForm) (groups : List (List ℕ)) (fault : JournalFault) → groups ≡ sealed (head_text form marks) ∷ [] → IsDamaged groups fault → ⊥
  damaged_head form groups (Damaged zero) is damaged =
      damaged.damaged (head_text form marks) (sym (get_or_from_slice_get groups 0 damaged.group [] damaged.is) ∙ ap (λ (gs : List (List ℕ)). get_or gs 0 []) is)
  damaged_head form groups (Damaged (suc number)) is damaged = absurd (omega (arith, slice_get_within groups (suc number) damaged.group damaged.is, ap length is))
  damaged_head form groups NotAJournal is damaged = damaged
  damaged_head form groups (NewerForm number) is damaged = damaged
  damaged_head form groups (OtherTables table) is damaged = damaged
  damaged_head form groups OutOfMemory is damaged = damaged

  -- no group, and a beginning
  pub no_fault_new : (groups : List (List ℕ)) (rest : List ℕ) (fault : JournalFault) → groups ≡ [] → IsBeginning marks rest → IsOpenFault marks groups rest fault → ⊥
  no_fault_new groups rest fault none begins (inl (inl damaged)) = damaged_none groups fault none damaged
  no_fault_new groups rest fault none begins (inl (inr (inl other))) = other.2 begins
  no_fault_new groups rest fault none begins (inl (inr (inr other))) = absurd (omega (arith, ap length (sym none ∙ other.are)))
  no_fault_new groups rest fault none begins (inr batch) =
      absurd (omega (arith, ap length (sym none ∙ batch.are), ap length batch.sealed, length-append batch.first_groups batch.more))

  -- the head and no texts
  pub no_fault_head : (form : HeadForm) (groups : List (List ℕ)) (rest : List ℕ) (fault : JournalFault) → groups ≡ sealed (head_text form marks) ∷ [] → IsOpenFault marks groups rest fault → ⊥
  no_fault_head form groups rest fault is (inl (inl damaged)) = damaged_head form groups fault is damaged
  no_fault_head form groups rest fault is (inl (inr (inl other))) = absurd (omega (arith, ap length (sym is ∙ other.1)))
  no_fault_head form groups rest fault is (inl (inr (inr other))) =
      let same : head_text form marks ≡ other.head = sealed-injective (head_text form marks) other.head (ap (λ (gs : List (List ℕ)). get_or gs 0 []) (sym is ∙ other.are)) in
      head_is_told form fault (subst (λ (text : List ℕ). IsHeadFault marks text fault) (sym same) other.told)
  no_fault_head form groups rest fault is (inr batch) =
      absurd (omega (arith, ap length (sym is ∙ batch.are), length-append batch.first_groups batch.more, ap length batch.sealed, length-map batch.texts sealed, slice_get_within batch.texts batch.first.place batch.first.text batch.first.is))

pub if_both_ok : {T E : Type 0} (result : Result T E) (P Q R : T → Type 0) → IfOk result P → IfOk result Q → ((t : T) → P t → Q t → R t) → IfOk result R
if_both_ok (Ok t) P Q R p q means = means t p q
if_both_ok (Err e) P Q R p q means = tt

pub if_both_err : {T E : Type 0} (result : Result T E) (P Q R : E → Type 0) → IfErr result P → IfErr result Q → ((e : E) → P e → Q e → R e) → IfErr result R
if_both_err (Ok t) P Q R p q means = tt
if_both_err (Err e) P Q R p q means = means e p q

-- an error that was handed on
pub err_is : {T E : Type 0} (result : Result T E) (e : E) (P : E → Type 0) → IsErr result × IsErrAnd result (λ x. x ≡ e) → P e → IfErr result P
err_is (Ok t) e P is holds = tt
err_is (Err x) e P is holds = subst P (sym is.1) holds

module _ {D : Type 0} (moment : D → ℕ) (left_since : D → ℕ → List ℕ → Type 0) (marks : List TableMark) where
  pub mended : (old new : D) (was : List ℕ) → recovered was ≡ [] → IsBeginning marks (behind was)
      → LeavesOnly moment left_since old new (λ c. recovered c ≡ recovered was) → LeavesOnly moment left_since old new (IsMending was) → LeavesOnly moment left_since old new (IsNewJournal marks)
  mended old new was none begins same torn =
      leaves moment left_since old new (λ c. (recovered c ≡ recovered was) × IsMending was c) (IsNewJournal marks)
      (both moment left_since old new (λ c. recovered c ≡ recovered was) (IsMending was) same torn)
      (λ c left. mending_begins marks was c none begins left.0 left.1)

  pub appended : (old mid new : D) (groups : List (List ℕ)) (group : List ℕ) → groups ≡ [] → group ≡ sealed (new_head marks)
      → LeavesOnly moment left_since old mid (IsNewJournal marks)
      → LeavesOnly moment left_since mid new (IsBeforeOrAfter groups group) → LeavesOnly moment left_since mid new (IsAppending groups group) → LeavesOnly moment left_since old new (IsNewJournal marks)
  appended old mid new groups group none is until whole torn =
      then_leaves moment left_since old mid new (IsNewJournal marks) (λ c. IsBeforeOrAfter groups group c × IsAppending groups group c) (IsNewJournal marks) until
      (both moment left_since mid new (IsBeforeOrAfter groups group) (IsAppending groups group) whole torn)
      (λ c left. left)
      (λ c left. appending_begins marks groups c none (subst (λ (g : List ℕ). IsBeforeOrAfter groups g c) is left.0) (subst (λ (g : List ℕ). IsAppending groups g c) is left.1))
