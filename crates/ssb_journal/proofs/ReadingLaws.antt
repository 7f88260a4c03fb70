-- What is told of a journal's file, of the groups that were read of it.
use Rattle.std.proofs.Common.{◌≡◌, ℕ, ◌+◌, ◌<◌, ◌≤◌, Bool, true, false, inl, inr, ⊎_elim, List, [], ◌∷◌, ◌++◌, length, map, take, drop}
use Rattle.std.proofs.Common.{Vec, Global, get_or, Some, refl, sym, ◌∙◌, ap, subst, arith, append_assoc, length-append}
use Rattle.std.specs.Prelude.{slice_get, Option, None, MatchOption}
use Rattle.std.specs.List.{flat_map, AllZip}
use Rattle.std.proofs.lemmas.Bool.{both_ways}
use Rattle.std.proofs.lemmas.Grind.{flat_map-append}
use Rattle.std.proofs.lemmas.List.{append-nil, get_or_at, length-map, map-append, take-append-drop, take_all, take_at}
use Rattle.std.proofs.lemmas.Option.{get_or_from_slice_get, slice_get-get_or, slice_get_read, slice_get_within}
use Rattle.std.proofs.Math.Seq.{get_or-append-add, take-append-add}
use Rattle.journal.specs.Disk.{BeginsAsRead}
use Rattle.journal.specs.Groups.{recovered, behind, lists}
use Rattle.journal.specs.Reading.{HasFirst}
use Rattle.row_store.specs.History.{CommitRecord}
use Rattle.ssb_journal.specs.Gathered.{AreNext, IsFaultBehind, IsFirstGroupFault}
use Rattle.ssb_journal.specs.Heads.{head_text}
use Rattle.ssb_journal.proofs.KeptLaws.{zip_both}
use Rattle.ssb_journal.specs.Kept.{BeginsWithCommits, IsFirstNoBatch, SpellCommits, SpellsBatch}
use Rattle.ssb_journal.specs.Opening.{AreKept, IsKept, IsOpenFault}
use Rattle.ssb_journal.specs.Reading.{are_all_read, IsReading, IsToldNext}
use Rattle.ssb_journal.specs.Seals.{sealed}
use Rattle.ssb_journal.specs.Texts.{AreSealed, IsBeginning, IsDamaged}
use Rattle.ssb_journal.specs.declared.fault.JournalFault.{JournalFault}
use Rattle.ssb_journal.specs.declared.fault.JournalFault.TheVariants.{Damaged, NotAJournal}
use Rattle.ssb_journal.specs.declared.head.HeadForm.{HeadForm}
use Rattle.ssb_journal.specs.declared.head.TableMark.{TableMark}
use Rattle.ssb_journal.specs.declared.kept.KeptCommits.{KeptCommits}

-- texts, and more texts behind them
spell_both : (texts more : List (List ℕ)) (commits batch : List CommitRecord) → SpellCommits texts commits
    → SpellCommits more batch → SpellCommits (texts ++ more) (commits ++ batch)
spell_both texts more commits batch first second = record {
  batches = first.batches ++ second.batches;
  spelled = zip_both SpellsBatch texts more first.batches second.batches first.spelled second.spelled;
  whole = flat_map-append (λ (b : List CommitRecord). b) first.batches second.batches
      ∙ ap (λ (cs : List CommitRecord). cs ++ flat_map (λ (b : List CommitRecord). b) second.batches) first.whole
      ∙ ap (λ (cs : List CommitRecord). commits ++ cs) second.whole;
}

sealed_more : (form : HeadForm) (marks : List TableMark) (texts more groups : List (List ℕ)) → AreSealed form marks texts groups
    → AreSealed form marks (texts ++ more) (groups ++ map sealed more)
sealed_more form marks texts more groups is =
    ap (λ (gs : List (List ℕ)). gs ++ map sealed more) is ∙ sym (map-append sealed (head_text form marks ∷ texts) more)

at_seam : {X : Type 0} (xs : List X) (x : X) (ys : List X) (n : ℕ) → n ≡ length xs → slice_get (xs ++ x ∷ ys) n ≡ Some x
at_seam xs x ys n is =
    slice_get_read (xs ++ x ∷ ys) (length (xs ++ x ∷ ys)) n x refl (omega (arith, is, length-append xs (x ∷ ys)))
    (sym (get_or_at xs x ys x n (sym is)))

pub at_behind : {X : Type 0} (xs ys : List X) (k n : ℕ) (x : X) → n ≡ length xs + k → slice_get ys k ≡ Some x
    → slice_get (xs ++ ys) n ≡ Some x
at_behind {X} xs ys k n x n_is is =
    let inside : k < length ys = slice_get_within ys k x is in
    slice_get-get_or (xs ++ ys) n x (omega (arith, n_is, inside, length-append xs ys))
    ∙ ap (λ (y : X). Some y) (ap (λ (m : ℕ). get_or (xs ++ ys) m x) n_is ∙ get_or-append-add xs ys k x ∙ get_or_from_slice_get ys k x x is)

abbrev number_of : JournalFault → ℕ
number_of (Damaged number) = number
number_of _ = 0

-- behind texts that spell commits, one that spells none
no_batch_behind : (texts more : List (List ℕ)) (commits : List CommitRecord) (before count : ℕ) → before ≡ length texts
    → SpellCommits texts commits → IsFirstNoBatch more (Damaged (count + 1))
    → IsFirstNoBatch (texts ++ more) (Damaged (before + count + 1))
no_batch_behind texts more commits before count many spelled first =
    let at : count + 1 ≡ first.place + 1 = ap number_of first.told in
    record {
      place = length texts + first.place;
      told = ap (λ (n : ℕ). Damaged n) (omega (arith, many, at));
      text = first.text;
      is = at_behind texts more first.place (length texts + first.place) first.text refl first.is;
      no_batch = first.no_batch;
      before = commits ++ first.before;
      spelled = subst (λ (ts : List (List ℕ)). SpellCommits ts (commits ++ first.before)) (sym (take-append-add texts more first.place))
          (spell_both texts (take first.place more) commits first.before spelled first.spelled);
    }

are_kept : (marks : List TableMark) (groups : List (List ℕ)) (kept : KeptCommits) → IsKept marks groups kept
    → kept.is_new ≡ false → AreKept marks groups kept
are_kept marks groups kept is old =
    ⊎_elim (λ new. absurd (both_ways kept.is_new old new.0)) (λ was. was.1) is

-- what is told of texts that were read together is a fault of each file that begins with all of these groups
pub fault_told : (marks : List TableMark) (groups new more texts : List (List ℕ)) (kept : KeptCommits) (before count : ℕ)
    (damaged : Bool) (file : List ℕ) (fault : JournalFault) → IsKept marks groups kept → kept.is_new ≡ false
    → length groups ≡ before + 1 → AreNext texts damaged groups new → recovered file ≡ new ++ more
    → IsFaultBehind before count texts damaged fault → IsOpenFault marks (recovered file) (behind file) fault
fault_told marks groups new more texts kept before count damaged file fault is old many next has (told, inl first) =
    let k = are_kept marks groups kept is old in
    let all : before ≡ length k.texts = omega (arith, many, ap length k.sealed, length-map k.texts sealed) in
    inr (record {
      first_groups = groups ++ map sealed texts;
      more = next.rest ++ more;
      are = has ∙ ap (λ (gs : List (List ℕ)). gs ++ more) next.grown ∙ append_assoc (groups ++ map sealed texts) next.rest more;
      form = kept.form;
      texts = k.texts ++ texts;
      sealed = sealed_more kept.form marks k.texts texts groups k.sealed;
      first = subst (IsFirstNoBatch (k.texts ++ texts)) (sym told)
          (no_batch_behind k.texts texts kept.commits.items before count all k.spelled first);
    })
fault_told marks groups new more texts kept before count damaged file fault is old many next has (told, inr last) =
    let k = are_kept marks groups kept is old in
    let b = next.broken last.0 in
    let sound = groups ++ map sealed texts in
    let number = before + count + 1 in
    let all : number ≡ length sound = omega (arith, many, last.1, length-append groups (map sealed texts), length-map texts sealed) in
    let whole : recovered file ≡ sound ++ b.0 ∷ (b.1 ++ more) =
    has ∙ ap (λ (gs : List (List ℕ)). gs ++ more) (next.grown ∙ ap (λ (gs : List (List ℕ)). sound ++ gs) b.2) ∙ append_assoc sound (b.0 ∷ b.1) more in
    inl (inl (subst (IsDamaged (recovered file)) (sym told) (record {
      group = b.0;
      is = ap (λ (gs : List (List ℕ)). slice_get gs number) whole ∙ at_seam sound b.0 (b.1 ++ more) number all;
      damaged = b.3;
      before = head_text kept.form marks ∷ (k.texts ++ texts);
      sealed_before = ap (take number) whole ∙ take_at sound (b.0 ∷ (b.1 ++ more)) number (sym all)
          ∙ sealed_more kept.form marks k.texts texts groups k.sealed;
    })))

-- some texts more are kept
kept_more : (marks : List TableMark) (groups texts : List (List ℕ)) (kept now : KeptCommits) (batch : List CommitRecord)
    → IsKept marks groups kept → kept.is_new ≡ false → SpellCommits texts batch → now.form ≡ kept.form → now.is_new ≡ kept.is_new
    → now.commits.items ≡ kept.commits.items ++ batch → IsKept marks (groups ++ map sealed texts) now
kept_more marks groups texts kept now batch is old spelled form same grown =
    let k = are_kept marks groups kept is old in
    inr (
      same ∙ old,
      record {
        texts = k.texts ++ texts;
        sealed = sealed_more kept.form marks k.texts texts groups k.sealed
            ∙ ap (λ (f : HeadForm). map sealed (head_text f marks ∷ (k.texts ++ texts))) (sym form);
        spelled = subst (SpellCommits (k.texts ++ texts)) (sym grown) (spell_both k.texts texts kept.commits.items batch k.spelled spelled);
      },
    )

-- so many groups they are
counted_more : (groups texts : List (List ℕ)) (before : ℕ) → length groups ≡ before + 1
    → length (groups ++ map sealed texts) ≡ before + length texts + 1
counted_more groups texts before count =
    omega (arith, count, length-append groups (map sealed texts), length-map texts sealed)

-- where no damaged group follows, they are all
whole_lot : (groups new texts : List (List ℕ)) (damaged : Bool) → AreNext texts damaged groups new → damaged ≡ false
    → groups ++ map sealed texts ≡ new
whole_lot groups new texts damaged next whole =
    sym (next.grown ∙ ap (λ (gs : List (List ℕ)). groups ++ map sealed texts ++ gs) (next.whole whole) ∙ append-nil (groups ++ map sealed texts))

-- a file that begins with all of them begins with the first of them
first_of_lot : (groups new texts : List (List ℕ)) (count : ℕ) (damaged : Bool) (file : List ℕ) → AreNext texts damaged groups new
    → HasFirst new file → HasFirst (groups ++ map sealed (take count texts)) file
first_of_lot groups new texts count damaged file next has =
    let front = map sealed (take count texts) in
    let back = map sealed (drop count texts) in
    let more = next.rest ++ has.0 in
    let parts : groups ++ map sealed texts ≡ groups ++ front ++ back =
    ap (λ (ts : List (List ℕ)). groups ++ map sealed ts) (sym (take-append-drop count texts))
    ∙ ap (λ (gs : List (List ℕ)). groups ++ gs) (map-append sealed (take count texts) (drop count texts))
    ∙ sym (append_assoc groups front back) in (
      back ++ more,
      has.1 ∙ ap (λ (gs : List (List ℕ)). gs ++ has.0) next.grown ∙ append_assoc (groups ++ map sealed texts) next.rest has.0
          ∙ ap (λ (gs : List (List ℕ)). gs ++ more) parts ∙ append_assoc (groups ++ front) back more,
    )

-- a file that begins with what was read begins with its groups
pub file_groups : (groups : List (List ℕ)) (taken : List ℕ) (Ended : Type 0) (file : List ℕ)
    → ((more : List ℕ) → HasFirst groups (taken ++ more)) → BeginsAsRead taken Ended file → HasFirst groups file
file_groups groups taken Ended file first is = ((first is.rest).0, ap recovered is.begins ∙ (first is.rest).1)

-- .. and is what was read, where that is all
pub whole_file : (taken : List ℕ) (Ended : Type 0) (file : List ℕ) → Ended → BeginsAsRead taken Ended file → file ≡ taken
whole_file taken Ended file ended is =
    is.begins ∙ ap (λ (l : List ℕ). taken ++ l) (is.whole ended) ∙ append-nil taken

-- such a file keeps the commits of its first groups
begins_with : (marks : List TableMark) (groups : List (List ℕ)) (kept : KeptCommits) (file : List ℕ)
    → IsKept marks groups kept → kept.is_new ≡ false → HasFirst groups file
    → BeginsWithCommits marks kept.commits.items file
begins_with marks groups kept file is old has =
    let k = are_kept marks groups kept is old in
    record {
      first = groups;
      more = has.0;
      groups = has.1;
      form = kept.form;
      texts = k.texts;
      sealed = k.sealed;
      spelled = k.spelled;
    }

-- what is told of the first group is a fault of each file that begins with it
pub first_group_told : (marks : List TableMark) (group : List ℕ) (more : List (List ℕ)) (file : List ℕ) (fault : JournalFault)
    → recovered file ≡ group ∷ more → IsFirstGroupFault marks group fault
    → IsOpenFault marks (recovered file) (behind file) fault
first_group_told marks group more file fault has (inl told) =
    inl (inl (subst (IsDamaged (recovered file)) (sym told.0) (record {
      group = group;
      is = ap (λ (gs : List (List ℕ)). slice_get gs 0) has ∙ at_seam [] group more 0 refl;
      damaged = told.1;
      before = [];
      sealed_before = ap (take 0) has;
    })))
first_group_told marks group more file fault has (inr told) =
    inl (inr (inr (record {
      head = told.0;
      more = more;
      are = has ∙ ap (λ (g : List ℕ). g ∷ more) told.1;
      told = told.2;
    })))

-- of a file without groups, that what is there is no beginning of a journal
pub other_file_told : (marks : List TableMark) (rest taken : List ℕ) (Ended : Type 0) (file : List ℕ) → recovered taken ≡ []
    → behind taken ≡ rest → Ended → (IsBeginning marks rest → ⊥) → BeginsAsRead taken Ended file
    → IsOpenFault marks (recovered file) (behind file) NotAJournal
other_file_told marks rest taken Ended file none is ended other read =
    let same = whole_file taken Ended file ended read in
    inl (inr (inl (refl, ap recovered same ∙ none, λ begins. other (subst (IsBeginning marks) (ap behind same ∙ is) begins))))

-- what is kept of the first texts more, and told of the group behind them
module _ (marks : List TableMark) (groups new texts : List (List ℕ)) (was rest : List ℕ) (was_done done : Bool) (before count : ℕ)
    (kept now : KeptCommits) (batch : List CommitRecord) (damaged : Bool) (taken : List ℕ) (Ended : Type 0)
    (is : IsReading marks groups was was_done before kept) (old : kept.is_new ≡ false) (next : AreNext texts damaged groups new)
    (spelled : SpellCommits (take count texts) batch) (form : now.form ≡ kept.form) (same : now.is_new ≡ kept.is_new)
    (grown : now.commits.items ≡ kept.commits.items ++ batch) (first : (more : List ℕ) → HasFirst new (taken ++ more)) where
  now_kept : IsKept marks (groups ++ map sealed (take count texts)) now
  now_kept = kept_more marks groups (take count texts) kept now batch is.kept_is old spelled form same grown

  pub reading_more : (fault : Option JournalFault)
      → MatchOption fault ((count ≡ length texts) × (damaged ≡ false)) (IsFaultBehind before count texts damaged)
      → MatchOption fault (IsReading marks new rest done (before + count) now) (IsToldNext marks taken Ended (before + count))
  reading_more None (whole, sound) =
      let all : groups ++ map sealed (take count texts) ≡ new =
      ap (λ (ts : List (List ℕ)). groups ++ map sealed ts) (take_all count texts (omega (arith, whole))) ∙ whole_lot groups new texts damaged next sound in
      record {
        kept_is = subst (λ (gs : List (List ℕ)). IsKept marks gs now) all now_kept;
        counted = λ _. ap length (sym (whole_lot groups new texts damaged next sound)) ∙ counted_more groups texts before (is.counted old) ∙ omega (arith, whole);
        new = λ is_new. absurd (both_ways now.is_new (same ∙ old) is_new);
      }
  reading_more (Some fault) told = (
    told.0,
    λ file read. let has = file_groups new taken Ended file first read in
        inr (fault_told marks groups new has.0 texts kept before count damaged file fault is.kept_is old (is.counted old) next has.1 told),
  )

  pub more_begins_with : (file : List ℕ) → BeginsAsRead taken Ended file → BeginsWithCommits marks now.commits.items file
  more_begins_with file read =
      begins_with marks (groups ++ map sealed (take count texts)) now file now_kept (same ∙ old)
      (first_of_lot groups new texts count damaged file next (file_groups new taken Ended file first read))

no_batches : (batches : List (List CommitRecord)) → AllZip SpellsBatch [] batches → batches ≡ []
no_batches [] all = refl
no_batches (b ∷ batches) all = absurd all

none_spelled : (batch : List CommitRecord) → SpellCommits [] batch → batch ≡ []
none_spelled batch is = sym is.whole ∙ ap (flat_map (λ (b : List CommitRecord). b)) (no_batches is.batches is.spelled)

no_texts : (texts : List (Vec ℕ Global)) → length (lists texts) ≡ 0 → texts ≡ []
no_texts [] none = refl
no_texts (t ∷ texts) none = absurd (omega (arith, none))

-- where no text is kept and no fault is told, all was read
pub nothing_more : (texts : List (Vec ℕ Global)) (before count : ℕ) (damaged done : Bool) (was now batch : List CommitRecord)
    (fault : Option JournalFault) → count ≡ 0 → fault ≡ None
    → MatchOption fault ((count ≡ length (lists texts)) × (damaged ≡ false)) (IsFaultBehind before count (lists texts) damaged)
    → SpellCommits (take count (lists texts)) batch → now ≡ was ++ batch → (texts ≡ [] → damaged ≡ false → done ≡ true)
    → (now ≡ was) × (are_all_read done fault ≡ true)
nothing_more texts before count damaged done was now batch None zero none (whole, sound) spelled grown ends = (
  grown ∙ ap (λ (cs : List CommitRecord). was ++ cs) (none_spelled batch (subst (λ (n : ℕ). SpellCommits (take n (lists texts)) batch) zero spelled))
      ∙ append-nil was,
  ends (no_texts texts (sym whole ∙ zero)) sound,
)
nothing_more texts before count damaged done was now batch (Some fault) zero none told spelled grown ends = cc

-- the texts that are handed on are fewer than the groups
pub few_texts : (groups new : List (List ℕ)) (texts : List (Vec ℕ Global)) (before count : ℕ) (damaged : Bool)
    → AreNext (lists texts) damaged groups new → length groups ≡ before + 1 → count ≤ length texts → before + count < length new
few_texts groups new texts before count damaged next many within =
    let read = map sealed (lists texts) in
    omega (
      arith,
      many,
      within,
      ap length next.grown,
      length-append (groups ++ read) next.rest,
      length-append groups read,
      length-map (lists texts) sealed,
      length-map texts (λ (v : Vec ℕ Global). v.items),
    )
