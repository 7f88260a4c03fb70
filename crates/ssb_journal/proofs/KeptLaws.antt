-- What texts of a journal spell.
use Rattle.std.proofs.Common.{◌≡◌, ℕ, ◌+◌, ◌<◌, ◌≤◌, inl, inr, ⊎_elim, List, [], ◌∷◌, ◌++◌, Vec, Global, length, get_or}
use Rattle.std.proofs.Common.{take, map, Some, refl, sym, ◌∙◌, ap, subst, arith}
use Rattle.std.specs.Prelude.{Result, Ok, Err, IfOk, IfErr}
use Rattle.std.specs.List.{AllByRecursion, AllZip, flat_map}
use Rattle.std.proofs.lemmas.List.{append-nil, take_more, get_or-map, length-map, map_push}
use Rattle.std.proofs.lemmas.Grind.{flat_map-append}
use Rattle.std.proofs.lemmas.Option.{slice_get-get_or}
use Rattle.journal.specs.Groups.{lists, recovered, IsBeforeOrAfter}
use Rattle.row_store.specs.History.{CommitRecord}
use Rattle.ssb_journal.specs.Seals.{sealed}
use Rattle.ssb_journal.specs.Heads.{head_text}
use Rattle.ssb_journal.specs.declared.head.TableMark.{TableMark}
use Rattle.ssb_journal.specs.declared.fault.JournalFault.TheVariants.{Damaged}
use Rattle.ssb_audit.specs.declared.trace.Told.{Told}
use Rattle.ssb_audit.specs.declared.trace.Trace.{Trace}
use Rattle.ssb_script.specs.declared.error.ScriptError.{ScriptError}
use Rattle.ssb_script.specs.declared.error.ScriptError.TheVariants as error
use Rattle.ssb_trace.specs.Laws.{HasOneReading}
use Rattle.ssb_trace.specs.Traces.{IsTraceFault, SpellsTrace}
use Rattle.ssb_journal.specs.Kept.{trace_of, SpellsBatch, SpellCommits, SpellsNoBatch, IsFirstNoBatch, KeepsCommits}
use Rattle.ssb_journal.specs.Kept.{KeepsWithOrWithout, IsGroupOf}

-- each has P, and where it has P it has Q
pub all_meet : {A : Type 0} (P Q : A → Type 0) (xs : List A) → AllByRecursion P xs → AllByRecursion (λ x. P x → Q x) xs → AllByRecursion Q xs
all_meet P Q [] ps means = tt
all_meet P Q (x ∷ xs) ps means = (means.0 ps.0, all_meet P Q xs ps.1 means.1)

all_zip_push : {A B : Type 0} (R : A → B → Type 0) (xs : List A) (ys : List B) (x : A) (y : B) → AllZip R xs ys → R x y → AllZip R (xs ++ x ∷ []) (ys ++ y ∷ [])
all_zip_push R [] [] x y all one = (one, tt)
all_zip_push R [] (b ∷ ys) x y all one = absurd all
all_zip_push R (a ∷ xs) [] x y all one = absurd all
all_zip_push R (a ∷ xs) (b ∷ ys) x y all one = (all.0, all_zip_push R xs ys x y all.1 one)

-- the same of lists one behind the other
pub zip_both : {A B : Type 0} (R : A → B → Type 0) (xs zs : List A) (ys ws : List B) → AllZip R xs ys → AllZip R zs ws
    → AllZip R (xs ++ zs) (ys ++ ws)
zip_both R [] zs [] ws a b = b
zip_both R [] zs (y ∷ ys) ws a b = absurd a
zip_both R (x ∷ xs) zs [] ws a b = absurd a
zip_both R (x ∷ xs) zs (y ∷ ys) ws a b = (a.0, zip_both R xs zs ys ws a.1 b)

-- one text more
pub spell_more : (texts : List (List ℕ)) (commits : List CommitRecord) (text : List ℕ) (batch : List CommitRecord) → SpellCommits texts commits → SpellsBatch text batch → SpellCommits (texts ++ text ∷ []) (commits ++ batch)
spell_more texts commits text batch so_far one = record {
  batches = so_far.batches ++ batch ∷ [];
  spelled = all_zip_push SpellsBatch texts so_far.batches text batch so_far.spelled one;
  whole = flat_map-append (λ (b : List CommitRecord). b) so_far.batches (batch ∷ []) ∙ ap (λ (cs : List CommitRecord). cs ++ (batch ++ [])) so_far.whole ∙ ap (λ (b : List CommitRecord). commits ++ b) (append-nil batch);
}

pub spell_none : SpellCommits [] []
spell_none = record { batches = []; spelled = tt; whole = refl }

-- texts spell one list of batches
one_batches : ((text : List ℕ) → HasOneReading text) → (texts : List (List ℕ)) (bs ds : List (List CommitRecord)) → AllZip SpellsBatch texts bs → AllZip SpellsBatch texts ds → bs ≡ ds
one_batches reads [] [] [] one other = refl
one_batches reads [] [] (d ∷ ds) one other = absurd other
one_batches reads [] (b ∷ bs) ds one other = absurd one
one_batches reads (t ∷ ts) [] ds one other = absurd one
one_batches reads (t ∷ ts) (b ∷ bs) [] one other = absurd other
one_batches reads (t ∷ ts) (b ∷ bs) (d ∷ ds) one other =
    let first : trace_of b ≡ trace_of d = reads t one.0.0 other.0.0 (trace_of b) (trace_of d) one.0.1 other.0.1 in
    ap (λ (trace : Trace). trace.commits ∷ bs) first ∙ ap (λ (l : List (List CommitRecord)). d ∷ l) (one_batches reads ts bs ds one.1 other.1)

pub one_list : ((text : List ℕ) → HasOneReading text) → (texts : List (List ℕ)) (cs ds : List CommitRecord) → SpellCommits texts cs → SpellCommits texts ds → cs ≡ ds
one_list reads texts cs ds one other =
    sym one.whole ∙ ap (flat_map (λ (b : List CommitRecord). b)) (one_batches reads texts one.batches other.batches one.spelled other.spelled) ∙ other.whole

-- a text that spells no trace
pub no_trace : (most : ℕ) (text : List ℕ) (e : ScriptError) → (e ≡ error.Read → ⊥) → (e ≡ error.OutOfMemory → ⊥) → IsTraceFault most text e → SpellsNoBatch text
no_trace most text e not_read not_memory fault =
    ⊎_elim (λ is. absurd (not_read is)) (λ more. ⊎_elim (λ is. absurd (not_memory is)) (λ told. ⊎_elim (λ first. inl (most, e, first)) (λ ends. inr (inl (most, ends.1))) told) more) fault

-- the commits that a file keeps, with a group more
pub keeps_more : (marks : List TableMark) (before more : List CommitRecord) (old new group : List ℕ) → KeepsCommits marks before old → IsGroupOf more group → recovered new ≡ recovered old ++ group ∷ [] → KeepsCommits marks (before ++ more) new
keeps_more marks before more old new group kept is grown = record {
  texts = kept.texts ++ is.text ∷ [];
  is_journal = (
    kept.is_journal.0,
    grown ∙ ap (λ (gs : List (List ℕ)). gs ++ group ∷ []) kept.is_journal.1
        ∙ ap (λ (g : List ℕ). map sealed (head_text kept.is_journal.0 marks ∷ kept.texts) ++ g ∷ []) is.is
        ∙ sym (map_push sealed (head_text kept.is_journal.0 marks ∷ kept.texts) is.text),
  );
  spelled = spell_more kept.texts before is.text more kept.spelled is.spells;
}

-- the same groups keep the same commits
pub keeps_same : (marks : List TableMark) (commits : List CommitRecord) (old new : List ℕ) → KeepsCommits marks commits old → recovered new ≡ recovered old → KeepsCommits marks commits new
keeps_same marks commits old new kept same_groups = record { texts = kept.texts; is_journal = (kept.is_journal.0, same_groups ∙ kept.is_journal.1); spelled = kept.spelled }

module _ (texts : List (Vec ℕ Global)) (i : ℕ) (text : Vec ℕ Global) (inside : i < length texts) (is : text ≡ get_or texts i text) where
  within : i < length (lists texts)
  within = omega (arith, length-map texts (λ (v : Vec ℕ Global). v.items))

  at : get_or (lists texts) i [] ≡ text.items
  at = get_or-map (λ (v : Vec ℕ Global). v.items) texts i text [] inside ∙ ap (λ (v : Vec ℕ Global). v.items) (sym is)

  -- the commits of one text more
  pub commits_more : (commits batch all : List CommitRecord) → SpellCommits (take i (lists texts)) commits → SpellsBatch text.items batch → all ≡ commits ++ batch → SpellCommits (take (i + 1) (lists texts)) all
  commits_more commits batch all so_far one all_is =
      let next : take (i + 1) (lists texts) ≡ take i (lists texts) ++ text.items ∷ [] = take_more (lists texts) i [] within ∙ ap (λ (t : List ℕ). take i (lists texts) ++ t ∷ []) at in
      subst (λ (ts : List (List ℕ)). SpellCommits ts all) (sym next)
      (subst (SpellCommits (take i (lists texts) ++ text.items ∷ [])) (sym all_is) (spell_more (take i (lists texts)) commits text.items batch so_far one))

  -- a text that spells no commits
  pub first_no_batch : (commits : List CommitRecord) → SpellCommits (take i (lists texts)) commits → SpellsNoBatch text.items → IsFirstNoBatch (lists texts) (Damaged (i + 1))
  first_no_batch commits so_far none = record {
    place = i;
    told = refl;
    text = text.items;
    is = slice_get-get_or (lists texts) i [] within ∙ ap (λ (t : List ℕ). Some t) at;
    no_batch = none;
    before = commits;
    spelled = so_far;
  }

pub none_left : {A : Type 0} (xs : List A) → length xs ≤ 0 → xs ≡ []
none_left [] few = refl
none_left (x ∷ xs) few = absurd (omega arith)

-- a trace without answers spells its commits
pub batch_spelled : (most : ℕ) (text : List ℕ) (trace : Trace) (batch : List CommitRecord) → SpellsTrace most text trace → length trace.answers ≤ 0 → batch ≡ trace.commits → SpellsBatch text batch
batch_spelled most text trace batch spelled none same =
    let is : trace ≡ trace_of batch = ap (λ (answers : List Told). record trace { answers = answers }) (none_left trace.answers none) ∙ ap trace_of (sym same) in
    (most, subst (SpellsTrace most text) is spelled)

-- what holds where a call has succeeded, or failed
pub if_ok : {A E : Type 0} (r : Result A E) (P Q : A → Type 0) → IfOk r P → ((a : A) → P a → Q a) → IfOk r Q
if_ok (Ok a) P Q holds means = means a holds
if_ok (Err e) P Q holds means = tt

pub if_err : {A E : Type 0} (r : Result A E) (P Q : E → Type 0) → IfErr r P → ((e : E) → P e → Q e) → IfErr r Q
if_err (Ok a) P Q holds means = tt
if_err (Err e) P Q holds means = means e holds

-- a file after an append, or at a moment of it
pub keeps_either : (marks : List TableMark) (before more : List CommitRecord) (old group file : List ℕ) → KeepsCommits marks before old → IsGroupOf more group → IsBeforeOrAfter (recovered old) group file → KeepsWithOrWithout marks before more file
keeps_either marks before more old group file kept is left =
    ⊎_elim (λ same. inl (keeps_same marks before old file kept same)) (λ grown. inr (keeps_more marks before more old file group kept is grown)) left
