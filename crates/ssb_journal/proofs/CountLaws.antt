-- How what a journal keeps of a log grows.
use Rattle.std.proofs.Common.{◌≡◌, inl, inr, ⊎_elim, ℕ, ◌+◌, ◌≤◌, Bool, false, List, ◌++◌, length, take, drop}
use Rattle.std.proofs.Common.{sym, ◌∙◌, ap, subst, Result, Ok, Err, arith}
use Rattle.std.specs.Prelude.{IfErr}
use Rattle.std.proofs.lemmas.Bool.{both_ways}
use Rattle.std.proofs.lemmas.List.{length-append, length-take-le, take_all, take-append-drop, take-append-le}
use Rattle.journal.specs.Disk.{LeavesOnly, Only}
use Rattle.journal.specs.Groups.{recovered}
use Rattle.journal.proofs.MomentLaws.{leaves, stays}
use Rattle.row_store.specs.History.{CommitRecord, IsPrefix}
use Rattle.ssb_journal.specs.declared.head.TableMark.{TableMark}
use Rattle.ssb_journal.specs.declared.kept.KeptCommits.{KeptCommits}
use Rattle.ssb_journal.specs.Kept.{KeepsCommits, KeepsWithOrWithout, SpellCommits}
use Rattle.ssb_journal.specs.Opening.{IsKept}
use Rattle.ssb_journal.specs.Counts.{Begun, HaveFirst, IsLeft, KeepsBeginning, KeepsFirst, KeepsSince}

-- a beginning of a log, with fewer commits at least
beginning_of_fewer : (least count : ℕ) (log : List CommitRecord) (file : List ℕ) → least ≤ count → KeepsBeginning count log file → KeepsBeginning least log file
beginning_of_fewer least count log file fewer was = record { count = was.count; enough = omega (arith, fewer, was.enough); first = was.first }

-- of a longer log too
pub keeps_of_longer : (count : ℕ) (shorter longer : List CommitRecord) (file : List ℕ) → IsPrefix shorter longer → KeepsFirst count shorter file → KeepsFirst count longer file
keeps_of_longer count shorter longer file begins first = grind (arith, take-append-le, length-append)

pub beginning_of_longer : (least : ℕ) (shorter longer : List CommitRecord) (file : List ℕ) → IsPrefix shorter longer → KeepsBeginning least shorter file → KeepsBeginning least longer file
beginning_of_longer least shorter longer file begins was = record { count = was.count; enough = was.enough; first = keeps_of_longer was.count shorter longer file begins was.first }

-- since it was begun, of a longer log too
pub since_of_longer : (begun : Begun) (now : ℕ) (left_since : ℕ → List ℕ → Type 0) (count : ℕ) (shorter longer : List CommitRecord)
    → IsPrefix shorter longer → KeepsSince begun now left_since count shorter → KeepsSince begun now left_since count longer
since_of_longer begun now left_since count shorter longer begins since = record {
  later = since.later;
  enough = since.enough;
  before = λ t file le left. ⊎_elim (λ was. inl was) (λ kept. inr (beginning_of_longer begun.count shorter longer file begins kept)) (since.before t file le left);
}

whole_log : (count : ℕ) (log rest : List CommitRecord) → rest ≡ drop count log → take count log ++ rest ≡ take (length log) log
whole_log count log rest is = ap (λ (end : List CommitRecord). take count log ++ end) is ∙ take-append-drop count log ∙ sym (take_all (length log) log (omega arith))

-- with the rest of the log, all of it
pub keeps_whole : (count : ℕ) (log rest : List CommitRecord) (old new : List ℕ) → rest ≡ drop count log → KeepsFirst count log old
    → ((marks : List TableMark) (before : List CommitRecord) → KeepsCommits marks before old → KeepsCommits marks (before ++ rest) new)
    → KeepsFirst (length log) log new
keeps_whole count log rest old new is first more = grind (arith, whole_log)

-- the rest of a log completes its count
pub counted : (count : ℕ) (log rest : List CommitRecord) → rest ≡ drop count log → count ≤ length log → count + length rest ≡ length log
counted count log rest is inside =
    omega (arith, length-append (take count log) (drop count log), ap length (take-append-drop count log), length-take-le count log inside, ap length is)

-- with the rest of the log or without it
keeps_either_way : (count : ℕ) (log rest : List CommitRecord) (old file : List ℕ) → rest ≡ drop count log → (first : KeepsFirst count log old) → KeepsWithOrWithout first.marks (take count log) rest file → KeepsBeginning count log file
keeps_either_way count log rest old file is first left = grind (arith, ⊎_elim, whole_log)

module _ {D : Type 0} (moment : D → ℕ) (left_since : D → ℕ → List ℕ → Type 0) (seen : D → List ℕ) where
  -- while the rest of the log is appended
  pub leaves_beginning : (count : ℕ) (log rest : List CommitRecord) (old new : D) → rest ≡ drop count log → KeepsFirst count log (seen old)
      → ((marks : List TableMark) (before : List CommitRecord) → KeepsCommits marks before (seen old) → LeavesOnly moment left_since old new (KeepsWithOrWithout marks before rest))
      → LeavesOnly moment left_since old new (KeepsBeginning count log)
  leaves_beginning count log rest old new is first run =
      leaves moment left_since old new (KeepsWithOrWithout first.marks (take count log) rest) (KeepsBeginning count log)
      (run first.marks (take count log) first.keeps)
      (λ file left. keeps_either_way count log rest (seen old) file is first left)

  -- since it was begun, and one append more
  pub since_goes_on : (begun : Begun) (count after : ℕ) (log : List CommitRecord) (old new : D) → count ≤ after
      → KeepsSince begun (moment old) (left_since old) count log → LeavesOnly moment left_since old new (KeepsBeginning count log)
      → KeepsSince begun (moment new) (left_since new) after log
  since_goes_on begun count after log old new more since run = record {
    later = omega (arith, since.later, run.later);
    enough = omega (arith, since.enough, more);
    before = λ t file le left.
        ⊎_elim (λ was. since.before t file le was) (λ kept. inr (beginning_of_fewer begun.count count log file since.enough kept))
        (run.before t file (omega (arith, le, since.later)) left);
  }

  -- where no call is made
  pub stays_beginning : (count : ℕ) (log : List CommitRecord) (disk : D) (may_leave : D → List ℕ → Type 0) → KeepsFirst count log (seen disk)
      → ((file : List ℕ) → left_since disk (moment disk) file → may_leave disk file) → Only (seen disk) (may_leave disk)
      → LeavesOnly moment left_since disk disk (KeepsBeginning count log)
  stays_beginning count log disk may_leave first now durable =
      stays moment left_since disk (KeepsBeginning count log)
      (λ file left. subst (KeepsBeginning count log) (sym (durable file (now file left))) (record { count = count; enough = omega arith; first = first }))

  -- what is left where a run of calls has failed: a crash now leaves what one at some moment of it may leave
  pub left_failed : (may_leave : D → List ℕ → Type 0)
      → ((disk : D) (t : ℕ) (file : List ℕ) → t ≤ moment disk → may_leave disk file → left_since disk t file)
      → (count : ℕ) (log : List CommitRecord) (old new : D) → LeavesOnly moment left_since old new (KeepsBeginning count log)
      → IsLeft (may_leave new) (seen new) count log false
  left_failed may_leave counts_now count log old new run = record {
    crash = λ file left. run.each file (counts_now new (moment old) file run.later left);
    written = λ is. cc;
  }

-- the groups of a file that keeps the first commits of a log
pub have_first : (count : ℕ) (log : List CommitRecord) (file : List ℕ) (groups : List (List ℕ)) → KeepsFirst count log file
    → groups ≡ recovered file → HaveFirst count log groups
have_first count log file groups first are =
    let keeps = first.keeps in
    record {
      form = keeps.is_journal.0;
      marks = first.marks;
      texts = keeps.texts;
      sealed = are ∙ keeps.is_journal.1;
      spelled = keeps.spelled;
      inside = first.inside;
    }

-- the groups of a file whose commits were read have those of the log of who has seen just these
pub kept_have_first : (marks : List TableMark) (kept : KeptCommits) (groups promised : List (List ℕ)) (seen : List CommitRecord)
    → IsKept marks groups kept → kept.is_new ≡ false → promised ≡ groups → seen ≡ kept.commits.items
    → HaveFirst kept.count seen promised
kept_have_first marks kept groups promised seen is old same seen_is = ⊎_elim
    (λ new. absurd (both_ways _ old new.0))
    (λ was.
    let are = was.1 in
    let whole : take kept.count seen ≡ kept.commits.items = ap (take kept.count) seen_is ∙ take_all kept.count kept.commits.items (omega (arith, kept.counted)) in
    record {
      form = kept.form;
      marks = marks;
      texts = are.texts;
      sealed = same ∙ are.sealed;
      spelled = subst (SpellCommits are.texts) (sym whole) are.spelled;
      inside = omega (arith, kept.counted, ap length seen_is);
    })
    is

-- what is left of a journal that is on the disk
pub left_whole : (may_leave : List ℕ → Type 0) (seen : List ℕ) (count : ℕ) (log : List CommitRecord) (whole : Bool)
    → Only seen may_leave → KeepsFirst count log seen → IsLeft may_leave seen count log whole
left_whole may_leave seen count log whole durable first = grind arith

-- of a longer log too
pub left_of_longer : (may_leave : List ℕ → Type 0) (seen : List ℕ) (count : ℕ) (shorter longer : List CommitRecord) (whole : Bool)
    → IsPrefix shorter longer → IsLeft may_leave seen count shorter whole → IsLeft may_leave seen count longer whole
left_of_longer may_leave seen count shorter longer whole begins left = record {
  crash = λ file may. let was = left.crash file may in record { count = was.count; enough = was.enough; first = keeps_of_longer was.count shorter longer file begins was.first };
  written = λ is. keeps_of_longer count shorter longer seen begins (left.written is);
}

-- two things that hold of what has failed
pub both_err : {A E : Type 0} (r : Result A E) (P Q R : E → Type 0) → IfErr r P → IfErr r Q → ((e : E) → P e → Q e → R e) → IfErr r R
both_err (Ok a) P Q R one other means = tt
both_err (Err e) P Q R one other means = means e one other
