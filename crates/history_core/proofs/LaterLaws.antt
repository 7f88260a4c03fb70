-- What an observer may conclude from a true run: a client's answers never go back.
use Rattle.std.proofs.Common.{◌≡◌, ℕ, zero, suc, ◌<◌, ◌≤◌, Bool, List, []}
use Rattle.std.proofs.Common.{◌∷◌, length, take, subst, ◌∙◌, arith, zero-le}
use Rattle.std.proofs.lemmas.Bool.Decides.{nat_tests}
use Rattle.std.specs.Prelude.{filter}
use Rattle.ssb_base.specs.Base.{Tables}
use Rattle.ssb_answers.specs.declared.answer.ResultRow.{ResultRow}
use Rattle.row_store.specs.History.{CommitRecord}
use Rattle.history_core.specs.declared.event.EventReply.{EventReply}
use Rattle.history_core.specs.declared.event.EventReply.TheVariants.{Rows}
use Rattle.history_core.specs.Events.{Questions, Event, Collect}
use Rattle.history_core.specs.TrueRun.{Happens, is_committed, Outstanding, IsTrueRun}
use Rattle.history_core.proofs.HistoryLaws.{some_injective}

takes_more : {A : Type 0} (test : A → Bool) (n m : ℕ) (l : List A) → n ≤ m
    → length (filter test (take n l)) ≤ length (filter test (take m l))
takes_more test zero m l h = grind (arith, zero-le)
takes_more test (suc n) zero l h = grind arith
takes_more test (suc n) (suc m) [] h = grind (arith, zero-le)
takes_more {A = A} test (suc n) (suc m) (x ∷ xs) h = grind (arith, takes_more test n m xs (omega arith))

-- the earlier of two collects of one client stands before the Post of the later
before_post : (es : List Event) (rs : List EventReply) (client : ℕ) (questions q : Questions)
    (rows : List (List ResultRow)) (at : ℕ) (first second : ℕ) (o : Outstanding es rs client questions second)
    → Happens es rs first (Collect client) (Rows q at rows) → first < second → first < o.grabbed
before_post es rs client questions q rows at first second o h less = grind (arith, nat_tests, some_injective)

pub never_back : (base : Tables) (es : List Event) (rs : List EventReply) (history : List CommitRecord)
    → IsTrueRun base es rs history → (client first second : ℕ) (p q : Questions) (early late : ℕ) (f g : List (List ResultRow))
    → first < second
    → Happens es rs first (Collect client) (Rows p early f) → Happens es rs second (Collect client) (Rows q late g)
    → early ≤ late
never_back base es rs history k client first second p q early late f g less h i =
    let t = k.true_replies first (Collect client) (Rows p early f) h in
    let s = k.true_replies second (Collect client) (Rows q late g) i in
    let same : client ≡ s.0 = cc s.1 in
    let low =
    before_post es rs s.0 q p f early first second s.2
    (subst (λ n. Happens es rs first (Collect n) (Rows p early f)) same h) less in
    let high = t.4 in let floor = s.3 in
    let more = takes_more is_committed first s.2.grabbed rs (omega arith) in omega arith
