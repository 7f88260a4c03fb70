-- Beginnings of lists of commits.
use Rattle.std.proofs.Common.{◌≡◌, ℕ, List, [], ◌∷◌, ◌++◌, length, take, drop, refl, ap, sym, ◌∙◌, arith, length-append}
use Rattle.std.proofs.Common.{append_assoc}
use Rattle.std.proofs.lemmas.List.{append-nil, take-append-drop, take-append-le}
use Rattle.std.proofs.Math.Seq.{take-append_seam, drop-append_seam}
use Rattle.row_store.specs.History.{CommitRecord, IsPrefix}
use Rattle.row_store.specs.Laws.{BeginsWithItself, BeginningsChain, OneMoreBeginsWithIt, BeginningsOfOneAgree}
use Rattle.row_store.specs.Laws.{BeginningsAreShorter, AsLongIsTheWhole}

pub begins_with_itself : BeginsWithItself
begins_with_itself history = record { rest = []; whole = sym (append-nil history) }

pub prefix_empty : (history : List CommitRecord) → IsPrefix [] history
prefix_empty history = record { rest = history; whole = refl }

pub prefix_append : (history more : List CommitRecord) → IsPrefix history (history ++ more)
prefix_append history more = record { rest = more; whole = refl }

pub one_more_begins_with_it : OneMoreBeginsWithIt
one_more_begins_with_it history commit = prefix_append history (commit ∷ [])

pub prefix_take : (n : ℕ) (history : List CommitRecord) → IsPrefix (take n history) history
prefix_take n history = record { rest = drop n history; whole = sym (take-append-drop n history) }

pub beginnings_chain : BeginningsChain
beginnings_chain first second third p q = grind (arith, append_assoc)

-- a beginning stays one when commits come behind the whole
pub prefix_longer : (shorter longer more : List CommitRecord) → IsPrefix shorter longer
    → IsPrefix shorter (longer ++ more)
prefix_longer shorter longer more p = beginnings_chain shorter longer (longer ++ more) p (prefix_append longer more)

-- and when commits come before both
pub prefix_behind : (front shorter longer : List CommitRecord) → IsPrefix shorter longer
    → IsPrefix (front ++ shorter) (front ++ longer)
prefix_behind front shorter longer p = grind (arith, append_assoc)

pub beginnings_are_shorter : BeginningsAreShorter
beginnings_are_shorter shorter longer p = grind (arith, length-append)

-- the first commits of the whole are the beginning
pub take_prefix : (shorter longer : List CommitRecord) → IsPrefix shorter longer
    → take (length shorter) longer ≡ shorter
take_prefix shorter longer p = ap (take (length shorter)) p.whole ∙ take-append_seam shorter p.rest

-- and those that come after so many are the rest
pub drop_prefix : (shorter longer : List CommitRecord) (p : IsPrefix shorter longer)
    → drop (length shorter) longer ≡ p.rest
drop_prefix shorter longer p = ap (drop (length shorter)) p.whole ∙ drop-append_seam shorter p.rest

-- the whole is the beginning, and what comes after so many
pub prefix_drop : (shorter longer : List CommitRecord) → IsPrefix shorter longer → shorter
    ++ drop (length shorter) longer ≡ longer
prefix_drop shorter longer p = ap (λ list. shorter ++ list) (drop_prefix shorter longer p) ∙ sym p.whole

pub beginnings_of_one_agree : BeginningsOfOneAgree
beginnings_of_one_agree first second whole p q few =
    let same : take (length first) second ≡ first =
    sym (take-append-le (length first) second q.rest few) ∙ ap (take (length first)) (sym q.whole)
    ∙ take_prefix first whole p in
    record {
      rest = drop (length first) second;
      whole = sym (take-append-drop (length first) second)
          ∙ ap (λ list. list ++ drop (length first) second) same;
    }

no_rest : (rest : List CommitRecord) → length rest ≡ 0 → rest ≡ []
no_rest [] e = refl
no_rest (commit ∷ rest) e = absurd (omega (arith, e))

pub as_long_is_the_whole : AsLongIsTheWhole
as_long_is_the_whole shorter longer p same = grind (arith, no_rest, length-append, append-nil)
