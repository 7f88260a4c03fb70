-- What fetching commits does to a dispatcher's token.
use Rattle.std.proofs.Common.{◌≡◌, ◌⊎◌, inl, inr, ℕ, ◌≤◌, List, [], ◌∷◌, ◌++◌, length, false}
use Rattle.std.proofs.Common.{subst, ◌∙◌, arith, append_assoc}
use Rattle.std.specs.Prelude.{All}
use Rattle.std.proofs.lemmas.List.Elements.{All-head}
use Rattle.row_store.specs.History.{CommitRecord, IsPrefix}
use Rattle.row_store.proofs.PrefixLaws.{beginnings_are_shorter}
use Rattle.history_core.specs.declared.event.Who.TheVariants.{Dispatcher}
use Rattle.history_core.specs.Events as event
use Rattle.history.specs.Tokens.{TokenRecord, Took, Saw, gave_back}
use Rattle.ssb_clients.specs.Deeds as deeds
use Rattle.ssb_clients.specs.Fetching.{HasBeside, AreThere, Fetches}
use Rattle.ssb_clients.specs.Ready.{IsIdle}

pub beside_seen : (t : TokenRecord) (count : ℕ) (seen : List CommitRecord) (has : HasBeside t count)
    → All (λ list. IsPrefix list seen) t.beside → IsPrefix has.list seen
beside_seen t count seen has all = All-head (λ list. IsPrefix list seen) has.list has.more
    (subst (λ lists. All (λ list. IsPrefix list seen) lists) has.beside_is all)

-- the writer has not taken more commits than the token sees
within_seen : (before : TokenRecord) (count : ℕ) (after : TokenRecord) → HasBeside before count → Took before after
    → count ≤ length after.seen
within_seen before count after has took = grind (arith, beginnings_are_shorter, beside_seen)

-- it has not taken more than it sees
still_within : (before after : List CommitRecord) (taken : ℕ) → IsPrefix before after → taken ≤ length before
    → taken ≤ length after
still_within before after taken begins few =
    let n = beginnings_are_shorter before after begins in omega (arith, n, few)

-- so many commits are there once the rows are taken
pub there_when_taken : (before : TokenRecord) (count : ℕ) (after : TokenRecord) → AreThere before count → Took before after
    → count ≤ length after.seen
there_when_taken before count after (inl few) took = still_within before.seen after.seen count took.begins few
there_when_taken before count after (inr has) took = within_seen before count after has took

-- a dispatcher that took the rows, and gave them back as they were
pub fetches : (before t after : TokenRecord) (number : ℕ) → before.who ≡ Dispatcher number → before.has_rows ≡ false
    → Took before t → after ≡ gave_back t → Fetches before after
fetches before t after number who free took put = grind (arith, append_assoc)

pub idle_after_fetch : (number : ℕ) (before after : TokenRecord) → Fetches before after
    → IsIdle number before → IsIdle number after
idle_after_fetch number before after fetches idle = grind arith

pub idle_after_look : (number : ℕ) (before after : TokenRecord) → Saw before after
    → IsIdle number before → IsIdle number after
idle_after_look number before after saw idle = grind arith
