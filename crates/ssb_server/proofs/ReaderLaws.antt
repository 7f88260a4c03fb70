-- The tokens of dispatchers that a table deals, of which the last is for who reads the log, where somebody does.
use Rattle.std.proofs.Common.{◌≡◌, ℕ, ◌≤◌, List, length, Option, Some, None, ap, sym, subst, ◌∙◌, arith}
use Rattle.std.specs.Prelude.{All}
use Rattle.std.specs.Option.{is_some}
use Rattle.std.proofs.lemmas.List.{length_push}
use Rattle.std.proofs.lemmas.List.Elements.{All-pop}
use Rattle.std.proofs.lemmas.List.FromFn.{length-map-range_with_len}
use Rattle.ssb_base.specs.Base.{Tables}
use Rattle.history.specs.Tokens.{TableRecord, TokenRecord, new_dispatchers}
use Rattle.ssb_clients.specs.declared.unneeded.Keeps.{Keeps}
use Rattle.ssb_clients.specs.declared.unneeded.Keeps.TheVariants as keep
use Rattle.ssb_clients.specs.Counts.{most_at_table, at_table, has_reader}
use Rattle.ssb_clients.specs.Ready.{IsIdle}
use Rattle.ssb_clients.specs.Tickets.{with_reader}
use Rattle.ssb_server.specs.Opening.{IsNewDispatcher, IsDispatcherCount}

-- a token that has done nothing may go to who reads the log
pub idle_at_first : (base : Tables) (t : TokenRecord) → IsNewDispatcher base t → (number : ℕ) × IsIdle number t
idle_at_first base t new = (new.number, record { who_is = new.who_is; free = new.free })

-- as many tokens of dispatchers as the table has
pub dispatcher_count : (table : TableRecord) (tokens : List TokenRecord) → tokens ≡ new_dispatchers table
    → length tokens ≡ table.dispatchers
dispatcher_count table tokens are = ap length are ∙ length-map-range_with_len _ 1 table.dispatchers

-- the tokens of those that answer are new too
pub new_without_reader : (base : Tables) (all tokens : List TokenRecord) (reader : Option TokenRecord)
    → with_reader tokens reader ≡ all → All (IsNewDispatcher base) all → All (IsNewDispatcher base) tokens
new_without_reader base all tokens None parted new = subst (All (IsNewDispatcher base)) (sym parted) new
new_without_reader base all tokens (Some reader) parted new =
    (All-pop (IsNewDispatcher base) all tokens (Some reader) (sym parted) new).0

-- the table has room for those that answer and for who reads the log
pub table_range : (keeps : Keeps) (dispatchers : ℕ) → IsDispatcherCount dispatchers
    → (1 ≤ at_table keeps dispatchers) × (at_table keeps dispatchers ≤ most_at_table)
table_range keep.All dispatchers is = (is.0, omega (arith, is.1))
table_range keep.Recent dispatchers is = (is.0, omega (arith, is.1))
table_range keep.Unread dispatchers is = (omega (arith, is.0), omega (arith, is.1))

-- without who reads the log they are as many as are to answer
pub as_many_answer : (keeps : Keeps) (dispatchers : ℕ) (tokens : List TokenRecord) (reader : Option TokenRecord)
    → is_some reader ≡ has_reader keeps → length (with_reader tokens reader) ≡ at_table keeps dispatchers
    → length tokens ≡ dispatchers
as_many_answer keep.All dispatchers tokens None there count = grind arith
as_many_answer keep.All dispatchers tokens (Some reader) there count = grind arith
as_many_answer keep.Recent dispatchers tokens None there count = grind arith
as_many_answer keep.Recent dispatchers tokens (Some reader) there count = grind arith
as_many_answer keep.Unread dispatchers tokens None there count = grind arith
as_many_answer keep.Unread dispatchers tokens (Some reader) there count = grind (arith, length_push)
