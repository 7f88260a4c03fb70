-- Whose the tokens are, and whether a client asks, through the calls.
use Rattle.std.proofs.Common.{◌≡◌, ℕ, List, [], ◌∷◌, ◌++◌, Option, Some, None, false, refl, ap, sym, subst, ◌∙◌}
use Rattle.std.specs.Prelude.{All, Result, Ok, Err}
use Rattle.std.specs.List.{range_with_len}
use Rattle.std.specs.Option.{is_some}
use Rattle.std.proofs.lemmas.List.Elements.{All-map, All-pop}
use Rattle.ssb_schema.specs.declared.refresh.Action.{Action}
use Rattle.row_store.specs.declared.commit.Receipt.{Receipt}
use Rattle.row_store.specs.declared.refusal.RefreshError.{RefreshError}
use Rattle.row_store.specs.declared.refusal.RefreshError.TheVariants as refresh
use Rattle.history_core.specs.declared.event.Who.TheVariants.{Client, Dispatcher}
use Rattle.history.specs.Tokens.{TableRecord, TokenRecord, new_token, new_clients, new_dispatchers}
use Rattle.ssb_clients.specs.Clients.{Refreshed, Looks, HandsBack}
use Rattle.ssb_clients.specs.Tickets.{IsQuiet, IsOf, with_reader}

module _ (table : TableRecord) where
  stays : (before after : TokenRecord) → IsQuiet table before → after.table ≡ before.table → after.asked ≡ before.asked
      → IsQuiet table after
  stays before after quiet same as_before = record { table_is = same ∙ quiet.table_is; quiet = as_before ∙ quiet.quiet }

  pub looks_stays : (before after : TokenRecord) → IsQuiet table before → Looks before after → IsQuiet table after
  looks_stays before after quiet looks = stays before after quiet (ap (λ (t : TokenRecord). t.table) looks.now)
      (ap (λ (t : TokenRecord). t.asked) looks.now)

  hands_back_stays : (before after : TokenRecord) → IsQuiet table before → HandsBack before after → IsQuiet table after
  hands_back_stays before after quiet handed = stays before after quiet (ap (λ (t : TokenRecord). t.table) handed.now)
      (ap (λ (t : TokenRecord). t.asked) handed.now)

  pub refreshed_stays : (number : ℕ) (actions : List Action) (before after : TokenRecord)
      (result : Result Receipt RefreshError) → IsQuiet table before → Refreshed before number actions result after
      → IsQuiet table after
  refreshed_stays number actions before after (Ok receipt) quiet did =
      stays before after quiet (ap (λ (t : TokenRecord). t.table) did.now) (ap (λ (t : TokenRecord). t.asked) did.now)
  refreshed_stays number actions before after (Err (refresh.Refused at action cause)) quiet did =
      hands_back_stays before after quiet did.2
  refreshed_stays number actions before after (Err refresh.OutOfMemory) quiet did =
      hands_back_stays before after quiet did.1

  pub new_clients_are_quiet : (tokens : List TokenRecord) → tokens ≡ new_clients table → All (IsQuiet table) tokens
  new_clients_are_quiet tokens is = subst (All (IsQuiet table)) (sym is)
      (All-map (IsQuiet table) (λ number. new_token table (Client number)) (range_with_len 1 table.clients)
      (λ k d low. record { table_is = refl; quiet = refl }))

  pub new_dispatchers_are_of_it : (tokens : List TokenRecord) → tokens ≡ new_dispatchers table → All (IsOf table) tokens
  new_dispatchers_are_of_it tokens is = subst (All (IsOf table)) (sym is)
      (All-map (IsOf table) (λ number. new_token table (Dispatcher number)) (range_with_len 1 table.dispatchers)
      (λ k d low. refl))

  -- in a new server, of those that answer and of who reads the log
  pub new_reader_is_of_it : (dispatchers : List TokenRecord) (reader : TokenRecord)
      → dispatchers ++ reader ∷ [] ≡ new_dispatchers table → All (IsOf table) dispatchers × IsOf table reader
  new_reader_is_of_it dispatchers reader are = All-pop (IsOf table) (dispatchers ++ reader ∷ []) dispatchers
      (Some reader) refl (new_dispatchers_are_of_it (dispatchers ++ reader ∷ []) are)

  pub those_that_answer_are_of_it : (dispatchers : List TokenRecord) (reader : Option TokenRecord)
      → with_reader dispatchers reader ≡ new_dispatchers table → All (IsOf table) dispatchers
  those_that_answer_are_of_it dispatchers None are = new_dispatchers_are_of_it dispatchers are
  those_that_answer_are_of_it dispatchers (Some reader) are = (new_reader_is_of_it dispatchers reader are).0

-- where nobody reads the log, those that answer are all
pub without_reader : (dispatchers all : List TokenRecord) (reader : Option TokenRecord)
    → with_reader dispatchers reader ≡ all → is_some reader ≡ false → dispatchers ≡ all
without_reader dispatchers all None parted none = parted
without_reader dispatchers all (Some reader) parted none = absurd (cc)
