-- A request, and its answer, which is right in all that is seen later.
use Rattle.std.proofs.Common.{◌≡◌, ℕ, ◌≤◌, List, [], ◌∷◌, ◌++◌, length, take, ap, sym, subst, ◌∙◌, arith}
use Rattle.std.proofs.Common.{append_assoc}
use Rattle.std.proofs.lemmas.List.{take-append-le}
use Rattle.row_store.specs.History.{CommitRecord, IsPrefix}
use Rattle.ssb_base.specs.Base.{Tables}
use Rattle.history_core.specs.declared.response.Response.{Response}
use Rattle.history_core.specs.declared.response.Response.TheVariants.{Rows, Unserved}
use Rattle.history.specs.declared.request.PostedRequest.{PostedRequest}
use Rattle.history_core.specs.Events.{Questions}
use Rattle.history.specs.Tokens.{TokenRecord, Collected, Saw, posted}
use Rattle.history.specs.Words.{IsRight}
use Rattle.history_core.specs.Events as event
use Rattle.ssb_clients.specs.Clients.{Asks, Polls}
use Rattle.ssb_clients.specs.Deeds.{asked}
use Rattle.row_store.proofs.PrefixLaws.{beginnings_are_shorter}

take_prefix : (n : ℕ) (a b : List CommitRecord) → IsPrefix a b → n ≤ length a → take n b ≡ take n a
take_prefix n a b p le = ap (take n) p.whole ∙ take-append-le n a p.rest le

pub right_later : (base : Tables) (history later : List CommitRecord) (asked : PostedRequest) (reply : Response)
    → IsPrefix history later → IsRight base history asked reply → IsRight base later asked reply
right_later base history later asked (Rows questions at rows) p (q, floor, within, is) = grind (arith, beginnings_are_shorter, take_prefix)
right_later base history later asked (Unserved questions cause) p is = grind arith

pub polled : (before between after : TokenRecord) (reply : Response) → Collected before reply between → Saw between after
    → Polls before reply after
polled before between after reply col saw = grind (arith, right_later, append_assoc)

pub asks : (before between after : TokenRecord) (questions : Questions) → Saw before between → after ≡ posted between questions
    → Asks before questions after
asks before between after questions saw now = grind (arith, append_assoc)
