use Rattle.std.proofs.Common.{arith}
-- What replies to refreshes tell.
use Rattle.std.proofs.Common.{◌≡◌, List, length, Option, Some, None, Result, refl}
use Rattle.ssb_schema.specs.declared.refresh.Action.{Action}
use Rattle.ssb_base.specs.Base.{Tables}
use Rattle.row_store.specs.History.{CommitRecord}
use Rattle.row_store.specs.Refusals.{refusal_of}
use Rattle.row_store.specs.Legal.{reply_at, Tells}
use Rattle.row_store.specs.Laws.{RepliesTell}
use Rattle.row_store.specs.declared.commit.Receipt.{Receipt}
use Rattle.row_store.specs.declared.refusal.Refusal.{Refusal}
use Rattle.row_store.specs.declared.refusal.RefreshError.{RefreshError}

-- a reply of the one-thread warehouse
true_tells : (base : Tables) (history : List CommitRecord) (actions : List Action) (reply : Result Receipt RefreshError)
    (refusal : Option Refusal) → refusal_of base history actions ≡ refusal → reply ≡ reply_at (length history) refusal
    → Tells reply base history actions
true_tells base history actions reply None is e = rw e (is, refl)
true_tells base history actions reply (Some refusal) is e = rw e (is, refl)

pub replies_tell : RepliesTell
replies_tell base history actions reply is = grind (arith, true_tells)
