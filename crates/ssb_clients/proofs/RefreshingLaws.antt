use Rattle.std.proofs.Common.{arith}
-- A refresh inside the hold of the rows.
use Rattle.std.proofs.Common.{◌≡◌, ℕ, List, [], ◌∷◌, ◌++◌, length, length-append, append_assoc, Some, None}
use Rattle.std.proofs.Common.{false, Result, Ok, Err, ap, sym, subst, ◌∙◌}
use Rattle.std.specs.Prelude.{◌+◌, OnOk, OnErr}
use Rattle.ssb_schema.specs.declared.refresh.Action.{Action}
use Rattle.row_store.specs.History.{CommitRecord, Warehouse, with_commit}
use Rattle.row_store.specs.Refusals.{refusal_of}
use Rattle.row_store.specs.Legal.{IsRefreshReply, Tells}
use Rattle.row_store.proofs.ReplyLaws.{replies_tell}
use Rattle.row_store.specs.declared.commit.Receipt.{Receipt}
use Rattle.row_store.specs.declared.refusal.RefreshError.{RefreshError}
use Rattle.row_store.specs.declared.refusal.RefreshError.TheVariants as refresh
use Rattle.history_core.specs.declared.event.Who.TheVariants.{Client}
use Rattle.history.specs.Tokens.{TokenRecord, Took, MayPut, Put, gave_back, committed}
use Rattle.history_core.specs.Events as event
use Rattle.history_core.specs.declared.event.EventReply.TheVariants.{Done, Committed}
use Rattle.ssb_clients.specs.Clients.{Refreshed, HandsBack}
use Rattle.ssb_clients.specs.Deeds.{deed}
use Rattle.ssb_clients.specs.Deeds as deeds

abbrev pub commit_by : ℕ → List Action → CommitRecord
commit_by client actions = record { client = client; actions = actions }

-- what was applied may be given back
told_may_put : (t : TokenRecord) (old new : Warehouse) (client : ℕ) (actions : List Action)
    (reply : Result Receipt RefreshError) → t.who ≡ Client client → old ≡ record { base = t.table.base; log = t.seen }
    → Tells reply old.base old.log actions
    → OnOk reply (new ≡ with_commit old (commit_by client actions)) → OnErr reply (new ≡ old) → MayPut t new
told_may_put t old new client actions (Ok receipt) who was tells grown same = grind arith
told_may_put t old new client actions (Err error) who was tells grown same = grind arith

pub may_put : (t : TokenRecord) (old new : Warehouse) (client : ℕ) (actions : List Action)
    (reply : Result Receipt RefreshError) → t.who ≡ Client client → old ≡ record { base = t.table.base; log = t.seen }
    → IsRefreshReply old.base old.log actions reply
    → OnOk reply (new ≡ with_commit old (commit_by client actions)) → OnErr reply (new ≡ old) → MayPut t new
may_put t old new client actions reply who was is grown same =
    told_may_put t old new client actions reply who was (replies_tell old.base old.log actions reply is) grown same

-- the token that took the rows, and gave them back as they were
hands_back : (before t after : TokenRecord) → before.who ≡ t.who → Took before t → before.has_rows ≡ false → (c : ℕ)
    → t.who ≡ Client c → after ≡ gave_back t → HandsBack before after
hands_back before t after same took free c who put = grind (arith, append_assoc)

told_refreshed : (before t after : TokenRecord) (old new : Warehouse) (client : ℕ) (actions : List Action)
    (reply : Result Receipt RefreshError) → before.who ≡ Client client → before.has_rows ≡ false → Took before t
    → old ≡ record { base = t.table.base; log = t.seen } → Tells reply old.base old.log actions
    → OnOk reply (new ≡ with_commit old (commit_by client actions)) → OnErr reply (new ≡ old)
    → Put t new after → Refreshed before client actions reply after
told_refreshed before t after old new client actions (Ok receipt) who free took was tells grown same put =
    let c = commit_by client actions in
    let e : new ≡ record { base = t.table.base; log = t.seen ++ c ∷ [] } = grown ∙ ap (λ w. with_commit w c) was in
    let now : after ≡ committed t c = put.1 c (ap (λ (w : Warehouse). w.log) e) in
    let n : receipt.number ≡ length (t.seen ++ c ∷ []) =
    tells.1 ∙ (ap (λ (w : Warehouse). length w.log + 1) was ∙ sym (length-append t.seen (c ∷ []))) in
    let put_deed = deed (event.PutRows before.who (Some actions)) (Committed (length (t.seen ++ c ∷ []))) ∷ [] in
    let e1 : after ≡ record before {
      seen = t.seen ++ c ∷ [];
      mine = before.mine ++ c ∷ [];
      beside = [];
      has_rows = false;
      did = (before.did ++ deed (event.TakeRows before.who) Done ∷ []) ++ put_deed;
    } =
    now ∙ ap (λ (u : TokenRecord). record u {
      seen = t.seen ++ c ∷ [];
      mine = u.mine ++ c ∷ [];
      has_rows = false;
      did = u.did ++ deed (event.PutRows u.who (Some actions)) (Committed (length (t.seen ++ c ∷ []))) ∷ [];
    }) took.now in
    let d : (before.did ++ deed (event.TakeRows before.who) Done ∷ []) ++ put_deed
    ≡ before.did ++ deeds.committed before.who actions receipt.number =
    append_assoc before.did (deed (event.TakeRows before.who) Done ∷ []) put_deed
    ∙ ap (λ k. before.did ++ deeds.committed before.who actions k) (sym n) in
    record {
      history = t.seen;
      begins = took.begins;
      accepted = subst (λ (u : TokenRecord). refusal_of u.table.base t.seen actions ≡ None) took.now
          (subst (λ (w : Warehouse). refusal_of w.base w.log actions ≡ None) was tells.0);
      number_is = n ∙ sym (ap (λ (u : TokenRecord). length u.seen) e1);
      now = e1 ∙ (ap (λ b. record before {
        seen = t.seen ++ c ∷ [];
        mine = before.mine ++ c ∷ [];
        beside = [];
        has_rows = b;
        did = (before.did ++ deed (event.TakeRows before.who) Done ∷ []) ++ put_deed;
      }) (sym free) ∙ ap (λ ds. record before {
        seen = t.seen ++ c ∷ [];
        mine = before.mine ++ c ∷ [];
        beside = [];
        did = ds;
      }) d);
    }
told_refreshed before t after old new client actions (Err (refresh.Refused at action cause)) who free took was tells
    grown same put =
    let e : new ≡ record { base = t.table.base; log = t.seen } = same ∙ was in
    let w : t.who ≡ before.who = ap (λ (u : TokenRecord). u.who) took.now in
    let now : after ≡ gave_back t = put.0 (ap (λ (x : Warehouse). x.log) e) in (
      tells.1 ∙ (ap (λ (x : Warehouse). length x.log) was ∙ sym (ap (λ (u : TokenRecord). length u.seen) now)),
      subst (λ (u : TokenRecord). refusal_of u.table.base u.seen actions ≡ Some
          (record { action = action; cause = cause })) (sym now)
          (subst (λ (x : Warehouse). refusal_of x.base x.log actions ≡ Some
          (record { action = action; cause = cause })) was tells.0),
      hands_back before t after (sym w) took free client (w ∙ who) now,
    )
told_refreshed before t after old new client actions (Err refresh.OutOfMemory) who free took was tells grown same put =
    let e : new ≡ record { base = t.table.base; log = t.seen } = same ∙ was in
    let w : t.who ≡ before.who = ap (λ (u : TokenRecord). u.who) took.now in
    let now : after ≡ gave_back t = put.0 (ap (λ (x : Warehouse). x.log) e) in (
      subst (λ (u : TokenRecord). refusal_of u.table.base u.seen actions ≡ None) (sym now)
          (subst (λ (x : Warehouse). refusal_of x.base x.log actions ≡ None) was tells),
      hands_back before t after (sym w) took free client (w ∙ who) now,
    )

pub refreshed : (before t after : TokenRecord) (old new : Warehouse) (client : ℕ) (actions : List Action)
    (reply : Result Receipt RefreshError) → before.who ≡ Client client → before.has_rows ≡ false → Took before t
    → old ≡ record { base = t.table.base; log = t.seen } → IsRefreshReply old.base old.log actions reply
    → OnOk reply (new ≡ with_commit old (commit_by client actions)) → OnErr reply (new ≡ old)
    → Put t new after → Refreshed before client actions reply after
refreshed before t after old new client actions reply who free took was is grown same put =
    told_refreshed before t after old new client actions reply who free took was
    (replies_tell old.base old.log actions reply is) grown same put
