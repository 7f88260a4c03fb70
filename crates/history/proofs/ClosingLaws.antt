-- What the last state of the table says of its slots, where one seat took in all others.
use Rattle.std.proofs.Common.{◌≡◌, ◌≢◌, ℕ, zero, suc, ◌+◌, ◌<◌, ◌≤◌, Bool, true, false, List, length, Option, Some}
use Rattle.std.proofs.Common.{None, refl, ap, sym, subst, ◌∙◌, ⊎_elim, arith, set, slice_index_or, get_or-set_same}
use Rattle.std.proofs.Common.{get_or-set_other}
use mathlib.Core.Option.{some}
use lib.ListN.{get_elem?}
use Rattle.atomic_table.specs.Table.{State, Final, Seen}
use Rattle.ssb_base.specs.Base.{Tables}
use Rattle.row_store.specs.History.{CommitRecord}
use Rattle.row_store.specs.Legal.{IsLegal}
use Rattle.history_core.specs.declared.event.Who.TheVariants.{Dispatcher}
use Rattle.history.specs.declared.view.Terms.{Terms}
use Rattle.history.specs.declared.view.Member.{Member}
use Rattle.history.specs.declared.view.Role.TheVariants.{Token as Seat}
use Rattle.history.specs.declared.view.View.{View}
use Rattle.history.specs.Words.{store}
use Rattle.history_core.specs.Numbered.{numbered}
use Rattle.history_core.specs.declared.mailbox.Mailbox.{Mailbox}
use Rattle.history_core.specs.declared.mailbox.Mailbox.TheVariants.{Empty as empty}
use Rattle.history_core.specs.World.{World}
use Rattle.history_core.specs.Kept.{WorldKept}
use Rattle.history_core.specs.Deeds.{Deed}
use Rattle.history_core.specs.Parts.{mailbox_at}
use Rattle.history_core.proofs.HistoryLaws.{in_range}
use Rattle.history_core.proofs.DoneLaws.{done_true}
use Rattle.history_core.proofs.PartLaws.{found_box}
use Rattle.history.specs.Members.{who_at, part}
use Rattle.history.specs.Rule.{Slot, Homes, rows, Asks, IsTold, TokenKnows, Shows, ShowsWorld}
use Rattle.history.specs.Seats.{members_of, AreAll, IsClosed}
use Rattle.history.proofs.HistoryLaws.{at_end}
use Rattle.history.proofs.MemberLaws.{who_same, PartKept, part_kept}
use Rattle.history.proofs.FrameLaws.{token_knows, kept_after, only_empty}

-- what is known of each member that is among those of the closing seat
record Among (key : Terms) (deeds : List Deed) (w : World) (m : Member) : Type 0 where
  place : ℕ
  who : m.who ≡ who_at key.clients place
  told : IsTold deeds w m
  free : w.rows ≢ Some m.who
  idle : (number : ℕ) → m.who ≡ Dispatcher number → w.writer ≢ Some number
  quiet : (box : Mailbox) → mailbox_at w (place + 1) ≡ Some box → Asks None box

out_of_hands : {A : Type 0} (o : Option A) → ((a : A) → o ≢ Some a) → o ≡ None
out_of_hands None n = refl
out_of_hands (Some p) n = absurd (n p refl)

-- the view holds neither part and has asked nothing
abbrev pub HoldsNothing : View → Type 0
HoldsNothing v = (v.holds_rows ≡ false) × (v.holds_writer ≡ false) × (v.asked ≡ None)

module _ {W : Type 0} (base_of : W → Tables) (taken : W → List CommitRecord) (key : Terms) where
  among : (homes : Homes W) (deeds : List Deed) (w : World) (owner : ℕ → ℕ) (id place : ℕ) (v : View)
      → TokenKnows key homes deeds w owner id v place → HoldsNothing v → (k : ℕ) (m : Member)
      → get_elem? (members_of v) k ≡ some m → Among key deeds w m
  among homes deeds w owner id place v known nothing k m at = ⊎_elim
      (λ (t : (k < length v.gathered) × (get_elem? v.gathered k ≡ some m)). let h = known.gathered k m t.1 in
      record { place = h.place; who = h.who; told = h.told; free = h.free; idle = h.idle; quiet = h.quiet })
      (λ (t : (k ≡ length v.gathered) × (v.member ≡ m)). subst (Among key deeds w) t.1
      record {
        place = place;
        who = known.who;
        told = known.told;
        free = known.free nothing.0;
        idle = known.idle nothing.1;
        quiet = λ box there. subst (λ o. Asks o box) nothing.2 (known.asked box there);
      })
      (at_end v.gathered v.member m k at)

  pub ends : (id place : ℕ) (v : View) (words : List ℕ) (slots : List (Slot W))
      → Final (Seen (ShowsWorld base_of taken key) id v) words slots → v.role ≡ Seat place → HoldsNothing v
      → AreAll key (members_of v)
      → (log : List CommitRecord) × (get_elem? slots 0 ≡ some (rows key.base log))
      × IsClosed key (members_of v) (store key.base log)
  ends id place v words slots last is nothing all = (
    w.history,
    last.4 0 (rows key.base w.history) (sh.rows.home home),
    record {
      base = refl;
      legal = subst (λ b. IsLegal b w.history) kept.based kept.legal;
      named = kept.own.named;
      seen = λ k m at. (member k m at).begins;
      owns = λ k m at. (member k m at).owns;
      has_run = record {
        deeds = deeds;
        world = w;
        done = last.1.0.2;
        ends = refl;
        rows = home;
        writer = writer_home;
        mail = all_empty;
        true_run = done_true key.base key.clients key.dispatchers deeds w last.1.0.2;
        did = λ k m at. (one k m at).told.did;
        tells = λ k m at. (one k m at).told.part_is;
      };
    },
  )
    where
      s : State (Slot W) View
      s = last.0

      deeds : List Deed
      deeds = last.1.0.0

      w : World
      w = last.1.0.1

      sh : Shows base_of taken key s deeds w
      sh = last.1.0.3

      kept : WorldKept key.base key.clients w
      kept = kept_after base_of taken key deeds w last.1.0.2

      known : TokenKnows key s.homes deeds w sh.owner id v place
      known = token_knows base_of taken key s deeds w sh id place v last.1.1 is

      one : (k : ℕ) (m : Member) → get_elem? (members_of v) k ≡ some m → Among key deeds w m
      one k m at = among s.homes deeds w sh.owner id place v known nothing k m at

      member : (k : ℕ) (m : Member) → get_elem? (members_of v) k ≡ some m → PartKept w.history m.who (part m)
      member k m at = part_kept key.base key.clients w kept m.who (part m) (one k m at).told.part_is

      -- each place is that of a member that was handed in
      found : (p : ℕ) → p < key.clients + key.dispatchers → (m : Member) × (a : Among key deeds w m)
          × (m.who ≡ who_at key.clients p)
      found p within = let there = all p within in (there.1, one there.0 there.1 there.2, there.3)

      home : w.rows ≡ None
      home = out_of_hands w.rows (λ who e. let h = sh.rows.held who e in let f = found h.0 h.1 in
          f.1.free (e ∙ ap (λ a. Some a) (h.2 ∙ sym f.2)))

      writer_home : w.writer ≡ None
      writer_home = out_of_hands w.writer (λ n e. let h = sh.writer.held n e in let f = found h.0 h.1 in
          f.1.idle n (f.2 ∙ sym h.2) e)

      all_empty : (number : ℕ) (box : Mailbox) → mailbox_at w number ≡ Some box → box ≡ empty
      all_empty zero box at = absurd (cc at)
      all_empty (suc p) box at = let count = kept.own.count in let c = found_box (numbered w.clients (suc p)) box at in
          let within : p < length w.clients = in_range w.clients p c.0 c.1 in
          let f = found p (omega (arith, within, count)) in
          let same : f.1.place ≡ p = who_same key.clients f.1.place p (sym f.1.who ∙ f.2) in
          let one : suc p ≡ f.1.place + 1 = omega (arith, same) in
          only_empty box (f.1.quiet box (ap (mailbox_at w) (sym one) ∙ at))

-- a row of slots is empty below a place and full from it on
module _ (filled : List Bool) (i n : ℕ) (within : i < length filled)
    (full : (k : ℕ) → i ≤ k → k < n → slice_index_or filled k false ≡ true)
    (bare : (k : ℕ) → k < i → slice_index_or filled k false ≡ false) where
  pub still_full : (k : ℕ) → i + 1 ≤ k → k < n → slice_index_or (set filled i false) k false ≡ true
  still_full k le lt = get_or-set_other filled i k false false (λ e. omega arith) ∙ full k (omega arith) lt

  pub one_bare : (k : ℕ) → k < i + 1 → slice_index_or (set filled i false) k false ≡ false
  one_bare k lt = grind (arith, slice_index_or, get_or-set_same, get_or-set_other)
