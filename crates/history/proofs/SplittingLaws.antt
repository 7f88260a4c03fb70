-- Cutting a view in two and joining two views leave the world that the table shows.
use Rattle.std.proofs.Common.{◌≡◌, ◌≢◌, ℕ, zero, suc, ◌+◌, ◌-◌, ◌<◌, ◌≤◌, ◌==◌, true, false, List, [], ◌∷◌, ◌++◌, map}
use Rattle.std.proofs.Common.{replicate, length, set, get_or, Some, None, refl, ap, sym, subst, ◌∙◌, ⊎_elim, arith}
use Rattle.std.proofs.Common.{length-set}
use Rattle.std.proofs.lemmas.Bool.Decides.{nat_tests}
use Rattle.std.specs.Prelude.{slice_index, if◌then◌else◌}
use mathlib.Core.Option.{some, some-injective, some-ne-none}
use lib.ListN.{get_elem?, length-map, length-replicate}
use Rattle.atomic_table.specs.Table.{State, Splits, Joins, opening, rest}
use Rattle.atomic_table.proofs.Lists.{at_set, set_else}
use Rattle.ssb_base.specs.Base.{Tables}
use Rattle.row_store.specs.History.{CommitRecord, IsPrefix}
use Rattle.history.specs.declared.view.Terms.{Terms}
use Rattle.history.specs.declared.view.Member.{Member}
use Rattle.history.specs.declared.view.Role.{Role}
use Rattle.history.specs.declared.view.Role.TheVariants.{Dealer, Token, Note, Spent}
use Rattle.history.specs.declared.view.View.{View}
use Rattle.history.specs.declared.view.SlotValue.TheVariants.{Writer}
use Rattle.history_core.specs.declared.mailbox.Mailbox.TheVariants.{Empty as empty}
use Rattle.history_core.specs.World.{World, ClientState}
use Rattle.history_core.specs.Numbered.{numbered}
use Rattle.history_core.specs.Deeds.{Deed}
use Rattle.history_core.specs.Parts.{part_of}
use Rattle.history_core.proofs.HistoryLaws.{some_injective, numbered_copies}
use Rattle.history_core.proofs.DoneLaws.{done_none}
use Rattle.history_core.proofs.PartLaws.{newly, found_box, client_opens, dispatcher_opens, box_opens}
use Rattle.history.specs.Members.{who_at, part}
use Rattle.history.specs.Rule.{Slot, Homes, rows, MailShown, IsVacant, Asks, Handed, TokenKnows, DealerKnows, KnowsAs}
use Rattle.history.specs.Rule.{Knows, Shows, ShowsWorld, dealer, spent, first_world}
use Rattle.history.specs.Plays.{further, dealt, token_at, token_by, token_of, note_of, hears, leaves, gathers}
use Rattle.history.proofs.HistoryLaws.{prefix_nil, at_end}
use Rattle.history.proofs.MemberLaws.{who_client, who_dispatcher, low_or_behind, part_kept, box_within}
use Rattle.history.proofs.FrameLaws.{none_beside, more_beside, token_knows, kept_after}

-- the function with another value at one place
abbrev placed : (ℕ → ℕ) → ℕ → ℕ → ℕ → ℕ
placed f p x q = if q == p then x else f q

placed_here : (f : ℕ → ℕ) (p x : ℕ) → placed f p x p ≡ x
placed_here f p x = let same : (p == p) ≡ true = grind (arith, nat_tests) in rw same refl

placed_else : (f : ℕ → ℕ) (p x q : ℕ) → q ≢ p → placed f p x q ≡ f q
placed_else f p x q n = let apart : (q == p) ≡ false = grind (arith, nat_tests) in rw apart refl

handed_placed : (key : Terms) (deeds : List Deed) (w : World) (owner : ℕ → ℕ) (next new seat j own : ℕ) (m : Member)
    → owner next ≡ seat → j ≢ seat → (h : Handed key deeds w owner j own m)
    → Handed key deeds w (placed owner next new) j own m
handed_placed key deeds w owner next new seat j own m mine apart h = grind (arith, placed_else)

module _ {W : Type 0} where
  -- the other seats keep their places where one of this seat's places goes to another seat
  others_keep : (key : Terms) (homes : Homes W) (deeds : List Deed) (w : World) (owner : ℕ → ℕ) (next new seat j : ℕ) (v : View)
      → owner next ≡ seat → j ≢ seat → (r : Role) → KnowsAs key homes deeds w owner j v r
      → KnowsAs key homes deeds w (placed owner next new) j v r
  others_keep key homes deeds w owner next new seat j v mine apart (Dealer first) k = grind (arith, placed_else)
  others_keep key homes deeds w owner next new seat j v mine apart (Token p) k = grind (arith, placed_else, handed_placed)
  others_keep key homes deeds w owner next new seat j v mine apart Note k = grind arith
  others_keep key homes deeds w owner next new seat j v mine apart Spent k = grind arith

module _ {W : Type 0} (base_of : W → Tables) (taken : W → List CommitRecord) (key : Terms) where
  abbrev Rule : State (Slot W) View → Type 0
  Rule = ShowsWorld base_of taken key

  -- one seat more, which nobody knew of
  one_more : (s : State (Slot W) View) (deeds : List Deed) (w : World) (sh : Shows base_of taken key s deeds w) (id : ℕ)
      (me new : View)
      (owner : ℕ → ℕ)
      → ((j : ℕ) (u : View) → j ≢ id → get_elem? s.views j ≡ some u → Knows key s.homes deeds w owner j u)
      → Knows key s.homes deeds w owner id me → Knows key s.homes deeds w owner (length s.views) new
      → Shows base_of taken key record { words = s.words; homes = s.homes; views = set s.views id me ++ new ∷ [] } deeds w
  one_more s deeds w sh id me new owner others mine known = record {
    owner = owner;
    word_count = sh.word_count;
    slot_count = sh.slot_count;
    rows = record { word = sh.rows.word; home = sh.rows.home; held = sh.rows.held };
    writer = record { word = sh.writer.word; home = sh.writer.home; held = sh.writer.held };
    mail = sh.mail;
    seats = λ j u there. ⊎_elim
        (λ (t : (j < length (set s.views id me)) × (get_elem? (set s.views id me) j ≡ some u)). ⊎_elim
        (λ (y : (j ≡ id) × (me ≡ u)). subst (λ (x : ℕ × View). Knows key s.homes deeds w owner x.0 x.1)
        (λ i. (sym y.0 i, y.1 i)) mine)
        (λ (y : (j ≢ id) × (get_elem? s.views j ≡ some u)). others j u y.0 y.1)
        (at_set s.views id j me u t.1))
        (λ (t : (j ≡ length (set s.views id me)) × (new ≡ u)). subst
        (λ (x : ℕ × View). Knows key s.homes deeds w owner x.0 x.1) (λ i. (sym (t.0 ∙ length-set s.views id me) i, t.1 i))
        known)
        (at_end (set s.views id me) new u j there);
  }

  -- one seat took another in
  joined : (s : State (Slot W) View) (deeds : List Deed) (w : World) (sh : Shows base_of taken key s deeds w)
      (id other : ℕ) (both : View)
      (owner : ℕ → ℕ)
      → ((j : ℕ) (u : View) → j ≢ id → j ≢ other → get_elem? s.views j ≡ some u → Knows key s.homes deeds w owner j u)
      → Knows key s.homes deeds w owner id both
      → Shows base_of taken key record {
        words = s.words;
        homes = s.homes;
        views = set (set s.views id both) other spent;
      } deeds w
  joined s deeds w sh id other both owner others mine = record {
    owner = owner;
    word_count = sh.word_count;
    slot_count = sh.slot_count;
    rows = record { word = sh.rows.word; home = sh.rows.home; held = sh.rows.held };
    writer = record { word = sh.writer.word; home = sh.writer.home; held = sh.writer.held };
    mail = sh.mail;
    seats = λ j u here. ⊎_elim
        (λ (t : (j ≡ other) × (spent ≡ u)). subst (λ x. Knows key s.homes deeds w owner j x) t.1 tt)
        (λ (t : (j ≢ other) × (get_elem? (set s.views id both) j ≡ some u)). ⊎_elim
        (λ (y : (j ≡ id) × (both ≡ u)). subst (λ (x : ℕ × View). Knows key s.homes deeds w owner x.0 x.1)
        (λ i. (sym y.0 i, y.1 i)) mine)
        (λ (y : (j ≢ id) × (get_elem? s.views j ≡ some u)). others j u y.0 t.0 y.1)
        (at_set s.views id j both u t.1))
        (at_set (set s.views id both) other j spent u here);
  }

  pub tells : (id : ℕ) (v : View) (place : ℕ) → v.role ≡ Token place → Splits Rule id v v (note_of v)
  tells id v place is s r at = let w : World = r.1 in let sh : Shows base_of taken key s r.0 w = r.3 in let k =
      token_knows base_of taken key s r.0 w sh id place v at is in let kept = kept_after base_of taken key r.0 w r.2 in (
        r.0,
        w,
        r.2,
        one_more s r.0 w sh id v (note_of v) sh.owner (λ j u other there. sh.seats j u there) (sh.seats id v at) (
          record { terms = k.common.terms; beside = none_beside w.history },
          (part_kept key.base key.clients w kept v.member.who (part v.member) k.told.part_is).begins,
        ),
      )

  pub hears_note : (id : ℕ) (v : View) (other : ℕ) (o : View) (place : ℕ) → v.role ≡ Token place → o.role ≡ Note
      → Joins Rule id v other o (hears v o) spent
  hears_note id v other o place is note s r at apart there = let w : World = r.1 in let sh :
      Shows base_of taken key s r.0 w = r.3 in let k = token_knows base_of taken key s r.0 w sh id place v at is in let both :
      View = hears v o in
      let told = subst (KnowsAs key s.homes r.0 w sh.owner other o) note
      (sh.seats other o (sym (set_else s.views id other both apart) ∙ there)) in
      let known : TokenKnows key s.homes r.0 w sh.owner id both place = record {
        common = record {
          terms = k.common.terms;
          beside = more_beside o.member.seen v.beside w.history told.1
              k.common.beside;
        };
        plays = k.plays;
        within = k.within;
        who = k.who;
        told = k.told;
        rows = k.rows;
        free = k.free;
        writer = k.writer;
        idle = k.idle;
        asked = k.asked;
        grabbed = k.grabbed;
        apart = k.apart;
        vacant = k.vacant;
        gathered = k.gathered;
      } in (
        r.0,
        w,
        r.2,
        joined s r.0 w sh id other both sh.owner (λ j u far far' here. sh.seats j u here)
            (subst (KnowsAs key s.homes r.0 w sh.owner id both) (sym is) known),
      )

  -- a token's part goes to a new seat
  pub yields : (id : ℕ) (v : View) (place : ℕ) → v.role ≡ Token place → v.gathered ≡ [] → Splits Rule id v (leaves v) v
  yields id v place is bare s r at = let w : World = r.1 in let sh : Shows base_of taken key s r.0 w = r.3 in let k =
      token_knows base_of taken key s r.0 w sh id place v at is in
      let new : ℕ = length s.views in let owner' : ℕ → ℕ = placed sh.owner place new in
      let known : TokenKnows key s.homes r.0 w owner' new v place = record {
        common = k.common;
        plays = placed_here sh.owner place new;
        within = k.within;
        who = k.who;
        told = k.told;
        rows = k.rows;
        free = k.free;
        writer = k.writer;
        idle = k.idle;
        asked = k.asked;
        grabbed = k.grabbed;
        apart = k.apart;
        vacant = k.vacant;
        gathered = λ i m h. absurd (some-ne-none m (sym (ap (λ ms. get_elem? ms i) (sym bare) ∙ h)));
      } in (
        r.0,
        w,
        r.2,
        one_more s r.0 w sh id (leaves v) v owner'
            (λ j u other here. others_keep key s.homes r.0 w sh.owner place new id j u k.plays other u.role
            (sh.seats j u here)) tt (subst (KnowsAs key s.homes r.0 w owner' new v) (sym is) known),
      )

  -- a token takes in another's, which holds neither part and has asked nothing
  pub gathers_token : (id : ℕ) (v : View) (other : ℕ) (o : View) (place p : ℕ) → v.role ≡ Token place → o.role ≡ Token p
      → (o.holds_rows ≡ false) × (o.holds_writer ≡ false) × (o.asked ≡ None)
      → Joins Rule id v other o (gathers v o) spent
  gathers_token id v other o place p is is' free s r at apart there = let w : World = r.1 in let sh :
      Shows base_of taken key s r.0 w = r.3 in let both : View = gathers v o in
      let k = token_knows base_of taken key s r.0 w sh id place v at is in let told =
      token_knows base_of taken key s r.0 w sh other p o (sym (set_else s.views id other both apart) ∙ there) is' in
      let owner' : ℕ → ℕ = placed sh.owner p id in let far : place ≢ p =
      λ e. apart (sym told.plays ∙ (ap sh.owner (sym e) ∙ k.plays)) in
      let known : TokenKnows key s.homes r.0 w owner' id both place = record {
        common = record { terms = k.common.terms; beside = k.common.beside };
        plays = placed_else sh.owner p id place far ∙ k.plays;
        within = k.within;
        who = k.who;
        told = k.told;
        rows = k.rows;
        free = k.free;
        writer = k.writer;
        idle = k.idle;
        asked = k.asked;
        grabbed = k.grabbed;
        apart = k.apart;
        vacant = k.vacant;
        gathered = all_gathered r.0 w sh.owner apart k told (λ e. far (sym e));
      } in (
        r.0,
        w,
        r.2,
        joined s r.0 w sh id other both owner'
            (λ j u far far' here. others_keep key s.homes r.0 w sh.owner p id other j u told.plays far' u.role
            (sh.seats j u here)) (subst (KnowsAs key s.homes r.0 w owner' id both) (sym is) known),
      )
    where
      all_gathered : (deeds : List Deed) (w : World) (owner : ℕ → ℕ) → ¬ (other ≡ id)
          → TokenKnows key s.homes deeds w owner id v place → TokenKnows key s.homes deeds w owner other o p → p ≢ place
          → (i : ℕ) (m : Member) → get_elem? (o.member ∷ v.gathered) i ≡ some m
          → Handed key deeds w (placed owner p id) id place m
      all_gathered deeds w owner apart k told far zero m e =
          subst (Handed key deeds w (placed owner p id) id place) (some-injective _ m e)
          record {
            place = p;
            plays = placed_here owner p id;
            apart = far;
            who = told.who;
            told = told.told;
            free = told.free free.0;
            idle = told.idle free.1;
            quiet = λ box at. subst (λ a. Asks a box) free.2 (told.asked box at);
          }
      all_gathered deeds w owner apart k told far (suc i) m e =
          handed_placed key deeds w owner p id other id place m told.plays (λ h. apart (sym h)) (k.gathered i m e)

  pub deals : (id : ℕ) (v : View) (next : ℕ) → v.role ≡ Dealer next → next < key.clients + key.dispatchers
      → Splits Rule id v (dealt v) (token_of v)
  deals id v next is room s r at = let w : World = r.1 in let sh : Shows base_of taken key s r.0 w = r.3 in let k :
      DealerKnows key s.homes r.0 w sh.owner id v next = subst (KnowsAs key s.homes r.0 w sh.owner id v) is (sh.seats id v at)
      in
      let new : ℕ = length s.views in let owner' : ℕ → ℕ = placed sh.owner next new in let mine : sh.owner next ≡ id =
      k.plays next (omega arith) in
      let left : KnowsAs key s.homes r.0 w owner' id (dealt v) (Dealer (next + 1)) = record {
        common = record { terms = k.common.terms; beside = k.common.beside };
        plays = λ p le. placed_else sh.owner next new p (λ e. omega arith) ∙ k.plays p (omega arith);
        members = λ p le within. k.members p (omega arith) within;
        free = λ p le. k.free p (omega arith);
        idle = λ p n le. k.idle p n (omega arith);
        vacant = λ p le within. k.vacant p (omega arith) within;
      } in
      let fresh : TokenKnows key s.homes r.0 w owner' new (token_at key next) next = record {
        common = record { terms = refl; beside = none_beside w.history };
        plays = placed_here sh.owner next new;
        within = room;
        who = refl;
        told = k.members next (omega arith) room;
        rows = λ h. absurd (cc h);
        free = λ h. k.free next (omega arith);
        writer = λ h. absurd (cc h);
        idle = λ h n. k.idle next n (omega arith);
        asked = λ box there. let low =
            box_within key.base key.clients w (kept_after base_of taken key r.0 w r.2) next box there in
            subst (Asks None) (some_injective empty box (sym (k.vacant next (omega arith) low).0 ∙ there)) refl;
        grabbed = λ i g h. absurd (some-ne-none g (sym h));
        apart = tt;
        vacant = λ h within. k.vacant next (omega arith) within;
        gathered = λ i m h. absurd (some-ne-none m (sym h));
      } in
      let right : Knows key s.homes r.0 w owner' new (token_at v.terms next) =
      subst (λ t. Knows key s.homes r.0 w owner' new (token_at t next)) (sym k.common.terms) fresh in (
        r.0,
        w,
        r.2,
        one_more s r.0 w sh id (dealt v) (token_of v) owner'
            (λ j u other there. others_keep key s.homes r.0 w sh.owner next new id j u mine other u.role
            (sh.seats j u there))
            (subst (KnowsAs key s.homes r.0 w owner' id (dealt v)) (sym (ap further is)) left)
            (subst (Knows key s.homes r.0 w owner' new) (sym (ap (token_by v) is)) right),
      )

  pub starts : (writer : W) (boxes : List ℕ) (slots : List (Slot W)) → (base_of writer ≡ key.base) × (taken writer ≡ [])
      → length boxes ≡ key.clients → ((c : ℕ) → get_or boxes c 0 ≡ 0) → length slots ≡ key.clients
      → ((c : ℕ) → c < key.clients → get_elem? (map some slots) c ≡ some (some None))
      → Rule (opening (0 ∷ 0 ∷ boxes) (rows key.base [] ∷ Some (Writer writer) ∷ slots) (dealer key))
  starts writer boxes slots ours wide blank deep bare = (
    [],
    first_world key,
    done_none (first_world key),
    record {
      owner = λ _. 0;
      word_count = let e = wide in omega arith;
      slot_count = let e = length-map slots (λ (x : Slot W). some x) in omega arith;
      rows = record { word = refl; home = λ _. refl; held = λ who e. absurd (cc e) };
      writer = record {
        word = refl;
        home = λ _. (
          writer,
          refl,
          (ours.0, subst (λ l. IsPrefix l []) (sym ours.1) (prefix_nil [])),
        );
        held = λ n e. absurd (cc e);
      };
      mail = λ c b e. let box = found_box (numbered (first_world key).clients (c + 1)) b e in
          subst (MailShown (0 ∷ 0 ∷ boxes) (map some (rows key.base [] ∷ Some (Writer writer) ∷ slots)) c)
          (ap (λ (x : ClientState). x.mailbox) (numbered_copies key.clients (c + 1) _ box.0 box.1) ∙ box.2)
          record { word = get_two c boxes ∙ blank c; slot = tt };
      seats = seated;
    },
  )
    where
      get_two : (c : ℕ) (bs : List ℕ) → slice_index (0 ∷ 0 ∷ bs) (2 + c) ≡ get_or bs c 0
      get_two c bs = let e : 2 + c ≡ suc (suc c) = omega arith in ap (slice_index (0 ∷ 0 ∷ bs)) e

      vacant_two : (c : ℕ) → c < key.clients → IsVacant (map some (rows key.base [] ∷ Some (Writer writer) ∷ slots)) c
      vacant_two c h = let e : 2 + c ≡ suc (suc c) = omega arith in
          ap (get_elem? (map some (rows key.base [] ∷ Some (Writer writer) ∷ slots))) e ∙ bare c h

      -- the part of the member at a place
      opens : (p : ℕ) → p < key.clients + key.dispatchers
          → part_of (first_world key) (who_at key.clients p) ≡ Some newly
      opens p within = ⊎_elim
          (λ (low : p < key.clients). ap (part_of (first_world key)) (who_client key.clients p low)
          ∙ client_opens key.base key.clients key.dispatchers (p + 1) (omega arith) (omega arith))
          (λ (far : key.clients ≤ p). ap (part_of (first_world key)) (who_dispatcher key.clients p far)
          ∙ dispatcher_opens key.base key.clients key.dispatchers ((p - key.clients) + 1) (omega arith) (omega arith))
          (low_or_behind p key.clients)

      seated : (j : ℕ) (v : View) → get_elem? (dealer key ∷ []) j ≡ some v
          → Knows key (map some (rows key.base [] ∷ Some (Writer writer) ∷ slots)) [] (first_world key) (λ _. 0) j v
      seated zero v e = subst (Knows key (map some (rows key.base [] ∷ Some (Writer writer) ∷ slots)) []
          (first_world key) (λ _. 0) 0) (some-injective _ _ e) record {
            common = record { terms = refl; beside = none_beside [] };
            plays = λ p le. refl;
            members = λ p le within. record { part_is = opens p within; did = refl };
            free = λ p le e'. cc e';
            idle = λ p n le named e'. cc e';
            vacant = λ p le within. (
              box_opens key.base key.clients key.dispatchers (p + 1) (omega arith) (omega arith),
              vacant_two p within,
            );
          }
      seated (suc j) v e = absurd (some-ne-none v (sym e))

  -- the table as it is made: words of zero, the row store, the writer, and empty slots
  pub starts_with : (writer : W) (words : List ℕ) (slots : List (Slot W)) → (base_of writer ≡ key.base)
      × (taken writer ≡ []) → length words ≡ 2 + key.clients → ((i : ℕ) → get_or words i 0 ≡ 0)
      → slots ≡ rows key.base [] ∷ Some (Writer writer) ∷ replicate key.clients None
      → Rule (opening words slots (dealer key))
  starts_with writer (a ∷ b ∷ boxes) slots ours long zeros made =
      let wide : length boxes ≡ key.clients = omega arith in
      let blank : (c : ℕ) → get_or boxes c 0 ≡ 0 = λ c. zeros (suc (suc c)) in
      subst (λ (x : List ℕ × List (Slot W)). Rule (opening x.0 x.1 (dealer key)))
      (λ i. (sym (zeros 0) i ∷ sym (zeros 1) i ∷ boxes, sym made i))
      (starts writer boxes (replicate key.clients None) ours wide blank (length-replicate key.clients None)
      (λ c h. all_bare key.clients c None h))
    where
      all_bare : {A : Type 0} (n i : ℕ) (a : A) → i < n → get_elem? (map some (replicate n a)) i ≡ some (some a)
      all_bare zero i a h = absurd (omega arith)
      all_bare (suc n) zero a h = refl
      all_bare (suc n) (suc i) a h = all_bare n i a (omega arith)
  starts_with writer (a ∷ []) slots ours long zeros made = absurd (omega arith)
  starts_with writer [] slots ours long zeros made = absurd (omega arith)

-- the slot that was taken last, before the others
pub in_front : {A : Type 0} (x : ℕ × A) (xs carried : List (ℕ × A)) → carried ≡ x ∷ xs → carried ≡ x ∷ rest carried
in_front x xs carried e = e ∙ ap (λ cs. x ∷ rest cs) (sym e)

pub same_front : {A : Type 0} (k : ℕ) (a b : A) (xs ys : List (ℕ × A)) → (k, a) ∷ xs ≡ (k, b) ∷ ys → a ≡ b
same_front {A} k a b xs ys e = grind arith

pub zero_words : (n i z : ℕ) → get_or (replicate n z) i z ≡ z
zero_words zero i z = refl
zero_words (suc n) zero z = refl
zero_words (suc n) (suc i) z = zero_words n i z
