-- Streams of groups, and one group more.
use Rattle.std.proofs.Common.{◌≡◌, inl, inr, ℕ, ◌+◌, ◌<◌, ◌≤◌, true, List, [], ◌∷◌, ◌++◌, length, refl, sym}
use Rattle.std.proofs.Common.{◌∙◌, ap, subst, arith, append_assoc, append-nil, Option, None, Some, Result, Ok, Err, OnOk, OnErr}
use Rattle.std.specs.Io.KnownBytes.{Appends, Keeps}
use Rattle.std.proofs.lemmas.List.Concat.{flat_map-append}
use Rattle.journal.specs.Groups.{block, blocks}
use Rattle.row_store.specs.History.{CommitRecord}
use Rattle.ssb_journal.specs.Kept.{IsGroupOf}
use Rattle.ssb_text.proofs.WrittenLaws.{appends_both}
use Rattle.ssb_text.specs.Written.{AppendsPart}
use Rattle.ship_command.specs.Stream.{HaveCommits, IsStream, Piece, group, alive, piece_block, text_of}
use Rattle.ship_command.specs.Stream.{groups_of, begin_with_group, BeginsStream, Ships, ShipsPart, mark, sign_of_life}
use Rattle.ship_command.specs.Taken.{HasCount, IsLeavingOut, PassesBeyond}

-- what was appended, where the writer only handed it on
pub appends_kept : (a b c : Option (List ℕ)) (text : List ℕ) → Appends a b text → Keeps b c → Appends a c text
appends_kept None b c text written kept = tt
appends_kept (Some x) None c text written kept = absurd written
appends_kept (Some x) (Some y) None text written kept = absurd kept
appends_kept (Some x) (Some y) (Some z) text written kept = kept ∙ written

-- what is so is so whatever the result is
pub on_ok : {X E : Type 0} (r : Result X E) (P : Type 0) → P → OnOk r P
on_ok (Ok v) P p = p
on_ok (Err e) P p = tt

pub on_err : {X E : Type 0} (r : Result X E) (P : Type 0) → P → OnErr r P
on_err (Ok v) P p = tt
on_err (Err e) P p = p

pub then_on_ok : {X E : Type 0} (r : Result X E) (P Q : Type 0) → (P → Q) → OnOk r P → OnOk r Q
then_on_ok (Ok v) P Q then p = then p
then_on_ok (Err e) P Q then p = tt

pub then_on_err : {X E : Type 0} (r : Result X E) (P Q : Type 0) → (P → Q) → OnErr r P → OnErr r Q
then_on_err (Ok v) P Q then p = tt
then_on_err (Err e) P Q then p = then p

-- groups, as pieces
abbrev pub pieces_of : List (List ℕ) → List Piece
pieces_of [] = []
pieces_of (bytes ∷ groups) = group bytes ∷ pieces_of groups

pub text_of_groups : (groups : List (List ℕ)) → text_of (pieces_of groups) ≡ blocks groups
text_of_groups [] = refl
text_of_groups (bytes ∷ groups) = ap (λ (l : List ℕ). block bytes ++ l) (text_of_groups groups)

pub groups_of_groups : (groups : List (List ℕ)) → groups_of (pieces_of groups) ≡ groups
groups_of_groups [] = refl
groups_of_groups (bytes ∷ groups) = ap (λ (l : List (List ℕ)). bytes ∷ l) (groups_of_groups groups)

groups_both : (one other : List Piece) → groups_of (one ++ other) ≡ groups_of one ++ groups_of other
groups_both [] other = refl
groups_both (group bytes ∷ one) other = ap (λ (l : List (List ℕ)). bytes ∷ l) (groups_both one other)
groups_both (alive ∷ one) other = groups_both one other

begin_both : (one other : List Piece) → begin_with_group one ≡ true → begin_with_group (one ++ other) ≡ true
begin_both [] other begins = absurd (cc)
begin_both (group bytes ∷ one) other begins = refl
begin_both (alive ∷ one) other begins = absurd (cc)

-- the text of one piece more
text_more : (pieces : List Piece) (piece : Piece) → text_of (pieces ++ piece ∷ []) ≡ text_of pieces ++ piece_block piece
text_more pieces piece =
    flat_map-append piece_block pieces (piece ∷ [])
    ∙ ap (λ (l : List ℕ). text_of pieces ++ l) (append-nil (piece_block piece))

-- commits of one group more
pub have_more : (groups : List (List ℕ)) (count more : ℕ) (last : List ℕ) (commits : List CommitRecord)
    → HaveCommits groups count → IsGroupOf commits last → more ≡ length commits
    → HaveCommits (groups ++ last ∷ []) (count + more)
have_more [] count more last commits none spells is = (commits, 0, spells, refl, omega (arith, none, is))
have_more (first ∷ groups) count more last commits have spells is =
    (have.0, have.1 + more, have.2, have_more groups have.1 more last commits have.3 spells is, omega (arith, have.4))

-- one group more is left out
pub leave_more : (past after : ℕ) (first old new : List (List ℕ)) (commits more all : ℕ) (last : List ℕ)
    → IsLeavingOut past after first old commits → new ≡ old ++ last ∷ [] → HasCount more last → all ≡ commits + more
    → all ≤ after → IsLeavingOut past after first new all
leave_more past after first old new commits more all last was taken has is within = record {
  out = was.out ++ last ∷ [];
  count = was.count + more;
  counted = have_more was.out was.count more last has.commits was.counted has.spells has.counted;
  numbered = omega (arith, is, was.numbered);
  within = within;
  taken = taken ∙ ap (λ (l : List (List ℕ)). l ++ last ∷ []) was.taken ∙ append_assoc first was.out (last ∷ []);
}

-- a stream of one group more
pub stream_more : (past after : ℕ) (groups stream : List (List ℕ)) (last : List ℕ) → IsStream past after groups stream
    → IsStream past after (groups ++ last ∷ []) (stream ++ last ∷ [])
stream_more past after groups stream last (inl all) =
    inl (all.0, all.1, ap (λ (l : List (List ℕ)). l ++ last ∷ []) all.2)
stream_more past after groups stream last (inr behind) =
    let b = behind.1 in
    inr (
      behind.0,
      record {
        head = b.head;
        left_out = b.left_out;
        sent = b.sent ++ last ∷ [];
        are = ap (λ (l : List (List ℕ)). l ++ last ∷ []) b.are
            ∙ ap (λ (l : List (List ℕ)). b.head ∷ l) (append_assoc b.left_out b.sent (last ∷ []));
        count = b.count;
        counted = b.counted;
        before = b.before;
        numbered = b.numbered;
        within = b.within;
        next = elim b.next [
          | inl same ↦ inl same
          | inr beyond ↦ inr (record {
            first = beyond.first;
            others = beyond.others ++ last ∷ [];
            are = ap (λ (l : List (List ℕ)). l ++ last ∷ []) beyond.are;
            commits = beyond.commits;
            spells = beyond.spells;
            beyond = beyond.beyond;
          })
        ];
        stream_is = ap (λ (l : List (List ℕ)). l ++ last ∷ []) b.stream_is;
      },
    )

module _ (past after : ℕ) (groups : List (List ℕ)) (old mid new : Option (List ℕ)) where
  -- nothing more
  pub ships_kept : Ships past after groups old mid → Keeps mid new → Ships past after groups old new
  ships_kept ships kept = record {
    stream = ships.stream;
    is = ships.is;
    pieces = ships.pieces;
    are = ships.are;
    first = ships.first;
    written = appends_kept old mid new (text_of ships.pieces) ships.written kept;
  }

  -- one group more
  pub ships_more : (last : List ℕ) → Ships past after groups old mid → Appends mid new (block last)
      → Ships past after (groups ++ last ∷ []) old new
  ships_more last ships written = record {
    stream = ships.stream ++ last ∷ [];
    is = stream_more past after groups ships.stream last ships.is;
    pieces = ships.pieces ++ group last ∷ [];
    are = groups_both ships.pieces (group last ∷ []) ∙ ap (λ (l : List (List ℕ)). l ++ last ∷ []) ships.are;
    first = begin_both ships.pieces (group last ∷ []) ships.first;
    written = subst (λ (text : List ℕ). Appends old new text)
        (sym (text_more ships.pieces (group last)))
        (appends_both old mid new (text_of ships.pieces) (block last) ships.written written);
  }

  -- a part of one group more
  pub ships_more_part : (last : List ℕ) → Ships past after groups old mid → AppendsPart mid new (block last)
      → ShipsPart past after (groups ++ last ∷ []) old new
  ships_more_part last ships part = record {
    front = groups ++ last ∷ [];
    more = [];
    taken = sym (append-nil (groups ++ last ∷ []));
    stream = ships.stream ++ last ∷ [];
    is = stream_more past after groups ships.stream last ships.is;
    pieces = ships.pieces ++ group last ∷ [];
    are = groups_both ships.pieces (group last ∷ []) ∙ ap (λ (l : List (List ℕ)). l ++ last ∷ []) ships.are;
    first = begin_both ships.pieces (group last ∷ []) ships.first;
    written = record {
      part = text_of ships.pieces ++ part.part;
      rest = part.rest;
      begins = text_more ships.pieces (group last)
          ∙ ap (λ (l : List ℕ). text_of ships.pieces ++ l) part.begins
          ∙ sym (append_assoc (text_of ships.pieces) part.part part.rest);
      appends = appends_both old mid new (text_of ships.pieces) part.part ships.written part.appends;
    };
  }

  -- a sign of life
  pub ships_alive : Ships past after groups old mid → Appends mid new (block sign_of_life) → Ships past after groups old new
  ships_alive ships written = record {
    stream = ships.stream;
    is = ships.is;
    pieces = ships.pieces ++ alive ∷ [];
    are = groups_both ships.pieces (alive ∷ []) ∙ append-nil (groups_of ships.pieces) ∙ ships.are;
    first = begin_both ships.pieces (alive ∷ []) ships.first;
    written = subst (λ (text : List ℕ). Appends old new text)
        (sym (text_more ships.pieces alive))
        (appends_both old mid new (text_of ships.pieces) (block sign_of_life) ships.written written);
  }

  -- a part of a sign of life
  pub ships_alive_part : Ships past after groups old mid → AppendsPart mid new (block sign_of_life)
      → ShipsPart past after groups old new
  ships_alive_part ships part = record {
    front = groups;
    more = [];
    taken = sym (append-nil groups);
    stream = ships.stream;
    is = ships.is;
    pieces = ships.pieces ++ alive ∷ [];
    are = groups_both ships.pieces (alive ∷ []) ∙ append-nil (groups_of ships.pieces) ∙ ships.are;
    first = begin_both ships.pieces (alive ∷ []) ships.first;
    written = record {
      part = text_of ships.pieces ++ part.part;
      rest = part.rest;
      begins = text_more ships.pieces alive
          ∙ ap (λ (l : List ℕ). text_of ships.pieces ++ l) part.begins
          ∙ sym (append_assoc (text_of ships.pieces) part.part part.rest);
      appends = appends_both old mid new (text_of ships.pieces) part.part ships.written part.appends;
    };
  }

-- what was shipped is a part, also of what was taken since
pub ships_part : (past after : ℕ) (groups more taken : List (List ℕ)) (old new : Option (List ℕ)) → Ships past after groups old new
    → taken ≡ groups ++ more → ShipsPart past after taken old new
ships_part past after groups more taken old new ships are = record {
  front = groups;
  more = more;
  taken = are;
  stream = ships.stream;
  is = ships.is;
  pieces = ships.pieces;
  are = ships.are;
  first = ships.first;
  written = record {
    part = text_of ships.pieces;
    rest = [];
    begins = sym (append-nil (text_of ships.pieces));
    appends = ships.written;
  };
}

module _ (past after : ℕ) (groups : List (List ℕ)) (bytes : List ℕ) (old new : Option (List ℕ))
    (begins : BeginsStream past after groups bytes) where
  abbrev stream : List (List ℕ)
  stream = begins.first ∷ begins.others

  same : bytes ≡ text_of (pieces_of stream)
  same = begins.are ∙ sym (text_of_groups stream)

  -- what a stream begins with was written
  pub ships_start : Appends old new bytes → Ships past after groups old new
  ships_start written = record {
    stream = stream;
    is = begins.is;
    pieces = pieces_of stream;
    are = groups_of_groups stream;
    first = refl;
    written = subst (λ (text : List ℕ). Appends old new text) same written;
  }

  -- or a part of it
  pub ships_start_part : AppendsPart old new bytes → ShipsPart past after groups old new
  ships_start_part part = record {
    front = groups;
    more = [];
    taken = sym (append-nil groups);
    stream = stream;
    is = begins.is;
    pieces = pieces_of stream;
    are = groups_of_groups stream;
    first = refl;
    written = subst (λ (text : List ℕ). AppendsPart old new text) same part;
  }

-- a stream of all groups begins with the head
pub begins_all : (past after : ℕ) (head : List ℕ) (groups : List (List ℕ)) (bytes : List ℕ) → past ≤ after → after ≡ 0
    → groups ≡ head ∷ [] → bytes ≡ [] ++ block head → BeginsStream past after groups bytes
begins_all past after head groups bytes few none are is = record {
  first = head;
  others = [];
  is = inl (omega (arith, few, none), none, sym are);
  are = is ∙ sym (append-nil (block head));
}

-- one behind a commit begins with the head and a mark, where no group follows
pub begins_marked : (past after : ℕ) (head : List ℕ) (old groups out : List (List ℕ)) (count commits : ℕ)
    (bytes : List ℕ) → 0 < after → old ≡ head ∷ [] → groups ≡ old ++ out → HaveCommits out count
    → commits ≡ past + count → commits ≡ after → bytes ≡ ([] ++ block head) ++ block (mark commits)
    → BeginsStream past after groups bytes
begins_marked past after head old groups out count commits bytes asked was are have numbered all is = record {
  first = head;
  others = mark commits ∷ [];
  is = inr (
    asked,
    record {
      head = head;
      left_out = out;
      sent = [];
      are = are ∙ ap (λ (l : List (List ℕ)). l ++ out) was ∙ ap (λ (l : List (List ℕ)). head ∷ l) (sym (append-nil out));
      count = count;
      counted = have;
      before = commits;
      numbered = numbered;
      within = omega (arith, all);
      next = inl all;
      stream_is = refl;
    },
  );
  are = is ∙ ap (λ (l : List ℕ). block head ++ l) (sym (append-nil (block (mark commits))));
}

-- and the group that follows
pub begins_behind : (past after : ℕ) (head : List ℕ) (old groups out : List (List ℕ)) (count commits : ℕ)
    (next bytes : List ℕ) → 0 < after → old ≡ head ∷ [] → groups ≡ old ++ (out ++ next ∷ []) → HaveCommits out count
    → commits ≡ past + count → commits ≤ after → PassesBeyond after commits next
    → bytes ≡ (([] ++ block head) ++ block (mark commits)) ++ block next → BeginsStream past after groups bytes
begins_behind past after head old groups out count commits next bytes asked was are have numbered within passes is = record {
  first = head;
  others = mark commits ∷ next ∷ [];
  is = inr (
    asked,
    record {
      head = head;
      left_out = out;
      sent = next ∷ [];
      are = are ∙ ap (λ (l : List (List ℕ)). l ++ (out ++ next ∷ [])) was;
      count = count;
      counted = have;
      before = commits;
      numbered = numbered;
      within = within;
      next = inr (record {
        first = next;
        others = [];
        are = refl;
        commits = passes.0;
        spells = passes.1;
        beyond = passes.2;
      });
      stream_is = refl;
    },
  );
  are = is ∙ append_assoc (block head) (block (mark commits)) (block next)
      ∙ ap (λ (l : List ℕ). block head ++ (block (mark commits) ++ l)) (sym (append-nil (block next)));
}
