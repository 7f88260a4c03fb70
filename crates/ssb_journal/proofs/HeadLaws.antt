-- The head, line by line.
use Rattle.std.proofs.Common.{◌≡◌, ℕ, ◌+◌, ◌<◌, ◌≤◌, true, false, nat_eq, List, [], ◌∷◌, ◌++◌, length, get_or, take}
use Rattle.std.proofs.Common.{drop, refl, sym, ◌∙◌, ap, take-append-drop}
use Rattle.std.proofs.lemmas.Bool.{both_ways}
use Rattle.std.proofs.lemmas.Bool.Decides.{Decides-eqb}
use Rattle.std.proofs.lemmas.List.{drop_more, take_all, drop_all, flat_map_more, append-nil}
use Rattle.std.proofs.lemmas.Slice.Eq.{starts_is}
use Rattle.std.specs.List.{starts_with}
use Rattle.ssb_journal.specs.Heads.{title, mark_line, head_text, IsOther}
use Rattle.ssb_journal.specs.declared.head.HeadForm.{HeadForm}
use Rattle.ssb_journal.specs.declared.head.HeadForm.TheVariants.{Sizes, Checksums}
use Rattle.ssb_journal.specs.declared.head.TableMark.{TableMark}

module _ (form : HeadForm) (marks : List TableMark) (i : ℕ) (d : TableMark) (inside : i < length marks) (head next : List ℕ) (head_is : head ≡ head_text form (take i marks)) (next_is : next ≡ head ++ mark_line form (get_or marks i d)) where
  -- the head with one line more
  pub head_more : next ≡ head_text form (take i marks ++ get_or marks i d ∷ [])
  head_more = next_is ∙ ap (λ (h : List ℕ). h ++ mark_line form (get_or marks i d)) head_is ∙ flat_map_more (mark_line form) (title form) (take i marks) (get_or marks i d)

  pub is_other : (text : List ℕ) → starts_with nat_eq text head ≡ true → starts_with nat_eq text next ≡ false → IsOther form marks text (get_or marks i d)
  is_other text same other = record {
    before = take i marks;
    after = drop (i + 1) marks;
    among = sym (take-append-drop i marks) ∙ ap (λ (l : List TableMark). take i marks ++ l) (drop_more marks i d inside);
    same = ap (starts_with nat_eq text) (sym head_is) ∙ same;
    other = ap (starts_with nat_eq text) (sym head_more) ∙ other;
  }

-- a text that begins as the head, and is no longer, is the head
pub whole_head : (form : HeadForm) (marks : List TableMark) (i : ℕ) (head text : List ℕ) → length marks ≤ i → head ≡ head_text form (take i marks) → starts_with nat_eq text head ≡ true → length text ≤ length head → text ≡ head_text form marks
whole_head form marks i head text all head_is starts short =
    let begins : text ≡ head ++ drop (length head) text = (starts_is Decides-eqb text head _ refl).0 starts in
    begins ∙ ap (λ (l : List ℕ). head ++ l) (drop_all (length head) text short) ∙ append-nil head ∙ head_is ∙ ap (head_text form) (take_all i marks all)

-- a text that begins with neither title
pub no_title : (text : List ℕ) → starts_with nat_eq text (title Checksums) ≡ false
    → starts_with nat_eq text (title Sizes) ≡ false → (form : HeadForm) → starts_with nat_eq text (title form) ≡ false
no_title text two one Sizes = one
no_title text two one Checksums = two

-- what begins with one title does not begin with the other
pub one_title : (form other : HeadForm) (rest : List ℕ) → starts_with nat_eq (title form ++ rest) (title other) ≡ true
    → other ≡ form
one_title Sizes Sizes rest is = refl
one_title Checksums Checksums rest is = refl
one_title Sizes Checksums rest is = absurd (both_ways _ refl is)
one_title Checksums Sizes rest is = absurd (both_ways _ refl is)
