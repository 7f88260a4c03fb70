-- What a loop over lines or orders has written after one step more.
use Rattle.std.proofs.Common.{◌≡◌, ℕ, ◌+◌, ◌<◌, not, true, false, List, [], ◌∷◌, ◌++◌, length, take, drop, get_or}
use Rattle.std.proofs.Common.{Option, refl, sym, ap, ◌∙◌, subst, append-nil, Bool}
use Rattle.std.proofs.lemmas.List.Elements.{filter-append}
use Rattle.ssb_text.specs.Written.{StopsShort}
use Rattle.ssb_schema.specs.declared.line.LineFields.{LineFields}
use Rattle.export_command.specs.Standing.{left_of_added, left_of_loaded, order_lines, stands_yet}
use Rattle.export_command.specs.declared.standing_orders.AddedOrder.{AddedOrder}
use Rattle.export_command.proofs.NextLaws.{all_of, next_of}
use Rattle.export_command.proofs.WritingLaws.{HasWritten, lines_text, stopped_before, stopped_behind, written_both}

-- the lines of some elements and of others are those of all
abbrev AddUp : {X : Type 0} → (List X → List LineFields) → Type 0
AddUp {X = X} lines_of = (one other : List X) → lines_of (one ++ other) ≡ lines_of one ++ lines_of other

module _ {X : Type 0} (lines_of : List X → List LineFields) (both : AddUp lines_of) (xs : List X) (i : ℕ) (x : X)
    (within : i < length xs) (is : x ≡ get_or xs i x) where
  one_more : (own : List LineFields) → lines_of (x ∷ []) ≡ own
      → lines_of (take (i + 1) xs) ≡ lines_of (take i xs) ++ own
  one_more own are =
      ap lines_of (next_of xs i x within is) ∙ both (take i xs) (x ∷ []) ∙ ap (λ l. lines_of (take i xs) ++ l) are

  pub step_written : (old mid new : Option (List ℕ)) (own : List LineFields) → lines_of (x ∷ []) ≡ own
      → HasWritten old mid (lines_of (take i xs)) → HasWritten mid new own
      → HasWritten old new (lines_of (take (i + 1) xs))
  step_written old mid new own are so_far more =
      subst (HasWritten old new) (sym (one_more own are))
      (written_both old mid new (lines_of (take i xs)) own so_far more)

  pub step_left_out : (old now : Option (List ℕ)) → lines_of (x ∷ []) ≡ [] → HasWritten old now (lines_of (take i xs))
      → HasWritten old now (lines_of (take (i + 1) xs))
  step_left_out old now none so_far =
      subst (HasWritten old now) (sym (one_more [] none ∙ append-nil (lines_of (take i xs)))) so_far

  pub step_stopped : (old mid new : Option (List ℕ)) (own : List LineFields) → lines_of (x ∷ []) ≡ own
      → HasWritten old mid (lines_of (take i xs)) → StopsShort mid new (lines_text own)
      → StopsShort old new (lines_text (lines_of xs))
  step_stopped old mid new own are so_far part =
      let front = lines_of (take i xs) in
      let rest = lines_of (drop (i + 1) xs) in
      let all : lines_of xs ≡ (front ++ own) ++ rest =
      ap lines_of (all_of xs i x within is) ∙ both (take i xs ++ x ∷ []) (drop (i + 1) xs)
      ∙ ap (λ l. l ++ rest) (both (take i xs) (x ∷ []) ∙ ap (λ l. front ++ l) are) in
      subst (λ l. StopsShort old new (lines_text l)) (sym all)
      (stopped_before old new (front ++ own) rest (stopped_behind old mid new front own so_far part))

pub loaded_both : (gone : ℕ → Bool) (one other : List LineFields)
    → left_of_loaded gone (one ++ other) ≡ left_of_loaded gone one ++ left_of_loaded gone other
loaded_both gone one other = filter-append (λ line. not (gone line.order_key)) one other

pub line_stays : (gone : ℕ → Bool) (line : LineFields) → not (gone line.order_key) ≡ true
    → left_of_loaded gone (line ∷ []) ≡ line ∷ []
line_stays gone line stays = rw stays refl

pub line_goes : (gone : ℕ → Bool) (line : LineFields) → not (gone line.order_key) ≡ false
    → left_of_loaded gone (line ∷ []) ≡ []
line_goes gone line goes = rw goes refl

pub order_stands : (numbers : ℕ → Option ℕ) (order : AddedOrder) → stands_yet numbers order ≡ true
    → left_of_added numbers (order ∷ []) ≡ order_lines order
order_stands numbers order stands = rw stands (append-nil (order_lines order))

pub order_goes : (numbers : ℕ → Option ℕ) (order : AddedOrder) → stands_yet numbers order ≡ false
    → left_of_added numbers (order ∷ []) ≡ []
order_goes numbers order goes = rw goes refl
