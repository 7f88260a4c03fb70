-- A JSON object in parts.
use Rattle.std.proofs.Common.{◌≡◌, ◌∙◌, ◌==◌, ◌||◌, ℕ, ◌≤◌, ◌<◌, Bool, true, false, List, [], ◌∷◌, ◌++◌, map, flat_map}
use Rattle.std.proofs.Common.{refl, sym, ap, arith, get_or, length, min, take, append_assoc, append-nil, decimal, codes}
use Rattle.std.proofs.lemmas.Bool.{ne_eqb}
use Rattle.std.proofs.lemmas.Fmt.{decimal_digit}
use Rattle.std.proofs.lemmas.List.{get_or-map, length-map, take_all}
use Rattle.std.proofs.lemmas.Slice.Zip.{get_or-zip, length-zip}
use Rattle.std.specs.Borrow.{Bor}
use Rattle.std.specs.List.{list_any, zip}
use Rattle.std.specs.Prelude.{nat_lt}
use Rattle.json.specs.Print.{escape, escape_byte, quoted}
use Rattle.serde_json.specs.Written.{compact_text}
use Rattle.serde_json.specs.Written.{members_text as compact_members}
use Rattle.ssb_schema.specs.Columns.{Value, value_of}
use Rattle.ssb_schema.specs.Rows.{line_values}
use Rattle.ssb_schema.specs.declared.kind.Cell.{Cell}
use Rattle.ssb_schema.specs.declared.line.LineFields.{LineFields}
use Rattle.changes_command.specs.JsonText.{is_escaped, lead_text, line_members, member_head, member_heads, member_text, sign_member}
use Rattle.changes_command.specs.SignedText.{line_names, members_of, signed_text, value_data}
use Rattle.changes_command.specs.declared.format.ChangesFormat.TheVariants.{Json}
use Rattle.changes_command.specs.declared.signed.Sign.{Sign}
use Rattle.changes_command.specs.declared.signed.Sign.TheVariants.{Came, Went}

neither : (p q : Bool) → (p || q) ≡ false → (p ≡ false) × (q ≡ false)
neither true q is = absurd (cc)
neither false q is = (refl, is)

not_below : (a b : ℕ) → nat_lt a b ≡ false → b ≤ a
not_below a b is = grind arith

-- a byte that stands for itself
bare_byte : (byte : ℕ) → is_escaped byte ≡ false → escape_byte byte ≡ byte ∷ []
unfolding escape_byte
bare_byte byte is =
    let parts = neither ((byte == 34) || (byte == 92)) (nat_lt byte 32) is in
    let marks = neither (byte == 34) (byte == 92) parts.0 in
    let least : 32 ≤ byte = not_below byte 32 parts.1 in
    let back : (byte == 8) ≡ false = ne_eqb byte 8 (λ at. omega (arith, at, least)) in
    let form : (byte == 12) ≡ false = ne_eqb byte 12 (λ at. omega (arith, at, least)) in
    let feed : (byte == 10) ≡ false = ne_eqb byte 10 (λ at. omega (arith, at, least)) in
    let carriage : (byte == 13) ≡ false = ne_eqb byte 13 (λ at. omega (arith, at, least)) in
    let tab : (byte == 9) ≡ false = ne_eqb byte 9 (λ at. omega (arith, at, least)) in
    rw (marks.0, marks.1, back, form, feed, carriage, tab, parts.1) refl

-- a text whose bytes all do
bare_text : (text : List ℕ) → list_any is_escaped text ≡ false → escape text ≡ text
bare_text [] none = refl
bare_text (byte ∷ text) none =
    let parts = neither (is_escaped byte) (list_any is_escaped text) none in
    ap (λ t. t ++ escape text) (bare_byte byte parts.0) ∙ ap (λ t. byte ∷ t) (bare_text text parts.1)

pub bare_quoted : (text : List ℕ) → list_any is_escaped text ≡ false → 34 ∷ (text ++ 34 ∷ []) ≡ quoted text
bare_quoted text none = ap (λ t. 34 ∷ (t ++ 34 ∷ [])) (sym (bare_text text none))

-- members behind others, and the end of the object
members_parted : (names : List (List ℕ)) (values : List Value)
    → compact_members true (members_of (zip names (map value_data values)))
    ≡ flat_map member_text (zip (map member_head names) values) ++ 125 ∷ []
members_parted [] values = refl
members_parted (name ∷ names) [] = refl
members_parted (name ∷ names) (value ∷ values) =
    let head = member_head name in
    let own = compact_text (value_data value) in
    let rest = flat_map member_text (zip (map member_head names) values) in
    ap (λ t. 44 ∷ (quoted name ++ 58 ∷ (own ++ t))) (members_parted names values)
    ∙ sym (ap (λ t. 44 ∷ t) (append_assoc (quoted name) (58 ∷ []) (own ++ (rest ++ 125 ∷ []))))
    ∙ sym (append_assoc head own (rest ++ 125 ∷ []))
    ∙ sym (append_assoc (head ++ own) rest (125 ∷ []))

regrouped : (a b c : List ℕ) → (a ++ (b ++ (c ++ 125 ∷ []))) ++ 10 ∷ [] ≡ (a ++ b) ++ (c ++ 125 ∷ 10 ∷ [])
regrouped a b c =
    append_assoc a (b ++ (c ++ 125 ∷ [])) (10 ∷ [])
    ∙ ap (λ t. a ++ t) (append_assoc b (c ++ 125 ∷ []) (10 ∷ []) ∙ ap (λ t. b ++ t) (append_assoc c (125 ∷ []) (10 ∷ [])))
    ∙ sym (append_assoc a b (c ++ 125 ∷ 10 ∷ []))

-- the member of a sign
pub came_member : codes ",\"SIGN\":1" ≡ sign_member Came
unfolding escape_byte
came_member = sym (ap (λ t. member_head (codes "SIGN") ++ t) (decimal_digit 1 (omega arith)))

pub went_member : codes ",\"SIGN\":-1" ≡ sign_member Went
unfolding escape_byte
went_member = sym (ap (λ t. member_head (codes "SIGN") ++ 45 ∷ t) (decimal_digit 1 (omega arith)))

-- what stands before the members of a line, as it is written
pub lead_written : (commit : List ℕ) (sign : Sign)
    → codes "{\"COMMIT\":" ++ (commit ++ (sign_member sign ++ [])) ≡ lead_text commit sign
unfolding escape_byte
lead_written commit sign = ap (λ t. codes "{\"COMMIT\":" ++ (commit ++ t)) (append-nil (sign_member sign))

-- a signed line: the commit and the sign, and the members of the line
pub json_in_parts : (commit : ℕ) (sign : Sign) (line : LineFields)
    → signed_text Json commit sign line ≡ lead_text (decimal commit) sign ++ line_members (line_values line)
unfolding escape_byte
json_in_parts commit sign line =
    ap (λ t. codes "{\"COMMIT\":" ++ t)
    (ap (λ t. (decimal commit ++ (sign_member sign ++ t)) ++ 10 ∷ []) (members_parted line_names (line_values line))
    ∙ regrouped (decimal commit) (sign_member sign) (flat_map member_text (zip member_heads (line_values line))))

-- the heads of members, and the values of cells
module _ (heads : List (Bor (List ℕ))) (cells : List Cell) (are : map (λ head. head.now) heads ≡ member_heads) where
  many : length member_heads ≡ length heads
  many = ap length (sym are) ∙ length-map heads (λ (head : Bor (List ℕ)). head.now)

  -- what stands at a place of both
  pub member_at : (i : ℕ) (head : Bor (List ℕ)) (cell : Cell) → i < length heads → i < length cells
      → head ≡ get_or heads i head → cell ≡ get_or cells i cell
      → (i < length (zip member_heads (map value_of cells)))
      × ((head.now, value_of cell) ≡ get_or (zip member_heads (map value_of cells)) i (head.now, value_of cell))
  member_at i head cell within within_cells at at_cell =
      let one : get_or member_heads i head.now ≡ head.now =
      ap (λ (l : List (List ℕ)). get_or l i head.now) (sym are)
      ∙ get_or-map (λ (h : Bor (List ℕ)). h.now) heads i head head.now within
      ∙ ap (λ (h : Bor (List ℕ)). h.now) (sym at) in
      let other : get_or (map value_of cells) i (value_of cell) ≡ value_of cell =
      get_or-map value_of cells i cell (value_of cell) within_cells ∙ ap value_of (sym at_cell) in
      let named : i < length member_heads = omega (arith, many, within) in
      let valued : i < length (map value_of cells) = omega (arith, length-map cells value_of, within_cells) in (
        omega (arith, length-zip member_heads (map value_of cells), named, valued),
        sym (get_or-zip member_heads (map value_of cells) i (head.now, value_of cell) named valued
            ∙ ap (λ h. (h, get_or (map value_of cells) i (value_of cell))) one ∙ ap (λ v. (head.now, v)) other),
      )

  pub members_ended : (n : ℕ) → n ≡ min (length heads) (length cells)
      → take n (zip member_heads (map value_of cells)) ≡ zip member_heads (map value_of cells)
  members_ended n ended =
      take_all n (zip member_heads (map value_of cells))
      (omega (arith, length-zip member_heads (map value_of cells), many, length-map cells value_of, ended))
