use Rattle.std.proofs.Common.{arith}
-- What stands under the tables' names, and what a crash leaves there, after the calls of a filling.
use Rattle.std.proofs.Common.{◌≡◌, ◌∙◌, ℕ, Bool, true, false, ◌&&◌, ◌||◌, List, [], ◌∷◌, Option, Some, None, refl}
use Rattle.std.proofs.Common.{sym, ap, subst, inl, inr}
use Rattle.std.specs.Prelude.{IfSome, ◌⊎◌}
use Rattle.std.specs.List.{list_any}
use Rattle.ssb_schema.specs.declared.table.Table.{Table}
use Rattle.ssb_schema.specs.declared.table.Table.TheVariants.{Customer, Supplier, Part, Date, Lineorder}
use Rattle.table_folder.specs.Calls.{FolderCall, Made, Begun, Synced, Named, NamesSynced, IsNew, IsThere, LeftAnyTime}
use Rattle.table_folder.specs.Calls.{Leaves, MayLeave, Shows, on_disk, same_table}
use Rattle.table_folder.specs.Filled.{AreAll, AreNoneOrAll, HasAll, HasNoLineorder, LeftNoneOrAll, names_lineorder}
use Rattle.table_folder.specs.Filled.{ready_calls, written_calls}

neither : (a b : Bool) → (a || b) ≡ false → (a ≡ false) × (b ≡ false)
neither true b e = absurd cc
neither false b e = (refl, e)

-- where lineorder got no name, a crash leaves none
none_left : (calls : List FolderCall) → HasNoLineorder calls → (left : Option (List ℕ)) → MayLeave calls Lineorder left
    → left ≡ None
none_left [] unnamed left may = may
none_left (Made ok ∷ calls) unnamed left may = none_left calls unnamed left may
none_left (Begun u ok ∷ calls) unnamed left may = none_left calls unnamed left may
none_left (Synced u bytes ok ∷ calls) unnamed left may = none_left calls unnamed left may
none_left (NamesSynced ok ∷ calls) unnamed left may = none_left calls unnamed left may.0
none_left (Named Customer ok ∷ calls) unnamed left (inl may) = none_left calls unnamed left may
none_left (Named Supplier ok ∷ calls) unnamed left (inl may) = none_left calls unnamed left may
none_left (Named Part ok ∷ calls) unnamed left (inl may) = none_left calls unnamed left may
none_left (Named Date ok ∷ calls) unnamed left (inl may) = none_left calls unnamed left may
none_left (Named Lineorder ok ∷ calls) unnamed left may = absurd cc
none_left (Named Customer ok ∷ calls) unnamed left (inr new) = absurd (let e = new.0 in cc)
none_left (Named Supplier ok ∷ calls) unnamed left (inr new) = absurd (let e = new.0 in cc)
none_left (Named Part ok ∷ calls) unnamed left (inr new) = absurd (let e = new.0 in cc)
none_left (Named Date ok ∷ calls) unnamed left (inr new) = absurd (let e = new.0 in cc)

pub none_any_time : (calls : List FolderCall) → HasNoLineorder calls → (left : Table → Option (List ℕ))
    → LeftAnyTime calls left → left Lineorder ≡ None
none_any_time [] unnamed left any = any Lineorder
none_any_time (call ∷ calls) unnamed left (inl now) = none_left (call ∷ calls) unnamed (left Lineorder) (now Lineorder)
none_any_time (call ∷ calls) unnamed left (inr past) =
    none_any_time calls (neither (names_lineorder call) (list_any names_lineorder calls) unnamed).1 left past

pub none_or_all : (texts : Table → List ℕ) (calls : List FolderCall) → HasNoLineorder calls → LeftNoneOrAll texts calls
none_or_all texts calls unnamed left any = inl (none_any_time calls unnamed left any)

-- what stands under a name whose file was on the disk
new_is : (calls : List FolderCall) (t : Table) (text : List ℕ) (found : Option (List ℕ)) → on_disk calls t ≡ Some text
    → IsNew calls t found → found ≡ Some text
new_is calls t text found on new =
    let same : new.0 ≡ text = subst (λ (o : Option (List ℕ)). IfSome o (λ synced. new.0 ≡ synced)) on new.2 in
    new.1 ∙ ap Some same

-- the newest name is this one, or another
there : (calls : List FolderCall) (t : Table) (text : List ℕ) (found : Option (List ℕ)) → on_disk calls t ≡ Some text
    → IsThere (Named t true ∷ calls) t found → same_table t t ≡ true → found ≡ Some text
there calls t text found on (inl new) same = grind (arith, new_is)
there calls t text found on (inr old) same = grind arith

other_there : (calls : List FolderCall) (u t : Table) (ok : Bool) (found : Option (List ℕ)) → same_table u t ≡ false
    → IsThere (Named u ok ∷ calls) t found → IsThere calls t found
other_there calls u t ok found other (inl new) = absurd (let e = new.0 in cc)
other_there calls u t ok found other (inr old) = old.1

module _ (texts : Table → List ℕ) where
  abbrev written : List FolderCall
  written = written_calls texts (Made true ∷ [])

  customer_there : (found : Option (List ℕ)) → IsThere (ready_calls texts) Customer found → found ≡ Some (texts Customer)
  customer_there found is =
      there written Customer (texts Customer) found refl
      (other_there (Named Customer true ∷ written) Supplier Customer true found refl
      (other_there (Named Supplier true ∷ Named Customer true ∷ written) Part Customer true found refl
      (other_there (Named Part true ∷ Named Supplier true ∷ Named Customer true ∷ written) Date Customer true found refl
      is))) refl

  supplier_there : (found : Option (List ℕ)) → IsThere (ready_calls texts) Supplier found → found ≡ Some (texts Supplier)
  supplier_there found is =
      there (Named Customer true ∷ written) Supplier (texts Supplier) found refl
      (other_there (Named Supplier true ∷ Named Customer true ∷ written) Part Supplier true found refl
      (other_there (Named Part true ∷ Named Supplier true ∷ Named Customer true ∷ written) Date Supplier true found refl
      is)) refl

  part_there : (found : Option (List ℕ)) → IsThere (ready_calls texts) Part found → found ≡ Some (texts Part)
  part_there found is =
      there (Named Supplier true ∷ Named Customer true ∷ written) Part (texts Part) found refl
      (other_there (Named Part true ∷ Named Supplier true ∷ Named Customer true ∷ written) Date Part true found refl
      is) refl

  date_there : (found : Option (List ℕ)) → IsThere (ready_calls texts) Date found → found ≡ Some (texts Date)
  date_there found is =
      there (Named Part true ∷ Named Supplier true ∷ Named Customer true ∷ written) Date (texts Date) found refl is refl

  dimension_there : (t : Table) → same_table Lineorder t ≡ false → (found : Option (List ℕ))
      → IsThere (ready_calls texts) t found → found ≡ Some (texts t)
  dimension_there Customer other found is = customer_there found is
  dimension_there Supplier other found is = supplier_there found is
  dimension_there Part other found is = part_there found is
  dimension_there Date other found is = date_there found is
  dimension_there Lineorder other found is = absurd cc

  -- and each crash leaves them
  dimension_left : (t : Table) → same_table Lineorder t ≡ false → (left : Option (List ℕ))
      → MayLeave (ready_calls texts) t left → left ≡ Some (texts t)
  dimension_left t other left may = dimension_there t other left (may.1 refl)

  -- lineorder has its name last
  abbrev named_last : List FolderCall
  named_last = Named Lineorder true ∷ ready_calls texts

  all_there : (found : Table → Option (List ℕ)) → Shows named_last found → AreAll texts found
  all_there found shows Lineorder =
      there (ready_calls texts) Lineorder (texts Lineorder) (found Lineorder) refl (shows Lineorder) refl
  all_there found shows Customer =
      customer_there (found Customer)
      (other_there (ready_calls texts) Lineorder Customer true (found Customer) refl (shows Customer))
  all_there found shows Supplier =
      supplier_there (found Supplier)
      (other_there (ready_calls texts) Lineorder Supplier true (found Supplier) refl (shows Supplier))
  all_there found shows Part =
      part_there (found Part) (other_there (ready_calls texts) Lineorder Part true (found Part) refl (shows Part))
  all_there found shows Date =
      date_there (found Date) (other_there (ready_calls texts) Lineorder Date true (found Date) refl (shows Date))

  pub has_all : HasAll texts (NamesSynced true ∷ Named Lineorder true ∷ ready_calls texts)
  has_all = record {
    shows = λ found shows. all_there found (λ t. shows t);
    leaves = λ left leaves. all_there left (λ t. (leaves t).1 refl);
  }

  -- a crash while it gets its name
  other_left : (t : Table) (ok : Bool) → same_table Lineorder t ≡ false → (left : Option (List ℕ))
      → MayLeave (Named Lineorder ok ∷ ready_calls texts) t left → left ≡ Some (texts t)
  other_left t ok other left (inl may) = dimension_left t other left may
  other_left t ok other left (inr new) = absurd (let e = new.0 in cc)

  pub leaves_none_or_all : (ok : Bool) (left : Table → Option (List ℕ))
      → Leaves (Named Lineorder ok ∷ ready_calls texts) left → AreNoneOrAll texts left
  leaves_none_or_all ok left leaves = elim (leaves Lineorder) [
    | inl may ↦ inl (none_left (ready_calls texts) refl (left Lineorder) may)
    | inr new ↦
        let last : left Lineorder ≡ Some (texts Lineorder) =
        new_is (ready_calls texts) Lineorder (texts Lineorder) (left Lineorder) refl new.1 in
        inr (all last)
  ]
    where
      all : left Lineorder ≡ Some (texts Lineorder) → (t : Table) → left t ≡ Some (texts t)
      all last Customer = other_left Customer ok refl (left Customer) (leaves Customer)
      all last Supplier = other_left Supplier ok refl (left Supplier) (leaves Supplier)
      all last Part = other_left Part ok refl (left Part) (leaves Part)
      all last Date = other_left Date ok refl (left Date) (leaves Date)
      all last Lineorder = last

  pub left_while_named : (ok : Bool) → LeftNoneOrAll texts (Named Lineorder ok ∷ ready_calls texts)
  left_while_named ok left (inl now) = leaves_none_or_all ok left now
  left_while_named ok left (inr past) = inl (none_any_time (ready_calls texts) refl left past)

  pub left_while_synced : (synced ok : Bool) → LeftNoneOrAll texts (NamesSynced synced ∷ Named Lineorder ok ∷ ready_calls texts)
  left_while_synced synced ok left (inl now) = leaves_none_or_all ok left (λ t. (now t).0)
  left_while_synced synced ok left (inr past) = left_while_named ok left past

-- after the last calls of a filling
pub has_all_after : (texts : Table → List ℕ) (before after : List FolderCall) → before ≡ ready_calls texts
    → after ≡ NamesSynced true ∷ Named Lineorder true ∷ before → HasAll texts after
has_all_after texts before after ready named = grind (arith, has_all)

pub left_after : (texts : Table → List ℕ) (before after : List FolderCall) → before ≡ ready_calls texts
    → after ≡ NamesSynced true ∷ Named Lineorder true ∷ before → LeftNoneOrAll texts after
left_after texts before after ready named =
    subst (λ (calls : List FolderCall). LeftNoneOrAll texts calls)
    (sym (named ∙ ap (λ (calls : List FolderCall). NamesSynced true ∷ Named Lineorder true ∷ calls) ready))
    (left_while_synced texts true true)

pub left_after_fault : (texts : Table → List ℕ) (before after : List FolderCall) → before ≡ ready_calls texts
    → (after ≡ Named Lineorder false ∷ before) ⊎ (after ≡ NamesSynced false ∷ Named Lineorder true ∷ before)
    → LeftNoneOrAll texts after
left_after_fault texts before after ready (inl unnamed) =
    subst (λ (calls : List FolderCall). LeftNoneOrAll texts calls)
    (sym (unnamed ∙ ap (λ (calls : List FolderCall). Named Lineorder false ∷ calls) ready))
    (left_while_named texts false)
left_after_fault texts before after ready (inr unsynced) =
    subst (λ (calls : List FolderCall). LeftNoneOrAll texts calls)
    (sym (unsynced ∙ ap (λ (calls : List FolderCall). NamesSynced false ∷ Named Lineorder true ∷ calls) ready))
    (left_while_synced texts false true)

-- something is there, and a crash may leave it
new_something : (calls : List FolderCall) (t : Table) → (found : Option (List ℕ)) × IsNew calls t found
new_something calls t = of (on_disk calls t)
  where
    of : (o : Option (List ℕ)) → (found : Option (List ℕ)) × ((bytes : List ℕ) × (found ≡ Some bytes)
        × IfSome o (λ synced. bytes ≡ synced))
    of None = (Some [], ([], refl, tt))
    of (Some text) = (Some text, (text, refl, refl))

something : (calls : List FolderCall) (t : Table) → (found : Option (List ℕ)) × IsThere calls t found × MayLeave calls t found
something [] t = (None, refl, refl)
something (Made ok ∷ calls) t = something calls t
something (Begun u ok ∷ calls) t = something calls t
something (Synced u bytes ok ∷ calls) t = something calls t
something (NamesSynced ok ∷ calls) t = let found = something calls t in (found.0, found.1, (found.2, λ _. found.1))
something (Named u ok ∷ calls) t =
    named (same_table u t) ok refl (something calls t)
  where
    named : (same done : Bool) → same_table u t ≡ same → ((found : Option (List ℕ)) × IsThere calls t found × MayLeave calls t found)
        → (found : Option (List ℕ)) × (((same_table u t ≡ true) × IsNew calls t found)
        ⊎ (((same_table u t && ok) ≡ false) × IsThere calls t found))
        × (MayLeave calls t found ⊎ ((same_table u t ≡ true) × IsNew calls t found))
    named true done is old =
        let new = new_something calls t in
        (new.0, inl (is, new.1), inr (is, new.1))
    named false done is old = (old.0, inr (ap (λ (b : Bool). b && ok) is, old.1), inl old.2)

pub a_crash_leaves_something : (calls : List FolderCall) → (found : Table → Option (List ℕ)) × Shows calls found × Leaves calls found
a_crash_leaves_something calls = (λ t. (something calls t).0, λ t. (something calls t).1, λ t. (something calls t).2)
