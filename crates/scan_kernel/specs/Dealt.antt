-- Places that are dealt out to the questions that take them, by the bits of their masks.
use Rattle.std.specs.Prelude.{ℕ, ◌≡◌, ◌<◌, ◌≤◌, ◌++◌, List, [], ◌∷◌, Vec, length, filter, nat_eq, slice_index_or}
use Rattle.std.specs.Prelude.{vec_len, vec_capacity}
use Rattle.std.specs.declared.alloc.Global.{Global}
use Rattle.std.specs.Int.{bit_at}
use Rattle.scan_kernel.specs.Masks.{questions_a_pass}

-- a list for each bit of a mask
abbrev pub Lists : Type 0
Lists = List (Vec ℕ Global)

-- the elements of the list of a bit; its length and its capacity
abbrev pub in_list : Lists → ℕ → Vec ℕ Global → List ℕ
in_list lists k list = (slice_index_or lists k list).items

abbrev pub len_of : Lists → ℕ → Vec ℕ Global → ℕ
len_of lists k list = vec_len (slice_index_or lists k list)

abbrev pub room_of : Lists → ℕ → Vec ℕ Global → ℕ
room_of lists k list = vec_capacity (slice_index_or lists k list)

-- there is one for each bit, and each has room for so many elements
pub record AreListsFor (count : ℕ) (lists : Lists) : Type 0 where
  pub all : length lists ≡ questions_a_pass
  pub room : (k : ℕ) (list : Vec ℕ Global) → k < questions_a_pass → count ≤ room_of lists k list

-- each has the room that it had
pub record KeepRoom (old new : Lists) : Type 0 where
  pub all : length new ≡ length old
  pub room : (k : ℕ) (list : Vec ℕ Global) → k < questions_a_pass → room_of new k list ≡ room_of old k list

-- a place was added to the lists of the bits that its mask has
pub record GivesPlace (place mask : ℕ) (old new : Lists) : Type 0 where
  pub given : (k : ℕ) (list : Vec ℕ Global) → k < questions_a_pass → bit_at mask k ≡ 1
      → in_list new k list ≡ in_list old k list ++ place ∷ []
  pub left : (k : ℕ) (list : Vec ℕ Global) → k < questions_a_pass → bit_at mask k ≡ 0
      → in_list new k list ≡ in_list old k list

-- the list of each bit has those places whose mask has it, in order
abbrev pub AreDealt : (ℕ → ℕ) → List ℕ → Lists → Type 0
AreDealt mask places lists =
    (k : ℕ) (list : Vec ℕ Global) → k < 16
    → in_list lists k list ≡ filter (λ place. nat_eq (bit_at (mask place) k) 1) places
