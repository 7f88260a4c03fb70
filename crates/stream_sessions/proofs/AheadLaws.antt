-- Requests that were read before their turn, at the front of what a reader has at hand.
use Rattle.std.proofs.Common.{ℕ, List, ◌∷◌, take, drop, sym, Result, Ok, Err}
use Rattle.std.specs.Prelude.{OnOk}
use Rattle.std.proofs.lemmas.List.{take-append-drop}
use Rattle.ssb_script.specs.Ahead.{AskFirst, AsksOne, IsWhole}
use Rattle.ssb_script.proofs.AheadLaws.{ask_behind, asks_first, asks_whole}
use Rattle.ssb_script.specs.Requests.{RequestRecord}

-- the first of them stands whole at the front, and behind it stand the others
pub stands_first : (bytes : List ℕ) (size : ℕ) (one : RequestRecord) (asked : List RequestRecord)
    → AskFirst bytes (one ∷ asked) → IsWhole size bytes
    → IsWhole size bytes × AsksOne (take size bytes) one × AskFirst (drop size bytes) asked
stands_first bytes size one asked first whole = (
  whole,
  asks_whole bytes one size (asks_first bytes one asked first) whole,
  ask_behind bytes (take size bytes) (drop size bytes) one asked first whole.1 (sym (take-append-drop size bytes)),
)

-- what holds whatever the result is, holds of success
pub on_ok : {X E : Type 0} (result : Result X E) (P : Type 0) → P → OnOk result P
on_ok (Ok x) P holds = holds
on_ok (Err e) P holds = tt
