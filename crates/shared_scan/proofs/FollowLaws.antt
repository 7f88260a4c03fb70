-- Standing questions follow a line that comes, and one that goes.
use Rattle.std.proofs.Common.{ℕ, ◌≡◌, Bool, true, false, List, length, get_or, refl, ◌∙◌, arith}
use Rattle.ssb_base.specs.Base.{Tables}
use Rattle.dimension_index.specs.Classes.{reduced}
use Rattle.fact_columns.specs.declared.scanned_line.ScannedLine.{ScannedLine}
use Rattle.fact_columns.specs.Watching.{IsOneMore}
use Rattle.scan_kernel.specs.declared.masks.Masks.{Masks}
use Rattle.scan_kernel.specs.declared.totals.Totals.{Totals}
use Rattle.shared_scan.specs.declared.ready.Ready.{Ready}
use Rattle.shared_scan.specs.declared.standing.Standing.{Standing}
use Rattle.shared_scan.specs.Standing.{takes_line, ShiftsBatch, AreTotalsOver, HasNumbersOf, HaveNumbersOf}
use Rattle.shared_scan.specs.Follows.{FollowWith, Follows, Changes}
use Rattle.shared_scan.proofs.StandingLaws.{totals_come, totals_go}

follow_come : (base : Tables) (masks : Masks) (all : List Ready) (old new : List Totals) (line : ScannedLine)
    (fewer more : List ScannedLine) → length new ≡ length old → ShiftsBatch base masks all line true old new
    → IsOneMore line fewer more → FollowWith base masks all old fewer → FollowWith base masks all new more
follow_come base masks all old new line fewer more len shifted one follows = record {
  few = follows.few;
  one_each = len ∙ follows.one_each;
  masks_tell = follows.masks_tell;
  masks_cover = follows.masks_cover;
  ready = follows.ready;
  each = λ k r t below. totals_come base masks k (get_or all k r) line fewer more (get_or old k t) (get_or new k t)
      (takes_line masks k line) refl one (shifted k r t below) (follows.each k r t below);
}

follow_go : (base : Tables) (masks : Masks) (all : List Ready) (old new : List Totals) (line : ScannedLine)
    (fewer more : List ScannedLine) → length new ≡ length old → ShiftsBatch base masks all line false old new
    → IsOneMore line fewer more → FollowWith base masks all old more → FollowWith base masks all new fewer
follow_go base masks all old new line fewer more len shifted one follows = record {
  few = follows.few;
  one_each = len ∙ follows.one_each;
  masks_tell = follows.masks_tell;
  masks_cover = follows.masks_cover;
  ready = follows.ready;
  each = λ k r t below. totals_go base masks k (get_or all k r) line fewer more (get_or old k t) (get_or new k t)
      (takes_line masks k line) refl one (shifted k r t below) (follows.each k r t below);
}

-- over what has not changed
kept : (old new : Standing) (line : ScannedLine) (comes : Bool) (lines : List ScannedLine) → Changes old new line comes
    → FollowWith (reduced old.batch.value.index.value) old.batch.value.masks old.batch.value.questions.items
    new.totals.items lines → Follows new lines
kept old new line comes lines change follows = grind arith

pub comes_along : (old new : Standing) (line : ScannedLine) (fewer more : List ScannedLine) → Changes old new line true
    → IsOneMore line fewer more → Follows old fewer → Follows new more
comes_along old new line fewer more change one follows = kept old new line true more change
    (follow_come (reduced old.batch.value.index.value) old.batch.value.masks old.batch.value.questions.items
    old.totals.items new.totals.items line fewer more change.len (change.shifted follows.few follows.one_each) one
    follows)

pub goes_along : (old new : Standing) (line : ScannedLine) (fewer more : List ScannedLine) → Changes old new line false
    → IsOneMore line fewer more → Follows old more → Follows new fewer
goes_along old new line fewer more change one follows = kept old new line false fewer change
    (follow_go (reduced old.batch.value.index.value) old.batch.value.masks old.batch.value.questions.items
    old.totals.items new.totals.items line fewer more change.len (change.shifted follows.few follows.one_each) one
    follows)

copied : (base : Tables) (masks : Masks) (k : ℕ) (ready : Ready) (lines : List ScannedLine) (old new : Totals)
    → HasNumbersOf old new → AreTotalsOver base masks k ready lines old → AreTotalsOver base masks k ready lines new
copied base masks k ready lines old new same over = grind arith

-- a copy of the totals follows the same lines
pub copies_follow : (base : Tables) (masks : Masks) (all : List Ready) (old new : List Totals)
    (lines : List ScannedLine) → HaveNumbersOf old new → FollowWith base masks all old lines
    → FollowWith base masks all new lines
copies_follow base masks all old new lines same follows = record {
  few = follows.few;
  one_each = same.len ∙ follows.one_each;
  masks_tell = follows.masks_tell;
  masks_cover = follows.masks_cover;
  ready = follows.ready;
  each = λ k r t below. copied base masks k (get_or all k r) lines (get_or old k t) (get_or new k t)
      (same.each k t t (omega (arith, below, follows.one_each))) (follows.each k r t below);
}
