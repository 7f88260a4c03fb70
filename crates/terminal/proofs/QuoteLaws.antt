-- Quotes along a text, byte by byte.
use Rattle.std.proofs.Common.{◌≡◌, ◌+◌, ◌<◌, ◌≤◌, ◌++◌, ℕ, List, [], length, get_or, drop}
use Rattle.std.proofs.lemmas.List.{at_drop_all, at_drop_more}
use Rattle.terminal.specs.Typed.{meant_by, open_behind, quote_behind, unquoted}

-- the quote that is open behind the rest of a text, one byte on
pub open_behind-more : (quote : ℕ) (text : List ℕ) (i : ℕ) → i < length text
    → open_behind quote (drop i text) ≡ open_behind (quote_behind quote (get_or text i 0)) (drop (i + 1) text)
unfolding open_behind
open_behind-more quote text i within = at_drop_more (open_behind quote) text i 0 within

-- and at its end
pub open_behind-end : (quote : ℕ) (text : List ℕ) (i : ℕ) → length text ≤ i → open_behind quote (drop i text) ≡ quote
unfolding open_behind
open_behind-end quote text i past = at_drop_all (open_behind quote) text i past

-- what the rest of a text stands for, one byte on
pub unquoted-more : (quote : ℕ) (text : List ℕ) (i : ℕ) → i < length text
    → unquoted quote (drop i text)
    ≡ meant_by quote (get_or text i 0) ++ unquoted (quote_behind quote (get_or text i 0)) (drop (i + 1) text)
unfolding unquoted
unquoted-more quote text i within = at_drop_more (unquoted quote) text i 0 within

-- and at its end
pub unquoted-end : (quote : ℕ) (text : List ℕ) (i : ℕ) → length text ≤ i → unquoted quote (drop i text) ≡ []
unfolding unquoted
unquoted-end quote text i past = at_drop_all (unquoted quote) text i past
