-- A text that was written, and a writer that hands on what it holds.
use Rattle.std.proofs.Common.{ℕ, List, Option, Result, Ok, Err, MatchResult}
use Rattle.std.specs.Io.KnownBytes.{Appends, Keeps}
use Rattle.ssb_files.proofs.FlushedLaws.{appended_kept, appended_whole}
use Rattle.ssb_text.specs.Written.{AppendsPart}

-- a text that was written is there after a writer has handed on what it holds, or failed to
pub handed_on : {X E : Type 0} (r : Result X E) (a b c : Option (List ℕ)) (x : List ℕ) → Appends a b x → Keeps b c
    → MatchResult r (λ _. Appends a c x) (λ _. AppendsPart a c x)
handed_on (Ok v) a b c x written kept = appended_kept a b c x written kept
handed_on (Err e) a b c x written kept = appended_whole a c x (appended_kept a b c x written kept)
