-- A writer that hands on what it holds keeps what was written.
use Rattle.std.proofs.Common.{◌∙◌, ℕ, List, [], Option, None, Some, refl, sym, append-nil}
use Rattle.std.specs.Io.KnownBytes.{Appends, Keeps}
use Rattle.ssb_text.proofs.WrittenLaws.{appends_none}
use Rattle.ssb_text.specs.Written.{AppendsPart}

pub appended_kept : (a b c : Option (List ℕ)) (x : List ℕ) → Appends a b x → Keeps b c → Appends a c x
appended_kept None b c x written kept = tt
appended_kept (Some xs) None c x written kept = absurd written
appended_kept (Some xs) (Some ys) None x written kept = absurd kept
appended_kept (Some xs) (Some ys) (Some zs) x written kept = kept ∙ written

pub appended_whole : (a b : Option (List ℕ)) (x : List ℕ) → Appends a b x → AppendsPart a b x
appended_whole a b x written = record { part = x; rest = []; begins = sym (append-nil x); appends = written }

-- nothing was written, which is a part of any text
pub nothing_part : (a : Option (List ℕ)) (x : List ℕ) → AppendsPart a a x
nothing_part a x = record { part = []; rest = x; begins = refl; appends = appends_none a }
