use Rattle.std.proofs.Common.{arith}
-- A legal trace of clients is allowed, and its text is read back.
use Rattle.std.proofs.Common.{List, [], ◌∷◌}
use Rattle.std.specs.List.{AllByRecursion}
use Rattle.row_store.specs.History.{CommitRecord}
use Rattle.ssb_audit.specs.Legal.{IsLegalTrace}
use Rattle.ssb_audit.specs.declared.trace.Told.{Told}
use Rattle.ssb_audit.specs.declared.trace.Trace.{Trace}
use Rattle.ssb_base.specs.Base.{Tables}
use Rattle.ssb_trace.specs.Allowed.{AreTakenDimensions, HasAllowedHead, HasClients, HasSums, IsAllowed}
use Rattle.ssb_trace.specs.Allowed.{IsAllowedCommit, IsClient, IsHeld}
use Rattle.ssb_trace.specs.RoundTrip.{IsReadBack}
use Rattle.ssb_trace.proofs.LegalTraceLaws.{legal_traces_are_allowed}
use Rattle.ssb_trace.proofs.TraceLaws.{spells_its_trace, spells_no_other}

-- the heads of answers that are held, and to clients
heads_held : (answers : List Told) → AllByRecursion IsHeld answers
    → AllByRecursion (λ (told : Told). IsClient told.client) answers → AllByRecursion HasAllowedHead answers
heads_held [] held clients = grind arith
heads_held (told ∷ answers) held clients = grind (arith, heads_held answers held.1 clients.1)

sums_held : (answers : List Told) → AllByRecursion IsHeld answers → AllByRecursion HasSums answers
sums_held [] held = tt
sums_held (told ∷ answers) held = (held.0.sums, sums_held answers held.1)

-- commits of clients are allowed, where they are so as soon as their clients are
commits_of_clients : (commits : List CommitRecord)
    → AllByRecursion (λ (commit : CommitRecord). IsClient commit.client → IsAllowedCommit commit) commits
    → AllByRecursion (λ (commit : CommitRecord). IsClient commit.client) commits
    → AllByRecursion IsAllowedCommit commits
commits_of_clients [] each clients = tt
commits_of_clients (commit ∷ commits) each clients =
    (each.0 clients.0, commits_of_clients commits each.1 clients.1)

pub read_back : (base : Tables) (trace : Trace) → AreTakenDimensions base.dimensions
    → AllByRecursion (λ (commit : CommitRecord). IsClient commit.client → IsAllowedCommit commit) trace.commits
    → AllByRecursion IsHeld trace.answers → HasClients trace → IsLegalTrace base trace → IsReadBack trace
read_back base trace taken commits held clients legal =
    let allowed : IsAllowed trace =
    legal_traces_are_allowed base trace taken legal (commits_of_clients trace.commits commits clients.commits)
    (heads_held trace.answers held clients.answers) (sums_held trace.answers held) in record {
      spells = λ most few. spells_its_trace trace most allowed few;
      no_other = λ most other spelled. spells_no_other trace other most allowed spelled;
    }
