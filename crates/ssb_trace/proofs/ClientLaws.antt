-- The number of a client is read back.
use Rattle.std.proofs.Common.{◌≡◌, ℕ, ◌^◌, ◌<◌, Some, refl, le-leb, arith, decimal}
use Rattle.ssb_trace.specs.Heads.{client_of}
use Rattle.ssb_trace.specs.Allowed.{IsClient}
use Rattle.ssb_text.proofs.NumberTextLaws.{number_read}

pub client_small : (client : ℕ) → IsClient client → client < 2 ^ 64
client_small client is = omega (arith, is.1)

pub client_read : (client : ℕ) → IsClient client → client_of (decimal client) ≡ Some client
client_read client is =
    rw (number_read client (client_small client is), le-leb 1 client is.0, le-leb client 16 is.1) refl
