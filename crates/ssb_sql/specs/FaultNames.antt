-- What is told of a fault: its number and its name, and its place.
use Rattle.std.specs.Prelude.{ℕ, List, codes, Option, Some, None}
use Rattle.ssb_sql.specs.declared.fault.SqlFault.{SqlFault}
use Rattle.ssb_sql.specs.declared.fault.SqlFault.TheVariants.{BadToken, Unexpected, NotSupported, UnknownName, NotJoined}
use Rattle.ssb_sql.specs.declared.fault.SqlFault.TheVariants.{NotAGroup, BadValue, TooMany, SameHead, OutOfMemory}
use Rattle.ssb_sql.specs.declared.fault.TextPlace.{TextPlace}

abbrev pub name_of : SqlFault → List ℕ
name_of (BadToken place) = codes "51 BadToken"
name_of (Unexpected place) = codes "52 Unexpected"
name_of (NotSupported place) = codes "53 NotSupported"
name_of (UnknownName place) = codes "54 UnknownName"
name_of (NotJoined place) = codes "55 NotJoined"
name_of (NotAGroup place) = codes "56 NotAGroup"
name_of (BadValue place) = codes "57 BadValue"
name_of (TooMany place) = codes "58 TooMany"
name_of (SameHead place) = codes "59 SameHead"
name_of OutOfMemory = codes "out of memory"

-- where the text is wrong
abbrev pub place_of : SqlFault → Option TextPlace
place_of (BadToken place) = Some place
place_of (Unexpected place) = Some place
place_of (NotSupported place) = Some place
place_of (UnknownName place) = Some place
place_of (NotJoined place) = Some place
place_of (NotAGroup place) = Some place
place_of (BadValue place) = Some place
place_of (TooMany place) = Some place
place_of (SameHead place) = Some place
place_of OutOfMemory = None
