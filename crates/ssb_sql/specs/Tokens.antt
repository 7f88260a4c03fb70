-- The tokens of a text: those of its parts, one after another, where tables and columns go by their names.
use Rattle.std.specs.Prelude.{◌≡◌, ℕ, zero, suc, Bool, ◌&&◌, List, [], ◌∷◌, ◌++◌, length, map, Option, None, Some}
use Rattle.std.specs.Prelude.{option_map, option_and_then, option_to_list, if◌then◌else◌}
use Rattle.std.specs.List.{list_all, list_any}
use Rattle.ssb_schema.specs.declared.table.Table.{Table}
use Rattle.ssb_sql.specs.Parts.{Part, next_part, without_gaps}
use Rattle.ssb_sql.specs.Step.{same_table}
use Rattle.ssb_sql.specs.Texts.{bare_token}
use Rattle.ssb_sql.specs.Words.{same_word}
use Rattle.ssb_sql.specs.declared.token.SqlToken.{SqlToken}
use Rattle.ssb_sql.specs.declared.token.SqlToken.TheVariants as k
use Rattle.ssb_sql.specs.declared.token.SqlWord.TheVariants as w
use Rattle.ssb_sql.specs.declared.found.Found as code
use Rattle.ssb_sql.specs.declared.found.NamedTable as made
use Rattle.ssb_sql.specs.declared.found.Naming as naming
use Rattle.ssb_sql.specs.declared.found.Naming.TheVariants as at
use Rattle.ssb_sql.specs.declared.found.NotAdded.{NotAdded}
use Rattle.ssb_sql.specs.declared.found.NotAdded.TheVariants as refused
use Rattle.ssb_sql.specs.declared.found.Qualifier as before

-- a table, and a name for it
pub record Named : Type 0 where
  pub name : List ℕ
  pub table : Table

abbrev pub named_now : made.NamedTable → Named
named_now own = record { name = own.name.now; table = own.table }

abbrev pub qualifier_now : before.Qualifier → Named
qualifier_now own = named_now own.named

-- whether another name of a table may come: not so; behind the table; behind AS
pub data Naming : Type 0 where
  Outside : Naming
  Behind : Named → Naming
  As : Table → Naming

abbrev pub naming_now : naming.Naming → Naming
naming_now at.Outside = Outside
naming_now (at.Behind source) = Behind (named_now source)
naming_now (at.As table) = As table

-- what parts have: tokens, tables with their names, and the names before columns with the tables that have these
pub record Found : Type 0 where
  pub tokens : List SqlToken
  pub sources : List Named
  pub qualifiers : List Named
  pub naming : Naming

abbrev pub found_now : code.Found → Found
found_now own = record {
  tokens = map bare_token own.tokens.items;
  sources = map named_now own.sources.items;
  qualifiers = map qualifier_now own.qualifiers.items;
  naming = naming_now own.naming;
}

abbrev pub nothing : Found
nothing = record { tokens = []; sources = []; qualifiers = []; naming = Outside }

-- a table with its name
abbrev pub with_source : Found → Named → Found
with_source found source = record {
  tokens = found.tokens;
  sources = found.sources ++ source ∷ [];
  qualifiers = found.qualifiers;
  naming = Outside;
}

-- behind a table another name of it may come
abbrev pub naming_behind : List ℕ → SqlToken → Naming
naming_behind first (k.Table table) = Behind (record { name = first; table = table })
naming_behind first _ = Outside

abbrev pub qualifier_of : Part → List Named
qualifier_of part = option_to_list (option_map (λ table. record { name = part.first; table = table }) part.table)

abbrev pub with_qualifier : Found → Part → Found
with_qualifier found part = record {
  tokens = found.tokens;
  sources = found.sources;
  qualifiers = found.qualifiers ++ qualifier_of part;
  naming = found.naming;
}

abbrev pub with_part : Found → Part → Found
with_part found part = record {
  tokens = found.tokens ++ part.token ∷ [];
  sources = found.sources;
  qualifiers = found.qualifiers ++ qualifier_of part;
  naming = naming_behind part.first part.token;
}

-- behind a table: AS, its other name, or what follows it
abbrev pub added_behind : Named → SqlToken → Found → Part → Found
added_behind source (k.Word w.As) found part = record {
  tokens = found.tokens;
  sources = found.sources;
  qualifiers = found.qualifiers;
  naming = As source.table;
}
added_behind source (k.Name name) found part =
    with_source found (record { name = name.now; table = source.table })
added_behind source token found part = with_part (with_source found source) part

-- behind AS: the other name of a table
abbrev pub added_as : Table → SqlToken → Found → Option Found
added_as table (k.Name name) found = Some (with_source found (record { name = name.now; table = table }))
added_as table token found = None

abbrev pub added : Naming → Found → Part → Option Found
added Outside found part = Some (with_part found part)
added (Behind source) found part = Some (added_behind source part.token found part)
added (As table) found part = added_as table part.token found

-- one part more
abbrev pub add : Found → Part → Option Found
add found part = added found.naming found part

abbrev pub add_all : Found → List Part → Option Found
add_all found [] = Some found
add_all found (part ∷ parts) = option_and_then (λ more. add_all more parts) (add found part)

-- at the end a name behind AS does not lack
abbrev pub ended_at : Naming → Found → Option Found
ended_at Outside found = Some found
ended_at (Behind source) found = Some (with_source found source)
ended_at (As table) found = None

abbrev pub ended : Found → Option Found
ended found = ended_at found.naming found

abbrev pub IsRefused : Option Found → NotAdded → Type 0
IsRefused outcome refused.Unexpected = outcome ≡ None
IsRefused outcome refused.OutOfMemory = Unit {0}

-- a name before a column is one of the table that has the column
abbrev pub names : Named → Named → Bool
names qualifier own = same_table own.table qualifier.table && same_word own.name qualifier.name

abbrev pub is_named : List Named → Named → Bool
is_named sources qualifier = list_any (names qualifier) sources

abbrev pub are_named : Found → Bool
are_named found = list_all (is_named found.sources) found.qualifiers

-- the parts of a text that begins with none of its gaps, of which there are at most so many
abbrev pub part_then : (List ℕ → Option (List Part)) → Option Part → Option (List Part)
part_then on None = None
part_then on (Some part) = option_map (λ parts. part ∷ parts) (on (without_gaps part.rest))

abbrev pub parts_in : ℕ → List ℕ → Option (List Part)
parts_in most [] = Some []
parts_in zero (b ∷ text) = None
parts_in (suc most) (b ∷ text) = part_then (parts_in most) (next_part (b ∷ text))

-- each has a byte or more
abbrev pub parts_of : List ℕ → Option (List Part)
parts_of text = parts_in (length text) (without_gaps text)

-- what all parts of a text have
abbrev pub all_of : List ℕ → Option Found
all_of text = option_and_then (add_all nothing) (parts_of text)

abbrev pub found_in : List ℕ → Option Found
found_in text = option_and_then ended (all_of text)

abbrev pub tokens_of : Found → Option (List SqlToken)
tokens_of found = if are_named found then Some found.tokens else None

-- the tokens of a text
abbrev pub tokens_in : List ℕ → Option (List SqlToken)
tokens_in text = option_and_then tokens_of (found_in text)
