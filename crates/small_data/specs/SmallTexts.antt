-- The texts of the small data set.
use Rattle.std.specs.Prelude.{ℕ, List, ◌++◌, codes}
use Rattle.ssb_schema.specs.declared.table.Table.{Table}
use Rattle.ssb_schema.specs.declared.table.Table.TheVariants as table

abbrev pub customers : List ℕ
customers =
    codes "1|C1|a|UNITED KI1|UNITED KINGDOM|EUROPE|p|m|\n"
    ++ codes "2|C2|a|CHINA    0|CHINA|ASIA|p|m|\n"
    ++ codes "3|C3|a|UNITED ST4|UNITED STATES|AMERICA|p|m|\n"

abbrev pub suppliers : List ℕ
suppliers =
    codes "1|S1|a|UNITED KI5|UNITED KINGDOM|EUROPE|p|\n"
    ++ codes "2|S2|a|JAPAN    3|JAPAN|ASIA|p|\n"
    ++ codes "3|S3|a|UNITED ST7|UNITED STATES|AMERICA|p|\n"

abbrev pub parts : List ℕ
parts =
    codes "1|P1|MFGR#1|MFGR#12|MFGR#121|c|t|1|b|\n"
    ++ codes "2|P2|MFGR#2|MFGR#22|MFGR#2221|c|t|1|b|\n"
    ++ codes "3|P3|MFGR#2|MFGR#22|MFGR#222|c|t|1|b|\n"
    ++ codes "4|P4|MFGR#1|MFGR#14|MFGR#1440|c|t|1|b|\n"

abbrev pub dates : List ℕ
dates =
    codes "19930101|d|w|m|1993|199301|Jan1993|1|1|1|1|1|s|0|0|0|1|\n"
    ++ codes "19940105|d|w|m|1994|199401|Jan1994|1|1|1|1|1|s|0|0|0|1|\n"
    ++ codes "19940208|d|w|m|1994|199402|Feb1994|1|1|1|1|6|s|0|0|0|1|\n"
    ++ codes "19971215|d|w|m|1997|199712|Dec1997|1|1|1|1|50|s|0|0|0|1|\n"

abbrev pub lines : List ℕ
lines =
    codes "1|1|2|2|2|19930101|o|0|24|1000|3000|3|970|600|0|19930101|AIR|\n"
    ++ codes "1|2|2|3|2|19930101|o|0|25|2000|3000|1|1980|1200|0|19930101|AIR|\n"
    ++ codes "2|1|1|1|1|19971215|o|0|10|500|500|0|500|700|0|19971215|AIR|\n"
    ++ codes "3|1|3|4|3|19971215|o|0|30|800|800|5|760|100|0|19971215|AIR|\n"

abbrev pub small_texts : Table → List ℕ
small_texts table.Customer = customers
small_texts table.Supplier = suppliers
small_texts table.Part = parts
small_texts table.Date = dates
small_texts table.Lineorder = lines
