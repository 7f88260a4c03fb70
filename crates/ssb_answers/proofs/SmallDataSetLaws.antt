-- The worked rows over the small data set: the definitions give them by computation.
use Rattle.std.specs.Prelude.{ℕ, ◌≡◌, pos, negsuc, List, [], ◌∷◌, ◌++◌, None, Some, codes, refl}
use Rattle.ssb_schema.specs.declared.customer.CustomerFields.{CustomerFields}
use Rattle.ssb_schema.specs.declared.supplier.SupplierFields.{SupplierFields}
use Rattle.ssb_schema.specs.declared.part.PartFields.{PartFields}
use Rattle.ssb_schema.specs.declared.date.DateFields.{DateFields}
use Rattle.ssb_questions.specs.declared.value.Value.TheVariants.{Text, Number}
use Rattle.ssb_answers.specs.declared.answer.ResultRow.{ResultRow}
use Rattle.ssb_questions.specs.declared.query.Query.{Query}
use Rattle.ssb_questions.specs.declared.query.Query.TheVariants.{Q1_1, Q1_2, Q1_3, Q2_1, Q2_2, Q2_3, Q3_1, Q3_2, Q3_3}
use Rattle.ssb_questions.specs.declared.query.Query.TheVariants.{Q3_4}
use Rattle.ssb_questions.specs.declared.query.Query.TheVariants.{Q4_1, Q4_2, Q4_3}
use Rattle.ssb_base.specs.Base.{Dimensions}
use Rattle.ssb_schema.specs.declared.fact.Fact.{Fact}
use Rattle.ssb_answers.specs.Answer.{answer}
use Rattle.ssb_schema.specs.Columns.{C_REGION, S_NATION, P_MFGR, D_YEAR}
use Rattle.ssb_questions.specs.declared.plan.Measure.TheVariants.{Quantity, Lines}
use Rattle.ssb_questions.specs.declared.plan.OrderKey.TheVariants.{Group, SumDescending}
use Rattle.ssb_questions.specs.Queries.{plan_of, plan_over, over_all_lines}

-- rows of the dimensions by the columns that queries read
abbrev customer : ℕ → List ℕ → List ℕ → List ℕ → CustomerFields
customer key city nation region = record {
  key = key;
  name = [];
  address = codes "a";
  city = city;
  nation = nation;
  region = region;
  phone = codes "p";
  market_segment = codes "m";
}

abbrev supplier : ℕ → List ℕ → List ℕ → List ℕ → SupplierFields
supplier key city nation region = record {
  key = key;
  name = [];
  address = codes "a";
  city = city;
  nation = nation;
  region = region;
  phone = codes "p";
}

abbrev part : ℕ → List ℕ → List ℕ → List ℕ → PartFields
part key manufacturer category brand = record {
  key = key;
  name = [];
  manufacturer = manufacturer;
  category = category;
  brand = brand;
  color = codes "c";
  part_type = codes "t";
  size = codes "1";
  container = codes "b";
}

abbrev date : ℕ → ℕ → ℕ → List ℕ → ℕ → DateFields
date key year month_number month week = record {
  key = key;
  date_text = codes "d";
  day_of_week = codes "w";
  month = codes "m";
  year = year;
  year_month_number = month_number;
  year_month = month;
  day_in_week = codes "1";
  day_in_month = codes "1";
  day_in_year = codes "1";
  month_in_year = codes "1";
  week = week;
  selling_season = codes "s";
  last_day_in_week_flag = codes "0";
  last_day_in_month_flag = codes "0";
  holiday_flag = codes "0";
  weekday_flag = codes "1";
}

-- order key, customer, part, supplier, date, quantity, price, discount, revenue, cost
abbrev fact : ℕ → ℕ → ℕ → ℕ → ℕ → ℕ → ℕ → ℕ → ℕ → ℕ → Fact
fact order_key customer part supplier date quantity price discount revenue cost = record {
  order_key = order_key;
  customer = customer;
  part = part;
  supplier = supplier;
  date = date;
  quantity = quantity;
  price = price;
  discount = discount;
  revenue = revenue;
  cost = cost;
}

abbrev dimensions : Dimensions
dimensions = record {
  customers = customer 1 (codes "UNITED KI1") (codes "UNITED KINGDOM") (codes "EUROPE")
      ∷ customer 2 (codes "CHINA    0") (codes "CHINA") (codes "ASIA")
      ∷ customer 3 (codes "UNITED ST4") (codes "UNITED STATES") (codes "AMERICA") ∷ [];
  suppliers = supplier 1 (codes "UNITED KI5") (codes "UNITED KINGDOM") (codes "EUROPE")
      ∷ supplier 2 (codes "JAPAN    3") (codes "JAPAN") (codes "ASIA")
      ∷ supplier 3 (codes "UNITED ST7") (codes "UNITED STATES") (codes "AMERICA") ∷ [];
  parts = part 1 (codes "MFGR#1") (codes "MFGR#12") (codes "MFGR#121")
      ∷ part 2 (codes "MFGR#2") (codes "MFGR#22") (codes "MFGR#2221")
      ∷ part 3 (codes "MFGR#2") (codes "MFGR#22") (codes "MFGR#222")
      ∷ part 4 (codes "MFGR#1") (codes "MFGR#14") (codes "MFGR#1440") ∷ [];
  dates = date 19930101 1993 199301 (codes "Jan1993") 1
      ∷ date 19940105 1994 199401 (codes "Jan1994") 1
      ∷ date 19940208 1994 199402 (codes "Feb1994") 6
      ∷ date 19971215 1997 199712 (codes "Dec1997") 50 ∷ [];
}

abbrev facts : List Fact
facts =
    fact 1 2 2 2 19930101 24 1000 3 970 600
    ∷ fact 1 2 3 2 19930101 25 2000 1 1980 1200
    ∷ fact 2 1 1 1 19971215 10 500 0 500 700
    ∷ fact 3 3 4 3 19971215 30 800 5 760 100 ∷ []

abbrev order_nine : List Fact
order_nine = fact 9 3 4 3 19971215 1 10 0 10 2000 ∷ []

abbrev of : Query → List ResultRow
of query = answer (plan_of query) dimensions facts

q1_1 : of Q1_1 ≡ record { groups = []; sum = Some (pos 3000) } ∷ []
q1_1 = refl

q1_2 : of Q1_2 ≡ record { groups = []; sum = None } ∷ []
q1_2 = refl

q1_3 : of Q1_3 ≡ record { groups = []; sum = None } ∷ []
q1_3 = refl

q2_1 : of Q2_1 ≡ []
q2_1 = refl

q2_2 : of Q2_2 ≡ record { groups = Number 1993 ∷ Text (codes "MFGR#2221") ∷ []; sum = Some (pos 970) } ∷ []
q2_2 = refl

q2_3 : of Q2_3 ≡ []
q2_3 = refl

q3_1 : of Q3_1
    ≡ record { groups = Text (codes "CHINA") ∷ Text (codes "JAPAN") ∷ Number 1993 ∷ []; sum = Some (pos 2950) } ∷ []
q3_1 = refl

q3_2 : of Q3_2
    ≡ record { groups = Text (codes "UNITED ST4") ∷ Text (codes "UNITED ST7") ∷ Number 1997 ∷ []; sum = Some (pos 760) }
    ∷ []
q3_2 = refl

q3_3 : of Q3_3
    ≡ record { groups = Text (codes "UNITED KI1") ∷ Text (codes "UNITED KI5") ∷ Number 1997 ∷ []; sum = Some (pos 500) }
    ∷ []
q3_3 = refl

q3_4 : of Q3_4
    ≡ record { groups = Text (codes "UNITED KI1") ∷ Text (codes "UNITED KI5") ∷ Number 1997 ∷ []; sum = Some (pos 500) }
    ∷ []
q3_4 = refl

q4_1 : of Q4_1 ≡ record { groups = Number 1997 ∷ Text (codes "UNITED STATES") ∷ []; sum = Some (pos 660) } ∷ []
q4_1 = refl

q4_2 : of Q4_2
    ≡ record { groups = Number 1997 ∷ Text (codes "UNITED STATES") ∷ Text (codes "MFGR#14") ∷ []; sum = Some (pos 660) }
    ∷ []
q4_2 = refl

q4_3 : of Q4_3
    ≡ record { groups = Number 1997 ∷ Text (codes "UNITED ST7") ∷ Text (codes "MFGR#1440") ∷ []; sum = Some (pos 660) }
    ∷ []
q4_3 = refl

-- the three queries of the first two flights that the small data set gives no row, each over lines that do
q1_2-january : answer (plan_of Q1_2) dimensions (facts ++ fact 9 2 2 2 19940105 26 100 4 0 0 ∷ [])
    ≡ record { groups = []; sum = Some (pos 400) } ∷ []
q1_2-january = refl

q1_3-week_six : answer (plan_of Q1_3) dimensions (facts ++ fact 9 2 2 2 19940208 26 100 5 0 0 ∷ [])
    ≡ record { groups = []; sum = Some (pos 500) } ∷ []
q1_3-week_six = refl

-- two lines of 1993 and one of 1997 by the American supplier; one by the Asian supplier and one of another category,
-- which do not count
q2_1-america :
    answer (plan_of Q2_1) dimensions
    (facts
    ++ fact 9 1 1 3 19971215 10 100 0 40 0
    ∷ fact 9 1 1 3 19930101 10 100 0 350 0
    ∷ fact 9 1 1 3 19930101 10 100 0 25 0
    ∷ fact 9 1 1 2 19930101 10 100 0 7 0
    ∷ fact 9 1 4 3 19930101 10 100 0 9 0 ∷ [])
    ≡ record { groups = Number 1993 ∷ Text (codes "MFGR#121") ∷ []; sum = Some (pos 375) }
    ∷ record { groups = Number 1997 ∷ Text (codes "MFGR#121") ∷ []; sum = Some (pos 40) } ∷ []
q2_1-america = refl

-- with a fifth part, of the brand that is asked for: a line by the European supplier, and one by the Asian, which does
-- not count
q2_3-europe :
    answer (plan_of Q2_3)
    (record dimensions { parts = part 5 (codes "MFGR#2") (codes "MFGR#22") (codes "MFGR#2239") ∷ dimensions.parts })
    (facts ++ fact 9 1 5 1 19940105 10 100 0 120 0 ∷ fact 9 1 5 2 19940105 10 100 0 11 0 ∷ [])
    ≡ record { groups = Number 1994 ∷ Text (codes "MFGR#2239") ∷ []; sum = Some (pos 120) } ∷ []
q2_3-europe = refl

-- after order nine is added
q4_1-after : answer (plan_of Q4_1) dimensions (facts ++ order_nine)
    ≡ record { groups = Number 1997 ∷ Text (codes "UNITED STATES") ∷ []; sum = Some (negsuc 1329) } ∷ []
q4_1-after = refl

-- with constants of one's own: from MFGR#222 to MFGR#2221, so that a text stands before those that it begins
q2_2-wider : answer
    (plan_over Q2_2 (Text (codes "MFGR#222") ∷ Text (codes "MFGR#2221") ∷ Text (codes "ASIA") ∷ [])) dimensions facts
    ≡ record { groups = Number 1993 ∷ Text (codes "MFGR#222") ∷ []; sum = Some (pos 1980) }
    ∷ record { groups = Number 1993 ∷ Text (codes "MFGR#2221") ∷ []; sum = Some (pos 970) } ∷ []
q2_2-wider = refl

-- with the two brands exchanged nothing lies between them
q2_2-exchanged : answer
    (plan_over Q2_2 (Text (codes "MFGR#2221") ∷ Text (codes "MFGR#222") ∷ Text (codes "ASIA") ∷ [])) dimensions facts
    ≡ []
q2_2-exchanged = refl

q2_1-europe : answer (plan_over Q2_1 (Text (codes "MFGR#12") ∷ Text (codes "EUROPE") ∷ [])) dimensions facts
    ≡ record { groups = Number 1997 ∷ Text (codes "MFGR#121") ∷ []; sum = Some (pos 500) } ∷ []
q2_1-europe = refl

-- a line at the greatest price
abbrev dear : ℕ → Fact
dear discount = fact 5 2 2 2 19930101 1 4294967295 discount 0 0

abbrev seven : ℕ → List Fact
seven discount = dear discount ∷ dear discount ∷ dear discount ∷ dear discount ∷ dear discount ∷ dear discount
    ∷ dear discount ∷ []

q1_1-seven : answer (plan_of Q1_1) dimensions (seven 3) ≡ record { groups = []; sum = Some (pos 90194313195) } ∷ []
q1_1-seven = refl

q1_1-seven_outside : answer (plan_of Q1_1) dimensions (seven 10) ≡ record { groups = []; sum = None } ∷ []
q1_1-seven_outside = refl

q1_1-seven_asked : answer (plan_over Q1_1 (Number 1993 ∷ Number 10 ∷ Number 10 ∷ Number 0 ∷ Number 24 ∷ [])) dimensions
    (seven 10) ≡ record { groups = []; sum = Some (pos 300647710650) } ∷ []
q1_1-seven_asked = refl

-- over no lines at all there is NULL without groups, and no row with them
q1_1-nothing : answer (plan_of Q1_1) dimensions [] ≡ record { groups = []; sum = None } ∷ []
q1_1-nothing = refl

q4_1-nothing : answer (plan_of Q4_1) dimensions [] ≡ []
q4_1-nothing = refl

-- the small data set with two ties: one year, equal sums
q3_1-ties : answer (plan_of Q3_1)
    (record dimensions {
      customers = customer 2 (codes "CHINA    0") (codes "CHINA") (codes "ASIA")
          ∷ customer 4 (codes "INDIA    1") (codes "INDIA") (codes "ASIA")
          ∷ [];
      suppliers = supplier 2 (codes "JAPAN    3") (codes "JAPAN") (codes "ASIA")
          ∷ supplier 4 (codes "CHINA    2") (codes "CHINA") (codes "ASIA") ∷ [];
    })
    (facts ++ fact 10 4 1 2 19930101 30 1 0 2950 0 ∷ fact 11 2 1 4 19930101 30 1 0 2950 0 ∷ [])
    ≡ record { groups = Text (codes "CHINA") ∷ Text (codes "CHINA") ∷ Number 1993 ∷ []; sum = Some (pos 2950) }
    ∷ record { groups = Text (codes "CHINA") ∷ Text (codes "JAPAN") ∷ Number 1993 ∷ []; sum = Some (pos 2950) }
    ∷ record { groups = Text (codes "INDIA") ∷ Text (codes "JAPAN") ∷ Number 1993 ∷ []; sum = Some (pos 2950) } ∷ []
q3_1-ties = refl

-- how many lines each region's customers have, from the most down
lines_by_region : answer (over_all_lines Lines (C_REGION ∷ []) (SumDescending ∷ Group 0 ∷ [])) dimensions facts
    ≡ record { groups = Text (codes "ASIA") ∷ []; sum = Some (pos 2) }
    ∷ record { groups = Text (codes "AMERICA") ∷ []; sum = Some (pos 1) }
    ∷ record { groups = Text (codes "EUROPE") ∷ []; sum = Some (pos 1) } ∷ []
lines_by_region = refl

lines-all : answer (over_all_lines Lines [] []) dimensions facts ≡ record { groups = []; sum = Some (pos 4) } ∷ []
lines-all = refl

lines-nothing : answer (over_all_lines Lines [] []) dimensions [] ≡ record { groups = []; sum = None } ∷ []
lines-nothing = refl

-- quantities by four columns
quantities_by_four :
    answer
    (over_all_lines Quantity (D_YEAR ∷ C_REGION ∷ S_NATION ∷ P_MFGR ∷ [])
    (Group 0 ∷ Group 1 ∷ Group 2 ∷ Group 3 ∷ [])) dimensions facts
    ≡ record {
      groups = Number 1993 ∷ Text (codes "ASIA") ∷ Text (codes "JAPAN") ∷ Text (codes "MFGR#2") ∷ [];
      sum = Some (pos 49);
    }
    ∷ record {
      groups = Number 1997 ∷ Text (codes "AMERICA") ∷ Text (codes "UNITED STATES") ∷ Text (codes "MFGR#1") ∷ [];
      sum = Some (pos 30);
    }
    ∷ record {
      groups = Number 1997 ∷ Text (codes "EUROPE") ∷ Text (codes "UNITED KINGDOM") ∷ Text (codes "MFGR#1") ∷ [];
      sum = Some (pos 10);
    } ∷ []
quantities_by_four = refl
