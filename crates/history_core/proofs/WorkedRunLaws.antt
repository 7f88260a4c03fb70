-- A run of one client and one dispatcher over a small data set: the definitions give its replies by computation.
use Rattle.std.proofs.Common.{◌≡◌, ℕ, List, [], ◌∷◌, Some, None, refl, arith}
use Rattle.std.specs.Prelude.{pos, negsuc, codes}
use Rattle.ssb_schema.specs.declared.customer.CustomerFields.{CustomerFields}
use Rattle.ssb_schema.specs.declared.supplier.SupplierFields.{SupplierFields}
use Rattle.ssb_schema.specs.declared.part.PartFields.{PartFields}
use Rattle.ssb_schema.specs.declared.date.DateFields.{DateFields}
use Rattle.ssb_base.specs.declared.limits.Limits.{Limits}
use Rattle.ssb_schema.specs.declared.line.LineFields.{LineFields}
use Rattle.ssb_schema.specs.Texts.{texts_of}
use Rattle.ssb_schema.specs.declared.refresh.Action.{Action}
use Rattle.ssb_schema.specs.declared.refresh.Action.TheVariants.{Add, Withdraw}
use Rattle.ssb_base.specs.Base.{Tables}
use Rattle.ssb_questions.specs.declared.query.Query.TheVariants.{Q1_1, Q4_1}
use Rattle.ssb_questions.specs.declared.value.Value.TheVariants.{Text, Number}
use Rattle.ssb_questions.specs.Queries.{standard_constants}
use Rattle.ssb_answers.specs.declared.answer.Unserved.TheVariants.{OutOfMemory}
use Rattle.row_store.specs.declared.refusal.Cause.TheVariants.{Absent}
use Rattle.history_core.specs.declared.event.Who.TheVariants.{Client, Dispatcher}
use Rattle.history_core.specs.declared.event.EventReply.TheVariants.{NotEnabled, Done, Committed, Refused}
use Rattle.history_core.specs.declared.event.EventReply.TheVariants.{Length, Asked as Asks, Rows, Unserved}
use Rattle.history_core.specs.Events.{Question, Questions, TakeRows, PutRows, Look, Post, Grab}
use Rattle.history_core.specs.Events.{TakeWriter, PutWriter, Answer, GiveUp, Collect}
use Rattle.history_core.specs.World.{opening_world, run_of}

abbrev customer : ℕ → List ℕ → List ℕ → List ℕ → CustomerFields
customer key city nation region =
    record {
      key = key;
      name = [];
      address = [];
      city = city;
      nation = nation;
      region = region;
      phone = [];
      market_segment = [];
    }

abbrev supplier : ℕ → List ℕ → List ℕ → List ℕ → SupplierFields
supplier key city nation region =
    record { key = key; name = []; address = []; city = city; nation = nation; region = region; phone = [] }

abbrev part : ℕ → List ℕ → List ℕ → List ℕ → PartFields
part key manufacturer category brand =
    record {
      key = key;
      name = [];
      manufacturer = manufacturer;
      category = category;
      brand = brand;
      color = [];
      part_type = [];
      size = [];
      container = [];
    }

abbrev date : ℕ → ℕ → ℕ → DateFields
date key year month_number = record {
  key = key;
  date_text = [];
  day_of_week = [];
  month = [];
  year = year;
  year_month_number = month_number;
  year_month = [];
  day_in_week = [];
  day_in_month = [];
  day_in_year = [];
  month_in_year = [];
  week = 1;
  selling_season = [];
  last_day_in_week_flag = [];
  last_day_in_month_flag = [];
  holiday_flag = [];
  weekday_flag = [];
}

-- order key, line number, customer, part, supplier, date, quantity, price, discount, revenue, cost
abbrev line : ℕ → ℕ → ℕ → ℕ → ℕ → ℕ → ℕ → ℕ → ℕ → ℕ → ℕ → LineFields
line order_key number customer part supplier date quantity price discount revenue cost = record {
  order_key = order_key;
  line_number = number;
  customer_key = customer;
  part_key = part;
  supplier_key = supplier;
  order_date = date;
  quantity = quantity;
  extended_price = price;
  order_total_price = price;
  discount = discount;
  revenue = revenue;
  supply_cost = cost;
  tax = 0;
  commit_date = date;
  texts = texts_of [] [] [];
}

abbrev limits : Limits
limits =
    record {
      dimension_rows = 4;
      lines = 8;
      commits = 2;
      dimension_rows_range = (omega arith, omega arith);
      lines_range = omega arith;
      commits_range = (omega arith, omega arith);
    }

abbrev base : Tables
base = record {
  limits = limits;
  dimensions = record {
    customers = customer 1 (codes "UNITED KI1") (codes "UNITED KINGDOM") (codes "EUROPE")
        ∷ customer 2 (codes "CHINA    0") (codes "CHINA") (codes "ASIA")
        ∷ customer 3 (codes "UNITED ST4") (codes "UNITED STATES") (codes "AMERICA") ∷ [];
    suppliers = supplier 1 (codes "UNITED KI5") (codes "UNITED KINGDOM") (codes "EUROPE")
        ∷ supplier 2 (codes "JAPAN    3") (codes "JAPAN") (codes "ASIA")
        ∷ supplier 3 (codes "UNITED ST7") (codes "UNITED STATES") (codes "AMERICA") ∷ [];
    parts = part 1 (codes "MFGR#1") (codes "MFGR#12") (codes "MFGR#121")
        ∷ part 2 (codes "MFGR#2") (codes "MFGR#22") (codes "MFGR#2221")
        ∷ part 3 (codes "MFGR#2") (codes "MFGR#22") (codes "MFGR#222")
        ∷ part 4 (codes "MFGR#1") (codes "MFGR#14") (codes "MFGR#1440") ∷ [];
    dates = date 19930101 1993 199301 ∷ date 19971215 1997 199712 ∷ [];
  };
  lines = line 1 1 2 2 2 19930101 24 1000 3 970 600
      ∷ line 1 2 2 3 2 19930101 25 2000 1 1980 1200
      ∷ line 2 1 1 1 1 19971215 10 500 0 500 700
      ∷ line 3 1 3 4 3 19971215 30 800 5 760 100 ∷ [];
}

abbrev order_nine : List Action
order_nine = Add (line 9 1 3 4 3 19971215 1 10 0 10 2000 ∷ []) ∷ []

abbrev q4_1 : Question
q4_1 = (Q4_1, standard_constants Q4_1)

abbrev q1_1 : Question
q1_1 = (Q1_1, standard_constants Q1_1)

-- asked in one request
abbrev both : Questions
both = q4_1 ∷ q1_1 ∷ []

worked_run : (run_of (opening_world base 1 1)
    (Post 1 both
    ∷ PutRows (Dispatcher 1) (Some order_nine) ∷ Grab 1 2 ∷ Look (Client 2)
    ∷ Grab 1 1 ∷ TakeRows (Client 1) ∷ TakeRows (Dispatcher 1) ∷ PutRows (Client 1) (Some order_nine)
    ∷ TakeWriter 1 ∷ TakeRows (Dispatcher 1) ∷ PutRows
    (Dispatcher 1) None ∷ PutWriter 1 ∷ Answer 1 1 ∷ Collect 1 ∷ Collect 1 ∷ Look (Client 1)
    ∷ Post 1 (q1_1 ∷ []) ∷ Grab 1 1 ∷ Answer 1 1 ∷ GiveUp 1 1 OutOfMemory ∷ Collect 1
    ∷ TakeRows (Client 1) ∷ PutRows (Client 1) (Some (Withdraw 77 ∷ [])) ∷ [])).0
    ≡ Done ∷ NotEnabled ∷ NotEnabled ∷ NotEnabled
    ∷ Asks both ∷ Done ∷ NotEnabled ∷ Committed 1
    ∷ Done ∷ Done ∷ Done ∷ Done ∷ Done ∷ Rows both 1
    ((record {
      groups = Number 1997 ∷ Text (codes "UNITED STATES") ∷ [];
      sum = Some (negsuc 1329);
    } ∷ []) ∷ (record { groups = []; sum = Some (pos 3000) } ∷ []) ∷ []) ∷ NotEnabled ∷ Length 1
    ∷ Done ∷ Asks (q1_1 ∷ []) ∷ NotEnabled ∷ Done ∷ Unserved (q1_1 ∷ []) OutOfMemory
    ∷ Done ∷ Refused 1 1 (Absent 77) ∷ []
worked_run = refl
