use Rattle.export_command.proofs.copied_rows.DateFieldsCopiedFields.copied.Goals as goal

pub returns : goal.returns
returns c = λ i. record {
  key = c.args.self.now.key;
  date_text = c.in_ok-copied_text.ensures i;
  day_of_week = c.in_ok-copied_text-2.ensures i;
  month = c.in_ok-copied_text-3.ensures i;
  year = c.args.self.now.year;
  year_month_number = c.args.self.now.year_month_number;
  year_month = c.in_ok-copied_text-4.ensures i;
  day_in_week = c.in_ok-copied_text-5.ensures i;
  day_in_month = c.in_ok-copied_text-6.ensures i;
  day_in_year = c.in_ok-copied_text-7.ensures i;
  month_in_year = c.in_ok-copied_text-8.ensures i;
  week = c.args.self.now.week;
  selling_season = c.in_ok-copied_text-9.ensures i;
  last_day_in_week_flag = c.in_ok-copied_text-10.ensures i;
  last_day_in_month_flag = c.in_ok-copied_text-11.ensures i;
  holiday_flag = c.in_ok-copied_text-12.ensures i;
  weekday_flag = c.in_ok-copied_text-13.ensures i;
}
