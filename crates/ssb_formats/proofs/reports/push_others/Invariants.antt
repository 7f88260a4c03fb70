use Rattle.std.proofs.Common.{◌≡◌, ◌++◌, flat_map, take}
use Rattle.ssb_formats.specs.Reports.{next_report_shown}
use Rattle.ssb_formats.proofs.reports.push_others.Given as goal

abbrev pub invariant-loop-report : goal.invariant-loop-report
invariant-loop-report l =
    l.text.items ≡ l.fn.text.items ++ flat_map (next_report_shown l.format) (take l.report-index l.reports)
