-- What a session tells its client, in each of its formats.
use Rattle.std.specs.Prelude.{ℕ, List, ◌++◌, codes}
use Rattle.ssb_report.specs.Replies.{Reply, Refreshed, Answered, Listed, Shown, Aborted, reply_text}
use Rattle.ssb_text.specs.Numbers.{line_feed}
use Rattle.ssb_formats.specs.Formats.{answers_parted}
use Rattle.ssb_formats.specs.JsonText.{object_line, text_data}
use Rattle.ssb_formats.specs.ReplyFormats.{answer_format, format_name}
use Rattle.ssb_formats.specs.ReplyJson.{one_member, reply_line}
use Rattle.ssb_formats.specs.Reports.{listing_shown}
use Rattle.ssb_formats.specs.declared.format.Format.{Format}
use Rattle.ssb_formats.specs.declared.reply_format.ReplyFormat.{ReplyFormat}
use Rattle.ssb_formats.specs.declared.reply_format.ReplyFormat.TheVariants.{Report, Table, Csv, Json, Markdown, Bars}

-- a reply for people: answers as the format has them, and otherwise the line of the report
abbrev pub lines_of_reply : Format → Reply → List ℕ
lines_of_reply format (Refreshed reply) = reply_text (Refreshed reply)
lines_of_reply format (Answered answers) = answers_parted format answers
lines_of_reply format (Listed answers listing) = listing_shown format listing
lines_of_reply format (Shown order) = reply_text (Shown order)
lines_of_reply format Aborted = reply_text Aborted

-- the same, and an empty line behind it
abbrev pub parted_reply : Format → Reply → List ℕ
parted_reply format reply = lines_of_reply format reply ++ line_feed

-- a reply in a session's format: as the report has it, as a line of JSON, or with an empty line behind it
abbrev pub reply_shown : ReplyFormat → Reply → List ℕ
reply_shown Report reply = reply_text reply
reply_shown Json reply = reply_line reply
reply_shown Table reply = parted_reply (answer_format Table) reply
reply_shown Csv reply = parted_reply (answer_format Csv) reply
reply_shown Markdown reply = parted_reply (answer_format Markdown) reply
reply_shown Bars reply = parted_reply (answer_format Bars) reply

-- a text behind a label on a line of its own; in JSON it is the member of this name
abbrev pub label_line : List ℕ → List ℕ → List ℕ
label_line label text = label ++ text ++ line_feed

abbrev pub labelled : ReplyFormat → List ℕ → List ℕ → List ℕ → List ℕ
labelled Report name label text = label_line label text
labelled Json name label text = object_line (one_member name (text_data text))
labelled Table name label text = label_line label text ++ line_feed
labelled Csv name label text = label_line label text ++ line_feed
labelled Markdown name label text = label_line label text ++ line_feed
labelled Bars name label text = label_line label text ++ line_feed

-- what is told of a request that has a fault, of which this text tells
abbrev pub fault_shown : ReplyFormat → List ℕ → List ℕ
fault_shown format text = labelled format (codes "fault") (codes "fault: ") text

-- what is told in a format of this: that it is the format from here on
abbrev pub format_shown : ReplyFormat → List ℕ
format_shown format = labelled format (codes "format") (codes "format ") (format_name format)
