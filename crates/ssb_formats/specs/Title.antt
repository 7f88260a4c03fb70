-- The line above the rows of an answer that people read.
use Rattle.std.specs.Prelude.{ℕ, ◌==◌, List, ◌++◌, codes, decimal, if◌then◌else◌}
use Rattle.ssb_questions.specs.Query.{name_of}
use Rattle.ssb_questions.specs.declared.query.Query.{Query}
use Rattle.ssb_text.specs.Numbers.{line_feed}

-- how many rows there are
abbrev pub count_text : ℕ → List ℕ
count_text count = decimal count ++ (if count == 1 then codes " row" else codes " rows")

-- after how many commits
unfoldable pub as_of : List ℕ
as_of = codes ", as of commit "

abbrev pub commit_text : ℕ → List ℕ
commit_text at = as_of ++ decimal at ++ line_feed

-- the query, and these
abbrev pub title_text : Query → ℕ → ℕ → List ℕ
title_text query at count = name_of query ++ codes ": " ++ count_text count ++ commit_text at
