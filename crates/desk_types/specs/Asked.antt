-- The lines that an account asks for, one or many, and those that it gets.
use Rattle.std.specs.Prelude.{ℕ, ◌+◌, true, List, [], ◌∷◌}
use Rattle.match_types.specs.Marks.{trimmed}
use Rattle.desk_types.specs.declared.limits.TheConstants.{QUALITY_NEW}
use Rattle.desk_types.specs.declared.call.ImportRow.{ImportRow}
use Rattle.desk_types.specs.declared.rows.Line.{Line}
use Rattle.desk_types.specs.declared.tables.Change.TheVariants.{PutLine}
use Rattle.desk_types.specs.declared.tables.Tables.{Tables}
use Rattle.desk_types.specs.Tables.{lines_of, put}

-- a line as an advertiser asks for it: the campaign, the bid, and the texts of pattern, headline and link
pub record AskedLine : Type 0 where
  pub campaign : ℕ
  pub bid : ℕ
  pub pattern : List ℕ
  pub headline : List ℕ
  pub link : List ℕ

-- the line that a row of an import asks for
abbrev pub asked_by : ImportRow → AskedLine
asked_by row = record {
  campaign = row.campaign;
  bid = row.bid;
  pattern = row.pattern;
  headline = row.headline;
  link = row.link;
}

-- the line that an account gets for one that it asks for: its next one, with the quality of a new line, and on
abbrev pub line_made : Tables → ℕ → AskedLine → Line
line_made T account asked = record {
  account = account;
  number = lines_of T account + 1;
  campaign = asked.campaign;
  pattern = trimmed asked.pattern;
  headline = asked.headline;
  link = asked.link;
  bid = asked.bid;
  quality = QUALITY_NEW;
  on = true;
}

-- the tables with that line
abbrev pub with_line : Tables → ℕ → AskedLine → Tables
with_line T account asked = put T (PutLine (line_made T account asked))

-- the lines that the rows of an import make, each behind those before it
abbrev pub lines_made : Tables → ℕ → List ImportRow → List Line
lines_made T account [] = []
lines_made T account (row ∷ rows) =
    line_made T account (asked_by row) ∷ lines_made (with_line T account (asked_by row)) account rows
