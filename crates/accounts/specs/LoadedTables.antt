-- The rows of tables, up to one of them.
use Rattle.desk_types.specs.declared.tables.Tables.{Tables}
use Rattle.desk_types.specs.Tables.{no_rows}

-- their accounts alone, and then each further table with those before it
abbrev pub with_accounts : Tables → Tables
with_accounts T = record no_rows { accounts = T.accounts }

abbrev pub with_campaigns : Tables → Tables
with_campaigns T = record (with_accounts T) { campaigns = T.campaigns }

abbrev pub with_budgets : Tables → Tables
with_budgets T = record (with_campaigns T) { budgets = T.budgets }

abbrev pub with_lines : Tables → Tables
with_lines T = record (with_budgets T) { lines = T.lines }

abbrev pub with_negatives : Tables → Tables
with_negatives T = record (with_lines T) { negatives = T.negatives }
