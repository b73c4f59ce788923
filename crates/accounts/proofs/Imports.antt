-- The rows of an import, judged one after another on an account's own rows and the lines made before.
use Rattle.std.proofs.Common.{◌≡◌, ℕ, ◌+◌, ◌==◌, List, [], ◌∷◌, ◌++◌, filter, length, map, find, Option, None, Some, option_map, refl, sym, ap, subst, ◌∙◌, arith, append_assoc, length-append}
use Rattle.std.proofs.lemmas.List.{append-nil}
use Rattle.desk_types.specs.declared.call.ImportRow.{ImportRow}
use Rattle.desk_types.specs.declared.refusal.Refusal.{Refusal}
use Rattle.desk_types.specs.declared.refusal.Refusal.TheVariants.{BadRow}
use Rattle.desk_types.specs.declared.rows.Batch.{Batch}
use Rattle.desk_types.specs.declared.rows.Line.{Line}
use Rattle.desk_types.specs.declared.tables.Tables.{Tables}
use Rattle.desk_types.specs.Asked.{AskedLine, asked_by, line_made, lines_made, with_line}
use Rattle.desk_types.specs.Judged.{bad_rows, first, line_rows, row_refusal}
use Rattle.desk_types.specs.Keys.{line_key}
use Rattle.desk_types.specs.Refusal.{number_of}
use Rattle.desk_types.specs.Sound.{RunFromOne}
use Rattle.desk_types.specs.Tables.{batch_of, put}
use Rattle.desk_types.proofs.InOrder.{Ordered-from, in_order-put}
use Rattle.desk_types.proofs.Numbering.{group_put_next, run_next}
use Rattle.accounts.specs.declared.plan.EditFault.{EditFault}
use Rattle.accounts.specs.declared.plan.EditFault.TheVariants.{Refused, NoMemory}
use Rattle.accounts.specs.BookValue.{ShelfValue}
use Rattle.accounts.specs.Planned.{IsFirst, in_row}
use Rattle.accounts.specs.Shelved.{HasShelf, IsBehind}
use Rattle.accounts.proofs.Finds.{counted_behind}
use Rattle.accounts.proofs.Joined.{find-group}

-- behind its own lines alone
pub behind_none : (T : Tables) (account : ℕ) (s : ShelfValue) → HasShelf T account s → IsBehind T account s []
behind_none T account s h = record {
  is = h.is;
  campaigns = h.campaigns;
  lines = h.lines ∙ sym (append-nil s.lines);
  run = subst (λ (ls : List Line). RunFromOne (map (λ l. l.number) ls)) (sym (append-nil s.lines)) h.is.lines;
  in_order = h.in_order;
}

-- and behind one more
pub behind_more : (T : Tables) (account : ℕ) (s : ShelfValue) (made : List Line) (asked : AskedLine) → IsBehind T account s made
    → IsBehind (with_line T account asked) account s (made ++ line_made T account asked ∷ [])
unfolding put
behind_more T account s made asked h =
    let l : Line = line_made T account asked in
    let runs : RunFromOne (map (λ (x : Line). x.number) (filter (λ (x : Line). x.account == account) T.lines)) =
    subst (λ (ls : List Line). RunFromOne (map (λ x. x.number) ls)) (sym h.lines) h.run in
    let grouped = append_assoc s.lines made (l ∷ []) in
    let next : l.number ≡ length (s.lines ++ made) + 1 = omega (arith, counted_behind T account s made h, length-append s.lines made) in
    record {
      is = h.is;
      campaigns = h.campaigns;
      lines = group_put_next line_key (λ (x : Line). x.account) (λ x. x.number) l T.lines (λ x. refl) (Ordered-from line_key T.lines h.in_order) runs refl
          ∙ ap (λ ls. ls ++ l ∷ []) h.lines ∙ grouped;
      run = subst (λ (ls : List Line). RunFromOne (map (λ x. x.number) ls)) grouped (run_next (λ (x : Line). x.number) l (s.lines ++ made) h.run next);
      in_order = in_order-put line_key l T.lines h.in_order;
    }

-- the lines made are those of the rows so far; what is left of them goes on from tables that have these lines
pub record AreMade (T : Tables) (account : ℕ) (s : ShelfValue) (rows : List ImportRow) (made : List Line) (number : ℕ) (rest : List ImportRow) : Type 0 where
  pub tables : Tables
  pub behind : IsBehind tables account s made
  pub lines : lines_made T account rows ≡ made ++ lines_made tables account rest
  pub judged : first (bad_rows T account 1 rows) ≡ first (bad_rows tables account number rest)

pub made_none : (T : Tables) (account : ℕ) (s : ShelfValue) (rows : List ImportRow) → HasShelf T account s → AreMade T account s rows [] 1 rows
made_none T account s rows h = record { tables = T; behind = behind_none T account s h; lines = refl; judged = refl }

pub made_more : (T : Tables) (account : ℕ) (s : ShelfValue) (rows : List ImportRow) (made : List Line) (number : ℕ) (row : ImportRow) (rest : List ImportRow) (l : Line)
    → AreMade T account s rows made number (row ∷ rest)
    → ((U : Tables) → IsBehind U account s made → l ≡ line_made U account (asked_by row))
    → ((U : Tables) → IsBehind U account s made → row_refusal U account number row ≡ None)
    → AreMade T account s rows (made ++ l ∷ []) (number + 1) rest
made_more T account s rows made number row rest l h is passes =
    let U = h.tables in
    let e = is U h.behind in
    record {
      tables = with_line U account (asked_by row);
      behind = subst (λ m. IsBehind (with_line U account (asked_by row)) account s (made ++ m ∷ [])) (sym e) (behind_more U account s made (asked_by row) h.behind);
      lines = h.lines ∙ sym (append_assoc made (line_made U account (asked_by row) ∷ []) (lines_made (with_line U account (asked_by row)) account rest))
          ∙ ap (λ m. (made ++ m ∷ []) ++ lines_made (with_line U account (asked_by row)) account rest) (sym e);
      judged = h.judged ∙ ap (λ o. first (o ∷ bad_rows (with_line U account (asked_by row)) account (number + 1) rest)) (passes U h.behind);
    }

pub made_all : (T : Tables) (account : ℕ) (s : ShelfValue) (rows : List ImportRow) (made : List Line) (number : ℕ) → AreMade T account s rows made number []
    → (made ≡ lines_made T account rows) × (first (bad_rows T account 1 rows) ≡ None)
made_all T account s rows made number h = (sym (h.lines ∙ append-nil made), h.judged)

of_one : (o : Option Refusal) (refusal : Refusal) → first (o ∷ []) ≡ Some refusal → o ≡ Some refusal
of_one None refusal h = absurd cc
of_one (Some r) refusal h = h

pub made_stops : (T : Tables) (account : ℕ) (s : ShelfValue) (rows : List ImportRow) (made : List Line) (number : ℕ) (row : ImportRow) (rest : List ImportRow) (refusal : Refusal)
    → AreMade T account s rows made number (row ∷ rest)
    → ((U : Tables) → IsBehind U account s made → row_refusal U account number row ≡ Some refusal) → first (bad_rows T account 1 rows) ≡ Some refusal
made_stops T account s rows made number row rest refusal h stops =
    h.judged ∙ ap (λ o. first (o ∷ bad_rows (with_line h.tables account (asked_by row)) account (number + 1) rest)) (stops h.tables h.behind)

-- the batch of a number is one of the account's own
pub batch_found : (T : Tables) (account n : ℕ) (s : ShelfValue) → HasShelf T account s → find (λ b. b.number == n) s.batches ≡ batch_of T account n
batch_found T account n s h = ap (find (λ (b : Batch). b.number == n)) (sym h.batches) ∙ sym (find-group (λ (b : Batch). b.account == account) (λ b. b.number == n) T.batches)

-- what is judged of a row's line is judged of the row
pub row_passes : (T : Tables) (account number : ℕ) (row : ImportRow) → first (line_rows T account (asked_by row)) ≡ None → row_refusal T account number row ≡ None
row_passes T account number row h = ap (option_map (λ cause. BadRow number (number_of cause))) h

pub row_stops : (T : Tables) (account number : ℕ) (row : ImportRow) (fault : EditFault) → IsFirst (line_rows T account (asked_by row)) fault
    → IsFirst (row_refusal T account number row ∷ []) (in_row number fault)
row_stops T account number row (Refused cause) h = ap (λ o. first (option_map (λ cause. BadRow number (number_of cause)) o ∷ [])) h
row_stops T account number row NoMemory h = tt

-- and so of all rows
pub all_stop : (T : Tables) (account : ℕ) (s : ShelfValue) (rows : List ImportRow) (made : List Line) (number : ℕ) (row : ImportRow) (rest : List ImportRow) (fault : EditFault)
    → AreMade T account s rows made number (row ∷ rest)
    → ((U : Tables) → IsBehind U account s made → IsFirst (row_refusal U account number row ∷ []) fault) → IsFirst (bad_rows T account 1 rows) fault
all_stop T account s rows made number row rest (Refused refusal) h stops =
    made_stops T account s rows made number row rest refusal h (λ U b. of_one (row_refusal U account number row) refusal (stops U b))
all_stop T account s rows made number row rest NoMemory h stops = tt
