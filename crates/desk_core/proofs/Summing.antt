-- The summary of a journal, and prices added up as far as 64 bits count.
use Rattle.std.proofs.Common.{◌≡◌, ℕ, ◌+◌, ◌-◌, ◌^◌, min, true, false, List, [], ◌∷◌, ◌++◌, length, count_by, sum_by, ap, ◌∙◌, arith}
use Rattle.std.specs.List.{filter}
use Rattle.std.proofs.lemmas.Bool.{cond-true, cond-false}
use Rattle.std.proofs.lemmas.List.{append-nil}
use Rattle.std.proofs.lemmas.List.Elements.{filter-append}
use Rattle.std.proofs.lemmas.List.Sums.{sum_by_push}
use Rattle.desk_types.specs.declared.entry.Entry.{Entry}
use Rattle.desk_types.specs.declared.rows.Placement.{Placement}
use Rattle.desk_types.specs.declared.summary.Summary.{Summary}
use Rattle.desk_types.specs.Money.{is_spent}
use Rattle.desk_types.specs.Run.{run}
use Rattle.desk_types.specs.State.{State}
use Rattle.desk_types.specs.Summary.{cents_of, is_faulted, summary}
use Rattle.desk_core.specs.Searches.{is_answered_search}

abbrev prices : List Placement → ℕ
prices ps = sum_by (λ p. p.price) (filter (λ p. is_spent p.fate) ps)

prices_yes : (ps : List Placement) (p : Placement) → is_spent p.fate ≡ true → prices (ps ++ p ∷ []) ≡ prices ps + p.price
prices_yes ps p spent =
    ap (sum_by (λ (q : Placement). q.price)) (filter-append (λ (q : Placement). is_spent q.fate) ps (p ∷ []) ∙ ap (λ l. filter (λ (q : Placement). is_spent q.fate) ps ++ l) (cond-true (is_spent p.fate) (p ∷ []) [] spent))
    ∙ sum_by_push (λ (q : Placement). q.price) (filter (λ (q : Placement). is_spent q.fate) ps) p

prices_no : (ps : List Placement) (p : Placement) → is_spent p.fate ≡ false → prices (ps ++ p ∷ []) ≡ prices ps
prices_no ps p open_ =
    ap (sum_by (λ (q : Placement). q.price)) (filter-append (λ (q : Placement). is_spent q.fate) ps (p ∷ []) ∙ ap (λ l. filter (λ (q : Placement). is_spent q.fate) ps ++ l) (cond-false (is_spent p.fate) (p ∷ []) [] open_)
    ∙ append-nil (filter (λ (q : Placement). is_spent q.fate) ps))

-- the sum with a placement more
pub cents_yes : (ps : List Placement) (p : Placement) (cents more : ℕ) → cents ≡ cents_of ps → is_spent p.fate ≡ true → more ≡ min (cents + p.price) (2 ^ 64 - 1) → more ≡ cents_of (ps ++ p ∷ [])
cents_yes ps p cents more is spent added = omega (arith, is, added, prices_yes ps p spent)

pub cents_no : (ps : List Placement) (p : Placement) (cents : ℕ) → cents ≡ cents_of ps → is_spent p.fate ≡ false → cents ≡ cents_of (ps ++ p ∷ [])
cents_no ps p cents is open_ = omega (arith, is, prices_no ps p open_)

pub summary_is : (S : State) (log : List Entry) (rows : List Placement) (s : Summary) → rows ≡ (run S log).tables.placements → s.entries ≡ length log → s.faulted ≡ count_by (λ e. is_faulted e.outcome) log
    → s.searches ≡ count_by is_answered_search log → s.placements ≡ length rows → s.settled ≡ count_by (λ p. is_spent p.fate) rows → s.cents ≡ cents_of rows → s ≡ summary S log
unfolding summary is_answered_search
summary_is S log rows s is e_entries e_faulted e_searches e_placements e_settled e_cents =
    let placements = e_placements ∙ ap length is in
    let settled = e_settled ∙ ap (count_by (λ (p : Placement). is_spent p.fate)) is in
    let cents = e_cents ∙ ap cents_of is in
    (λ i. record { entries = e_entries i; faulted = e_faulted i; searches = e_searches i; placements = placements i; settled = settled i; cents = cents i })
