-- What the tables answer of an account is what its own rows answer.
use Rattle.std.proofs.Common.{◌≡◌, ℕ, Bool, true, false, ◌==◌, ◌&&◌, ◌||◌, not, List, [], find, filter, None, Some, refl, sym, ap, ◌∙◌, bytes_eq}
use Rattle.std.specs.List.{list_any, range_with_len}
use Rattle.std.proofs.lemmas.List.{length-map}
use Rattle.desk_types.specs.declared.rows.Account.{Account}
use Rattle.desk_types.specs.declared.rows.Campaign.{Campaign}
use Rattle.desk_types.specs.declared.rows.Line.{Line}
use Rattle.desk_types.specs.declared.tables.Tables.{Tables}
use Rattle.desk_types.specs.Judged.{key_fits}
use Rattle.desk_types.specs.Tables.{account_of, campaign_of, line_of}
use Rattle.accounts.specs.BookValue.{ShelfValue}
use Rattle.accounts.specs.Shelved.{HasNoShelf, HasShelf}
use Rattle.accounts.proofs.Finds.{campaign_found}
use Rattle.accounts.proofs.Joined.{any-group, find-group}
use Rattle.accounts.proofs.Negatives.{any_none, any_one}

pub account_there : (T : Tables) (account : ℕ) (s : ShelfValue) → HasShelf T account s → Some s.account ≡ account_of T account
account_there T account s h = sym h.found

pub account_lacks : (T : Tables) (account : ℕ) → HasNoShelf T account → None ≡ account_of T account
account_lacks T account h = sym h.unknown

pub fits_none : (T : Tables) (account : ℕ) (key : List ℕ) → HasNoShelf T account → key_fits T account key ≡ false
fits_none T account key h = any-group (λ (a : Account). a.number == account) (λ a. bytes_eq a.key key) T.accounts ∙ ap (list_any (λ (a : Account). bytes_eq a.key key)) h.accounts

pub line_lacks : (T : Tables) (account line : ℕ) → HasNoShelf T account → None ≡ line_of T account line
line_lacks T account line h = sym (find-group (λ (l : Line). l.account == account) (λ l. l.number == line) T.lines ∙ ap (find (λ (l : Line). l.number == line)) h.lines)

pub campaigns_there : (T : Tables) (account : ℕ) (s : ShelfValue) → HasShelf T account s → s.campaigns ≡ filter (λ c. c.account == account) T.campaigns
campaigns_there T account s h = sym h.campaigns

pub campaigns_lack : (T : Tables) (account : ℕ) → HasNoShelf T account → [] ≡ filter (λ c. c.account == account) T.campaigns
campaigns_lack T account h = sym h.campaigns

pub budgets_there : (T : Tables) (account : ℕ) (s : ShelfValue) → HasShelf T account s → s.budgets ≡ filter (λ b. b.account == account) T.budgets
budgets_there T account s h = sym h.budgets

pub budgets_lack : (T : Tables) (account : ℕ) → HasNoShelf T account → [] ≡ filter (λ b. b.account == account) T.budgets
budgets_lack T account h = sym h.budgets

pub lines_there : (T : Tables) (account : ℕ) (s : ShelfValue) → HasShelf T account s → s.lines ≡ filter (λ l. l.account == account) T.lines
lines_there T account s h = sym h.lines

pub lines_lack : (T : Tables) (account : ℕ) → HasNoShelf T account → [] ≡ filter (λ l. l.account == account) T.lines
lines_lack T account h = sym h.lines

pub negatives_there : (T : Tables) (account : ℕ) (s : ShelfValue) → HasShelf T account s → s.negatives ≡ filter (λ n. n.account == account) T.negatives
negatives_there T account s h = sym h.negatives

pub negatives_lack : (T : Tables) (account : ℕ) → HasNoShelf T account → [] ≡ filter (λ n. n.account == account) T.negatives
negatives_lack T account h = sym h.negatives

or_false : (b : Bool) → (b || false) ≡ b
or_false true = refl
or_false false = refl

pub active_account : (T : Tables) (account : ℕ) (s : ShelfValue) → HasShelf T account s → list_any (λ a. a.number == account && not a.suspended) T.accounts ≡ not s.account.suspended
active_account T account s h =
    any-group (λ (a : Account). a.number == account) (λ a. not a.suspended) T.accounts ∙ ap (list_any (λ (a : Account). not a.suspended)) h.only ∙ or_false (not s.account.suspended)

pub inactive_account : (T : Tables) (account : ℕ) → HasNoShelf T account → list_any (λ a. a.number == account && not a.suspended) T.accounts ≡ false
inactive_account T account h = any-group (λ (a : Account). a.number == account) (λ a. not a.suspended) T.accounts ∙ ap (list_any (λ (a : Account). not a.suspended)) h.accounts

campaigns_on : (T : Tables) (account campaign : ℕ) (s : ShelfValue) → HasShelf T account s → list_any (λ c. c.account == account && (c.number == campaign && c.on)) T.campaigns ≡ list_any (λ c. c.number == campaign && c.on) s.campaigns
campaigns_on T account campaign s h =
    any-group (λ (c : Campaign). c.account == account) (λ c. c.number == campaign && c.on) T.campaigns ∙ ap (list_any (λ (c : Campaign). c.number == campaign && c.on)) h.campaigns

pub active_campaign : (T : Tables) (account campaign : ℕ) (s : ShelfValue) (c : Campaign) → HasShelf T account s → campaign_of T account campaign ≡ Some c
    → list_any (λ k. k.account == account && (k.number == campaign && k.on)) T.campaigns ≡ c.on
active_campaign T account campaign s c h is =
    campaigns_on T account campaign s h
    ∙ any_one (λ (x : Campaign). x.number) (λ x. x.on) s.campaigns 1 campaign c (h.is.campaigns ∙ ap (range_with_len 1) (length-map s.campaigns (λ (x : Campaign). x.number))) (campaign_found T account campaign s h ∙ is)

pub inactive_campaign : (T : Tables) (account campaign : ℕ) (s : ShelfValue) → HasShelf T account s → campaign_of T account campaign ≡ None
    → list_any (λ k. k.account == account && (k.number == campaign && k.on)) T.campaigns ≡ false
inactive_campaign T account campaign s h is =
    campaigns_on T account campaign s h ∙ any_none (λ (x : Campaign). x.number == campaign) (λ x. x.on) s.campaigns (campaign_found T account campaign s h ∙ is)

pub no_campaign : (T : Tables) (account campaign : ℕ) → HasNoShelf T account → list_any (λ k. k.account == account && (k.number == campaign && k.on)) T.campaigns ≡ false
no_campaign T account campaign h =
    any-group (λ (c : Campaign). c.account == account) (λ c. c.number == campaign && c.on) T.campaigns ∙ ap (list_any (λ (c : Campaign). c.number == campaign && c.on)) h.campaigns
