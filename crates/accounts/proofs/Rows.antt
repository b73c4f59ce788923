-- The refusals of an account's calls, by its own rows.
use Rattle.std.proofs.Common.{◌≡◌, ℕ, Bool, true, false, not, ◌==◌, ◌||◌, List, [], ◌∷◌, None, Some, is_none, refl, ap, ◌∙◌, bytes_eq}
use Rattle.std.specs.List.{list_any}
use Rattle.desk_types.specs.declared.refusal.Refusal.TheVariants.{BadKey, NoAccount}
use Rattle.desk_types.specs.declared.rows.Account.{Account}
use Rattle.desk_types.specs.declared.tables.Tables.{Tables}
use Rattle.desk_types.specs.Judged.{first, key_fits, owner_rows, when}
use Rattle.desk_types.specs.Tables.{account_of}
use Rattle.accounts.specs.BookValue.{ShelfValue}
use Rattle.accounts.specs.Shelved.{HasNoShelf, HasShelf}
use Rattle.accounts.proofs.Joined.{any-group}

or_false : (b : Bool) → (b || false) ≡ b
or_false true = refl
or_false false = refl

-- the key is that of the one account of the number
pub fits_shelf : (T : Tables) (account : ℕ) (s : ShelfValue) (key : List ℕ) → HasShelf T account s → key_fits T account key ≡ bytes_eq s.account.key key
fits_shelf T account s key h =
    any-group (λ (a : Account). a.number == account) (λ a. bytes_eq a.key key) T.accounts ∙ ap (list_any (λ (a : Account). bytes_eq a.key key)) h.only ∙ or_false (bytes_eq s.account.key key)

account_passes : (T : Tables) (account : ℕ) (s : ShelfValue) → HasShelf T account s → when (is_none (account_of T account)) NoAccount ≡ None
account_passes T account s h = ap (λ o. when (is_none o) NoAccount) h.found

pub owner_passes : (T : Tables) (account : ℕ) (s : ShelfValue) (key : List ℕ) → HasShelf T account s → bytes_eq s.account.key key ≡ true → first (owner_rows T account key) ≡ None
owner_passes T account s key h fits =
    ap (λ o. first (o ∷ when (not (key_fits T account key)) BadKey ∷ [])) (account_passes T account s h)
    ∙ ap (λ b. first (when (not b) BadKey ∷ [])) (fits_shelf T account s key h ∙ fits)

pub owner_stops : (T : Tables) (account : ℕ) (s : ShelfValue) (key : List ℕ) → HasShelf T account s → bytes_eq s.account.key key ≡ false → first (owner_rows T account key) ≡ Some BadKey
owner_stops T account s key h fails =
    ap (λ o. first (o ∷ when (not (key_fits T account key)) BadKey ∷ [])) (account_passes T account s h)
    ∙ ap (λ b. first (when (not b) BadKey ∷ [])) (fits_shelf T account s key h ∙ fails)

pub owner_unknown : (T : Tables) (account : ℕ) (key : List ℕ) → HasNoShelf T account → first (owner_rows T account key) ≡ Some NoAccount
owner_unknown T account key none = ap (λ o. first (when (is_none o) NoAccount ∷ when (not (key_fits T account key)) BadKey ∷ [])) none.unknown
