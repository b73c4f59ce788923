-- The sums of all campaigns, account by account.
use Rattle.std.proofs.Common.{◌≡◌, ℕ, zero, suc, ◌+◌, ◌*◌, ◌<◌, ◌≤◌, ◌^◌, ◌==◌, List, [], ◌∷◌, ◌++◌, filter, flat_map, get_or, length, map, take, refl, sym, ap, ◌∙◌, append-nil, arith}
use Rattle.std.specs.List.{range_with_len, sum_by}
use Rattle.std.proofs.lemmas.List.{map-append}
use Rattle.std.proofs.lemmas.List.Concat.{flat_map-append}
use Rattle.std.proofs.lemmas.List.Sums.{sum_by-append, sum_by-cons, sum_by_more_le}
use Rattle.desk_types.specs.declared.limits.TheConstants.{ACCOUNTS_MAX, BUDGET_MAX, CAMPAIGNS_MAX}
use Rattle.desk_types.specs.declared.reply.CampaignDay.{CampaignDay}
use Rattle.desk_types.specs.declared.reply.HostDay.{HostDay}
use Rattle.desk_types.specs.declared.rows.Campaign.{Campaign}
use Rattle.desk_types.specs.Reports.{campaign_day, host_day}
use Rattle.desk_types.specs.Sound.{IsSound}
use Rattle.desk_types.specs.State.{State}
use Rattle.desk_types.proofs.Legality.{range-more}
use Rattle.desk_types.proofs.ReportBounds.{host_bounded}
use Rattle.desk_types.proofs.Soundness.{stable}
use Rattle.desk_core.specs.Sums.{HasRoomFor, with_rows}

sum_map : (f : CampaignDay → ℕ) (row : Campaign → CampaignDay) (cs : List Campaign) → sum_by f (map row cs) ≡ sum_by (λ c. f (row c)) cs
sum_map f row [] = refl
sum_map f row (c ∷ cs) = omega (arith, sum_map f row cs, sum_by-cons f (row c) (map row cs), sum_by-cons (λ x. f (row x)) c cs)

-- the sum so far and the next row are within the whole
pub fits_more : (f : CampaignDay → ℕ) (row : Campaign → CampaignDay) (base i : ℕ) (cs : List Campaign) (d : Campaign) (r : CampaignDay) → i < length cs → r ≡ row (get_or cs i d) → base + sum_by f (map row cs) < 2 ^ 64
    → base + sum_by f (map row (take i cs)) + f r < 2 ^ 64
fits_more f row base i cs d r within is fits =
    let more = sum_by_more_le (λ c. f (row c)) cs i d within in
    omega (arith, more, sum_map f row cs, sum_map f row (take i cs), ap f is, fits)

-- the campaigns of the accounts up to a number, one account after another
abbrev own : List Campaign → ℕ → List Campaign
own cs account = filter (λ (c : Campaign). c.account == account) cs

abbrev pub campaigns_up_to : List Campaign → ℕ → List Campaign
campaigns_up_to cs count = flat_map (own cs) (range_with_len 1 count)

sum_flat : (f : Campaign → ℕ) (cs : List Campaign) (accounts : List ℕ) → sum_by f (flat_map (own cs) accounts) ≡ sum_by (λ a. sum_by f (own cs a)) accounts
sum_flat f cs [] = refl
sum_flat f cs (a ∷ accounts) =
    omega (arith, sum_flat f cs accounts, sum_by-append f (own cs a) (flat_map (own cs) accounts), sum_by-cons (λ x. sum_by f (own cs x)) a accounts)

sum_range : (g : ℕ → ℕ) (a m n : ℕ) → m ≤ n → sum_by g (range_with_len a m) ≤ sum_by g (range_with_len a n)
sum_range g a zero n low = omega arith
sum_range g a (suc m) zero low = absurd (omega (arith, low))
sum_range g a (suc m) (suc n) low =
    omega (arith, sum_range g (a + 1) m n (omega (arith, low)), sum_by-cons g a (range_with_len (a + 1) m), sum_by-cons g a (range_with_len (a + 1) n))

total_le : (f : CampaignDay → ℕ) (row : Campaign → CampaignDay) (cs : List Campaign) (m n : ℕ) → m ≤ n → sum_by f (map row (campaigns_up_to cs m)) ≤ sum_by f (map row (campaigns_up_to cs n))
total_le f row cs m n low =
    omega (
      arith,
      sum_map f row (campaigns_up_to cs m),
      sum_map f row (campaigns_up_to cs n),
      sum_flat (λ c. f (row c)) cs (range_with_len 1 m),
      sum_flat (λ c. f (row c)) cs (range_with_len 1 n),
      sum_range (λ a. sum_by (λ c. f (row c)) (own cs a)) 1 m n low,
    )

up_more : (cs : List Campaign) (count : ℕ) → campaigns_up_to cs (count + 1) ≡ campaigns_up_to cs count ++ own cs (count + 1)
up_more cs count =
    let next : 1 + count ≡ count + 1 = omega arith in
    ap (flat_map (own cs)) (range-more 1 count) ∙ flat_map-append (own cs) (range_with_len 1 count) ((1 + count) ∷ [])
    ∙ ap (λ l. campaigns_up_to cs count ++ l) (append-nil (own cs (1 + count)) ∙ ap (own cs) next)

total_more : (f : CampaignDay → ℕ) (row : Campaign → CampaignDay) (cs : List Campaign) (count : ℕ)
    → sum_by f (map row (campaigns_up_to cs (count + 1))) ≡ sum_by f (map row (campaigns_up_to cs count)) + sum_by f (map row (own cs (count + 1)))
total_more f row cs count =
    ap (sum_by f) (ap (map row) (up_more cs count) ∙ map-append row (campaigns_up_to cs count) (own cs (count + 1))) ∙ sum_by-append f (map row (campaigns_up_to cs count)) (map row (own cs (count + 1)))

abbrev pub no_sums : ℕ → ℕ → HostDay
no_sums day accounts = record { day = day; accounts = accounts; shown = 0; clicks = 0; spent = 0; escrowed = 0; credited = 0 }

abbrev sums : ℕ → ℕ → ℕ → ℕ → ℕ → ℕ → ℕ → HostDay
sums day accounts shown clicks spent escrowed credited = record { day = day; accounts = accounts; shown = shown; clicks = clicks; spent = spent; escrowed = escrowed; credited = credited }

-- the sums of the accounts up to a number
abbrev pub sums_up_to : State → ℕ → ℕ → ℕ → HostDay
sums_up_to S day accounts count = with_rows (no_sums day accounts) (map (campaign_day S day) (campaigns_up_to S.tables.campaigns count))

-- with the campaigns of the next account
pub sums_more : (S : State) (day accounts count : ℕ) → with_rows (sums_up_to S day accounts count) (map (campaign_day S day) (own S.tables.campaigns (count + 1))) ≡ sums_up_to S day accounts (count + 1)
sums_more S day accounts count =
    let row = campaign_day S day in
    let cs = S.tables.campaigns in
    let e : (f : CampaignDay → ℕ) → 0 + sum_by f (map row (campaigns_up_to cs count)) + sum_by f (map row (own cs (count + 1))) ≡ 0 + sum_by f (map row (campaigns_up_to cs (count + 1))) = λ f. omega (arith, total_more f row cs count) in
    (λ i. sums day accounts (e (λ r. r.shown) i) (e (λ r. r.clicks) i) (e (λ r. r.spent) i) (e (λ r. r.escrowed) i) (e (λ r. r.credited) i))

pub sums_none : (S : State) (day accounts : ℕ) → no_sums day accounts ≡ sums_up_to S day accounts 0
sums_none S day accounts = refl

-- all accounts
pub sums_all : (S : State) (day count : ℕ) → count ≡ length S.tables.accounts → S.tables.campaigns ≡ campaigns_up_to S.tables.campaigns count → sums_up_to S day count count ≡ host_day S day
sums_all S day count is whole =
    let row = campaign_day S day in
    let e : (f : CampaignDay → ℕ) → 0 + sum_by f (map row (campaigns_up_to S.tables.campaigns count)) ≡ sum_by f (map row S.tables.campaigns) = λ f. (omega arith) ∙ ap (λ cs. sum_by f (map row cs)) (sym whole) in
    (λ i. sums day (is i) (e (λ r. r.shown) i) (e (λ r. r.clicks) i) (e (λ r. r.spent) i) (e (λ r. r.escrowed) i) (e (λ r. r.credited) i))

room_for : (f : CampaignDay → ℕ) (row : Campaign → CampaignDay) (cs : List Campaign) (count n top : ℕ) → count < n → cs ≡ campaigns_up_to cs n → sum_by f (map row cs) ≤ top → top < 2 ^ 64
    → 0 + sum_by f (map row (campaigns_up_to cs count)) + sum_by f (map row (own cs (count + 1))) < 2 ^ 64
room_for f row cs count n top low whole within small =
    omega (arith, total_more f row cs count, total_le f row cs (count + 1) n (omega (arith, low)), ap (λ ks. sum_by f (map row ks)) whole, within, small)

pub room_more : (S : State) (day accounts count n : ℕ) → IsSound S → length S.tables.placements < 2 ^ 63 → count < n → n ≡ length S.tables.accounts → S.tables.campaigns ≡ campaigns_up_to S.tables.campaigns n
    → HasRoomFor (sums_up_to S day accounts count) (map (campaign_day S day) (own S.tables.campaigns (count + 1)))
room_more S day accounts count n h few low is whole =
    let row = campaign_day S day in
    let cs = S.tables.campaigns in
    let bound = host_bounded S day (stable S h) (whole ∙ ap (campaigns_up_to cs) is) in
    let money : ACCOUNTS_MAX * CAMPAIGNS_MAX * BUDGET_MAX < 2 ^ 64 = omega arith in
    record {
      shown = room_for (λ r. r.shown) row cs count n (length S.tables.placements) low whole bound.shown (omega (arith, few));
      clicks = room_for (λ r. r.clicks) row cs count n (length S.tables.placements) low whole bound.clicks (omega (arith, few));
      spent = room_for (λ r. r.spent) row cs count n (ACCOUNTS_MAX * CAMPAIGNS_MAX * BUDGET_MAX) low whole bound.spent money;
      escrowed = room_for (λ r. r.escrowed) row cs count n (ACCOUNTS_MAX * CAMPAIGNS_MAX * BUDGET_MAX) low whole bound.escrowed money;
      credited = room_for (λ r. r.credited) row cs count n (ACCOUNTS_MAX * CAMPAIGNS_MAX * BUDGET_MAX) low whole bound.credited money;
    }
