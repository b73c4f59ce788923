-- What rows name stays there, change by change.
use Rattle.std.proofs.Common.{◌≡◌, ℕ, true, ◌==◌, ◌&&◌, [], ◌∷◌, Option, None, Some, is_some, refl, sym, ◌∙◌}
use Rattle.std.specs.List.{All, range_with_len}
use Rattle.std.proofs.lemmas.Bool.{and_parts, and_from}
use Rattle.std.proofs.lemmas.List.Elements.{All-weaker}
use Rattle.desk_types.specs.declared.rows.Account.{Account}
use Rattle.desk_types.specs.declared.rows.Batch.{Batch}
use Rattle.desk_types.specs.declared.rows.BudgetSet.{BudgetSet}
use Rattle.desk_types.specs.declared.rows.Campaign.{Campaign}
use Rattle.desk_types.specs.declared.rows.Fate.{Fate}
use Rattle.desk_types.specs.declared.rows.Line.{Line}
use Rattle.desk_types.specs.declared.rows.Negative.{Negative}
use Rattle.desk_types.specs.declared.rows.Placement.{Placement}
use Rattle.desk_types.specs.declared.tables.Change.{Change}
use Rattle.desk_types.specs.declared.tables.Change.TheVariants.{PutAccount, PutCampaign, PutBudget, PutLine, PutNegative, PutPlacement, PutBatch, PutFate}
use Rattle.desk_types.specs.declared.tables.Tables.{Tables}
use Rattle.desk_types.specs.Keys.{account_key, batch_key, budget_key, campaign_key, is_same_key, line_key, negative_key, placement_key}
use Rattle.desk_types.specs.Rules.{has_account, has_campaign, has_line_of, has_lines_of}
use Rattle.desk_types.specs.State.{State}
use Rattle.desk_types.specs.Tables.{campaign_of, line_of, placement_of, put, put_fate}
use Rattle.desk_types.proofs.EachRow.{Each-mono}
use Rattle.desk_types.proofs.KeepingProper.{IsProper, IsProperLine}
use Rattle.desk_types.proofs.KeepingRows.{any-put, list_all-weaker}
use Rattle.desk_types.proofs.Kept.{HaveNames}
use Rattle.desk_types.proofs.Lawful.{All-put, finds_one, finds_two, found_all}
use Rattle.desk_types.proofs.Puts.{same_key, stays_there}

-- what is there in the one tables is there in the other
pub record Stays (T U : Tables) : Type 0 where
  pub accounts : (account : ℕ) → has_account T account ≡ true → has_account U account ≡ true
  pub campaigns : (account campaign : ℕ) → is_some (campaign_of T account campaign) ≡ true → is_some (campaign_of U account campaign) ≡ true
  pub lines : (account line : ℕ) → is_some (line_of T account line) ≡ true → is_some (line_of U account line) ≡ true
  pub lines_of : (p : Placement) → has_line_of T p ≡ true → has_line_of U p ≡ true

pub campaign_stays : (T U : Tables) (account campaign : ℕ) → Stays T U → has_campaign T account campaign ≡ true → has_campaign U account campaign ≡ true
campaign_stays T U account campaign stays h =
    let parts = and_parts (has_account T account) (is_some (campaign_of T account campaign)) h in
    and_from (has_account U account) (is_some (campaign_of U account campaign)) (stays.accounts account parts.0) (stays.campaigns account campaign parts.1)

placement_stays : (T U : Tables) (p : Placement) → Stays T U → (has_campaign T p.account p.campaign && has_line_of T p) ≡ true → (has_campaign U p.account p.campaign && has_line_of U p) ≡ true
placement_stays T U p stays h =
    let parts = and_parts (has_campaign T p.account p.campaign) (has_line_of T p) h in
    and_from (has_campaign U p.account p.campaign) (has_line_of U p) (campaign_stays T U p.account p.campaign stays parts.0) (stays.lines_of p parts.1)

batch_stays : (T U : Tables) (b : Batch) → Stays T U → (has_account T b.account && has_lines_of T b) ≡ true → (has_account U b.account && has_lines_of U b) ≡ true
batch_stays T U b stays h =
    let parts = and_parts (has_account T b.account) (has_lines_of T b) h in
    and_from (has_account U b.account) (has_lines_of U b) (stays.accounts b.account parts.0)
    (list_all-weaker (λ number. is_some (line_of T b.account number)) (λ number. is_some (line_of U b.account number)) (range_with_len b.first b.count) (stays.lines b.account) parts.1)

-- what the rows of the one tables name is there in the other
record AreNamed (U T : Tables) : Type 0 where
  campaigns : All (λ (c : Campaign). has_account U c.account ≡ true) T.campaigns
  budgets : All (λ (b : BudgetSet). has_campaign U b.account b.campaign ≡ true) T.budgets
  lines : All (λ (l : Line). has_campaign U l.account l.campaign ≡ true) T.lines
  negatives : All (λ (n : Negative). has_campaign U n.account n.campaign ≡ true) T.negatives
  placements : All (λ (p : Placement). (has_campaign U p.account p.campaign && has_line_of U p) ≡ true) T.placements
  batches : All (λ (b : Batch). (has_account U b.account && has_lines_of U b) ≡ true) T.batches

named_still : (T U : Tables) → Stays T U → HaveNames T → AreNamed U T
named_still T U stays h = record {
  campaigns = All-weaker (λ (c : Campaign). has_account T c.account ≡ true) (λ (c : Campaign). has_account U c.account ≡ true) (λ c k. stays.accounts c.account k) T.campaigns h.campaigns;
  budgets = All-weaker (λ (b : BudgetSet). has_campaign T b.account b.campaign ≡ true) (λ (b : BudgetSet). has_campaign U b.account b.campaign ≡ true) (λ b k. campaign_stays T U b.account b.campaign stays k) T.budgets h.budgets;
  lines = All-weaker (λ (l : Line). has_campaign T l.account l.campaign ≡ true) (λ (l : Line). has_campaign U l.account l.campaign ≡ true) (λ l k. campaign_stays T U l.account l.campaign stays k) T.lines h.lines;
  negatives = All-weaker (λ (n : Negative). has_campaign T n.account n.campaign ≡ true) (λ (n : Negative). has_campaign U n.account n.campaign ≡ true) (λ n k. campaign_stays T U n.account n.campaign stays k) T.negatives h.negatives;
  placements = All-weaker (λ (p : Placement). (has_campaign T p.account p.campaign && has_line_of T p) ≡ true) (λ (p : Placement). (has_campaign U p.account p.campaign && has_line_of U p) ≡ true) (λ p k. placement_stays T U p stays k) T.placements h.placements;
  batches = All-weaker (λ (b : Batch). (has_account T b.account && has_lines_of T b) ≡ true) (λ (b : Batch). (has_account U b.account && has_lines_of U b) ≡ true) (λ b k. batch_stays T U b stays k) T.batches h.batches;
}

two_parts : (a b x y : ℕ) → a ∷ b ∷ [] ≡ x ∷ y ∷ [] → (a ≡ x) × (b ≡ y)
two_parts a b x y e = (cc, cc)

-- a line that takes the place of another is of the same campaign
same_line_of : (p : Placement) (l k : Line) → is_same_key (line_key k) (line_key l) ≡ true → k.campaign ≡ l.campaign
    → (k.account == p.account && (k.number == p.line && k.campaign == p.campaign)) ≡ true → (l.account == p.account && (l.number == p.line && l.campaign == p.campaign)) ≡ true
same_line_of p l k same campaign h =
    let parts = two_parts k.account k.number l.account l.number (same_key (line_key k) (line_key l) same) in
    (λ i. sym parts.0 i == p.account && (sym parts.1 i == p.line && sym campaign i == p.campaign)) ∙ h

line_of_stays : (T : Tables) (l : Line) (p : Placement) → IsProperLine T l → has_line_of T p ≡ true → has_line_of (put T (PutLine l)) p ≡ true
unfolding put
line_of_stays T l p proper h =
    let test = λ (k : Line). k.account == p.account && (k.number == p.line && k.campaign == p.campaign) in
    any-put test line_key l T.lines
    (Each-mono (λ (k : Line). is_same_key (line_key k) (line_key l) ≡ true → (k.campaign ≡ l.campaign) × (k.pattern ≡ l.pattern)) (λ (k : Line). is_same_key (line_key k) (line_key l) ≡ true → test k ≡ true → test l ≡ true) T.lines
    (λ k alike same passes. same_line_of p l k same (alike same).0 passes) proper.alike) h

stays_fate : (T : Tables) (fate : Fate) (found : Option Placement) → Stays T (put_fate T fate found)
stays_fate T fate None = record { accounts = λ a k. k; campaigns = λ a c k. k; lines = λ a n k. k; lines_of = λ p k. k }
stays_fate T fate (Some p) = record { accounts = λ a k. k; campaigns = λ a c k. k; lines = λ a n k. k; lines_of = λ p k. k }

pub stays-put : (S : State) (change : Change) → IsProper S change → Stays S.tables (put S.tables change)
unfolding put
stays-put S (PutAccount a) proper = record {
  accounts = λ account k. stays_there account_key (account ∷ []) a (λ (x : Account). x.number == account) S.tables.accounts (finds_one account_key (λ (x : Account). x.number) account (λ x. refl)) k;
  campaigns = λ a c k. k;
  lines = λ a n k. k;
  lines_of = λ p k. k;
}
stays-put S (PutCampaign c) proper = record {
  accounts = λ a k. k;
  campaigns = λ account campaign k. stays_there campaign_key (account ∷ campaign ∷ []) c (λ (x : Campaign). x.account == account && x.number == campaign) S.tables.campaigns (finds_two campaign_key (λ (x : Campaign). x.account) (λ x. x.number) account campaign (λ x. refl)) k;
  lines = λ a n k. k;
  lines_of = λ p k. k;
}
stays-put S (PutLine l) proper = record {
  accounts = λ a k. k;
  campaigns = λ a c k. k;
  lines = λ account number k. stays_there line_key (account ∷ number ∷ []) l (λ (x : Line). x.account == account && x.number == number) S.tables.lines (finds_two line_key (λ (x : Line). x.account) (λ x. x.number) account number (λ x. refl)) k;
  lines_of = λ p k. line_of_stays S.tables l p proper k;
}
stays-put S (PutFate number fate) proper = stays_fate S.tables fate (placement_of S.tables number)
stays-put S change proper = record { accounts = λ a k. k; campaigns = λ a c k. k; lines = λ a n k. k; lines_of = λ p k. k }

names-fate : (T : Tables) (number : ℕ) (fate : Fate) (found : Option Placement) → placement_of T number ≡ found → HaveNames T → HaveNames (put_fate T fate found)
names-fate T number fate None is h = h
names-fate T number fate (Some p) is h =
    let known = found_all (λ (x : Placement). (has_campaign T x.account x.campaign && has_line_of T x) ≡ true) (λ (x : Placement). x.number == number) T.placements p h.placements is in
    record {
      campaigns = h.campaigns;
      budgets = h.budgets;
      lines = h.lines;
      negatives = h.negatives;
      placements = All-put (λ (x : Placement). (has_campaign T x.account x.campaign && has_line_of T x) ≡ true) placement_key (record p { fate = fate }) T.placements known.0 h.placements;
      batches = h.batches;
    }

pub names-put : (S : State) (change : Change) → HaveNames S.tables → IsProper S change → HaveNames (put S.tables change)
unfolding put
names-put S (PutAccount a) h proper =
    let n = named_still S.tables (put S.tables (PutAccount a)) (stays-put S (PutAccount a) proper) h in
    record { campaigns = n.campaigns; budgets = n.budgets; lines = n.lines; negatives = n.negatives; placements = n.placements; batches = n.batches }
names-put S (PutCampaign c) h proper =
    let n = named_still S.tables (put S.tables (PutCampaign c)) (stays-put S (PutCampaign c) proper) h in
    record {
      campaigns = All-put (λ (x : Campaign). has_account S.tables x.account ≡ true) campaign_key c S.tables.campaigns proper n.campaigns;
      budgets = n.budgets;
      lines = n.lines;
      negatives = n.negatives;
      placements = n.placements;
      batches = n.batches;
    }
names-put S (PutBudget b) h proper = record {
  campaigns = h.campaigns;
  budgets = All-put (λ (x : BudgetSet). has_campaign S.tables x.account x.campaign ≡ true) budget_key b S.tables.budgets proper.named h.budgets;
  lines = h.lines;
  negatives = h.negatives;
  placements = h.placements;
  batches = h.batches;
}
names-put S (PutLine l) h proper =
    let n = named_still S.tables (put S.tables (PutLine l)) (stays-put S (PutLine l) proper) h in
    record {
      campaigns = n.campaigns;
      budgets = n.budgets;
      lines = All-put (λ (x : Line). has_campaign S.tables x.account x.campaign ≡ true) line_key l S.tables.lines proper.named n.lines;
      negatives = n.negatives;
      placements = n.placements;
      batches = n.batches;
    }
names-put S (PutNegative m) h proper = record {
  campaigns = h.campaigns;
  budgets = h.budgets;
  lines = h.lines;
  negatives = All-put (λ (x : Negative). has_campaign S.tables x.account x.campaign ≡ true) negative_key m S.tables.negatives proper.named h.negatives;
  placements = h.placements;
  batches = h.batches;
}
names-put S (PutPlacement p) h proper = record {
  campaigns = h.campaigns;
  budgets = h.budgets;
  lines = h.lines;
  negatives = h.negatives;
  placements = All-put (λ (x : Placement). (has_campaign S.tables x.account x.campaign && has_line_of S.tables x) ≡ true) placement_key p S.tables.placements proper.named h.placements;
  batches = h.batches;
}
names-put S (PutBatch b) h proper = record {
  campaigns = h.campaigns;
  budgets = h.budgets;
  lines = h.lines;
  negatives = h.negatives;
  placements = h.placements;
  batches = All-put (λ (x : Batch). (has_account S.tables x.account && has_lines_of S.tables x) ≡ true) batch_key b S.tables.batches proper.named h.batches;
}
names-put S (PutFate number fate) h proper = names-fate S.tables number fate (placement_of S.tables number) refl h
