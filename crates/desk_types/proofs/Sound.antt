-- Sound states stay sound, change by change, and so call by call.
use Rattle.std.proofs.Common.{◌≡◌, ℕ, ◌≤◌, max, min, true, ◌==◌, inl, inr, List, [], ◌∷◌, Option, None, Some, is_some, refl, arith}
use Rattle.std.specs.List.{All}
use Rattle.std.proofs.lemmas.Bool.{eqb-true}
use Rattle.std.proofs.lemmas.List.Elements.{All-nil, All-weaker}
use Rattle.desk_types.specs.declared.limits.TheConstants.{ACCOUNTS_MAX, BUDGET_MAX, CAMPAIGNS_MAX, MOMENT_MAX}
use Rattle.desk_types.specs.declared.rows.BudgetSet.{BudgetSet}
use Rattle.desk_types.specs.declared.rows.Campaign.{Campaign}
use Rattle.desk_types.specs.declared.rows.Fate.{Fate}
use Rattle.desk_types.specs.declared.rows.Line.{Line}
use Rattle.desk_types.specs.declared.rows.Placement.{Placement}
use Rattle.desk_types.specs.declared.tables.Change.{Change}
use Rattle.desk_types.specs.declared.tables.Change.TheVariants.{PutAccount, PutCampaign, PutBudget, PutLine, PutNegative, PutPlacement, PutFate}
use Rattle.desk_types.specs.declared.tables.Tables.{Tables}
use Rattle.auction_types.specs.AdValue.{IsInRange}
use Rattle.desk_types.specs.Eligible.{ad_of}
use Rattle.desk_types.specs.Keys.{account_key, batch_key, budget_key, campaign_key, line_key, negative_key, placement_key}
use Rattle.desk_types.specs.Money.{budget, escrowed, spent}
use Rattle.desk_types.specs.SettingsValue.{SettingsValue}
use Rattle.desk_types.specs.Sound.{AreInOrder, AreNumbered, StandInOrder, StaysWithinBudgets}
use Rattle.desk_types.specs.State.{State, empty}
use Rattle.desk_types.specs.Step.{at_moment}
use Rattle.desk_types.specs.Tables.{campaign_of, has_key, line_of, no_rows, placement_of, put, put_all, put_fate, put_row}
use Rattle.desk_types.proofs.Costs.{cost, cost-later, sum_by-less, used-costs}
use Rattle.desk_types.proofs.InOrder.{Ordered-from, StandInOrder-put}
use Rattle.desk_types.proofs.Lawful.{All-put, AreLawful, IsLawful, IsOnward, changed, finds_two, found_all, found_has, found_test, used-onward, used_within, within-budget, within-shown, within_used}
use Rattle.desk_types.proofs.Numbering.{groups-put, groups-within, next_new, numbers-put}
use Rattle.desk_types.proofs.Puts.{length-within, stays_there}
use Rattle.desk_types.proofs.Stable.{AreWithinLimits, IsPast, IsStable, NamesAreThere}

-- the numbers run on
numbered-fate : (T : Tables) (number : ℕ) (fate : Fate) (found : Option Placement) → placement_of T number ≡ found → AreNumbered T → AreNumbered (put_fate T fate found)
numbered-fate T number fate None is h = h
numbered-fate T number fate (Some p) is h =
    let q : Placement = record p { fate = fate } in
    let there : has_key placement_key (placement_key q) T.placements ≡ true = found_has placement_key (λ (x : Placement). x.number == number) T.placements p is in
    record {
      accounts = h.accounts;
      campaigns = h.campaigns;
      lines = h.lines;
      negatives = h.negatives;
      placements = numbers-put placement_key (λ (x : Placement). x.number) q T.placements (λ x. refl) h.placements (inl there);
    }

numbered-put : (S : State) (change : Change) → StandInOrder S.tables → AreNumbered S.tables → IsLawful S change → AreNumbered (put S.tables change)
unfolding put
numbered-put S (PutAccount a) order h lawful = record {
  accounts = numbers-put account_key (λ x. x.number) a S.tables.accounts (λ x. refl) h.accounts lawful.next;
  campaigns = h.campaigns;
  lines = h.lines;
  negatives = h.negatives;
  placements = h.placements;
}
numbered-put S (PutCampaign c) order h lawful = record {
  accounts = h.accounts;
  campaigns = groups-put campaign_key (λ x. x.account) (λ x. x.number) c S.tables.campaigns (λ x. refl) (Ordered-from campaign_key S.tables.campaigns order.campaigns) h.campaigns lawful.next;
  lines = h.lines;
  negatives = h.negatives;
  placements = h.placements;
}
numbered-put S (PutLine l) order h lawful = record {
  accounts = h.accounts;
  campaigns = h.campaigns;
  lines = groups-put line_key (λ x. x.account) (λ x. x.number) l S.tables.lines (λ x. refl) (Ordered-from line_key S.tables.lines order.lines) h.lines lawful.next;
  negatives = h.negatives;
  placements = h.placements;
}
numbered-put S (PutNegative n) order h lawful = record {
  accounts = h.accounts;
  campaigns = h.campaigns;
  lines = h.lines;
  negatives = groups-put negative_key (λ x. x.account) (λ x. x.number) n S.tables.negatives (λ x. refl) (Ordered-from negative_key S.tables.negatives order.negatives) h.negatives lawful;
  placements = h.placements;
}
numbered-put S (PutPlacement p) order h lawful = record {
  accounts = h.accounts;
  campaigns = h.campaigns;
  lines = h.lines;
  negatives = h.negatives;
  placements = numbers-put placement_key (λ x. x.number) p S.tables.placements (λ x. refl) h.placements (inr lawful.next);
}
numbered-put S (PutFate number fate) order h lawful = numbered-fate S.tables number fate (placement_of S.tables number) refl h
numbered-put S change order h lawful = record { accounts = h.accounts; campaigns = h.campaigns; lines = h.lines; negatives = h.negatives; placements = h.placements }

-- the lines stay in range
ranges-fate : (T : Tables) (fate : Fate) (found : Option Placement) → All (λ l. IsInRange (ad_of l)) T.lines → All (λ l. IsInRange (ad_of l)) (put_fate T fate found).lines
ranges-fate T fate None h = h
ranges-fate T fate (Some p) h = h

ranges-put : (S : State) (change : Change) → All (λ l. IsInRange (ad_of l)) S.tables.lines → IsLawful S change → All (λ l. IsInRange (ad_of l)) (put S.tables change).lines
unfolding put
ranges-put S (PutLine l) h lawful = All-put (λ (x : Line). IsInRange (ad_of x)) line_key l S.tables.lines lawful.in_range h
ranges-put S (PutFate number fate) h lawful = ranges-fate S.tables fate (placement_of S.tables number) h
ranges-put S change h lawful = h

-- accounts, campaigns and budgets stay within their limits
limits-fate : (T : Tables) (fate : Fate) (found : Option Placement) → AreWithinLimits T → AreWithinLimits (put_fate T fate found)
limits-fate T fate None h = h
limits-fate T fate (Some p) h = record { accounts = h.accounts; campaigns = h.campaigns; budgets = h.budgets }

limits-put : (S : State) (change : Change) → AreWithinLimits S.tables → IsLawful S change → AreWithinLimits (put S.tables change)
unfolding put
limits-put S (PutAccount a) h lawful = record { accounts = length-within account_key a S.tables.accounts ACCOUNTS_MAX h.accounts lawful.room; campaigns = h.campaigns; budgets = h.budgets }
limits-put S (PutCampaign c) h lawful = record {
  accounts = h.accounts;
  campaigns = groups-within campaign_key (λ (x : Campaign). x.account) (λ x. x.number) c S.tables.campaigns CAMPAIGNS_MAX (λ x. refl) h.campaigns lawful.room;
  budgets = h.budgets;
}
limits-put S (PutBudget b) h lawful =
    record { accounts = h.accounts; campaigns = h.campaigns; budgets = All-put (λ (x : BudgetSet). x.amount ≤ BUDGET_MAX) budget_key b S.tables.budgets lawful.within h.budgets }
limits-put S (PutFate number fate) h lawful = limits-fate S.tables fate (placement_of S.tables number) h
limits-put S change h lawful = record { accounts = h.accounts; campaigns = h.campaigns; budgets = h.budgets }

-- settings and placements stay of moments up to now
past-fate : (moment : ℕ) (T : Tables) (number : ℕ) (fate : Fate) (found : Option Placement) → placement_of T number ≡ found → IsPast moment T → IsPast moment (put_fate T fate found)
past-fate moment T number fate None is h = h
past-fate moment T number fate (Some p) is h =
    let known = found_all (λ (x : Placement). x.shown ≤ moment) (λ (x : Placement). x.number == number) T.placements p h.placements is in
    record { budgets = h.budgets; placements = All-put (λ (x : Placement). x.shown ≤ moment) placement_key (record p { fate = fate }) T.placements known.0 h.placements }

past-put : (S : State) (change : Change) → IsPast S.moment S.tables → IsLawful S change → IsPast S.moment (put S.tables change)
unfolding put
past-put S (PutBudget b) h lawful = record { budgets = All-put (λ (x : BudgetSet). x.at ≤ S.moment) budget_key b S.tables.budgets lawful.past h.budgets; placements = h.placements }
past-put S (PutPlacement p) h lawful = record { budgets = h.budgets; placements = All-put (λ (x : Placement). x.shown ≤ S.moment) placement_key p S.tables.placements lawful.past h.placements }
past-put S (PutFate number fate) h lawful = past-fate S.moment S.tables number fate (placement_of S.tables number) refl h
past-put S change h lawful = record { budgets = h.budgets; placements = h.placements }

-- the campaigns and lines that are there stay there
campaigns_stay : (S : State) (c : Campaign) → NamesAreThere S.tables → All (λ (b : BudgetSet). is_some (campaign_of (put S.tables (PutCampaign c)) b.account b.campaign) ≡ true) S.tables.budgets
unfolding put
campaigns_stay S c h =
    All-weaker (λ (b : BudgetSet). is_some (campaign_of S.tables b.account b.campaign) ≡ true) (λ (b : BudgetSet). is_some (campaign_of (put S.tables (PutCampaign c)) b.account b.campaign) ≡ true)
    (λ b there. stays_there campaign_key (b.account ∷ b.campaign ∷ []) c _ S.tables.campaigns (finds_two campaign_key (λ (k : Campaign). k.account) (λ k. k.number) b.account b.campaign (λ x. refl)) there)
    S.tables.budgets h.budgets

lines_stay : (S : State) (l : Line) → NamesAreThere S.tables → All (λ (p : Placement). is_some (line_of (put S.tables (PutLine l)) p.account p.line) ≡ true) S.tables.placements
unfolding put
lines_stay S l h =
    All-weaker (λ (p : Placement). is_some (line_of S.tables p.account p.line) ≡ true) (λ (p : Placement). is_some (line_of (put S.tables (PutLine l)) p.account p.line) ≡ true)
    (λ p there. stays_there line_key (p.account ∷ p.line ∷ []) l _ S.tables.lines (finds_two line_key (λ (k : Line). k.account) (λ k. k.number) p.account p.line (λ x. refl)) there)
    S.tables.placements h.placements

named-fate : (T : Tables) (number : ℕ) (fate : Fate) (found : Option Placement) → placement_of T number ≡ found → NamesAreThere T → NamesAreThere (put_fate T fate found)
named-fate T number fate None is h = h
named-fate T number fate (Some p) is h =
    let known = found_all (λ (x : Placement). is_some (line_of T x.account x.line) ≡ true) (λ (x : Placement). x.number == number) T.placements p h.placements is in
    record { budgets = h.budgets; placements = All-put (λ (x : Placement). is_some (line_of T x.account x.line) ≡ true) placement_key (record p { fate = fate }) T.placements known.0 h.placements }

named-put : (S : State) (change : Change) → NamesAreThere S.tables → IsLawful S change → NamesAreThere (put S.tables change)
unfolding put
named-put S (PutCampaign c) h lawful = record { budgets = campaigns_stay S c h; placements = h.placements }
named-put S (PutBudget b) h lawful =
    record { budgets = All-put (λ (x : BudgetSet). is_some (campaign_of S.tables x.account x.campaign) ≡ true) budget_key b S.tables.budgets lawful.there h.budgets; placements = h.placements }
named-put S (PutLine l) h lawful = record { budgets = h.budgets; placements = lines_stay S l h }
named-put S (PutPlacement p) h lawful =
    record { budgets = h.budgets; placements = All-put (λ (x : Placement). is_some (line_of S.tables x.account x.line) ≡ true) placement_key p S.tables.placements lawful.line h.placements }
named-put S (PutFate number fate) h lawful = named-fate S.tables number fate (placement_of S.tables number) refl h
named-put S change h lawful = record { budgets = h.budgets; placements = h.placements }

-- no campaign uses more than its budget
budgets-fate : (S : State) (number : ℕ) (fate : Fate) (found : Option Placement) → placement_of S.tables number ≡ found → StaysWithinBudgets S → IsOnward S.moment fate found
    → StaysWithinBudgets (record S { tables = put_fate S.tables fate found })
unfolding budget
budgets-fate S number fate None is h onward = h
budgets-fate S number fate (Some p) is h onward =
    let T : State = record S { tables = put_fate S.tables fate (Some p) } in
    let same : p.number ≡ number = eqb-true p.number number (found_test (λ (x : Placement). x.number == number) S.tables.placements p is) in
    used_within T (λ a c d. omega (arith, used-onward S T number p fate a c d is same onward refl refl, within_used S h a c d))

budgets-put : (S : State) (change : Change) → IsStable S → IsLawful S change → StaysWithinBudgets (changed S change)
unfolding put budget spent escrowed
budgets-put S (PutBudget b) h lawful =
    within-budget S (changed S (PutBudget b)) b h lawful refl (Ordered-from budget_key (put_row budget_key b S.tables.budgets) (StandInOrder-put S.tables (PutBudget b) h.in_order).budgets) (λ a c d. refl)
budgets-put S (PutPlacement p) h lawful =
    within-shown S (changed S (PutPlacement p)) p h lawful refl refl (next_new placement_key (λ (x : Placement). x.number) p S.tables.placements (λ x. refl) h.numbered.placements lawful.next) (λ a c d. refl)
budgets-put S (PutFate number fate) h lawful = budgets-fate S number fate (placement_of S.tables number) refl h.within_budgets lawful
budgets-put S change h lawful = h.within_budgets

pub sound_put : (S : State) (change : Change) → IsStable S → IsLawful S change → IsStable (changed S change)
sound_put S change h lawful = record {
  moment = h.moment;
  in_order = StandInOrder-put S.tables change h.in_order;
  numbered = numbered-put S change h.in_order h.numbered lawful;
  in_range = ranges-put S change h.in_range lawful;
  within_limits = limits-put S change h.within_limits lawful;
  past = past-put S change h.past lawful;
  named = named-put S change h.named lawful;
  within_budgets = budgets-put S change h lawful;
}

pub sound_put_all : (S : State) (changes : List Change) → IsStable S → AreLawful S changes → IsStable (record S { tables = put_all S.tables changes })
unfolding put_all
sound_put_all S [] h lawful = h
sound_put_all S (c ∷ cs) h lawful = sound_put_all (changed S c) cs (sound_put S c h lawful.0) lawful.1

-- as time passes, less is escrowed
pub sound_later : (S : State) (moment : ℕ) → IsStable S → IsStable (at_moment S moment)
unfolding budget
sound_later S moment h =
    let now = max S.moment (min moment MOMENT_MAX) in
    record {
      moment = omega (arith, h.moment);
      in_order = h.in_order;
      numbered = h.numbered;
      in_range = h.in_range;
      within_limits = h.within_limits;
      past = record {
        budgets = All-weaker (λ (b : BudgetSet). b.at ≤ S.moment) (λ (b : BudgetSet). b.at ≤ now) (λ b up_to. omega (arith, up_to)) S.tables.budgets h.past.budgets;
        placements = All-weaker (λ (p : Placement). p.shown ≤ S.moment) (λ (p : Placement). p.shown ≤ now) (λ p up_to. omega (arith, up_to)) S.tables.placements h.past.placements;
      };
      named = h.named;
      within_budgets = used_within (at_moment S moment) (λ a c d.
          omega (arith, within_used S h.within_budgets a c d, used-costs S a c d, used-costs (at_moment S moment) a c d, sum_by-less (cost a c d now) (cost a c d S.moment) S.tables.placements (λ p. cost-later a c d S.moment now p (omega arith))));
    }

pub sound_edition : (S : State) (edition : ℕ) → IsStable S → IsStable (record S { edition = edition })
unfolding budget spent escrowed
sound_edition S edition h = record {
  moment = h.moment;
  in_order = h.in_order;
  numbered = h.numbered;
  in_range = h.in_range;
  within_limits = h.within_limits;
  past = h.past;
  named = h.named;
  within_budgets = h.within_budgets;
}

none_in_order : {A : Type 0} (key : A → List ℕ) → AreInOrder key []
none_in_order {A} key i j d low high = absurd (omega (arith, high))

pub sound_empty : (settings : SettingsValue) → IsStable (empty settings)
unfolding budget spent escrowed
sound_empty settings = record {
  moment = omega arith;
  in_order = record {
    accounts = none_in_order account_key;
    campaigns = none_in_order campaign_key;
    budgets = none_in_order budget_key;
    lines = none_in_order line_key;
    negatives = none_in_order negative_key;
    placements = none_in_order placement_key;
    batches = none_in_order batch_key;
  };
  numbered = record { accounts = refl; campaigns = λ _. refl; lines = λ _. refl; negatives = λ _. refl; placements = refl };
  in_range = All-nil (λ l. IsInRange (ad_of l));
  within_limits = record { accounts = omega arith; campaigns = λ _. omega arith; budgets = All-nil (λ (b : BudgetSet). b.amount ≤ BUDGET_MAX) };
  past = record { budgets = All-nil (λ (b : BudgetSet). b.at ≤ 0); placements = All-nil (λ (p : Placement). p.shown ≤ 0) };
  named = record {
    budgets = All-nil (λ (b : BudgetSet). is_some (campaign_of no_rows b.account b.campaign) ≡ true);
    placements = All-nil (λ (p : Placement). is_some (line_of no_rows p.account p.line) ≡ true);
  };
  within_budgets = used_within (empty settings) (λ a c d. omega arith);
}
