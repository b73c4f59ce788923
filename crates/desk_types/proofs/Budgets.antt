-- The budget of a day is that of the last setting up to it, and what it is after a setting is put.
use Rattle.std.proofs.Common.{◌≡◌, ℕ, Bool, true, false, not, ◌==◌, ◌&&◌, ◌||◌, cond, ◌⊎◌, inl, inr, List, [], ◌∷◌, find, Option, None, Some, is_some, option_map, unwrap_or, refl, sym, ap, subst, ◌∙◌, arith}
use Rattle.std.specs.Prelude.{nat_le, nat_lt}
use Rattle.std.specs.List.{list_any}
use Rattle.std.specs.Option.{option_or}
use Rattle.std.proofs.lemmas.Bool.{cases_Bool, cond-true, cond-false}
use Rattle.std.proofs.lemmas.Bool.Decides.{nat_tests}
use Rattle.desk_types.specs.declared.rows.BudgetSet.{BudgetSet}
use Rattle.desk_types.specs.Day.{day_of}
use Rattle.desk_types.specs.Keys.{budget_key, is_less_key, is_same_key}
use Rattle.desk_types.specs.Money.{budget, is_set_by}
use Rattle.desk_types.specs.State.{State}
use Rattle.desk_types.specs.Tables.{has_key, inserted, put_row, replaced}
use Rattle.desk_types.proofs.EachRow.{Each, find-none}
use Rattle.desk_types.proofs.Puts.{Ordered, put_new, put_there, same_key}

-- the last setting of the campaign up to the day
abbrev pub last_set : ℕ → ℕ → ℕ → List BudgetSet → Option BudgetSet
last_set a c d [] = None
last_set a c d (b ∷ bs) = cond (is_set_by a c d b) (option_or (last_set a c d bs) (Some b)) (last_set a c d bs)

-- whether another setting of the campaign up to the day is of a later day
abbrev is_later : ℕ → ℕ → ℕ → BudgetSet → BudgetSet → Bool
is_later a c d b other = is_set_by a c d other && nat_lt (day_of b.at) (day_of other.at)

-- of two settings of one campaign, the one behind is of a later day
pub later_day : (ba bc bd oa oc od a c d : ℕ) → is_less_key (ba ∷ bc ∷ bd ∷ []) (oa ∷ oc ∷ od ∷ []) ≡ true
    → (ba == a && (bc == c && nat_le bd d)) ≡ true → (oa == a && (oc == c && nat_le od d)) ≡ true → nat_lt bd od ≡ true
later_day ba bc bd oa oc od a c d less h k = grind (arith, nat_tests)

earlier_day : (ba bc bd oa oc od a c d : ℕ) → is_less_key (ba ∷ bc ∷ bd ∷ []) (oa ∷ oc ∷ od ∷ []) ≡ true
    → (oa == a && (oc == c && nat_le od d)) ≡ true → ((ba == a && (bc == c && nat_le bd d)) && nat_lt od bd) ≡ false
earlier_day ba bc bd oa oc od a c d less h = grind (arith, nat_tests)

no_later_self : (a c d : ℕ) (b : BudgetSet) → is_later a c d b b ≡ false
no_later_self a c d b = grind (arith, nat_tests)

or_some : (o : Option BudgetSet) (b : BudgetSet) → is_some (option_or o (Some b)) ≡ true
or_some None b = refl
or_some (Some m) b = refl

-- behind a setting of the campaign, each other one is of a later day
any_later : (a c d : ℕ) (b : BudgetSet) (bs : List BudgetSet) → is_set_by a c d b ≡ true → Each (λ s. is_less_key (budget_key b) (budget_key s) ≡ true) bs
    → list_any (is_later a c d b) bs ≡ is_some (last_set a c d bs)
any_later a c d b [] set order = refl
any_later a c d b (o ∷ bs) set order =
    elim (cases_Bool (is_set_by a c d o)) [
      | inl t ↦
          let later : is_later a c d b o ≡ true =
          (λ i. t i && later_day b.account b.campaign (day_of b.at) o.account o.campaign (day_of o.at) a c d order.0 set t i) in
          ap (λ x. x || list_any (is_later a c d b) bs) later
          ∙ sym (ap is_some (cond-true _ (option_or (last_set a c d bs) (Some o)) (last_set a c d bs) t) ∙ or_some (last_set a c d bs) o)
      | inr t ↦
          ap (λ x. (x && nat_lt (day_of b.at) (day_of o.at)) || list_any (is_later a c d b) bs) t ∙ any_later a c d b bs set order.1
          ∙ sym (ap is_some (cond-false _ (option_or (last_set a c d bs) (Some o)) (last_set a c d bs) t))
    ]

find-agree_each : (p q : BudgetSet → Bool) (bs : List BudgetSet) → Each (λ b. p b ≡ q b) bs → find p bs ≡ find q bs
find-agree_each p q [] h = refl
find-agree_each p q (b ∷ bs) h = (λ i. cond (h.0 i) (Some b) (find-agree_each p q bs h.1 i))

abbrev is_chosen : ℕ → ℕ → ℕ → List BudgetSet → BudgetSet → Bool
is_chosen a c d bs b = is_set_by a c d b && not (list_any (is_later a c d b) bs)

chosen_agree : (a c d : ℕ) (b : BudgetSet) (all bs : List BudgetSet) → Each (λ s. is_less_key (budget_key b) (budget_key s) ≡ true) bs
    → Each (λ x. is_chosen a c d (b ∷ all) x ≡ is_chosen a c d all x) bs
chosen_agree a c d b all [] order = tt
chosen_agree a c d b all (x ∷ bs) order = (
  elim (cases_Bool (is_set_by a c d x)) [
    | inl t ↦
        let early : is_later a c d x b ≡ false = earlier_day b.account b.campaign (day_of b.at) x.account x.campaign (day_of x.at) a c d order.0 t in
        (λ i. is_set_by a c d x && not (early i || list_any (is_later a c d x) all))
    | inr t ↦
        ap (λ s. s && not (list_any (is_later a c d x) (b ∷ all))) t ∙ sym (ap (λ s. s && not (list_any (is_later a c d x) all)) t)
  ],
  chosen_agree a c d b all bs order.1,
)

choose : (o : Option BudgetSet) (b : BudgetSet) → cond (not (is_some o)) (Some b) o ≡ option_or o (Some b)
choose None b = refl
choose (Some m) b = refl

last_is : (a c d : ℕ) (bs : List BudgetSet) → Ordered budget_key bs → find (is_chosen a c d bs) bs ≡ last_set a c d bs
last_is a c d [] order = refl
last_is a c d (b ∷ bs) order =
    let tail : find (is_chosen a c d (b ∷ bs)) bs ≡ last_set a c d bs =
    find-agree_each (is_chosen a c d (b ∷ bs)) (is_chosen a c d bs) bs (chosen_agree a c d b bs bs order.0) ∙ last_is a c d bs order.1 in
    elim (cases_Bool (is_set_by a c d b)) [
      | inl t ↦
          let head : is_chosen a c d (b ∷ bs) b ≡ not (is_some (last_set a c d bs)) =
          (λ i. t i && not (no_later_self a c d b i || any_later a c d b bs t order.0 i)) in
          (λ i. cond (head i) (Some b) (tail i)) ∙ choose (last_set a c d bs) b ∙ sym (cond-true _ (option_or (last_set a c d bs) (Some b)) (last_set a c d bs) t)
      | inr t ↦
          cond-false _ (Some b) (find (is_chosen a c d (b ∷ bs)) bs) (ap (λ s. s && not (list_any (is_later a c d b) (b ∷ bs))) t) ∙ tail
          ∙ sym (cond-false _ (option_or (last_set a c d bs) (Some b)) (last_set a c d bs) t)
    ]

-- after a setting is put the last one is the same, or it is that
abbrev Same : ℕ → ℕ → ℕ → BudgetSet → List BudgetSet → List BudgetSet → Type 0
Same a c d new bs cs = (last_set a c d cs ≡ last_set a c d bs) ⊎ ((last_set a c d cs ≡ Some new) × (is_set_by a c d new ≡ true))

key_parts : (a b c x y z : ℕ) → a ∷ b ∷ c ∷ [] ≡ x ∷ y ∷ z ∷ [] → (a ≡ x) × (b ≡ y) × (c ≡ z)
key_parts a b c x y z e = (cc, cc, cc)

set_alike : (a c d : ℕ) (b new : BudgetSet) → is_same_key (budget_key b) (budget_key new) ≡ true → is_set_by a c d b ≡ is_set_by a c d new
set_alike a c d b new same =
    let e = key_parts b.account b.campaign (day_of b.at) new.account new.campaign (day_of new.at) (same_key (budget_key b) (budget_key new) same) in
    (λ i. e.0 i == a && (e.1 i == c && nat_le (e.2 i) d))

-- the setting that is put is the last of the rest, or the rest has a last one
behind : (a c d : ℕ) (new : BudgetSet) (o : Option BudgetSet)
    → (cond (is_set_by a c d new) (option_or o (Some new)) o ≡ o) ⊎ ((cond (is_set_by a c d new) (option_or o (Some new)) o ≡ Some new) × (is_set_by a c d new ≡ true))
behind a c d new (Some m) = inl (elim (is_set_by a c d new) as (λ x. cond x (option_or (Some m) (Some new)) (Some m) ≡ Some m) [ true ↦ refl | false ↦ refl ])
behind a c d new None =
    elim (cases_Bool (is_set_by a c d new)) [
      | inl t ↦ inr (cond-true _ (option_or None (Some new)) None t, t)
      | inr t ↦ inl (cond-false _ (option_or None (Some new)) None t)
    ]

either_last : (o : Option BudgetSet) (b new : BudgetSet) → (option_or o (Some new) ≡ option_or o (Some b)) ⊎ (option_or o (Some new) ≡ Some new)
either_last None b new = inr refl
either_last (Some m) b new = inl refl

keeps_new : (x : Bool) (b new : BudgetSet) → cond x (option_or (Some new) (Some b)) (Some new) ≡ Some new
keeps_new true b new = refl
keeps_new false b new = refl

in_place : (a c d : ℕ) (new b : BudgetSet) (bs : List BudgetSet) → is_same_key (budget_key b) (budget_key new) ≡ true → Same a c d new (b ∷ bs) (new ∷ bs)
in_place a c d new b bs same =
    let o = last_set a c d bs in
    let alike = set_alike a c d b new same in
    elim (cases_Bool (is_set_by a c d new)) [
      | inl t ↦
          let now = cond-true _ (option_or o (Some new)) o t in
          let before = cond-true _ (option_or o (Some b)) o (alike ∙ t) in
          elim (either_last o b new) [
            | inl e ↦ inl (now ∙ e ∙ sym before)
            | inr e ↦ inr (now ∙ e, t)
          ]
      | inr t ↦ inl (cond-false _ (option_or o (Some new)) o t ∙ sym (cond-false _ (option_or o (Some b)) o (alike ∙ t)))
    ]

under : (a c d : ℕ) (new b : BudgetSet) (bs cs : List BudgetSet) → Same a c d new bs cs → Same a c d new (b ∷ bs) (b ∷ cs)
under a c d new b bs cs (inl e) = inl (ap (λ o. cond (is_set_by a c d b) (option_or o (Some b)) o) e)
under a c d new b bs cs (inr e) = inr (ap (λ o. cond (is_set_by a c d b) (option_or o (Some b)) o) e.0 ∙ keeps_new (is_set_by a c d b) b new, e.1)

last-replaced : (a c d : ℕ) (new : BudgetSet) (bs : List BudgetSet) → Same a c d new bs (replaced budget_key new bs)
last-replaced a c d new [] = inl refl
last-replaced a c d new (b ∷ bs) =
    elim (cases_Bool (is_same_key (budget_key b) (budget_key new))) [
      | inl t ↦ subst (Same a c d new (b ∷ bs)) (sym (cond-true _ (new ∷ bs) (b ∷ replaced budget_key new bs) t)) (in_place a c d new b bs t)
      | inr t ↦ subst (Same a c d new (b ∷ bs)) (sym (cond-false _ (new ∷ bs) (b ∷ replaced budget_key new bs) t)) (under a c d new b bs _ (last-replaced a c d new bs))
    ]

last-inserted : (a c d : ℕ) (new : BudgetSet) (bs : List BudgetSet) → Same a c d new bs (inserted budget_key new bs)
last-inserted a c d new [] = behind a c d new None
last-inserted a c d new (b ∷ bs) =
    elim (cases_Bool (is_less_key (budget_key new) (budget_key b))) [
      | inl t ↦ subst (Same a c d new (b ∷ bs)) (sym (cond-true _ (new ∷ b ∷ bs) (b ∷ inserted budget_key new bs) t)) (behind a c d new (last_set a c d (b ∷ bs)))
      | inr t ↦ subst (Same a c d new (b ∷ bs)) (sym (cond-false _ (new ∷ b ∷ bs) (b ∷ inserted budget_key new bs) t)) (under a c d new b bs _ (last-inserted a c d new bs))
    ]

last-put : (a c d : ℕ) (new : BudgetSet) (bs : List BudgetSet) → Same a c d new bs (put_row budget_key new bs)
last-put a c d new bs =
    elim (cases_Bool (has_key budget_key (budget_key new) bs)) [
      | inl t ↦ subst (Same a c d new bs) (sym (put_there budget_key new bs t)) (last-replaced a c d new bs)
      | inr t ↦ subst (Same a c d new bs) (sym (put_new budget_key new bs t)) (last-inserted a c d new bs)
    ]

abbrev amount_of : Option BudgetSet → ℕ
amount_of o = unwrap_or (option_map (λ b. b.amount) o) 0

pub budget-last : (S : State) (a c d : ℕ) → Ordered budget_key S.tables.budgets → budget S a c d ≡ amount_of (last_set a c d S.tables.budgets)
unfolding budget
budget-last S a c d order = ap amount_of (last_is a c d S.tables.budgets order)

-- after a setting is put each budget is as before, or the setting's amount, from its day on
pub budget-put : (S T : State) (new : BudgetSet) (a c d : ℕ) → T.tables.budgets ≡ put_row budget_key new S.tables.budgets → Ordered budget_key S.tables.budgets → Ordered budget_key T.tables.budgets
    → (budget T a c d ≡ budget S a c d) ⊎ ((budget T a c d ≡ new.amount) × (is_set_by a c d new ≡ true))
budget-put S T new a c d is before after =
    let now = budget-last T a c d after ∙ ap (λ bs. amount_of (last_set a c d bs)) is in
    elim (last-put a c d new S.tables.budgets) [
      | inl e ↦ inl (now ∙ ap amount_of e ∙ sym (budget-last S a c d before))
      | inr e ↦ inr (now ∙ ap amount_of e.0, e.1)
    ]

not_chosen : (a c d : ℕ) (all bs : List BudgetSet) → Each (λ b. is_set_by a c d b ≡ false) bs → Each (λ b. is_chosen a c d all b ≡ false) bs
not_chosen a c d all [] h = tt
not_chosen a c d all (b ∷ bs) h = (ap (λ x. x && not (list_any (is_later a c d b) all)) h.0, not_chosen a c d all bs h.1)

-- a campaign without settings has no budget
pub budget-none : (S : State) (a c d : ℕ) → Each (λ b. is_set_by a c d b ≡ false) S.tables.budgets → budget S a c d ≡ 0
unfolding budget
budget-none S a c d none = ap amount_of (find-none (is_chosen a c d S.tables.budgets) S.tables.budgets (not_chosen a c d S.tables.budgets S.tables.budgets none))
