-- A placement that is credited again changes no row and is answered as before.
use Rattle.std.proofs.Common.{◌≡◌, ℕ, false, ◌==◌, inl, inr, List, [], ◌∷◌, Option, None, Some, is_none, option_map, unwrap_or, refl, sym, ap, subst, ◌∙◌}
use Rattle.std.specs.Prelude.{nat_lt}
use Rattle.std.proofs.lemmas.Bool.{and_parts, both_ways}
use Rattle.desk_types.specs.declared.call.Call.TheVariants.{Credit}
use Rattle.desk_types.specs.declared.entry.Entry.{Entry}
use Rattle.desk_types.specs.declared.refusal.Refusal.{Refusal}
use Rattle.desk_types.specs.declared.refusal.Refusal.TheVariants.{NoPlacement, NotSettled}
use Rattle.desk_types.specs.declared.reply.Reply.TheVariants.{Credited}
use Rattle.desk_types.specs.declared.rows.Fate.{Fate}
use Rattle.desk_types.specs.declared.rows.Fate.TheVariants as became
use Rattle.desk_types.specs.declared.rows.Placement.{Placement}
use Rattle.desk_types.specs.declared.tables.Change.{Change}
use Rattle.desk_types.specs.declared.tables.Tables.{Tables}
use Rattle.desk_types.specs.Changes.{changes, credit_of, credit_on, raises_edition, reply}
use Rattle.desk_types.specs.Judged.{first, is_unsettled, judged, refusals, when}
use Rattle.desk_types.specs.Keys.{placement_key}
use Rattle.desk_types.specs.LedgerLaws.{RepliesAlone}
use Rattle.desk_types.specs.Money.{is_open}
use Rattle.desk_types.specs.Run.{run}
use Rattle.desk_types.specs.State.{State}
use Rattle.desk_types.specs.Step.{accepted, answered, at_moment, step}
use Rattle.desk_types.specs.Tables.{placement_of, put, put_all, put_fate}
use Rattle.desk_types.proofs.Accepting.{none_holds, not_when}
use Rattle.desk_types.proofs.Histories.{sound_step}
use Rattle.desk_types.proofs.Lasting.{Lasts, lasts_run}
use Rattle.desk_types.proofs.Lawful.{GoesOnward, IsLawful, finds_one}
use Rattle.desk_types.proofs.Placements.{has_number, remains_put}
use Rattle.desk_types.proofs.Puts.{FindsKey, find-put_same}
use Rattle.desk_types.proofs.Stable.{IsStable}

-- the placement of this number is credited, and has this price
record IsCredited (T : Tables) (n price : ℕ) : Type 0 where
  p : Placement
  settled : ℕ
  credited : ℕ
  found : placement_of T n ≡ Some p
  fate_is : p.fate ≡ became.Credited settled credited
  price_is : p.price ≡ price

-- such a credit is accepted, and changes nothing
credit_judged : (S : State) (n price : ℕ) → IsCredited S.tables n price → judged S (Credit n) ≡ None
unfolding refusals
credit_judged S n price h =
    ap (λ o. first (when (is_none o) NoPlacement ∷ when (is_unsettled o) NotSettled ∷ [])) h.found ∙ ap (λ f. first (when (is_open f) NotSettled ∷ [])) h.fate_is

credit_same : (S : State) (n price : ℕ) → IsCredited S.tables n price → accepted S (Credit n) ≡ S
unfolding accepted changes raises_edition put_all
credit_same S n price h =
    ap (λ o. record S { tables = put_all S.tables (credit_of S.moment o) }) h.found ∙ ap (λ f. record S { tables = put_all S.tables (credit_on S.moment h.p.number f) }) h.fate_is

credit_reply : (S : State) (n : ℕ) (p : Placement) → placement_of S.tables n ≡ Some p → reply S (Credit n) ≡ Credited p.price
unfolding reply
credit_reply S n p found = ap (λ o. Credited (unwrap_or (option_map (λ (x : Placement). x.price) o) 0)) found

credit_again : (S : State) (moment n price : ℕ) → IsCredited S.tables n price → RepliesAlone S moment (Credit n) (Credited price)
unfolding step
credit_again S moment n price h =
    let now = at_moment S moment in
    let judgement = credit_judged now n price h in
    let same : (answered now (Credit n) (judged now (Credit n))).state ≡ now = ap (λ j. (answered now (Credit n) j).state) judgement ∙ credit_same now n price h in
    record {
      rows = same ∙ (λ i. record S { moment = (sym same i).moment });
      reply = ap (λ j. (answered now (Credit n) j).reply) judgement ∙ credit_reply now n h.p h.found ∙ ap Credited h.price_is;
    }

-- after an accepted credit the placement is credited
credited_price : (one other : ℕ) → Credited one ≡ Credited other → one ≡ other
credited_price one other h = cc

credited_rows : (S : State) (n price : ℕ) (p : Placement) (fate : Fate) → placement_of S.tables n ≡ Some p → p.fate ≡ fate → is_open fate ≡ false → p.price ≡ price
    → IsCredited (put_all S.tables (credit_on S.moment p.number fate)) n price
unfolding put_all put
credited_rows S n price p became.Open found is closed price_is = absurd cc
credited_rows S n price p (became.Settled at) found is closed price_is =
    let q : Placement = record p { fate = became.Credited at S.moment } in
    let same : p.number ≡ n = has_number S.tables n p found in
    let test = λ (x : Placement). x.number == n in
    let finds : FindsKey placement_key (placement_key q) test =
    subst (λ m. FindsKey placement_key (m ∷ []) test) (sym same) (finds_one placement_key (λ (x : Placement). x.number) n (λ x. refl)) in
    let rows : put_fate S.tables (became.Credited at S.moment) (placement_of S.tables p.number) ≡ put_fate S.tables (became.Credited at S.moment) (Some p) =
    ap (put_fate S.tables (became.Credited at S.moment)) (subst (λ m. placement_of S.tables m ≡ Some p) (sym same) found) in
    record {
      p = q;
      settled = at;
      credited = S.moment;
      found = ap (λ (U : Tables). placement_of U n) rows ∙ find-put_same placement_key q test S.tables.placements finds;
      fate_is = refl;
      price_is = price_is;
    }
credited_rows S n price p (became.Credited settled credited) found is closed price_is =
    record { p = p; settled = settled; credited = credited; found = found; fate_is = is; price_is = price_is }

credited_after : (S : State) (n price : ℕ) (known : Option Placement) → placement_of S.tables n ≡ known → judged S (Credit n) ≡ None → reply S (Credit n) ≡ Credited price
    → IsCredited (accepted S (Credit n)).tables n price
unfolding accepted changes refusals
credited_after S n price None is accepts answers =
    let none = none_holds (refusals S (Credit n)) accepts in
    absurd (both_ways _ (not_when _ _ none.0) (ap is_none is))
credited_after S n price (Some p) is accepts answers =
    let none = none_holds (refusals S (Credit n)) accepts in
    let closed : is_open p.fate ≡ false = ap is_unsettled (sym is) ∙ not_when _ _ none.1.0 in
    let price_is = credited_price p.price price (sym (credit_reply S n p is) ∙ answers) in
    subst (λ o. IsCredited (put_all S.tables (credit_of S.moment o)) n price) (sym is) (credited_rows S n price p p.fate is refl closed price_is)

credited_answered : (S : State) (n price : ℕ) (judgement : Option Refusal) → judged S (Credit n) ≡ judgement → (answered S (Credit n) judgement).reply ≡ Credited price
    → IsCredited (answered S (Credit n) judgement).state.tables n price
credited_answered S n price (Some refusal) is answers = absurd cc
credited_answered S n price None is answers = credited_after S n price (placement_of S.tables n) refl is answers

credited_first : (S : State) (moment n price : ℕ) → (step S moment (Credit n)).reply ≡ Credited price → IsCredited (step S moment (Credit n)).state.tables n price
unfolding step
credited_first S moment n price answers = credited_answered (at_moment S moment) n price (judged (at_moment S moment) (Credit n)) refl answers

pub credited_again : (S : State) (first second n price : ℕ) → (step S first (Credit n)).reply ≡ Credited price → RepliesAlone (step S first (Credit n)).state second (Credit n) (Credited price)
credited_again S first second n price answers = credit_again (step S first (Credit n)).state second n price (credited_first S first n price answers)

-- a credited placement goes no further
no_further : (moment : ℕ) (p : Placement) (now : Fate) (settled credited : ℕ) → p.fate ≡ became.Credited settled credited → GoesOnward moment p now → ⊥
no_further moment p became.Open settled credited is onward = onward
no_further moment p (became.Settled at) settled credited is onward = both_ways (is_open p.fate) (ap is_open is) (and_parts (is_open p.fate) (nat_lt moment p.deadline) onward).0
no_further moment p (became.Credited before at) settled credited is onward =
    let no : became.Credited settled credited ≡ became.Settled before = sym is ∙ onward in
    cc

credited_put : (S : State) (change : Change) (n price : ℕ) → IsStable S → IsLawful S change → IsCredited S.tables n price → IsCredited (put S.tables change) n price
credited_put S change n price sound lawful h =
    let stays = remains_put S change n h.p sound lawful h.found in
    elim (stays.goes) [
      | inl same ↦
          record { p = record h.p { fate = stays.now }; settled = h.settled; credited = h.credited; found = stays.found; fate_is = same ∙ h.fate_is; price_is = h.price_is }
      | inr onward ↦ absurd (no_further S.moment h.p stays.now h.settled h.credited h.fate_is onward)
    ]

credited_lasts : (n price : ℕ) → Lasts (λ S. IsCredited S.tables n price)
credited_lasts n price = record {
  put = λ S change sound lawful h. credited_put S change n price sound lawful h;
  later = λ S moment h. h;
  edition = λ S edition h. h;
}

pub credited_later : (S : State) (between : List Entry) (first second n price : ℕ) → IsStable S → (step S first (Credit n)).reply ≡ Credited price
    → RepliesAlone (run (step S first (Credit n)).state between) second (Credit n) (Credited price)
credited_later S between first second n price sound answers =
    let S1 : State = (step S first (Credit n)).state in
    credit_again (run S1 between) second n price
    (lasts_run (λ T. IsCredited T.tables n price) S1 between (credited_lasts n price) (sound_step S first (Credit n) sound) (credited_first S first n price answers))
