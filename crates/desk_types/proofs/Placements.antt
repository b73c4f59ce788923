-- What a change does to a placement that is there: nothing, or its fate goes onward.
use Rattle.std.proofs.Common.{◌≡◌, ℕ, true, false, ◌==◌, ◌⊎◌, inl, inr, [], ◌∷◌, Option, None, Some, is_some, refl, sym, ap, subst, ◌∙◌}
use Rattle.std.proofs.lemmas.Bool.{cases_Bool, cond-true, cond-false, both_ways, eqb-true}
use Rattle.std.proofs.lemmas.Option.{same_Some}
use Rattle.desk_types.specs.declared.rows.Fate.{Fate}
use Rattle.desk_types.specs.declared.rows.Placement.{Placement}
use Rattle.desk_types.specs.declared.tables.Change.{Change}
use Rattle.desk_types.specs.declared.tables.Change.TheVariants.{PutPlacement, PutFate}
use Rattle.desk_types.specs.declared.tables.Tables.{Tables}
use Rattle.desk_types.specs.Keys.{is_same_key, placement_key}
use Rattle.desk_types.specs.State.{State}
use Rattle.desk_types.specs.Tables.{has_key, placement_of, put, put_fate}
use Rattle.desk_types.proofs.Lawful.{GoesOnward, IsLawful, IsOnward, finds_one, found_test}
use Rattle.desk_types.proofs.Numbering.{next_new}
use Rattle.desk_types.proofs.Puts.{find-put, has-find, same_key}
use Rattle.desk_types.proofs.Stable.{IsStable}

-- the placement of this number is this one, but for its fate, which is the same or went onward
pub record Remains (moment : ℕ) (T : Tables) (n : ℕ) (p : Placement) : Type 0 where
  pub now : Fate
  pub found : placement_of T n ≡ Some (record p { fate = now })
  pub goes : (now ≡ p.fate) ⊎ GoesOnward moment p now

as_it_was : (moment : ℕ) (T : Tables) (n : ℕ) (p : Placement) → placement_of T n ≡ Some p → Remains moment T n p
as_it_was moment T n p found = record { now = p.fate; found = found; goes = inl refl }

pub has_number : (T : Tables) (n : ℕ) (p : Placement) → placement_of T n ≡ Some p → p.number ≡ n
has_number T n p found = eqb-true p.number n (found_test (λ (x : Placement). x.number == n) T.placements p found)

one_part : (a x : ℕ) → a ∷ [] ≡ x ∷ [] → a ≡ x
one_part a x e = cc

remains_fate : (moment : ℕ) (T : Tables) (number : ℕ) (fate : Fate) (known : Option Placement) (n : ℕ) (p : Placement) → placement_of T number ≡ known → IsOnward moment fate known → placement_of T n ≡ Some p
    → Remains moment (put_fate T fate known) n p
remains_fate moment T number fate None n p is onward found = as_it_was moment T n p found
remains_fate moment T number fate (Some q) n p is onward found =
    let r : Placement = record q { fate = fate } in
    let test = λ (x : Placement). x.number == n in
    let now = find-put placement_key (n ∷ []) r test T.placements (finds_one placement_key (λ (x : Placement). x.number) n (λ x. refl)) in
    elim (cases_Bool (is_same_key (placement_key r) (n ∷ []))) [
      | inl t ↦
          let same : q.number ≡ n = one_part q.number n (same_key (placement_key r) (n ∷ []) t) in
          let known : placement_of T n ≡ Some q = subst (λ m. placement_of T m ≡ Some q) (sym (has_number T number q is) ∙ same) is in
          let e : q ≡ p = same_Some q p (sym known ∙ found) in
          record {
            now = fate;
            found = now ∙ cond-true _ (Some r) (placement_of T n) t ∙ ap (λ (x : Placement). Some (record x { fate = fate })) e;
            goes = inr (subst (λ (x : Placement). GoesOnward moment x fate) e onward);
          }
      | inr t ↦ as_it_was moment (put_fate T fate (Some q)) n p (now ∙ cond-false _ (Some r) (placement_of T n) t ∙ found)
    ]

remains_shown : (moment : ℕ) (T : Tables) (q : Placement) (n : ℕ) (p : Placement) → has_key placement_key (placement_key q) T.placements ≡ false → placement_of T n ≡ Some p
    → Remains moment (put T (PutPlacement q)) n p
unfolding put
remains_shown moment T q n p new found =
    let test = λ (x : Placement). x.number == n in
    let finds = finds_one placement_key (λ (x : Placement). x.number) n (λ x. refl) in
    let now = find-put placement_key (n ∷ []) q test T.placements finds in
    let there : has_key placement_key (n ∷ []) T.placements ≡ true = has-find placement_key (n ∷ []) test T.placements finds ∙ ap is_some found in
    elim (cases_Bool (is_same_key (placement_key q) (n ∷ []))) [
      | inl t ↦ absurd (both_ways _ new (subst (λ k. has_key placement_key k T.placements ≡ true) (sym (same_key (placement_key q) (n ∷ []) t)) there))
      | inr t ↦ as_it_was moment (put T (PutPlacement q)) n p (now ∙ cond-false _ (Some q) (placement_of T n) t ∙ found)
    ]

pub remains_put : (S : State) (change : Change) (n : ℕ) (p : Placement) → IsStable S → IsLawful S change → placement_of S.tables n ≡ Some p → Remains S.moment (put S.tables change) n p
unfolding put
remains_put S (PutPlacement q) n p sound lawful found =
    remains_shown S.moment S.tables q n p (next_new placement_key (λ (x : Placement). x.number) q S.tables.placements (λ x. refl) sound.numbered.placements lawful.next) found
remains_put S (PutFate number fate) n p sound lawful found = remains_fate S.moment S.tables number fate (placement_of S.tables number) n p refl lawful found
remains_put S change n p sound lawful found = as_it_was S.moment _ n p found
