-- Changes of rows that are not the account's leave the account's rows.
use Rattle.std.proofs.Common.{◌≡◌, ◌≢◌, ℕ, ◌+◌, Bool, true, false, ◌==◌, cond, inl, inr, List, [], ◌∷◌, ◌++◌, find, filter, length, map, Some, is_some, refl, sym, ap, subst, ◌∙◌, append-nil}
use Rattle.std.proofs.lemmas.Bool.{cases_Bool, cond-true, cond-false, both_ways, eqb-true, eq-eqb, ne_eqb}
use Rattle.std.proofs.lemmas.List.Elements.{filter-append}
use Rattle.std.proofs.lemmas.Option.{same_Some}
use Rattle.desk_types.specs.declared.rows.Account.{Account}
use Rattle.desk_types.specs.declared.rows.Fate.{Fate}
use Rattle.desk_types.specs.declared.rows.Placement.{Placement}
use Rattle.desk_types.specs.declared.tables.Change.TheVariants.{PutAccount, PutFate, PutPlacement}
use Rattle.desk_types.specs.declared.tables.Tables.{Tables}
use Rattle.desk_types.specs.Changes.{spot_of}
use Rattle.desk_types.specs.Keys.{account_key, is_same_key, placement_key}
use Rattle.desk_types.specs.Own.{rows_of}
use Rattle.desk_types.specs.Sound.{RunFromOne}
use Rattle.desk_types.specs.Tables.{has_key, placement_of, put, put_all, put_fate, replaced}
use Rattle.desk_types.proofs.EachRow.{Each}
use Rattle.desk_types.proofs.Lawful.{finds_one}
use Rattle.desk_types.proofs.Numbering.{next_last}
use Rattle.desk_types.proofs.Placements.{has_number}
use Rattle.desk_types.proofs.Puts.{has-find, key_same, put_there, same_key}
use Rattle.own_rows.proofs.Days.{is_of}

-- rows behind the others, none of which passes
filter-behind : {A : Type 0} (own : A → Bool) (rows more : List A) → filter own more ≡ [] → filter own (rows ++ more) ≡ filter own rows
filter-behind own rows more none = filter-append own rows more ∙ ap (λ l. filter own rows ++ l) none ∙ append-nil (filter own rows)

-- the next account is another one
pub account_left : (T : Tables) (a : Account) (k : ℕ) → RunFromOne (map (λ x. x.number) T.accounts) → a.number ≡ length T.accounts + 1 → a.number ≢ k → rows_of (put T (PutAccount a)) k ≡ rows_of T k
unfolding put
account_left T a k numbered next other =
    let mine = λ (x : Account). x.number == k in
    ap (λ rows. record (rows_of T k) { accounts = rows })
    (ap (filter mine) (next_last account_key (λ (x : Account). x.number) a T.accounts (λ x. refl) numbered next)
    ∙ filter-behind mine T.accounts (a ∷ []) (cond-false (mine a) (a ∷ []) [] (ne_eqb a.number k other)))

one_part : (a x : ℕ) → a ∷ [] ≡ x ∷ [] → a ≡ x
one_part a x e = cc

-- a placement of another account takes the place of one that is found
filter-found : (k n : ℕ) (p q : Placement) (rows : List Placement) → find (λ x. x.number == n) rows ≡ Some p → q.number ≡ n → is_of k p ≡ false → is_of k q ≡ false
    → filter (is_of k) (replaced placement_key q rows) ≡ filter (is_of k) rows
filter-found k n p q [] found is was now = refl
filter-found k n p q (x ∷ rows) found is was now =
    elim (cases_Bool (is_same_key (placement_key x) (placement_key q))) [
      | inl t ↦
          let hit : (x.number == n) ≡ true = eq-eqb x.number n (one_part x.number q.number (same_key _ _ t) ∙ is) in
          let same : x ≡ p = same_Some x p (sym (cond-true (x.number == n) (Some x) (find (λ (y : Placement). y.number == n) rows) hit) ∙ found) in
          ap (filter (is_of k)) (cond-true _ (q ∷ rows) (x ∷ replaced placement_key q rows) t) ∙ cond-false (is_of k q) (q ∷ filter (is_of k) rows) (filter (is_of k) rows) now
          ∙ sym (cond-false (is_of k x) (x ∷ filter (is_of k) rows) (filter (is_of k) rows) (ap (is_of k) same ∙ was))
      | inr t ↦
          let miss : (x.number == n) ≡ false =
          elim (cases_Bool (x.number == n)) [
            | inl s ↦ absurd (both_ways _ t (key_same (placement_key x) (placement_key q) (ap (λ m. m ∷ []) (eqb-true x.number n s ∙ sym is))))
            | inr s ↦ s
          ] in
          let later : find (λ (y : Placement). y.number == n) rows ≡ Some p = sym (cond-false (x.number == n) (Some x) (find (λ (y : Placement). y.number == n) rows) miss) ∙ found in
          ap (filter (is_of k)) (cond-false _ (q ∷ rows) (x ∷ replaced placement_key q rows) t)
          ∙ ap (λ l. cond (is_of k x) (x ∷ l) l) (filter-found k n p q rows later is was now)
    ]

fate_left : (T : Tables) (k n : ℕ) (p : Placement) (fate : Fate) → placement_of T n ≡ Some p → p.account ≢ k → rows_of (put_fate T fate (Some p)) k ≡ rows_of T k
fate_left T k n p fate found other =
    let q : Placement = record p { fate = fate } in
    let test = λ (x : Placement). x.number == n in
    let is : p.number ≡ n = has_number T n p found in
    let there : has_key placement_key (placement_key q) T.placements ≡ true =
    subst (λ m. has_key placement_key (m ∷ []) T.placements ≡ true) (sym is)
    (has-find placement_key (n ∷ []) test T.placements (finds_one placement_key (λ (x : Placement). x.number) n (λ x. refl)) ∙ ap is_some found) in
    let fails = ne_eqb p.account k other in
    ap (λ rows. record (rows_of T k) { placements = rows })
    (ap (filter (is_of k)) (put_there placement_key q T.placements there) ∙ filter-found k n p q T.placements found is fails fails)

-- the fate of another account's placement
pub fate_put_left : (T : Tables) (k n : ℕ) (p : Placement) (fate : Fate) → placement_of T n ≡ Some p → p.account ≢ k → rows_of (put T (PutFate p.number fate)) k ≡ rows_of T k
unfolding put
fate_put_left T k n p fate found other =
    let known : placement_of T p.number ≡ Some p = subst (λ m. placement_of T m ≡ Some p) (sym (has_number T n p found)) found in
    ap (λ o. rows_of (put_fate T fate o) k) known ∙ fate_left T k n p fate found other

-- placements are put beside all other rows
beside_rows : (T : Tables) (new : List Placement) → put_all T (map PutPlacement new) ≡ record T { placements = (put_all T (map PutPlacement new)).placements }
unfolding put put_all
beside_rows T [] = refl
beside_rows T (p ∷ new) = beside_rows (put T (PutPlacement p)) new

pub page_left : (T : Tables) (k : ℕ) (new : List Placement) → (put_all T (map PutPlacement new)).placements ≡ T.placements ++ new → filter (is_of k) new ≡ [] → rows_of (put_all T (map PutPlacement new)) k ≡ rows_of T k
page_left T k new put none =
    ap (λ (U : Tables). rows_of U k) (beside_rows T new)
    ∙ ap (λ rows. record (rows_of T k) { placements = rows }) (ap (filter (is_of k)) put ∙ filter-behind (is_of k) T.placements new none)

pub none_shown : (T : Tables) (k : ℕ) (new : List Placement) → Each (λ spot. spot.account ≢ k) (map (spot_of T) new) → filter (is_of k) new ≡ []
none_shown T k [] h = refl
none_shown T k (p ∷ new) h = cond-false (is_of k p) (p ∷ filter (is_of k) new) (filter (is_of k) new) (ne_eqb p.account k h.0) ∙ none_shown T k new h.1
