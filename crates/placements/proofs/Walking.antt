-- The walk from a placement of an account back to one of a day.
use Rattle.std.proofs.Common.{◌≡◌, ℕ, ◌-◌, ◌<◌, ◌≤◌, ◌==◌, ◌&&◌, Bool, true, false, inl, inr, List, [], ◌∷◌, length, get_or, refl, sym, ap, subst, ◌∙◌, arith}
use Rattle.std.specs.List.{AllPairs, AllWithin}
use Rattle.std.proofs.lemmas.Bool.{cases_eq, cases_lt, eq-eqb, eqb-true, ne_eqb}
use Rattle.std.proofs.lemmas.List.{get_or_default, get_or_read}
use Rattle.desk_types.specs.declared.rows.Placement.{Placement}
use Rattle.desk_types.specs.Day.{day_of}
use Rattle.placements.specs.Linked.{AreKept, IsLast, is_of, is_of_day}

-- none of the account's placements behind this one is of the day, and it is the account's; 0 where none is left
pub record IsSoFar (account day number bound : ℕ) (rows : List Placement) : Type 0 where
  pub within : number ≤ bound
  pub own : 0 < number → (d : Placement) → is_of account (get_or rows (number - 1) d) ≡ true
  pub none_behind : AllWithin (λ p. is_of_day account day p ≡ false) rows number bound

other_account : (a b : Bool) → a ≡ false → (a && b) ≡ false
other_account true b h = absurd cc
other_account false b h = refl

other_day : (a b : Bool) → b ≡ false → (a && b) ≡ false
other_day true b h = h
other_day false b h = refl

both_pass : (a b : Bool) → a ≡ true → b ≡ true → (a && b) ≡ true
both_pass true b h k = k
both_pass false b h k = absurd cc

pub so_far_first : (account day number bound : ℕ) (rows : List Placement) → IsLast (is_of account) number bound rows → IsSoFar account day number bound rows
so_far_first account day number bound rows h = record {
  within = h.within;
  own = h.passes;
  none_behind = λ k d from below. other_account _ (day_of (get_or rows k d).shown == day) (h.none_behind k d from below);
}

-- a step further back, past a placement of a later day
pub so_far_more : (account day number earlier bound : ℕ) (rows : List Placement) (p : Placement) → IsSoFar account day number bound rows → 0 < number → p ≡ get_or rows (number - 1) p → number ≤ length rows
    → (day_of p.shown ≡ day → ⊥) → IsLast (is_of p.account) earlier (number - 1) rows → IsSoFar account day earlier bound rows
so_far_more account day number earlier bound rows p h some at within apart link =
    let own : p.account ≡ account = eqb-true p.account account (subst (λ (q : Placement). is_of account q ≡ true) (sym at) (h.own some p)) in
    let before : IsLast (is_of account) earlier (number - 1) rows = subst (λ n. IsLast (is_of n) earlier (number - 1) rows) own link in
    record {
      within = omega (arith, before.within, h.within);
      own = before.passes;
      none_behind = λ k d from below. elim (cases_lt k (number - 1)) [
        | inl low ↦ other_account _ (day_of (get_or rows k d).shown == day) (before.none_behind k d from low)
        | inr high ↦ elim (cases_eq k (number - 1)) [
          | inl here ↦
              let is : p ≡ get_or rows k d = get_or_read rows (number - 1) p (omega (arith, some, within)) at d ∙ ap (λ n. get_or rows n d) (sym here) in
              other_day (is_of account (get_or rows k d)) _ (subst (λ (q : Placement). (day_of q.shown == day) ≡ false) is (ne_eqb (day_of p.shown) day apart))
          | inr above ↦ h.none_behind k d (omega (arith, high, above, some)) below
        ]
      ];
    }

-- this one is of the day
pub so_far_here : (account day number bound : ℕ) (rows : List Placement) (p : Placement) → IsSoFar account day number bound rows → 0 < number → p ≡ get_or rows (number - 1) p → number ≤ length rows
    → day_of p.shown ≡ day → IsLast (is_of_day account day) number bound rows
so_far_here account day number bound rows p h some at within is = record {
  within = h.within;
  passes = λ _ d.
      let same : p ≡ get_or rows (number - 1) d = get_or_read rows (number - 1) p (omega (arith, some, within)) at d in
      both_pass (is_of account (get_or rows (number - 1) d)) _ (h.own some d) (subst (λ (q : Placement). (day_of q.shown == day) ≡ true) same (eq-eqb (day_of p.shown) day is));
  none_behind = h.none_behind;
}

earlier_day : (day shown moment : ℕ) → shown ≤ moment → day_of moment < day → day_of shown ≡ day → ⊥
earlier_day day shown moment low before is = omega (arith, low, before, is)

-- this one is of an earlier day, and so are all before it
pub so_far_past : (account day number bound : ℕ) (rows : List Placement) (p : Placement) → IsSoFar account day number bound rows → 0 < number → p ≡ get_or rows (number - 1) p → number ≤ length rows
    → AllPairs (λ (q later : Placement). q.shown ≤ later.shown) rows → day_of p.shown < day → IsLast (is_of_day account day) 0 bound rows
so_far_past account day number bound rows p h some at within order before = record {
  within = omega arith;
  passes = λ none d. absurd (omega (arith, none));
  none_behind = λ k d from below. elim (cases_lt k number) [
    | inl low ↦
        let last : p ≡ get_or rows (number - 1) d = get_or_read rows (number - 1) p (omega (arith, some, within)) at d in
        let shown : (get_or rows k d).shown ≤ p.shown =
        elim (cases_eq k (number - 1)) [
          | inl here ↦ let is : (get_or rows k d).shown ≡ p.shown = ap (λ n. (get_or rows n d).shown) here ∙ ap (λ (q : Placement). q.shown) (sym last) in omega (arith, is)
          | inr apart ↦
              let le : (get_or rows k d).shown ≤ (get_or rows (number - 1) d).shown = order k (number - 1) d (omega (arith, low, apart)) (omega (arith, some, within)) in
              let is : (get_or rows (number - 1) d).shown ≡ p.shown = ap (λ (q : Placement). q.shown) (sym last) in
              omega (arith, le, is)
        ] in
        other_day (is_of account (get_or rows k d)) _ (ne_eqb (day_of (get_or rows k d).shown) day (earlier_day day (get_or rows k d).shown p.shown shown before))
    | inr high ↦ h.none_behind k d high below
  ];
}

-- none is left
pub so_far_end : (account day number bound : ℕ) (rows : List Placement) → IsSoFar account day number bound rows → number ≤ 0 → IsLast (is_of_day account day) 0 bound rows
so_far_end account day number bound rows h none = record {
  within = omega arith;
  passes = λ some d. absurd (omega (arith, some));
  none_behind = λ k d from below. h.none_behind k d (omega (arith, none)) below;
}

-- what is kept for a row is the last one before it of its account
pub link_of : (rows : List Placement) (before : List ℕ) (last : ℕ → ℕ) (number earlier : ℕ) (p : Placement) → AreKept rows before last → 0 < number → number ≤ length rows → p ≡ get_or rows (number - 1) p
    → earlier ≡ get_or before (number - 1) earlier → IsLast (is_of p.account) earlier (number - 1) rows
link_of rows before last number earlier p kept some within at link =
    let low : number - 1 < length rows = omega (arith, some, within) in
    let is : earlier ≡ get_or before (number - 1) 0 = get_or_read before (number - 1) earlier (omega (arith, low, kept.linked.count)) link 0 in
    subst (λ n. IsLast (is_of p.account) n (number - 1) rows) (sym is)
    (subst (λ (q : Placement). IsLast (is_of q.account) (get_or before (number - 1) 0) (number - 1) rows) (sym at) (kept.linked.each (number - 1) p low))

pub link_within : (rows : List Placement) (before : List ℕ) (last : ℕ → ℕ) (number earlier : ℕ) → AreKept rows before last → 0 < number → number ≤ length rows → earlier ≡ get_or before (number - 1) earlier → earlier ≤ number - 1
link_within [] before last number earlier kept some within link = absurd (omega (arith, some, within))
link_within (r ∷ rows) before last number earlier kept some within link =
    let p = get_or (r ∷ rows) (number - 1) r in
    let at : p ≡ get_or (r ∷ rows) (number - 1) p = get_or_default (r ∷ rows) (number - 1) r p (omega (arith, some, within)) in
    (link_of (r ∷ rows) before last number earlier p kept some within at link).within

-- the same for an account that the row is of
pub link_own : (rows : List Placement) (before : List ℕ) (last : ℕ → ℕ) (number earlier account : ℕ) (d : Placement) → AreKept rows before last → 0 < number → number ≤ length rows → earlier ≡ get_or before (number - 1) earlier
    → is_of account (get_or rows (number - 1) d) ≡ true → IsLast (is_of account) earlier (number - 1) rows
link_own rows before last number earlier account d kept some within link own =
    let p = get_or rows (number - 1) d in
    let at : p ≡ get_or rows (number - 1) p = get_or_default rows (number - 1) d p (omega (arith, some, within)) in
    subst (λ n. IsLast (is_of n) earlier (number - 1) rows) (eqb-true p.account account own) (link_of rows before last number earlier p kept some within at link)
