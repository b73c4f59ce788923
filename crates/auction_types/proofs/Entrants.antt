-- The entrants are the best ad of each account.
use Rattle.std.proofs.Common.{◌≡◌, Bool, true, false, ◌==◌, ◌&&◌, ◌||◌, ◌⊎◌, inl, inr, List, [], ◌∷◌, refl, sym, ap, subst, ◌∙◌}
use Rattle.std.specs.List.{filter, list_any, All}
use Rattle.std.proofs.lemmas.Bool.{cases_Bool, cond-true, cond-false, both_ways, not-true, not_from_false, and_parts, and_from, or_left, or_right, eqb-true, eq-eqb, false_from_ne_true}
use Rattle.std.proofs.lemmas.List.Elements.{All-contains}
use Rattle.auction_types.specs.AdValue.{AdValue, IsInRange, is_same_ad}
use Rattle.auction_types.specs.Order.{better}
use Rattle.auction_types.specs.Page.{distinct, is_best_of_account, entrants}
use Rattle.auction_types.specs.Laws.{AreBestOfAccounts}
use Rattle.auction_types.proofs.AdLemmas.{is_same_ad-true, is_same_ad-refl}
use Rattle.auction_types.proofs.OrderLemmas.{better-irreflexive, better-trans, same_if_neither}
use Rattle.auction_types.proofs.Members.{Has, Has-from_Contains, Contains-from_Has, Has-filter, Has-filtered}
use Rattle.auction_types.proofs.Accounts.{AreApart, AreOfDifferentAccounts-from}

pub list_any-Has : (p : AdValue → Bool) (xs : List AdValue) (x : AdValue) → Has xs x → p x ≡ true → list_any p xs ≡ true
list_any-Has p [] x h t = elim h [ ]
list_any-Has p (y ∷ ys) x (inl is) t = or_left (p y) (list_any p ys) (ap p is ∙ t)
list_any-Has p (y ∷ ys) x (inr h) t = or_right (p y) (list_any p ys) (list_any-Has p ys x h t)

pub list_any-none : (p : AdValue → Bool) (xs : List AdValue) → list_any p xs ≡ false → (x : AdValue) → Has xs x → p x ≡ false
list_any-none p xs none x h = false_from_ne_true (p x) (λ t. both_ways (list_any p xs) none (list_any-Has p xs x h t))

pub list_any-passing : (p : AdValue → Bool) (xs : List AdValue) → list_any p xs ≡ true → (x : AdValue) × Has xs x × (p x ≡ true)
list_any-passing p [] h = absurd (both_ways false refl h)
list_any-passing p (y ∷ ys) h =
    elim (cases_Bool (p y)) [
      | inl passes ↦ (y, inl refl, passes)
      | inr fails ↦
          let rest : list_any p ys ≡ true = ap (λ b. b || list_any p ys) (sym fails) ∙ h in
          let r = list_any-passing p ys rest in
          (r.0, inr r.1, r.2)
    ]

-- what is distinct has the same members
pub Has-distinct : (xs : List AdValue) (x : AdValue) → Has (distinct xs) x → Has xs x
unfolding distinct
Has-distinct [] x h = h
Has-distinct (y ∷ ys) x h =
    elim (cases_Bool (list_any (is_same_ad y) ys)) [
      | inl again ↦ inr (Has-distinct ys x (subst (λ zs. Has zs x) (cond-true _ (distinct ys) (y ∷ distinct ys) again) h))
      | inr last ↦
          elim (subst (λ zs. Has zs x) (cond-false _ (distinct ys) (y ∷ distinct ys) last) h) [
            | inl is ↦ inl is
            | inr k ↦ inr (Has-distinct ys x k)
          ]
    ]

pub distinct-Has : (xs : List AdValue) (x : AdValue) → Has xs x → Has (distinct xs) x
unfolding distinct
distinct-Has [] x h = h
distinct-Has (y ∷ ys) x h =
    elim (cases_Bool (list_any (is_same_ad y) ys)) [
      | inl again ↦ subst (λ zs. Has zs x) (sym (cond-true _ (distinct ys) (y ∷ distinct ys) again)) (distinct-Has ys x (
          let r = list_any-passing (is_same_ad y) ys again in
          elim h [
            | inl is ↦ subst (Has ys) (sym (is_same_ad-true y r.0 r.2) ∙ is) r.1
            | inr k ↦ k
          ]))
      | inr last ↦ subst (λ zs. Has zs x) (sym (cond-false _ (distinct ys) (y ∷ distinct ys) last)) (
          elim h [ inl is ↦ inl is | inr k ↦ inr (distinct-Has ys x k) ])
    ]

-- where ads of one account are equal, the distinct ones are of different accounts
distinct-apart : (xs : List AdValue) → ((x y : AdValue) → Has xs x → Has xs y → x.account ≡ y.account → x ≡ y) → AreApart (distinct xs)
unfolding distinct
distinct-apart [] h = tt
distinct-apart (y ∷ ys) h =
    let rest = distinct-apart ys (λ v w kv kw. h v w (inr kv) (inr kw)) in
    elim (cases_Bool (list_any (is_same_ad y) ys)) [
      | inl again ↦ rw again rest
      | inr last ↦ rw last ((
        λ z k e.
            let hz = Has-distinct ys z k in
            both_ways (is_same_ad y z) (list_any-none (is_same_ad y) ys last z hz) (subst (λ w. is_same_ad y w ≡ true) (h y z (inl refl) (inr hz) e) (is_same_ad-refl y)),
        rest,
      ))
    ]

-- an entrant is an ad than which no ad of its account is better, and each such ad is one
pub entrant_of : (ads : List AdValue) (x : AdValue) → Has (entrants ads) x → Has ads x × (is_best_of_account ads x ≡ true)
unfolding entrants
entrant_of ads x h = Has-filter (is_best_of_account ads) ads x (Has-distinct (filter (is_best_of_account ads) ads) x h)

pub entrant_from : (ads : List AdValue) (x : AdValue) → Has ads x → is_best_of_account ads x ≡ true → Has (entrants ads) x
unfolding entrants
entrant_from ads x h t = distinct-Has (filter (is_best_of_account ads) ads) x (Has-filtered (is_best_of_account ads) ads x h t)

-- than the best of an account no ad of it is better
pub best_beats : (ads : List AdValue) (x y : AdValue) → is_best_of_account ads x ≡ true → Has ads y → y.account ≡ x.account → better y x ≡ false
unfolding is_best_of_account
best_beats ads x y best h same =
    false_from_ne_true (better y x) (λ t.
    both_ways (y.account == x.account && better y x)
    (list_any-none (λ b. b.account == x.account && better b x) ads (not-true _ best) y h)
    (and_from _ _ (eq-eqb y.account x.account same) t))

pub best_from : (ads : List AdValue) (x : AdValue) → ((y : AdValue) → Has ads y → y.account ≡ x.account → better y x ≡ false) → is_best_of_account ads x ≡ true
unfolding is_best_of_account
best_from ads x h =
    not_from_false _ (false_from_ne_true (list_any (λ b. b.account == x.account && better b x) ads) (λ t.
    let r = list_any-passing (λ b. b.account == x.account && better b x) ads t in
    let parts = and_parts _ _ r.2 in
    both_ways (better r.0 x) (h r.0 r.1 (eqb-true _ _ parts.0)) parts.1))

pub entrants-apart : (ads : List AdValue) → ((x : AdValue) → Has ads x → IsInRange x) → AreApart (entrants ads)
unfolding entrants
entrants-apart ads in_range =
    distinct-apart (filter (is_best_of_account ads) ads) (λ x y hx hy same.
    let px = Has-filter (is_best_of_account ads) ads x hx in
    let py = Has-filter (is_best_of_account ads) ads y hy in
    same_if_neither x y (in_range x px.0) (in_range y py.0) (best_beats ads y x py.1 px.0 same) (best_beats ads x y px.1 py.0 (sym same)))

-- a best ad of x's account, of x and the list
pub record IsBestFrom (x : AdValue) (xs : List AdValue) (best : AdValue) : Type 0 where
  pub member : Has (x ∷ xs) best
  pub same : best.account ≡ x.account
  pub above : (best ≡ x) ⊎ (better best x ≡ true)
  pub beats : (y : AdValue) → Has (x ∷ xs) y → y.account ≡ x.account → better y best ≡ false

best_alone : (x : AdValue) → IsBestFrom x [] x
best_alone x =
    record {
      member = inl refl;
      same = refl;
      above = inl refl;
      beats = λ y k same. elim k [ inl is ↦ ap (λ z. better z x) (sym is) ∙ better-irreflexive x | inr none ↦ absurd (elim none [ ]) ];
    }

-- y is better
best_next : (x y : AdValue) (ys : List AdValue) (best : AdValue) → y.account ≡ x.account → better y x ≡ true → IsBestFrom y ys best → IsBestFrom x (y ∷ ys) best
best_next x y ys best account wins h =
    let over_y : better y best ≡ false = h.beats y (inl refl) refl in
    record {
      member = inr h.member;
      same = h.same ∙ account;
      above = inr (elim h.above [ inl is ↦ ap (λ z. better z x) is ∙ wins | inr t ↦ better-trans best y x t wins ]);
      beats = λ z k same. elim k [
        | inl is ↦ false_from_ne_true (better z best) (λ t. both_ways (better y best) over_y (better-trans y x best wins (ap (λ w. better w best) is ∙ t)))
        | inr m ↦ h.beats z m (same ∙ sym account)
      ];
    }

-- y is of another account, or not better
best_stays : (x y : AdValue) (ys : List AdValue) (best : AdValue) → (y.account ≡ x.account → better y x ≡ false) → IsBestFrom x ys best → IsBestFrom x (y ∷ ys) best
best_stays x y ys best loses h =
    record {
      member = elim h.member [ inl is ↦ inl is | inr k ↦ inr (inr k) ];
      same = h.same;
      above = h.above;
      beats = λ z k same. elim k [
        | inl is ↦ h.beats z (inl is) same
        | inr (inl is) ↦ false_from_ne_true (better z best) (λ t.
            both_ways (better y x) (loses (ap (λ w. w.account) is ∙ same)) (
            let y_wins : better y best ≡ true = ap (λ w. better w best) is ∙ t in
            elim h.above [ inl eq ↦ ap (better y) (sym eq) ∙ y_wins | inr above ↦ better-trans y best x y_wins above ]))
        | inr (inr m) ↦ h.beats z (inr m) same
      ];
    }

best_of : (xs : List AdValue) (x : AdValue) → (best : AdValue) × IsBestFrom x xs best
best_of [] x = (x, best_alone x)
best_of (y ∷ ys) x =
    elim (cases_Bool (y.account == x.account && better y x)) [
      | inl wins ↦
          let parts = and_parts _ _ wins in
          let r = best_of ys y in
          (r.0, best_next x y ys r.0 (eqb-true _ _ parts.0) parts.1 r.1)
      | inr loses ↦
          let r = best_of ys x in
          (r.0, best_stays x y ys r.0 (λ same. false_from_ne_true (better y x) (λ t. both_ways _ loses (and_from _ _ (eq-eqb _ _ same) t))) r.1)
    ]

with_itself : (xs : List AdValue) (x y : AdValue) → Has xs x → Has (x ∷ xs) y → Has xs y
with_itself xs x y h (inl is) = subst (Has xs) is h
with_itself xs x y h (inr k) = k

pub entrants-each_account : (ads : List AdValue) (b : AdValue) → Has ads b → (a : AdValue) × Has (entrants ads) a × (a.account ≡ b.account)
entrants-each_account ads b h =
    let r = best_of ads b in
    let best : is_best_of_account ads r.0 ≡ true = best_from ads r.0 (λ y k same. r.1.beats y (inr k) (same ∙ r.1.same)) in
    (r.0, entrant_from ads r.0 (with_itself ads b r.0 h r.1.member) best, r.1.same)

pub entrants-are_best : (ads : List AdValue) → All IsInRange ads → AreBestOfAccounts ads (entrants ads)
entrants-are_best ads in_range =
    record {
      different_accounts = AreOfDifferentAccounts-from (entrants ads) (entrants-apart ads (λ x h. All-contains IsInRange ads x in_range (Contains-from_Has ads x h)));
      among_ads = λ a h. Contains-from_Has ads a (entrant_of ads a (Has-from_Contains (entrants ads) a h)).0;
      best = λ a b ha hb same. best_beats ads a b (entrant_of ads a (Has-from_Contains (entrants ads) a ha)).1 (Has-from_Contains ads b hb) same;
      each_account = λ b h.
          let r = entrants-each_account ads b (Has-from_Contains ads b h) in
          (r.0, Contains-from_Has (entrants ads) r.0 r.1, r.2);
    }
