-- What is kept of placements stays right where one more is shown, and where a fate is set.
use Rattle.std.proofs.Common.{◌≡◌, ℕ, ◌+◌, ◌-◌, ◌<◌, ◌≤◌, ◌==◌, Bool, true, false, cond, inl, inr, List, [], ◌∷◌, ◌++◌, length, map, get_or, set, Option, Some, unwrap_or, refl, sym, ap, subst, ◌∙◌, arith}
use Rattle.std.proofs.lemmas.Bool.{cases_Bool, cases_eq, cases_lt, cond-true, cond-false}
use Rattle.std.proofs.lemmas.List.{get_or_append_left, get_or_push, get_or-map, get_or-set_other, get_or-set_same, get_or_read, length-set, length_push, map-set, set-get_or}
use Rattle.std.proofs.lemmas.List.Elements.{All-push, All-nil}
use Rattle.std.proofs.lemmas.List.Quantifiers.{all_pairs_push}
use Rattle.desk_types.specs.declared.limits.TheConstants.{CLICK_WINDOW, MOMENT_MAX}
use Rattle.desk_types.specs.declared.rows.Fate.{Fate}
use Rattle.desk_types.specs.declared.rows.Placement.{Placement}
use Rattle.desk_types.specs.Sound.{RunFromOne}
use Rattle.desk_types.proofs.Numbering.{run_next}
use Rattle.placements.specs.Linked.{AreKept, AreLinked, IsLast, is_of}
use Rattle.placements.specs.PlacementsValue.{AreShownInTurn, IsNext}

-- rows behind the first ones say nothing of the last that passes
last_push : (test : Placement → Bool) (number bound : ℕ) (rows : List Placement) (p : Placement) → bound ≤ length rows → IsLast test number bound rows → IsLast test number bound (rows ++ p ∷ [])
last_push test number bound rows p low h = record {
  within = h.within;
  passes = λ some d. ap test (get_or_append_left rows (p ∷ []) d (number - 1) (omega (arith, some, low, h.within))) ∙ h.passes some d;
  none_behind = λ k d from below. ap test (get_or_append_left rows (p ∷ []) d k (omega (arith, below, low))) ∙ h.none_behind k d from below;
}

-- the last that passes, with one row more
last_here : (test : Placement → Bool) (bound : ℕ) (rows : List Placement) (p : Placement) → test p ≡ true → bound ≡ length rows + 1 → IsLast test bound bound (rows ++ p ∷ [])
last_here test bound rows p passes is = record {
  within = omega arith;
  passes = λ some d. ap test (get_or_push rows p d (bound - 1) (omega (arith, is))) ∙ passes;
  none_behind = λ k d from below. absurd (omega (arith, from, below));
}

last_other : (test : Placement → Bool) (number bound : ℕ) (rows : List Placement) (p : Placement) → test p ≡ false → bound ≡ length rows + 1 → IsLast test number (length rows) rows → IsLast test number bound (rows ++ p ∷ [])
last_other test number bound rows p fails is h =
    let before = last_push test number (length rows) rows p (omega arith) h in
    record {
      within = omega (arith, is, h.within);
      passes = before.passes;
      none_behind = λ k d from below. elim (cases_lt k (length rows)) [
        | inl low ↦ before.none_behind k d from low
        | inr high ↦ ap test (get_or_push rows p d k (omega (arith, is, below, high))) ∙ fails
      ];
    }

linked_push : (rows : List Placement) (before : List ℕ) (p : Placement) (number : ℕ) → AreLinked rows before → IsLast (is_of p.account) number (length rows) rows → AreLinked (rows ++ p ∷ []) (before ++ number ∷ [])
linked_push rows before p number h last =
    let more = rows ++ p ∷ [] in
    record {
      count = length_push before number ∙ ap (λ n. n + 1) h.count ∙ sym (length_push rows p);
      each = λ k d low. elim (cases_lt k (length rows)) [
        | inl below ↦
            let row : get_or more k d ≡ get_or rows k d = get_or_append_left rows (p ∷ []) d k below in
            let link : get_or (before ++ number ∷ []) k 0 ≡ get_or before k 0 = get_or_append_left before (number ∷ []) 0 k (omega (arith, below, h.count)) in
            subst (λ (q : Placement). IsLast (is_of q.account) (get_or (before ++ number ∷ []) k 0) k more) (sym row)
            (subst (λ m. IsLast (is_of (get_or rows k d).account) m k more) (sym link) (last_push (is_of (get_or rows k d).account) (get_or before k 0) k rows p (omega (arith, below)) (h.each k d below)))
        | inr above ↦
            let here : length rows ≡ k = omega (arith, above, low, length_push rows p) in
            let row : get_or more k d ≡ p = get_or_push rows p d k here in
            let link : get_or (before ++ number ∷ []) k 0 ≡ number = get_or_push before number 0 k (h.count ∙ here) in
            subst (λ (q : Placement). IsLast (is_of q.account) (get_or (before ++ number ∷ []) k 0) k more) (sym row)
            (subst (λ m. IsLast (is_of p.account) m k more) (sym link)
            (subst (λ bound. IsLast (is_of p.account) number bound more) here (last_push (is_of p.account) number (length rows) rows p (omega arith) last)))
      ];
    }

turn_push : (rows : List Placement) (p : Placement) → AreShownInTurn rows → IsNext rows p → AreShownInTurn (rows ++ p ∷ [])
turn_push rows p h next = record {
  numbers = run_next (λ (q : Placement). q.number) p rows h.numbers next.number;
  moments = all_pairs_push (λ (q later : Placement). q.shown ≤ later.shown) rows p h.moments (λ k d low. next.moment k d low);
  deadlines = All-push (λ (q : Placement). q.deadline ≡ q.shown + CLICK_WINDOW) rows p h.deadlines next.deadline;
  within = All-push (λ (q : Placement). q.shown ≤ MOMENT_MAX) rows p h.within next.within;
}

ends_push : (rows : List Placement) (p : Placement) (account number : ℕ) → p.number ≡ length rows + 1 → IsLast (is_of account) number (length rows) rows
    → IsLast (is_of account) (cond (p.account == account) p.number number) (length (rows ++ p ∷ [])) (rows ++ p ∷ [])
ends_push rows p account number is h =
    let bound : length (rows ++ p ∷ []) ≡ length rows + 1 = length_push rows p in
    elim (cases_Bool (p.account == account)) [
      | inl t ↦
          subst (λ n. IsLast (is_of account) n (length (rows ++ p ∷ [])) (rows ++ p ∷ [])) (bound ∙ sym is ∙ sym (cond-true (p.account == account) p.number number t))
          (last_here (is_of account) (length (rows ++ p ∷ [])) rows p t bound)
      | inr t ↦
          subst (λ n. IsLast (is_of account) n (length (rows ++ p ∷ [])) (rows ++ p ∷ [])) (sym (cond-false (p.account == account) p.number number t))
          (last_other (is_of account) number (length (rows ++ p ∷ [])) rows p t bound h)
    ]

-- what is kept with one row more
pub kept_push : (rows : List Placement) (before : List ℕ) (last left : ℕ → ℕ) (p : Placement) (number : ℕ) → AreKept rows before last → IsNext rows p → number ≡ last p.account
    → ((account : ℕ) → left account ≡ cond (p.account == account) p.number (last account)) → AreKept (rows ++ p ∷ []) (before ++ number ∷ []) left
kept_push rows before last left p number h next is lasts = record {
  in_turn = turn_push rows p h.in_turn next;
  linked = linked_push rows before p number h.linked (subst (λ m. IsLast (is_of p.account) m (length rows) rows) (sym is) (h.lasts p.account));
  lasts = λ account.
      subst (λ m. IsLast (is_of account) m (length (rows ++ p ∷ [])) (rows ++ p ∷ [])) (sym (lasts account)) (ends_push rows p account (last account) next.number (h.lasts account));
}

-- a number that is put into a map of numbers
pub unwrap_cond : (b : Bool) (n : ℕ) (o : Option ℕ) → unwrap_or (cond b (Some n) o) 0 ≡ cond b n (unwrap_or o 0)
unwrap_cond true n o = refl
unwrap_cond false n o = refl

-- what a fate does not touch is the same at each place
same_at : {A : Type 0} (f : Placement → A) (rows : List Placement) (place k : ℕ) (p : Placement) (fate : Fate) (d : Placement) → f (record p { fate = fate }) ≡ f p → place < length rows → p ≡ get_or rows place p
    → f (get_or (set rows place (record p { fate = fate })) k d) ≡ f (get_or rows k d)
same_at f rows place k p fate d same low at =
    let q : Placement = record p { fate = fate } in
    elim (cases_eq k place) [
      | inl e ↦
          let here : get_or (set rows place q) k d ≡ q = ap (λ n. get_or (set rows place q) n d) e ∙ get_or-set_same rows place q d low in
          let was : p ≡ get_or rows k d = get_or_read rows place p low at d ∙ ap (λ n. get_or rows n d) (sym e) in
          ap f here ∙ same ∙ ap f was
      | inr apart ↦ ap f (get_or-set_other rows place k q d apart)
    ]

last_same : (test : Placement → Bool) (number bound : ℕ) (rows left : List Placement) → ((k : ℕ) (d : Placement) → test (get_or left k d) ≡ test (get_or rows k d)) → IsLast test number bound rows → IsLast test number bound left
last_same test number bound rows left same h = record {
  within = h.within;
  passes = λ some d. same (number - 1) d ∙ h.passes some d;
  none_behind = λ k d from below. same k d ∙ h.none_behind k d from below;
}

-- what is kept with the fate of a row
pub kept_fated : (rows : List Placement) (before : List ℕ) (last : ℕ → ℕ) (place : ℕ) (p : Placement) (fate : Fate) → place < length rows → p ≡ get_or rows place p → AreKept rows before last
    → AreKept (set rows place (record p { fate = fate })) before last
kept_fated rows before last place p fate low at h =
    let q : Placement = record p { fate = fate } in
    let left = set rows place q in
    let long : length left ≡ length rows = length-set rows place q in
    let shown = λ (k : ℕ) (d : Placement). same_at (λ (r : Placement). r.shown) rows place k p fate d refl low at in
    let account = λ (k : ℕ) (d : Placement). same_at (λ (r : Placement). r.account) rows place k p fate d refl low at in
    let deadline = λ (k : ℕ) (d : Placement). same_at (λ (r : Placement). r.deadline) rows place k p fate d refl low at in
    let numbers : map (λ (r : Placement). r.number) left ≡ map (λ (r : Placement). r.number) rows =
    map-set (λ (r : Placement). r.number) rows place q
    ∙ ap (set (map (λ (r : Placement). r.number) rows) place) (ap (λ (r : Placement). r.number) at ∙ sym (get_or-map (λ (r : Placement). r.number) rows place p 0 low))
    ∙ set-get_or (map (λ (r : Placement). r.number) rows) place 0 in
    record {
      in_turn = record {
        numbers = subst RunFromOne (sym numbers) h.in_turn.numbers;
        moments = λ i j d before_j within.
            let was : (get_or rows i d).shown ≤ (get_or rows j d).shown = h.in_turn.moments i j d before_j (omega (arith, within, long)) in
            omega (arith, was, shown i d, shown j d);
        deadlines = λ k d within. deadline k d ∙ h.in_turn.deadlines k d (omega (arith, within, long)) ∙ ap (λ n. n + CLICK_WINDOW) (sym (shown k d));
        within = λ k d within. let was : (get_or rows k d).shown ≤ MOMENT_MAX = h.in_turn.within k d (omega (arith, within, long)) in omega (arith, was, shown k d);
      };
      linked = record {
        count = h.linked.count ∙ sym long;
        each = λ k d within.
            subst (λ n. IsLast (is_of n) (get_or before k 0) k left) (sym (account k d))
            (last_same (is_of (get_or rows k d).account) (get_or before k 0) k rows left (λ j e. ap (λ n. n == (get_or rows k d).account) (account j e)) (h.linked.each k d (omega (arith, within, long))));
      };
      lasts = λ of.
          subst (λ n. IsLast (is_of of) (last of) n left) (sym long) (last_same (is_of of) (last of) (length rows) rows left (λ j e. ap (λ n. n == of) (account j e)) (h.lasts of));
    }

-- nothing was shown
pub kept_none : (last : ℕ → ℕ) → ((account : ℕ) → last account ≡ 0) → AreKept [] [] last
kept_none last none = record {
  in_turn = record {
    numbers = refl;
    moments = λ i j d before_j within. absurd (omega (arith, within));
    deadlines = All-nil (λ (q : Placement). q.deadline ≡ q.shown + CLICK_WINDOW);
    within = All-nil (λ (q : Placement). q.shown ≤ MOMENT_MAX);
  };
  linked = record { count = refl; each = λ k d within. absurd (omega (arith, within)) };
  lasts = λ account. record {
    within = omega (arith, none account);
    passes = λ some d. absurd (omega (arith, some, none account));
    none_behind = λ k d from below. absurd (omega (arith, below));
  };
}
