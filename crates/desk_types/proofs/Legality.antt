-- A list that may be a journal may be one with a further entry, where it had room for the call.
use Rattle.std.proofs.Common.{◌≡◌, ℕ, zero, suc, ◌+◌, ◌≤◌, false, ◌==◌, cond, inl, inr, List, [], ◌∷◌, ◌++◌, map, length, refl, sym, ap, ◌∙◌, subst, arith, length-append, get_or}
use Rattle.std.specs.Prelude.{nat_le, nat_lt}
use Rattle.std.specs.List.{All, filter, range_with_len}
use Rattle.std.proofs.lemmas.Bool.{cases_Bool, cond-true, cond-false, eqb-true, or_parts}
use Rattle.std.proofs.lemmas.Bool.Decides.{nat_tests}
use Rattle.std.proofs.lemmas.List.{append-nil, map-append}
use Rattle.std.proofs.lemmas.List.Elements.{All-nil, All-push, filter-append}
use Rattle.std.proofs.lemmas.List.Quantifiers.{all_pairs_push}
use Rattle.std.proofs.lemmas.List.Sums.{sum_by_push}
use Rattle.desk_types.specs.declared.call.Call.{Call}
use Rattle.desk_types.specs.declared.entry.Entry.{Entry}
use Rattle.desk_types.specs.declared.entry.Outcome.{Outcome}
use Rattle.desk_types.specs.declared.entry.Outcome.TheVariants.{Answered, Faulted}
use Rattle.desk_types.specs.Journal.{HasRise, IsBefore, IsLegal, bytes_of, entries_of, is_full}
use Rattle.desk_types.specs.Serving.{with_entry}
use Rattle.desk_types.specs.SettingsValue.{SettingsValue}
use Rattle.desk_types.specs.Weight.{weight}

pub range-more : (a n : ℕ) → range_with_len a (n + 1) ≡ range_with_len a n ++ (a + n) ∷ []
range-more a zero = let e : a ≡ a + 0 = omega arith in ap (λ m. m ∷ []) e
range-more a (suc n) =
    let e : suc n + 1 ≡ suc (n + 1) = omega arith in
    let last : a + 1 + n ≡ a + suc n = omega arith in
    ap (range_with_len a) e ∙ ap (λ l. a ∷ l) (range-more (a + 1) n) ∙ ap (λ m. a ∷ (range_with_len (a + 1) n ++ m ∷ [])) last

-- the numbers of a caller's entries
abbrev pub numbers : ℕ → List Entry → List ℕ
numbers caller entries = map (λ e. e.number) (filter (λ e. e.caller == caller) entries)

pub numbers-push : (caller : ℕ) (seen : List Entry) (e : Entry) → numbers caller (seen ++ e ∷ []) ≡ numbers caller seen ++ numbers caller (e ∷ [])
numbers-push caller seen e =
    ap (map (λ (x : Entry). x.number)) (filter-append (λ (x : Entry). x.caller == caller) seen (e ∷ []))
    ∙ map-append (λ (x : Entry). x.number) (filter (λ (x : Entry). x.caller == caller) seen) (filter (λ (x : Entry). x.caller == caller) (e ∷ []))

pub entries-push : (caller : ℕ) (seen : List Entry) (e : Entry) → entries_of caller (seen ++ e ∷ []) ≡ entries_of caller seen + cond (e.caller == caller) 1 0
entries-push caller seen e = sum_by_push (λ (x : Entry). cond (x.caller == caller) 1 0) seen e

numbered : (caller : ℕ) (seen : List Entry) (e : Entry) → e.number ≡ entries_of e.caller seen + 1 → numbers caller seen ≡ range_with_len 1 (entries_of caller seen)
    → numbers caller (seen ++ e ∷ []) ≡ range_with_len 1 (entries_of caller (seen ++ e ∷ []))
numbered caller seen e number h =
    elim (cases_Bool (e.caller == caller)) [
      | inl t ↦
          let same : e.number ≡ 1 + entries_of caller seen = number ∙ subst (λ c. entries_of e.caller seen + 1 ≡ 1 + entries_of c seen) (eqb-true e.caller caller t) (omega arith) in
          let more : entries_of caller seen + 1 ≡ entries_of caller (seen ++ e ∷ []) = omega (arith, entries-push caller seen e, cond-true {A = ℕ} (e.caller == caller) 1 0 t) in
          numbers-push caller seen e
          ∙ ap (λ l. numbers caller seen ++ map (λ (x : Entry). x.number) l) (cond-true (e.caller == caller) (e ∷ []) [] t)
          ∙ (λ i. h i ++ same i ∷ [])
          ∙ sym (range-more 1 (entries_of caller seen)) ∙ ap (range_with_len 1) more
      | inr t ↦
          let more : entries_of caller seen ≡ entries_of caller (seen ++ e ∷ []) = omega (arith, entries-push caller seen e, cond-false {A = ℕ} (e.caller == caller) 1 0 t) in
          numbers-push caller seen e
          ∙ ap (λ l. numbers caller seen ++ map (λ (x : Entry). x.number) l) (cond-false (e.caller == caller) (e ∷ []) [] t)
          ∙ append-nil (numbers caller seen) ∙ h ∙ ap (range_with_len 1) more
    ]

before_answer : (o : Outcome) → IsBefore o Answered
before_answer Answered = tt
before_answer (Faulted before after) = tt

pub room_below : (n most : ℕ) → nat_le most n ≡ false → n + 1 ≤ most
room_below n most h = grind (arith, nat_tests)

pub room_up_to : (n most : ℕ) → nat_lt most n ≡ false → n ≤ most
room_up_to n most h = grind (arith, nat_tests)

-- there is room for the call
pub has_room : (settings : SettingsValue) (seen : List Entry) (call : Call) → is_full settings seen call ≡ false → (length seen + 1 ≤ settings.journal) × (bytes_of seen + weight call ≤ settings.journal_bytes)
unfolding is_full
has_room settings seen call h =
    let parts = or_parts (nat_le settings.journal (length seen)) (nat_lt settings.journal_bytes (bytes_of seen + weight call)) h in
    (room_below (length seen) settings.journal parts.0, room_up_to (bytes_of seen + weight call) settings.journal_bytes parts.1)

pub legal_more : (settings : SettingsValue) (seen : List Entry) (caller moment : ℕ) (call : Call) (outcome : Outcome) → IsLegal settings seen → is_full settings seen call ≡ false
    → HasRise outcome → All (λ e. IsBefore e.outcome outcome) seen → IsLegal settings (with_entry caller seen moment call outcome)
legal_more settings seen caller moment call outcome legal room rise before =
    let e : Entry = record { caller = caller; number = entries_of caller seen + 1; moment = moment; call = call; outcome = outcome } in
    let fits = has_room settings seen call room in
    record {
      numbered = λ c. numbered c seen e refl (legal.numbered c);
      faults_rise = All-push (λ (x : Entry). HasRise x.outcome) seen e legal.faults_rise rise;
      faults_in_order = all_pairs_push (λ (x y : Entry). IsBefore x.outcome y.outcome) seen e legal.faults_in_order (λ k d low. before k d low);
      entries_fit = omega (arith, length-append seen (e ∷ []), fits.0);
      bytes_fit = omega (arith, sum_by_push (λ (x : Entry). weight x.call) seen e, fits.1);
    }

pub legal_answer : (settings : SettingsValue) (seen : List Entry) (caller moment : ℕ) (call : Call) → IsLegal settings seen → is_full settings seen call ≡ false → IsLegal settings (with_entry caller seen moment call Answered)
legal_answer settings seen caller moment call legal room = legal_more settings seen caller moment call Answered legal room tt (λ k d low. before_answer (get_or seen k d).outcome)

pub legal_empty : (settings : SettingsValue) → IsLegal settings []
legal_empty settings = record {
  numbered = λ c. refl;
  faults_rise = All-nil (λ (x : Entry). HasRise x.outcome);
  faults_in_order = λ i j d low high. absurd (omega (arith, high));
  entries_fit = omega arith;
  bytes_fit = omega arith;
}
