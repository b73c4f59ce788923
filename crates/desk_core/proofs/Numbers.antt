-- The last entry of a caller has the number of its entries.
use Rattle.std.proofs.Common.{◌≡◌, ℕ, ◌+◌, ◌==◌, true, false, List, [], ◌∷◌, ◌++◌, map, sym, ap, ◌∙◌, arith}
use Rattle.std.specs.List.{range_with_len}
use Rattle.std.proofs.lemmas.Bool.{cond-true, cond-false}
use Rattle.std.proofs.lemmas.List.{append-nil, same_from_push}
use Rattle.desk_types.specs.declared.entry.Entry.{Entry}
use Rattle.desk_types.specs.Journal.{entries_of}
use Rattle.desk_types.proofs.Legality.{entries-push, numbers, numbers-push, range-more}

-- the entries searched so far are none of the caller's
pub record IsLeft (caller : ℕ) (entries rest : List Entry) : Type 0 where
  pub numbered : numbers caller rest ≡ range_with_len 1 (entries_of caller rest)
  pub count : entries_of caller rest ≡ entries_of caller entries

pub left_last : (caller : ℕ) (entries before : List Entry) (last : Entry) → IsLeft caller entries (before ++ last ∷ []) → (last.caller == caller) ≡ true → last.number ≡ entries_of caller entries
left_last caller entries before last h t =
    let one : entries_of caller (before ++ last ∷ []) ≡ entries_of caller before + 1 = entries-push caller before last ∙ ap (λ n. entries_of caller before + n) (cond-true {A = ℕ} (last.caller == caller) 1 0 t) in
    let shown : numbers caller before ++ last.number ∷ [] ≡ range_with_len 1 (entries_of caller before) ++ (1 + entries_of caller before) ∷ [] =
    ap (λ es. numbers caller before ++ map (λ (e : Entry). e.number) es) (sym (cond-true (last.caller == caller) (last ∷ []) [] t))
    ∙ sym (numbers-push caller before last) ∙ h.numbered ∙ ap (range_with_len 1) one ∙ range-more 1 (entries_of caller before) in
    (same_from_push (numbers caller before) (range_with_len 1 (entries_of caller before)) last.number (1 + entries_of caller before) shown).1 ∙ omega (arith, one, h.count)

pub left_other : (caller : ℕ) (entries before : List Entry) (last : Entry) → IsLeft caller entries (before ++ last ∷ []) → (last.caller == caller) ≡ false → IsLeft caller entries before
left_other caller entries before last h t =
    let same : entries_of caller (before ++ last ∷ []) ≡ entries_of caller before = entries-push caller before last ∙ ap (λ n. entries_of caller before + n) (cond-false {A = ℕ} (last.caller == caller) 1 0 t) ∙ omega arith in
    let shown : numbers caller (before ++ last ∷ []) ≡ numbers caller before =
    numbers-push caller before last ∙ ap (λ es. numbers caller before ++ map (λ (e : Entry). e.number) es) (cond-false (last.caller == caller) (last ∷ []) [] t) ∙ append-nil (numbers caller before) in
    record {
      numbered = sym shown ∙ h.numbered ∙ ap (range_with_len 1) same;
      count = sym same ∙ h.count;
    }
