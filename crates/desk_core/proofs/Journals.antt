-- When a journal is full, and the journal with a further entry.
use Rattle.std.proofs.Common.{◌≡◌, ℕ, ◌+◌, ◌-◌, ◌<◌, ◌≤◌, false, List, [], ◌∷◌, ◌++◌, length, ap, ◌∙◌, subst, sym, arith}
use Rattle.std.specs.Prelude.{nat_le, nat_lt}
use Rattle.std.specs.List.{All, range_with_len}
use Rattle.std.proofs.lemmas.Bool.Decides.{nat_tests}
use Rattle.std.proofs.lemmas.List.Sums.{sum_by_push}
use Rattle.desk_types.specs.declared.call.Call.{Call}
use Rattle.desk_types.specs.declared.entry.Entry.{Entry}
use Rattle.desk_types.specs.declared.entry.Outcome.{Outcome}
use Rattle.desk_types.specs.Journal.{HasRise, IsBefore, bytes_of, entries_of, is_full}
use Rattle.desk_types.specs.Serving.{with_entry}
use Rattle.desk_types.specs.SettingsValue.{SettingsValue}
use Rattle.desk_types.specs.Weight.{weight}
use Rattle.desk_types.proofs.Legality.{has_room, legal_more, numbers}
use Rattle.desk_core.specs.JournalValue.{IsLegalJournal}

pub full_by_entries : (settings : SettingsValue) (entries : List Entry) (call : Call) (most count : ℕ) → most ≡ settings.journal → count ≡ length entries → most ≤ count → nat_le most count ≡ is_full settings entries call
unfolding is_full
full_by_entries settings entries call most count m n h =
    let e : settings.journal ≤ length entries = omega arith in
    grind (arith, nat_tests)

pub full_by_bytes : (settings : SettingsValue) (entries : List Entry) (call : Call) (most count room bytes more : ℕ) → most ≡ settings.journal → count ≡ length entries → count < most → room ≡ settings.journal_bytes → bytes ≡ bytes_of entries → bytes_of entries ≤ settings.journal_bytes → more ≡ weight call
    → nat_lt (room - bytes) more ≡ is_full settings entries call
unfolding is_full
full_by_bytes settings entries call most count room bytes more m n h r b low w =
    let e : length entries < settings.journal = omega arith in
    grind (arith, nat_tests)

-- there is room for the bytes of the call
pub room_for : (settings : SettingsValue) (entries : List Entry) (call : Call) → is_full settings entries call ≡ false → bytes_of entries + weight call ≤ settings.journal_bytes
room_for settings entries call room = (has_room settings entries call room).1

-- the number of the caller's next entry is one more than those that it has
pub entry_more : (entries same : List Entry) (caller number moment : ℕ) (call : Call) (outcome : Outcome) → same ≡ entries → number ≡ entries_of caller same
    → entries ++ record { caller = caller; number = number + 1; moment = moment; call = call; outcome = outcome } ∷ [] ≡ with_entry caller entries moment call outcome
entry_more entries same caller number moment call outcome is counted =
    ap (λ n. entries ++ record { caller = caller; number = n + 1; moment = moment; call = call; outcome = outcome } ∷ []) (counted ∙ ap (entries_of caller) is)

pub numbered_as : (caller : ℕ) (entries same : List Entry) → same ≡ entries → numbers caller entries ≡ range_with_len 1 (entries_of caller entries) → numbers caller same ≡ range_with_len 1 (entries_of caller same)
numbered_as caller entries same is h = subst (λ es. numbers caller es ≡ range_with_len 1 (entries_of caller es)) (sym is) h

-- the journal with the caller's next entry
pub journal_more : (settings : SettingsValue) (entries left : List Entry) (bytes more caller moment : ℕ) (call : Call) (outcome : Outcome) → IsLegalJournal settings entries bytes → is_full settings entries call ≡ false → more ≡ weight call
    → HasRise outcome → All (λ e. IsBefore e.outcome outcome) entries → left ≡ with_entry caller entries moment call outcome → IsLegalJournal settings left (bytes + more)
journal_more settings entries left bytes more caller moment call outcome h room weighs rise before is =
    let e : Entry = record { caller = caller; number = entries_of caller entries + 1; moment = moment; call = call; outcome = outcome } in
    subst (λ es. IsLegalJournal settings es (bytes + more)) (sym is)
    (record {
      legal = legal_more settings entries caller moment call outcome h.legal room rise before;
      counted = omega (arith, h.counted, weighs, sum_by_push (λ (x : Entry). weight x.call) entries e);
    })
