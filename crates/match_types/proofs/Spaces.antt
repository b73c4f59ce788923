-- Spaces at the ends of a text.
use Rattle.std.proofs.Common.{◌≡◌, ◌≢◌, ℕ, ◌-◌, ◌≤◌, cond, List, [], ◌∷◌, ◌++◌, length, drop, reverse, Option, Some, None, refl, sym, ap, subst, ◌∙◌, arith, lit<, ap₂, IfSome, inl, inr, take-append-drop}
use Rattle.std.proofs.lemmas.Bool.{cases_eq, ne_eqb}
use Rattle.std.proofs.lemmas.List.{drop_all, reverse-append, reverse-reverse, length-reverse}
use Rattle.std.proofs.lemmas.Str.Pattern.{drop_at_char}
use Rattle.std.proofs.lemmas.Str.{encode_ascii, len_utf8_ascii}
use Rattle.std.specs.Str.Pattern.{FindsCharPrefix, FindsCharSuffix, CutsPrefixes, CutsSuffixes, IsTrimStartMatches, IsTrimEndMatches}
use Rattle.match_types.specs.Marks.{space, without_front_spaces, trimmed}

-- the list does not begin with a space
abbrev pub HasBareFront : List ℕ → Type 0
HasBareFront text = (rest : List ℕ) → text ≢ space ∷ rest

without-at_space : (b : ℕ) (text : List ℕ) → b ≡ space → without_front_spaces (b ∷ text) ≡ without_front_spaces text
without-at_space b text e = ap (λ c. without_front_spaces (c ∷ text)) e

without-at_other : (b : ℕ) (text : List ℕ) → (b ≡ space → ⊥) → without_front_spaces (b ∷ text) ≡ b ∷ text
without-at_other b text other = ap (λ t. cond t (without_front_spaces text) (b ∷ text)) (ne_eqb b space other)

pub without-bare : (text : List ℕ) → HasBareFront text → without_front_spaces text ≡ text
without-bare [] bare = refl
without-bare (b ∷ text) bare = without-at_other b text (λ e. bare text (ap (λ c. c ∷ text) e))

pub bare-without : (text : List ℕ) → HasBareFront (without_front_spaces text)
bare-without [] = λ rest e. cc
bare-without (b ∷ text) =
    elim (cases_eq b space) [
      | inl e ↦ subst HasBareFront (sym (without-at_space b text e)) (bare-without text)
      | inr other ↦ λ rest e. other (let front : b ∷ text ≡ space ∷ rest = sym (without-at_other b text other) ∙ e in cc)
    ]

length-without : (text : List ℕ) → length (without_front_spaces text) ≤ length text
length-without [] = omega arith
length-without (b ∷ text) =
    elim (cases_eq b space) [
      | inl e ↦ omega (arith, ap length (without-at_space b text e), length-without text)
      | inr other ↦ omega (arith, ap length (without-at_other b text other))
    ]

-- ---- what `trim_start_matches` and `trim_end_matches` give

cuts_front : (ns : List ℕ) (text rest : List ℕ) → CutsPrefixes (FindsCharPrefix space) text ns rest → without_front_spaces text ≡ without_front_spaces rest
cuts_front [] text rest e = ap without_front_spaces (sym e)
cuts_front (n ∷ ns) text rest cut =
    let at = drop_at_char space cut.0 0 n cut.2 (lit< tt) in
    let front : cut.0 ≡ space ∷ rest = at ∙ ap (λ l. space ∷ l) (sym cut.3) in
    cuts_front ns text cut.0 cut.1 ∙ ap without_front_spaces front

bare-from_trimmed : (o : Option ℕ) (text : List ℕ) → FindsCharPrefix space text o → IfSome o (λ n. n ≡ 0) → HasBareFront text
bare-from_trimmed None text none e = λ rest has. none rest (has ∙ ap (λ l. l ++ rest) (sym (encode_ascii space (lit< tt))))
bare-from_trimmed (Some n) text at none = let ends = at.ends in let wide = len_utf8_ascii space (lit< tt) in absurd (omega arith)

pub trim_start_is : (text rest : List ℕ) → IsTrimStartMatches (FindsCharPrefix space) text rest → rest ≡ without_front_spaces text
trim_start_is text rest trims =
    let bare = bare-from_trimmed trims.1.0 rest trims.1.1 trims.1.2 in
    sym (cuts_front trims.0.0 text rest trims.0.1 ∙ without-bare rest bare)

cuts_back : (ns : List ℕ) (text rest : List ℕ) → CutsSuffixes (FindsCharSuffix space) text ns rest → without_front_spaces (reverse text) ≡ without_front_spaces (reverse rest)
cuts_back [] text rest e = ap (λ l. without_front_spaces (reverse l)) (sym e)
cuts_back (n ∷ ns) text rest cut =
    let m : List ℕ = cut.0 in
    let wide = len_utf8_ascii space (lit< tt) in
    let one : n ≡ 1 = cut.2.0 ∙ wide in
    let at : drop (length m - n) m ≡ space ∷ drop (length m) m = drop_at_char space m (length m - n) (length m) cut.2.1 (lit< tt) in
    let last : drop (length m - n) m ≡ space ∷ [] = at ∙ ap (λ l. space ∷ l) (drop_all (length m) m (omega arith)) in
    let laid : m ≡ rest ++ space ∷ [] = sym (take-append-drop (length m - n) m) ∙ ap₂ ◌++◌ (sym cut.3) last in
    cuts_back ns text m cut.1 ∙ ap without_front_spaces (ap reverse laid ∙ reverse-append rest (space ∷ []))

bare_back-from_trimmed : (o : Option ℕ) (text : List ℕ) → FindsCharSuffix space text o → IfSome o (λ n. n ≡ 0) → HasBareFront (reverse text)
bare_back-from_trimmed None text none e = λ rest has.
    none (reverse rest) (sym (reverse-reverse text) ∙ ap reverse has ∙ reverse-append (space ∷ []) rest ∙ ap (λ l. reverse rest ++ l) (sym (encode_ascii space (lit< tt))))
bare_back-from_trimmed (Some n) text at none = let wide = len_utf8_ascii space (lit< tt) in absurd (omega (arith, at.0))

pub trim_end_is : (text rest : List ℕ) → IsTrimEndMatches (FindsCharSuffix space) text rest → rest ≡ reverse (without_front_spaces (reverse text))
trim_end_is text rest trims =
    let bare = bare_back-from_trimmed trims.1.0 rest trims.1.1 trims.1.2 in
    sym (ap reverse (cuts_back trims.0.0 text rest trims.0.1 ∙ without-bare (reverse rest) bare) ∙ reverse-reverse rest)

-- ---- a text without spaces at its ends

-- the spaces in front, and then the rest
front_spaces : (text : List ℕ) → (spaces : List ℕ) × (text ≡ spaces ++ without_front_spaces text)
front_spaces [] = ([], refl)
front_spaces (b ∷ text) =
    elim (cases_eq b space) [
      | inl e ↦ let later = front_spaces text in (b ∷ later.0, ap (λ l. b ∷ l) later.1 ∙ ap (λ l. (b ∷ later.0) ++ l) (sym (without-at_space b text e)))
      | inr other ↦ ([], sym (without-at_other b text other))
    ]

-- a text that begins with no space still does not once the spaces at its end are gone
bare-without_back : (text : List ℕ) → HasBareFront text → HasBareFront (reverse (without_front_spaces (reverse text)))
bare-without_back text bare = λ rest has.
    let front = front_spaces (reverse text) in
    bare (rest ++ reverse front.0)
    (sym (reverse-reverse text) ∙ ap reverse front.1 ∙ reverse-append front.0 (without_front_spaces (reverse text)) ∙ ap (λ l. l ++ reverse front.0) has)

pub trimmed_idem : (text : List ℕ) → trimmed (trimmed text) ≡ trimmed text
unfolding trimmed
trimmed_idem text =
    let started : List ℕ = without_front_spaces text in
    let ended : List ℕ = without_front_spaces (reverse started) in
    ap (λ l. reverse (without_front_spaces (reverse l))) (without-bare (reverse ended) (bare-without_back started (bare-without text)))
    ∙ ap (λ l. reverse (without_front_spaces l)) (reverse-reverse ended) ∙ ap reverse (without-bare ended (bare-without (reverse started)))

pub length-trimmed : (text : List ℕ) → length (trimmed text) ≤ length text
unfolding trimmed
length-trimmed text =
    omega (arith, length-reverse (without_front_spaces (reverse (without_front_spaces text))), length-without (reverse (without_front_spaces text)), length-reverse (without_front_spaces text), length-without text)
