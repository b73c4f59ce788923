-- Spaces taken off the ends of a text.
use Rattle.std.proofs.Common.{◌≡◌, ◌≢◌, ℕ, zero, suc, ◌+◌, ◌-◌, ◌<◌, ◌≤◌, List, [], ◌∷◌, ◌++◌, length, take, drop, get_or, refl, sym, ◌∙◌, ap, arith, Bool, true, false}
use Rattle.std.specs.Prelude.{◌==◌, ◌&&◌, Option, Some, None, if◌then◌else◌, IfSome}
use Rattle.std.specs.Char.{encode_utf8}
use Rattle.std.specs.Str.{IsUtf8, IsCharBoundary}
use Rattle.std.proofs.lemmas.Str.{IsCharBoundary-start, IsCharBoundary-after_ascii}
use Rattle.std.specs.Str.Pattern.{FindsCharSuffix, CutsSuffixes, IsTrimEndMatches}
use Rattle.std.proofs.lemmas.Bool.{ne_eqb}
use Rattle.std.proofs.lemmas.List.{take-append-drop, drop_all}
use Rattle.script_api.specs.LineFields.{unspaced, unspaced_end}

pub unspaced-space : (more : List ℕ) → unspaced (32 ∷ more) ≡ unspaced more
unfolding unspaced
unspaced-space more = refl

pub unspaced-other : (byte : ℕ) (more : List ℕ) → byte ≢ 32 → unspaced (byte ∷ more) ≡ byte ∷ more
unfolding unspaced
unspaced-other byte more other = rw (ne_eqb _ _ other) refl

pub unspaced-nil : unspaced [] ≡ []
unfolding unspaced
unspaced-nil = refl

-- so many spaces stand in front, and no more
pub unspaced-is : (text : List ℕ) (n : ℕ) → n ≤ length text → ((k : ℕ) → k < n → get_or text k 0 ≡ 32) → (n < length text → get_or text n 0 ≢ 32) → unspaced text ≡ drop n text
unspaced-is [] zero within spaces other = unspaced-nil
unspaced-is [] (suc n) within spaces other = absurd (omega (arith, within))
unspaced-is (byte ∷ more) zero within spaces other = unspaced-other byte more (other (omega arith))
unspaced-is (byte ∷ more) (suc n) within spaces other =
    let first : byte ≡ 32 = spaces 0 (omega arith) in
    rw (first, unspaced-space more) (unspaced-is more n (omega (arith, within)) (λ k h. spaces (suc k) (omega (arith, h))) (λ h. other (omega (arith, h))))

-- a text goes on behind spaces
pub behind_spaces : (text : List ℕ) (n : ℕ) → IsUtf8 text → n ≤ length text → ((k : ℕ) → k < n → get_or text k 0 ≡ 32) → IsCharBoundary text n
behind_spaces text zero utf8 within spaces = IsCharBoundary-start text utf8
behind_spaces text (suc n) utf8 within spaces =
    let ascii : get_or text n 0 < 128 = omega (arith, spaces n (omega arith)) in
    let after : IsCharBoundary text (n + 1) = IsCharBoundary-after_ascii text n utf8 (omega (arith, within)) ascii in
    let same : n + 1 ≡ suc n = omega arith in rw same at after

-- at the end
unspaced_end-nil : unspaced_end [] ≡ []
unfolding unspaced_end
unspaced_end-nil = refl

unspaced_end_of : (byte : ℕ) (a b : List ℕ) → unspaced_end a ≡ unspaced_end b → unspaced_end (byte ∷ a) ≡ unspaced_end (byte ∷ b)
unfolding unspaced_end
unspaced_end_of byte a b same = rw same refl

unspaced_end-end_space : (m : List ℕ) → unspaced_end (m ++ (32 ∷ [])) ≡ unspaced_end m
unfolding unspaced_end
unspaced_end-end_space [] = refl
unspaced_end-end_space (byte ∷ more) = unspaced_end_of byte (more ++ (32 ∷ [])) more (unspaced_end-end_space more)

one_off_end : (m : List ℕ) (n : ℕ) → FindsCharSuffix 32 m (Some n) → unspaced_end (take (length m - n) m) ≡ unspaced_end m
unfolding encode_utf8
one_off_end m n at =
    let k : ℕ = length m - n in
    let rest : drop (length m) m ≡ [] = drop_all _ m (omega arith) in
    let last : drop k m ≡ 32 ∷ [] = at.1.split ∙ ap (λ t. 32 ∷ t) rest in
    let whole : m ≡ take k m ++ (32 ∷ []) = sym (take-append-drop k m) ∙ ap (λ t. take k m ++ t) last in
    sym (ap unspaced_end whole ∙ unspaced_end-end_space (take k m))

cut_off_end : (s : List ℕ) (ns : List ℕ) (r : List ℕ) → CutsSuffixes (FindsCharSuffix 32) s ns r → unspaced_end r ≡ unspaced_end s
cut_off_end s [] r h = ap unspaced_end h
cut_off_end s (n ∷ ns) r h = ap unspaced_end h.3 ∙ (one_off_end h.0 n h.2 ∙ cut_off_end s ns h.0 h.1)

unspaced_end_cons : (byte : ℕ) (more : List ℕ) → unspaced_end (byte ∷ more) ≡ (if byte == 32 && length (unspaced_end more) == 0 then [] else byte ∷ unspaced_end more)
unfolding unspaced_end
unspaced_end_cons byte more = refl

second : (v : Bool) (a b : List ℕ) → (if v && false then a else b) ≡ b
second true a b = refl
second false a b = refl

unspaced_end-kept : (byte : ℕ) (more : List ℕ) → unspaced_end more ≡ more → byte ∷ more ≢ 32 ∷ [] → unspaced_end (byte ∷ more) ≡ byte ∷ more
unspaced_end-kept byte [] same other = unspaced_end_cons byte [] ∙ rw (same, ne_eqb byte 32 (λ e. other (ap (λ b. b ∷ []) e))) refl
unspaced_end-kept byte (next ∷ more) same other = unspaced_end_cons byte (next ∷ more) ∙ rw (same, ne_eqb (length (next ∷ more)) 0 (λ e. omega (arith, e))) (second (byte == 32) [] (byte ∷ next ∷ more))

none_at_end : (r : List ℕ) → ((front : List ℕ) → r ≢ front ++ encode_utf8 32) → unspaced_end r ≡ r
unfolding encode_utf8
none_at_end [] h = unspaced_end-nil
none_at_end (byte ∷ more) h = unspaced_end-kept byte more (none_at_end more (λ front e. h (byte ∷ front) (ap (λ t. byte ∷ t) e))) (h [])

fully_end : (r : List ℕ) (o : Option ℕ) → FindsCharSuffix 32 r o → IfSome o (λ n. n ≡ 0) → unspaced_end r ≡ r
fully_end r None h z = none_at_end r h
fully_end r (Some n) h z = absurd (let e : n ≡ 1 = h.0 in omega (arith, e, z))

pub unspaced_end-from_trim : (s r : List ℕ) → IsTrimEndMatches (FindsCharSuffix 32) s r → r ≡ unspaced_end s
unspaced_end-from_trim s r h = sym (fully_end r h.1.0 h.1.1 h.1.2) ∙ cut_off_end s h.0.0 r h.0.1
