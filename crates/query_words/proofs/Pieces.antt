-- What `split` gives of a text that is cut where a test passes.
use Rattle.std.proofs.Common.{◌≡◌, ℕ, ◌<◌, Bool, true, false, cond, List, [], ◌∷◌, ◌++◌, map, filter, length, take, drop, Option, Some, None, MatchOption, chars, encode_utf8, encode_utf8_all, refl, sym, ap, subst, ◌∙◌, append_assoc, arith, take-append-drop, length-append, lt-ltb}
use denote.Param.Members.{Mut}
use Rattle.std.specs.Borrow.{Bor}
use Rattle.std.specs.Fn.{AlwaysReturns, Called}
use Rattle.std.specs.Iterator.{Yields}
use Rattle.std.specs.List.{All, slice_split}
use Rattle.std.specs.Str.{IsUtf8, NonePass}
use Rattle.std.specs.Str.Iter.{split_steps, split_text, split_has_more, split_pattern}
use Rattle.std.specs.Str.Pattern.{FindsBy}
use Rattle.std.proofs.lemmas.Iterator.{YieldsList}
use Rattle.std.proofs.lemmas.Fn.{always_returns_same}
use Rattle.std.proofs.lemmas.Iterator.Consumers.{YieldsList-end}
use Rattle.std.proofs.lemmas.Iterator.Splits.{YieldsList-from_shown_while}
use Rattle.std.proofs.lemmas.List.Elements.{All-nil, All-cons}
use Rattle.std.proofs.lemmas.List.Splits.{slice_split_none, slice_split_at}
use Rattle.std.proofs.lemmas.Str.{chars_past_char, IsUtf8-past_char, length-encode, len_utf8_bounds, chars_from_encodes}
use Rattle.query_words.specs.Words.{is_nonempty}

All-from_NonePass : (test : ℕ → Bool) (cs : List ℕ) → NonePass test cs → All (λ c. test c ≡ false) cs
All-from_NonePass test [] h = All-nil (λ c. test c ≡ false)
All-from_NonePass test (c ∷ cs) h = All-cons (λ x. test x ≡ false) c cs h.0 (All-from_NonePass test cs h.1)

-- what follows the characters cs of a text is a text, with the characters that are left
record Follows (text rest cs : List ℕ) : Type 0 where
  is_text : IsUtf8 rest
  characters : chars text ≡ cs ++ chars rest

follows : (cs text rest : List ℕ) → IsUtf8 text → text ≡ encode_utf8_all cs ++ rest → Follows text rest cs
follows [] text rest utf8 e = record { is_text = subst IsUtf8 e utf8; characters = ap chars e }
follows (c ∷ cs) text rest utf8 e =
    let first : text ≡ encode_utf8 c ++ (encode_utf8_all cs ++ rest) = e ∙ append_assoc (encode_utf8 c) (encode_utf8_all cs) rest in
    let later = follows cs (encode_utf8_all cs ++ rest) rest (IsUtf8-past_char text _ c utf8 first) refl in
    record {
      is_text = later.is_text;
      characters = chars_past_char text _ c utf8 first ∙ ap (λ l. c ∷ l) later.characters;
    }

-- an empty stretch has no bytes, and any other has some
pub filter-encoded : (stretches : List (List ℕ)) → filter is_nonempty (map encode_utf8_all stretches) ≡ map encode_utf8_all (filter is_nonempty stretches)
filter-encoded [] = refl
filter-encoded ([] ∷ stretches) = filter-encoded stretches
filter-encoded ((c ∷ cs) ∷ stretches) =
    let wide = length-encode c in
    let some : 0 < length (encode_utf8 c ++ encode_utf8_all cs) = omega (arith, length-append (encode_utf8 c) (encode_utf8_all cs), (len_utf8_bounds c).0) in
    ap (λ b. cond b (encode_utf8_all (c ∷ cs) ∷ filter is_nonempty (map encode_utf8_all stretches)) (filter is_nonempty (map encode_utf8_all stretches))) (lt-ltb _ _ some)
    ∙ ap (λ l. encode_utf8_all (c ∷ cs) ∷ l) (filter-encoded stretches)
    ∙ sym (ap (λ b. map encode_utf8_all (cond b ((c ∷ cs) ∷ filter is_nonempty stretches) (filter is_nonempty stretches))) (lt-ltb 0 (length (c ∷ cs)) (omega arith)))

module _ (test : ℕ → Bool) where
  -- the pieces of a text, as bytes
  abbrev pub pieces : List ℕ → List (List ℕ)
  pieces text = map encode_utf8_all (slice_split test (chars text))

  pieces_last : (text cs : List ℕ) → IsUtf8 text → encode_utf8_all cs ≡ text → NonePass test cs → pieces text ≡ text ∷ []
  pieces_last text cs utf8 e none =
      ap (λ l. map encode_utf8_all (slice_split test l)) (sym (chars_from_encodes cs text utf8 e))
      ∙ ap (map encode_utf8_all) (slice_split_none test cs (All-from_NonePass test cs none)) ∙ ap (λ l. l ∷ []) e

  pieces_first : (text front rest cs : List ℕ) (c : ℕ) → IsUtf8 text → encode_utf8_all cs ≡ front → NonePass test cs → test c ≡ true
      → text ≡ front ++ (encode_utf8 c ++ rest) → (pieces text ≡ front ∷ pieces rest) × IsUtf8 rest
  pieces_first text front rest cs c utf8 e none passes at =
      let after = follows cs text (encode_utf8 c ++ rest) utf8 (at ∙ ap (λ l. l ++ (encode_utf8 c ++ rest)) (sym e)) in
      let next = chars_past_char (encode_utf8 c ++ rest) rest c after.is_text refl in (
        ap (λ l. map encode_utf8_all (slice_split test l)) (after.characters ∙ ap (λ l. cs ++ l) next)
            ∙ ap (map encode_utf8_all) (slice_split_at test cs c (chars rest) (All-from_NonePass test cs none) passes) ∙ ap (λ l. l ∷ pieces rest) e,
        IsUtf8-past_char (encode_utf8 c ++ rest) rest c after.is_text refl,
      )

  -- one step of `split`: the first piece comes, and the rest is left where a character passed
  pieces_step : (w x rest : List ℕ) (live : Bool) → IsUtf8 w → (o : Option (ℕ × ℕ)) → FindsBy test w o
      → MatchOption o ((x ≡ w) × (live ≡ false)) (λ q. 0 < q.1 → (x ≡ take q.0 w) × (live ≡ true) × (rest ≡ drop q.1 w))
      → (pieces w ≡ x ∷ cond live (pieces rest) []) × (live ≡ true → IsUtf8 rest)
  pieces_step w x rest live utf8 None none last = (
    pieces_last w none.0 utf8 none.1 none.2 ∙ (λ i. sym last.0 i ∷ cond (sym last.1 i) (pieces rest) []),
    λ on. let never : true ≡ false = sym on ∙ last.1 in absurd (cc),
  )
  pieces_step w x rest live utf8 (Some q) found cut =
      let at = found.1.2 in
      let wide = len_utf8_bounds found.1.0 in
      let parts = cut (omega (arith, at.ends, wide.0)) in
      let whole : w ≡ take q.0 w ++ (encode_utf8 found.1.0 ++ drop q.1 w) = sym (take-append-drop q.0 w) ∙ ap (λ l. take q.0 w ++ l) at.split in
      let first = pieces_first w (take q.0 w) (drop q.1 w) found.0.0 found.1.0 utf8 found.0.1 found.0.2 found.1.1 whole in (
        first.0 ∙ (λ i. sym parts.0 i ∷ cond (sym parts.1 i) (pieces (sym parts.2 i)) []),
        λ _. subst IsUtf8 (sym parts.2) first.1,
      )

  module _ {P : Type 0} (answers_by : P → (ℕ → Bool) → Type 0) where
    abbrev finds : P → List ℕ → Option (ℕ × ℕ) → Type 0
    finds p w o = (k : ℕ → Bool) → answers_by p k → FindsBy k w o

    abbrev keeps : P → P → Type 0
    keeps p q = (k : ℕ → Bool) → answers_by p k → answers_by q k

    -- `split` of a text by a pattern that answers by the test gives the pieces
    pub YieldsList-from_split_by : {s : _} (text : List ℕ) → IsUtf8 text → split_text s ≡ text → split_has_more s ≡ true → answers_by (split_pattern s) test
        → YieldsList (split_steps finds keeps) (λ x. x.now) s (pieces text)
    YieldsList-from_split_by {s} text utf8 is_text more answers =
        let shown = λ (t : _). cond (split_has_more t) (pieces (split_text t)) [] in
        subst (YieldsList (split_steps finds keeps) (λ x. x.now) s) (λ i. cond (more i) (pieces (is_text i)) [])
        (YieldsList-from_shown_while (split_steps finds keeps) (λ x. x.now) shown
        (λ t. answers_by (split_pattern t) test × (split_has_more t ≡ true → IsUtf8 (split_text t)))
        (λ t u h k. ap (λ b. length (cond b (pieces (split_text t)) [])) (sym k.0))
        (λ t x u h k.
        let cut = k.1.1.1 in
        let m = pieces_step (split_text t) x.now (split_text u) (split_has_more u) (h.1 (sym k.0)) cut.0 (cut.1 test h.0) cut.2 in (
          (k.1.0 test h.0, m.1),
          ap (λ b. cond b (pieces (split_text t)) []) (sym k.0) ∙ m.0,
        ))
        s (answers, λ _. subst IsUtf8 (sym is_text) utf8))

  -- the same of a run of `split` by a closure that computes the test, from its start to its end
  pub pieces_from_split : {F : Type 0} {g : Mut F (ℕ × Unit {0}) Bool} (s t : _) (text : List ℕ) (yielded : List (Bor (List ℕ))) → IsUtf8 text → split_text s ≡ text → split_has_more s ≡ true
      → Yields (split_steps (finds (λ f k. AlwaysReturns g (λ a r. r ≡ k a.0) f)) (keeps (λ f k. AlwaysReturns g (λ a r. r ≡ k a.0) f))) s yielded t
      → (last : Option (Bor (List ℕ))) (u : _) → last ≡ None
      → split_steps (finds (λ f k. AlwaysReturns g (λ a r. r ≡ k a.0) f)) (keeps (λ f k. AlwaysReturns g (λ a r. r ≡ k a.0) f)) t last u
      → ((a : ℕ × Unit {0}) (r : Bool) (q : F) → Called g (split_pattern s) a r q → (r ≡ test a.0) × (q ≡ split_pattern s))
      → map (λ x. x.now) yielded ≡ pieces text
  pieces_from_split {g} s t text yielded utf8 is_text more yielded_by last u ended step computes =
      let all = YieldsList-from_split_by (λ f k. AlwaysReturns g (λ a r. r ≡ k a.0) f) {s = s} text utf8 is_text more (always_returns_same g (λ a r. r ≡ test a.0) _ computes) in
      (YieldsList-end all yielded t yielded_by last u ended step).0
