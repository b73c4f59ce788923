-- The marks of a pattern's text.
use Rattle.std.proofs.Common.{◌≡◌, ◌≢◌, ℕ, ◌<◌, true, false, cond, eqb, List, [], ◌∷◌, ◌++◌, drop, get_or, reverse, refl, sym, ap, ◌∙◌, arith, Option, Some, None, MatchOption, unwrap_or}
use Rattle.std.proofs.lemmas.Bool.{ne_eqb, eq-eqb}
use Rattle.std.proofs.lemmas.List.{reverse-append, reverse-reverse}
use Rattle.std.specs.Borrow.{Bor}
use Rattle.match_types.specs.declared.kind.MatchType.TheVariants.{Exact, Phrase, Broad}
use Rattle.match_types.specs.Marks.{minus, without_minus, left_bracket, right_bracket, quotation_mark, begins_with, ends_with, kind_of, is_closed_as, is_closed, between_marks, inside}

-- the first byte read as a number, where the mark is not 0
pub begins_with-reads : (mark : ℕ) (text : List ℕ) → 0 < mark → begins_with mark text ≡ eqb (get_or text 0 0) mark
begins_with-reads mark [] some = sym (ne_eqb 0 mark (λ e. omega arith))
begins_with-reads mark (b ∷ text) some = refl

begins_with-none : (mark : ℕ) (text : List ℕ) → ((rest : List ℕ) → text ≢ mark ∷ rest) → begins_with mark text ≡ false
begins_with-none mark [] none = refl
begins_with-none mark (b ∷ text) none = ne_eqb b mark (λ e. none text (ap (λ c. c ∷ text) e))

ends_with-push : (mark : ℕ) (front : List ℕ) → ends_with mark (front ++ mark ∷ []) ≡ true
ends_with-push mark front = ap (begins_with mark) (reverse-append front (mark ∷ [])) ∙ eq-eqb mark mark refl

ends_with-none : (mark : ℕ) (text : List ℕ) → ((front : List ℕ) → text ≢ front ++ mark ∷ []) → ends_with mark text ≡ false
ends_with-none mark text none =
    begins_with-none mark (reverse text) (λ rest e. none (reverse rest) (sym (reverse-reverse text) ∙ ap reverse e ∙ reverse-append (mark ∷ []) rest))

pub closed-exact : (text rest front : List ℕ) → text ≡ left_bracket ∷ rest → rest ≡ front ++ right_bracket ∷ [] → is_closed text ≡ true
closed-exact text rest front e ends = ap is_closed e ∙ ap (ends_with right_bracket) ends ∙ ends_with-push right_bracket front

pub unclosed-exact : (text rest : List ℕ) → text ≡ left_bracket ∷ rest → ((front : List ℕ) → rest ≢ front ++ right_bracket ∷ []) → is_closed text ≡ false
unclosed-exact text rest e none = ap is_closed e ∙ ends_with-none right_bracket rest none

pub closed-phrase : (text rest front : List ℕ) → text ≡ quotation_mark ∷ rest → rest ≡ front ++ quotation_mark ∷ [] → is_closed text ≡ true
closed-phrase text rest front e ends = ap is_closed e ∙ ap (ends_with quotation_mark) ends ∙ ends_with-push quotation_mark front

pub unclosed-phrase : (text rest : List ℕ) → text ≡ quotation_mark ∷ rest → ((front : List ℕ) → rest ≢ front ++ quotation_mark ∷ []) → is_closed text ≡ false
unclosed-phrase text rest e none = ap is_closed e ∙ ends_with-none quotation_mark rest none

pub kind-broad : (text : List ℕ) → ((rest : List ℕ) → text ≢ left_bracket ∷ rest) → ((rest : List ℕ) → text ≢ quotation_mark ∷ rest) → kind_of text ≡ Broad
kind-broad text exact phrase = ap (λ b. cond b Exact (cond (begins_with quotation_mark text) Phrase Broad)) (begins_with-none left_bracket text exact) ∙ ap (λ b. cond b Phrase Broad) (begins_with-none quotation_mark text phrase)

pub closed-broad : (text : List ℕ) → kind_of text ≡ Broad → is_closed text ≡ true
closed-broad text broad = ap (λ kind. is_closed_as kind text) broad

pub inside-broad : (text : List ℕ) → kind_of text ≡ Broad → inside text ≡ text
inside-broad text broad = ap (λ kind. between_marks kind text) broad

-- what is left after `strip_prefix` at a minus, or else the text
pub stripped-minus : (text : Bor (List ℕ)) (r : Option (Bor (List ℕ))) → MatchOption r ((rest : List ℕ) → text.now ≢ minus ∷ rest) (λ x. text.now ≡ minus ∷ x.now)
    → (unwrap_or r text).now ≡ without_minus text.now
stripped-minus text None none = sym (ap (λ b. cond b (drop 1 text.now) text.now) (begins_with-none minus text.now none))
stripped-minus text (Some rest) e = sym (ap without_minus e)
