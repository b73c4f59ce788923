-- The parts of a head, one behind another.
use Rattle.std.proofs.Common.{◌≡◌, ℕ, Bool, true, false, List, [], ◌++◌, length, Some, refl, sym, ap, ◌∙◌, append_assoc, append-nil}
use Rattle.std.specs.Prelude.{codes, decimal, if◌then◌else◌}
use Rattle.desk_io.specs.Counting.{capped}
use Rattle.http_api.specs.declared.answer.Answer.{Answer}
use Rattle.http_api.specs.declared.answer.AnswerForm.{AnswerForm}
use Rattle.http_api.specs.AnswerText.{AnswerParts, answer_text, closing_line, field_line, head_text, parts_of, status_line}

in_turn : (a b c d e f g : List ℕ) → a ++ (b ++ (c ++ (d ++ (e ++ (f ++ g))))) ≡ a ++ b ++ c ++ d ++ e ++ f ++ g
in_turn a b c d e f g = simp append_assoc

module _ (parts : AnswerParts) (closes : Bool) where
  abbrev pub head_end : List ℕ
  head_end = closing_line closes ++ codes "\r\n"

  abbrev pub from_allow : List ℕ
  from_allow = field_line (codes "Allow") parts.allow ++ head_end

  abbrev pub from_location : List ℕ
  from_location = field_line (codes "Location") parts.location ++ from_allow

  abbrev pub from_length : List ℕ
  from_length = field_line (codes "Content-Length") (Some (decimal (capped (length parts.body)))) ++ from_location

  abbrev pub from_content : List ℕ
  from_content = field_line (codes "Content-Type") parts.content ++ from_length

  pub head_is : status_line parts.status ++ from_content ≡ head_text parts closes
  unfolding head_text
  head_is = in_turn (status_line parts.status) (field_line (codes "Content-Type") parts.content) (field_line (codes "Content-Length") (Some (decimal (capped (length parts.body)))))
      (field_line (codes "Location") parts.location) (field_line (codes "Allow") parts.allow) (closing_line closes) (codes "\r\n")

-- the line of the length
pub length_is : (told : ℕ) (parts : AnswerParts) → told ≡ capped (length parts.body) →
    codes "Content-Length: " ++ (decimal told ++ codes "\r\n") ≡ field_line (codes "Content-Length") (Some (decimal (capped (length parts.body))))
length_is told parts is = rw is refl

pub closing_is : (closes : Bool) → closes ≡ true → codes "Connection: close\r\n\r\n" ≡ closing_line closes ++ codes "\r\n"
closing_is closes is = rw is refl

-- the body, where it is written
abbrev pub body_told : Answer → AnswerForm → List ℕ
body_told answer form = if form.bodiless then [] else (parts_of answer).body

pub text_is : (answer : Answer) (form : AnswerForm) → head_text (parts_of answer) form.closes ++ body_told answer form ≡ answer_text answer form
unfolding answer_text
text_is answer form = refl

pub text_of_head : (answer : Answer) (form : AnswerForm) → form.bodiless ≡ true → head_text (parts_of answer) form.closes ≡ answer_text answer form
text_of_head answer form is =
    let head = head_text (parts_of answer) form.closes in
    let none : body_told answer form ≡ [] = rw is refl in
    sym (ap (λ (body : List ℕ). head ++ body) none ∙ append-nil head) ∙ text_is answer form

pub text_with_body : (answer : Answer) (form : AnswerForm) → form.bodiless ≡ false → head_text (parts_of answer) form.closes ++ (parts_of answer).body ≡ answer_text answer form
text_with_body answer form is =
    let told : (parts_of answer).body ≡ body_told answer form = rw is refl in
    ap (λ (body : List ℕ). head_text (parts_of answer) form.closes ++ body) told ∙ text_is answer form
