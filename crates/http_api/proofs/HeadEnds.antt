-- Where a head ends in bytes, in a part of them, and where more bytes come behind.
use Rattle.std.proofs.Common.{IsTrue, nat_eq, Bor, MatchOption, IfSome, IfNone, ◌≢◌, ◌≡◌, ℕ, suc, ◌+◌, ◌-◌, ◌<◌, ◌≤◌, ◌⊎◌, inl, inr, true, false, ◌&&◌, ◌==◌, List, [], ◌∷◌, ◌++◌, length, take, drop, get_or, bytes_eq, Option, Some, None, option_map, refl, sym, ap, ◌∙◌, ⊎_elim, arith, append_assoc, length-append, length-drop, take-append-drop, drop-drop, eqb-true, eq-eqb, zero}
use Rattle.memchr.specs.Find.{IsFirstByte, is_byte}
use Rattle.std.proofs.lemmas.Bool.{cases_Bool, and_parts, cond-true, cond-false, false_from_ne_true, false≢true}
use Rattle.std.proofs.lemmas.List.{take-append-le, drop_more, drop_at, drop_all, drop-append-le, take_all}
use Rattle.std.proofs.lemmas.Option.{same_Some, none-some}
use Rattle.std.proofs.lemmas.Slice.Eq.{bytes_eq-Decides}
use Rattle.http_api.specs.Held.{IsBehindBlank}
use Rattle.http_api.specs.HeadEnd.{without_blank, end_in_front, unless_there, length_through_end, head_length}

-- ---- empty lines

blank-feed : (first : ℕ) (rest : List ℕ) → (first == 10) ≡ true → without_blank (first ∷ rest) ≡ without_blank rest
unfolding without_blank
blank-feed first [] feed = cond-true (first == 10) [] (first ∷ []) feed
blank-feed first (second ∷ rest) feed = cond-true (first == 10) _ _ feed

blank-return : (first second : ℕ) (rest : List ℕ) → (first == 10) ≡ false → (first == 13 && second == 10) ≡ true →
    without_blank (first ∷ second ∷ rest) ≡ without_blank rest
unfolding without_blank
blank-return first second rest feed return = cond-false (first == 10) _ _ feed ∙ cond-true (first == 13 && second == 10) _ _ return

still-one : (first : ℕ) → (first == 10) ≡ false → without_blank (first ∷ []) ≡ first ∷ []
unfolding without_blank
still-one first feed = cond-false (first == 10) [] (first ∷ []) feed

still-more : (first second : ℕ) (rest : List ℕ) → (first == 10) ≡ false → (first == 13 && second == 10) ≡ false →
    without_blank (first ∷ second ∷ rest) ≡ first ∷ second ∷ rest
unfolding without_blank
still-more first second rest feed return = cond-false (first == 10) _ _ feed ∙ cond-false (first == 13 && second == 10) _ _ return

still-none : without_blank [] ≡ []
unfolding without_blank
still-none = refl

-- bytes parted behind the empty lines in front
pub record Parted (bytes : List ℕ) : Type 0 where
  pub front : List ℕ
  pub behind : List ℕ
  pub split : bytes ≡ front ++ behind
  pub blank : (rest : List ℕ) → without_blank (front ++ rest) ≡ without_blank rest
  pub still : without_blank behind ≡ behind

parted-whole : (bytes : List ℕ) → without_blank bytes ≡ bytes → Parted bytes
parted-whole bytes still = record { front = []; behind = bytes; split = refl; blank = λ rest. refl; still = still }

parted-feed : (first : ℕ) (more : List ℕ) → (first == 10) ≡ true → Parted more → Parted (first ∷ more)
parted-feed first more feed parts = record {
  front = first ∷ parts.front;
  behind = parts.behind;
  split = ap (λ (bytes : List ℕ). first ∷ bytes) parts.split;
  blank = λ rest. blank-feed first (parts.front ++ rest) feed ∙ parts.blank rest;
  still = parts.still;
}

parted-return : (first second : ℕ) (more : List ℕ) → (first == 10) ≡ false → (first == 13 && second == 10) ≡ true → Parted more → Parted (first ∷ second ∷ more)
parted-return first second more feed return parts = record {
  front = first ∷ second ∷ parts.front;
  behind = parts.behind;
  split = ap (λ (bytes : List ℕ). first ∷ second ∷ bytes) parts.split;
  blank = λ rest. blank-return first second (parts.front ++ rest) feed return ∙ parts.blank rest;
  still = parts.still;
}

pub parted : (bytes : List ℕ) → Parted bytes
parted [] = parted-whole [] still-none
parted (first ∷ []) = ⊎_elim
    (λ feed. parted-feed first [] feed (parted-whole [] still-none))
    (λ other. parted-whole (first ∷ []) (still-one first other))
    (cases_Bool (first == 10))
parted (first ∷ second ∷ more) = ⊎_elim
    (λ feed. parted-feed first (second ∷ more) feed (parted (second ∷ more)))
    (λ other. ⊎_elim
    (λ return. parted-return first second more other return (parted more))
    (λ text. parted-whole (first ∷ second ∷ more) (still-more first second more other text))
    (cases_Bool (first == 13 && second == 10)))
    (cases_Bool (first == 10))

module _ (bytes : List ℕ) (parts : Parted bytes) where
  pub parted-is : without_blank bytes ≡ parts.behind
  parted-is = ap without_blank parts.split ∙ parts.blank parts.behind ∙ parts.still

pub length-without_blank : (bytes : List ℕ) → length (without_blank bytes) ≤ length bytes
length-without_blank bytes =
    let parts = parted bytes in
    omega (arith, ap (length {A = ℕ}) (parted-is bytes parts), ap (length {A = ℕ}) parts.split, length-append parts.front parts.behind)

-- bytes that begin with no empty line do so whatever comes behind their first two
still-behind : (first second : ℕ) (rest other : List ℕ) → without_blank (first ∷ second ∷ rest) ≡ first ∷ second ∷ rest →
    without_blank (first ∷ second ∷ other) ≡ first ∷ second ∷ other
still-behind first second rest other still = ⊎_elim
    (λ feed.
    let shorter : without_blank (second ∷ rest) ≡ first ∷ second ∷ rest = sym (blank-feed first (second ∷ rest) feed) ∙ still in
    absurd (omega (arith, ap (length {A = ℕ}) shorter, length-without_blank (second ∷ rest))))
    (λ no_feed. ⊎_elim
    (λ return.
    let shorter : without_blank rest ≡ first ∷ second ∷ rest = sym (blank-return first second rest no_feed return) ∙ still in
    absurd (omega (arith, ap (length {A = ℕ}) shorter, length-without_blank rest)))
    (λ text. still-more first second other no_feed text)
    (cases_Bool (first == 13 && second == 10)))
    (cases_Bool (first == 10))

still-append : (bytes more : List ℕ) → 2 ≤ length bytes → without_blank bytes ≡ bytes → without_blank (bytes ++ more) ≡ bytes ++ more
still-append [] more two still = absurd (omega arith)
still-append (first ∷ []) more two still = absurd (omega arith)
still-append (first ∷ second ∷ rest) more two still = still-behind first second rest (rest ++ more) still

still-front : (bytes more : List ℕ) → 2 ≤ length bytes → without_blank (bytes ++ more) ≡ bytes ++ more → without_blank bytes ≡ bytes
still-front [] more two still = absurd (omega arith)
still-front (first ∷ []) more two still = absurd (omega arith)
still-front (first ∷ second ∷ rest) more two still = still-behind first second (rest ++ more) rest still

-- ---- the end of a head

-- what `unless_there` gives
unless-cases : (here more : Option ℕ) (n : ℕ) → unless_there here more ≡ Some n → (here ≡ Some n) ⊎ ((here ≡ None) × (m : ℕ) × (more ≡ Some m) × (n ≡ suc m))
unless-cases (Some k) more n is = inl is
unless-cases None (Some m) n is = inr (refl, m, refl, sym (same_Some (suc m) n is))
unless-cases None None n is = absurd (none-some n is)

-- an end of a head stands in front by its first two bytes, or by its first three
front-cases : (bytes : List ℕ) (n : ℕ) → end_in_front bytes ≡ Some n →
    ((n ≡ 2) × (take 2 bytes ≡ 10 ∷ 10 ∷ [])) ⊎ ((n ≡ 3) × (take 3 bytes ≡ 10 ∷ 13 ∷ 10 ∷ []))
front-cases bytes n is = ⊎_elim
    (λ two. inl (sym (same_Some 2 n (sym (cond-true (bytes_eq (take 2 bytes) (10 ∷ 10 ∷ [])) (Some 2) _ two) ∙ is)), (bytes_eq-Decides (take 2 bytes) (10 ∷ 10 ∷ [])).0 two))
    (λ no_two. ⊎_elim
    (λ three. inr (
      sym (same_Some 3 n (sym (cond-true (bytes_eq (take 3 bytes) (10 ∷ 13 ∷ 10 ∷ [])) (Some 3) None three) ∙ sym (cond-false (bytes_eq (take 2 bytes) (10 ∷ 10 ∷ [])) (Some 2) _ no_two) ∙ is)),
      (bytes_eq-Decides (take 3 bytes) (10 ∷ 13 ∷ 10 ∷ [])).0 three,
    ))
    (λ no_three. absurd (none-some n (sym (cond-false (bytes_eq (take 3 bytes) (10 ∷ 13 ∷ 10 ∷ [])) (Some 3) None no_three) ∙ sym (cond-false (bytes_eq (take 2 bytes) (10 ∷ 10 ∷ [])) (Some 2) _ no_two) ∙ is)))
    (cases_Bool (bytes_eq (take 3 bytes) (10 ∷ 13 ∷ 10 ∷ []))))
    (cases_Bool (bytes_eq (take 2 bytes) (10 ∷ 10 ∷ [])))

front-two : (bytes : List ℕ) → take 2 bytes ≡ 10 ∷ 10 ∷ [] → end_in_front bytes ≡ Some 2
front-two bytes is = cond-true (bytes_eq (take 2 bytes) (10 ∷ 10 ∷ [])) (Some 2) _ ((bytes_eq-Decides (take 2 bytes) (10 ∷ 10 ∷ [])).1 is)

front-append : (bytes more : List ℕ) → 3 ≤ length bytes → end_in_front (bytes ++ more) ≡ end_in_front bytes
front-append bytes more three = rw (take-append-le 2 bytes more (omega arith), take-append-le 3 bytes more three) refl

pub front-within : (bytes : List ℕ) (n : ℕ) → end_in_front bytes ≡ Some n → (2 ≤ n) × (n ≤ length bytes)
front-within bytes n is = ⊎_elim
    (λ two. let size : length (take 2 bytes) ≡ 2 = ap (length {A = ℕ}) two.1 in (omega arith, omega (arith, length-take-under 2 bytes)))
    (λ three. let size : length (take 3 bytes) ≡ 3 = ap (length {A = ℕ}) three.1 in (omega arith, omega (arith, length-take-under 3 bytes)))
    (front-cases bytes n is)
  where
    length-take-under : (n : ℕ) (bytes : List ℕ) → length (take n bytes) ≤ length bytes
    length-take-under n bytes = omega (arith, ap (length {A = ℕ}) (take-append-drop n bytes), length-append (take n bytes) (drop n bytes))

-- an end that stands in the first bytes is seen in them alone
front-part : (bytes more : List ℕ) (n : ℕ) → end_in_front (bytes ++ more) ≡ Some n → n ≤ length bytes → end_in_front bytes ≡ Some n
front-part bytes more n is short = ⊎_elim
    (λ two. front-two bytes (sym (take-append-le 2 bytes more (omega arith)) ∙ two.1) ∙ ap Some (sym two.0))
    (λ three. sym (front-append bytes more (omega arith)) ∙ is)
    (front-cases (bytes ++ more) n is)

-- a list that is more than one byte
through-cons : (byte : ℕ) (more : List ℕ) → length_through_end (byte ∷ more) ≡ unless_there (end_in_front (byte ∷ more)) (length_through_end more)
unfolding length_through_end
through-cons byte more = refl

through-nil : length_through_end [] ≡ None
unfolding length_through_end
through-nil = refl

pub through-within : (bytes : List ℕ) (n : ℕ) → length_through_end bytes ≡ Some n → (2 ≤ n) × (n ≤ length bytes)
through-within [] n is = absurd (none-some n (sym through-nil ∙ is))
through-within (byte ∷ more) n is = ⊎_elim
    (λ here. front-within (byte ∷ more) n here)
    (λ later. let within = through-within more later.1 later.2 in (omega arith, omega arith))
    (unless-cases (end_in_front (byte ∷ more)) (length_through_end more) n (sym (through-cons byte more) ∙ is))

through-here : (byte : ℕ) (more : List ℕ) (n : ℕ) → end_in_front (byte ∷ more) ≡ Some n → length_through_end (byte ∷ more) ≡ Some n
through-here byte more n here = through-cons byte more ∙ ap (λ (front : Option ℕ). unless_there front (length_through_end more)) here

through-later : (byte : ℕ) (more : List ℕ) (n : ℕ) → end_in_front (byte ∷ more) ≡ None → length_through_end more ≡ Some n → length_through_end (byte ∷ more) ≡ Some (suc n)
through-later byte more n none later =
    through-cons byte more ∙ ap (λ (front : Option ℕ). unless_there front (length_through_end more)) none ∙ ap (λ (rest : Option ℕ). option_map suc rest) later

pub through-append : (bytes more : List ℕ) (n : ℕ) → length_through_end bytes ≡ Some n → length_through_end (bytes ++ more) ≡ Some n
through-append [] more n is = absurd (none-some n (sym through-nil ∙ is))
through-append (byte ∷ bytes) more n is = ⊎_elim
    (λ here. through-here byte (bytes ++ more) n (front-grown (byte ∷ bytes) more n here))
    (λ later.
    let within = through-within bytes later.1 later.2 in
    through-later byte (bytes ++ more) later.1 (front-append (byte ∷ bytes) more (omega arith) ∙ later.0) (through-append bytes more later.1 later.2) ∙ ap Some (sym later.3))
    (unless-cases (end_in_front (byte ∷ bytes)) (length_through_end bytes) n (sym (through-cons byte bytes) ∙ is))
  where
    front-grown : (bytes more : List ℕ) (n : ℕ) → end_in_front bytes ≡ Some n → end_in_front (bytes ++ more) ≡ Some n
    front-grown bytes more n is =
        let within = front-within bytes n is in
        ⊎_elim
        (λ two. front-two (bytes ++ more) (take-append-le 2 bytes more (omega arith) ∙ two.1) ∙ ap Some (sym two.0))
        (λ three. front-append bytes more (omega arith) ∙ is)
        (front-cases bytes n is)

pub through-part : (bytes more : List ℕ) (n : ℕ) → length_through_end (bytes ++ more) ≡ Some n → n ≤ length bytes → length_through_end bytes ≡ Some n
through-part [] more n is short = let within = through-within more n is in absurd (omega arith)
through-part (byte ∷ bytes) more n is short = ⊎_elim
    (λ here. through-here byte bytes n (front-part (byte ∷ bytes) more n here short))
    (λ later.
    let within = through-within (bytes ++ more) later.1 later.2 in
    let part = through-part bytes more later.1 later.2 (omega arith) in
    through-later byte bytes later.1 (sym (front-append (byte ∷ bytes) more (omega arith)) ∙ later.0) part ∙ ap Some (sym later.3))
    (unless-cases (end_in_front (byte ∷ (bytes ++ more))) (length_through_end (bytes ++ more)) n (sym (through-cons byte (bytes ++ more)) ∙ is))

-- ---- a head with the empty lines before it

-- the head that stands in front has `n` bytes
pub record Ends (bytes : List ℕ) (n : ℕ) : Type 0 where
  pub front : List ℕ
  pub behind : List ℕ
  pub size : ℕ
  pub split : bytes ≡ front ++ behind
  pub blank : (rest : List ℕ) → without_blank (front ++ rest) ≡ without_blank rest
  pub still : without_blank behind ≡ behind
  pub through : length_through_end behind ≡ Some size
  pub all : n ≡ length front + size

mapped : (f : ℕ → ℕ) (o : Option ℕ) (n : ℕ) → option_map f o ≡ Some n → (m : ℕ) × (o ≡ Some m) × (f m ≡ n)
mapped f (Some m) n is = (m, refl, same_Some (f m) n is)
mapped f None n is = absurd (none-some n is)

pub Ends-from : (bytes : List ℕ) (n : ℕ) → head_length bytes ≡ Some n → Ends bytes n
unfolding head_length
Ends-from bytes n is =
    let parts = parted bytes in
    let behind_is : without_blank bytes ≡ parts.behind = parted-is bytes parts in
    let found = mapped (λ (m : ℕ). length bytes - length (without_blank bytes) + m) (length_through_end (without_blank bytes)) n is in
    record {
      front = parts.front;
      behind = parts.behind;
      size = found.0;
      split = parts.split;
      blank = parts.blank;
      still = parts.still;
      through = ap length_through_end (sym behind_is) ∙ found.1;
      all = omega (arith, found.2, ap (length {A = ℕ}) behind_is, ap (length {A = ℕ}) parts.split, length-append parts.front parts.behind);
    }

pub head_length-from : (bytes : List ℕ) (n : ℕ) → Ends bytes n → head_length bytes ≡ Some n
unfolding head_length
head_length-from bytes n ends =
    let behind_is : without_blank bytes ≡ ends.behind = ap without_blank ends.split ∙ ends.blank ends.behind ∙ ends.still in
    let all : length bytes - length (without_blank bytes) + ends.size ≡ n =
    omega (arith, ends.all, ap (length {A = ℕ}) behind_is, ap (length {A = ℕ}) ends.split, length-append ends.front ends.behind) in
    ap (option_map (λ (m : ℕ). length bytes - length (without_blank bytes) + m)) (ap length_through_end behind_is ∙ ends.through) ∙ ap Some all

pub head_length-within : (bytes : List ℕ) (n : ℕ) → head_length bytes ≡ Some n → (2 ≤ n) × (n ≤ length bytes)
head_length-within bytes n is =
    let ends = Ends-from bytes n is in
    let within = through-within ends.behind ends.size ends.through in
    let whole : length bytes ≡ length ends.front + length ends.behind = ap (length {A = ℕ}) ends.split ∙ length-append ends.front ends.behind in
    (omega (arith, ends.all), omega (arith, ends.all))

-- a head that ends stays as it is where more bytes come behind
pub head_length-append : (bytes more : List ℕ) (n : ℕ) → head_length bytes ≡ Some n → head_length (bytes ++ more) ≡ Some n
head_length-append bytes more n is =
    let ends = Ends-from bytes n is in
    let within = through-within ends.behind ends.size ends.through in
    head_length-from (bytes ++ more) n (record {
      front = ends.front;
      behind = ends.behind ++ more;
      size = ends.size;
      split = ap (λ (all : List ℕ). all ++ more) ends.split ∙ append_assoc ends.front ends.behind more;
      blank = ends.blank;
      still = still-append ends.behind more (omega arith) ends.still;
      through = through-append ends.behind more ends.size ends.through;
      all = ends.all;
    })

-- and it ends in the first bytes alone where they hold it whole
pub head_length-part : (bytes more : List ℕ) (n : ℕ) → head_length (bytes ++ more) ≡ Some n → n ≤ length bytes → head_length bytes ≡ Some n
head_length-part bytes more n is short =
    let ends = Ends-from (bytes ++ more) n is in
    let within = through-within ends.behind ends.size ends.through in
    let count = length ends.front in
    let part = drop count bytes in
    let fits : count ≤ length bytes = omega (arith, ends.all) in
    let front_is : take count bytes ≡ ends.front =
    sym (take-append-le count bytes more fits) ∙ ap (take count) ends.split ∙ take-append-le count ends.front ends.behind (omega arith) ∙ take_all count ends.front (omega arith) in
    let split : bytes ≡ ends.front ++ part = sym (take-append-drop count bytes) ∙ ap (λ (front : List ℕ). front ++ part) front_is in
    let behind_is : ends.behind ≡ part ++ more = sym (drop_at ends.front ends.behind count refl) ∙ ap (drop count) (sym ends.split) ∙ drop-append-le count bytes more fits in
    let long : length part ≡ length bytes - count = length-drop count bytes in
    let through : length_through_end (part ++ more) ≡ Some ends.size = ap length_through_end (sym behind_is) ∙ ends.through in
    let still : without_blank (part ++ more) ≡ part ++ more = ap without_blank (sym behind_is) ∙ ends.still ∙ behind_is in
    head_length-from bytes n (record {
      front = ends.front;
      behind = part;
      size = ends.size;
      split = split;
      blank = ends.blank;
      still = still-front part more (omega (arith, ends.all)) still;
      through = through-part part more ends.size through (omega (arith, ends.all));
      all = ends.all;
    })

-- a head is held only by bytes that are not empty lines alone
pub head_length-blank : (bytes : List ℕ) (n : ℕ) → head_length bytes ≡ Some n → without_blank bytes ≡ [] → ⊥
head_length-blank bytes n is blank =
    let ends = Ends-from bytes n is in
    let within = through-within ends.behind ends.size ends.through in
    let behind_is : without_blank bytes ≡ ends.behind = ap without_blank ends.split ∙ ends.blank ends.behind ∙ ends.still in
    let none : ends.behind ≡ [] = sym behind_is ∙ blank in
    omega (arith, ap (length {A = ℕ}) none)

-- ---- the functions that look for it

option-same : (o : Option ℕ) → o ≡ option_map (λ (n : ℕ). 0 + n) o
option-same None = refl
option-same (Some n) = let same : n ≡ 0 + n = omega arith in ap Some same

option-more : (k : ℕ) (o : Option ℕ) → option_map suc (option_map (λ (n : ℕ). k + n) o) ≡ option_map (λ (n : ℕ). suc k + n) o
option-more k None = refl
option-more k (Some n) = let same : suc (k + n) ≡ suc k + n = omega arith in ap Some same

option-behind : (j k : ℕ) (o : Option ℕ) → option_map (λ (n : ℕ). j + n) (option_map (λ (n : ℕ). k + n) o) ≡ option_map (λ (n : ℕ). j + k + n) o
option-behind j k None = refl
option-behind j k (Some n) = let same : j + (k + n) ≡ j + k + n = omega arith in ap Some same

option-next : (k : ℕ) (o : Option ℕ) → option_map (λ (n : ℕ). k + n) (option_map suc o) ≡ option_map (λ (n : ℕ). k + 1 + n) o
option-next k None = refl
option-next k (Some n) = let same : k + suc n ≡ k + 1 + n = omega arith in ap Some same

-- no end begins at another byte than a line feed
front-other : (byte : ℕ) (more : List ℕ) → (byte == 10) ≡ false → end_in_front (byte ∷ more) ≡ None
front-other byte more other = go (end_in_front (byte ∷ more)) refl
  where
    go : (front : Option ℕ) → end_in_front (byte ∷ more) ≡ front → front ≡ None
    go None is = refl
    go (Some n) is = ⊎_elim
        (λ two. absurd (false≢true (sym other ∙ head-feed more (10 ∷ []) two.1)))
        (λ three. absurd (false≢true (sym other ∙ head-feed-three more (13 ∷ 10 ∷ []) three.1)))
        (front-cases (byte ∷ more) n is)
      where
        head-feed : (more rest : List ℕ) → byte ∷ take 1 more ≡ 10 ∷ rest → (byte == 10) ≡ true
        head-feed more rest is = let same : byte ≡ 10 = cc in eq-eqb byte 10 same

        head-feed-three : (more rest : List ℕ) → byte ∷ take 2 more ≡ 10 ∷ rest → (byte == 10) ≡ true
        head-feed-three more rest is = let same : byte ≡ 10 = cc in eq-eqb byte 10 same

-- bytes in front that are no line feeds are passed over
pub through-skip : (k : ℕ) (bytes : List ℕ) → k ≤ length bytes → ((j : ℕ) → j < k → (get_or bytes j 0 == 10) ≡ false) →
    length_through_end bytes ≡ option_map (λ (n : ℕ). k + n) (length_through_end (drop k bytes))
through-skip zero bytes fits none = option-same (length_through_end bytes)
through-skip (suc k) [] fits none = absurd (omega arith)
through-skip (suc k) (byte ∷ bytes) fits none =
    through-cons byte bytes ∙ ap (λ (front : Option ℕ). unless_there front (length_through_end bytes)) (front-other byte bytes (none 0 (omega arith)))
    ∙ ap (option_map suc) (through-skip k bytes (omega arith) (λ j below. none (suc j) (omega arith))) ∙ option-more k (length_through_end (drop k bytes))

-- how far the search has come
pub record Passed (bytes : List ℕ) (passed : ℕ) : Type 0 where
  pub within : passed ≤ length bytes
  pub same : length_through_end bytes ≡ option_map (λ (n : ℕ). passed + n) (length_through_end (drop passed bytes))

module _ (bytes : List ℕ) (passed : ℕ) (so_far : Passed bytes passed) where
  rest-length : length (drop passed bytes) ≡ length bytes - passed
  rest-length = length-drop passed bytes

  -- no line feed is left
  pub passed-all : IsFirstByte (is_byte 10) (drop passed bytes) None → length_through_end bytes ≡ None
  passed-all none =
      let rest = drop passed bytes in
      so_far.same ∙ ap (option_map (λ (n : ℕ). passed + n))
      (through-skip (length rest) rest (omega arith) (λ j below. false_from_ne_true (get_or rest j 0 == 10) (none j (omega arith) below))
      ∙ ap (λ (behind : List ℕ). option_map (λ (n : ℕ). length rest + n) (length_through_end behind)) (drop_all (length rest) rest (omega arith))
      ∙ ap (option_map (λ (n : ℕ). length rest + n)) through-nil)

  module _ (feed : ℕ) (found : IsFirstByte (is_byte 10) (drop passed bytes) (Some feed)) where
    pub feed-within : passed + feed < length bytes
    feed-within = omega (arith, found.0.high, rest-length)

    at-feed : length_through_end bytes ≡ option_map (λ (n : ℕ). passed + feed + n) (length_through_end (drop (passed + feed) bytes))
    at-feed =
        let rest = drop passed bytes in
        so_far.same ∙ ap (option_map (λ (n : ℕ). passed + n))
        (through-skip feed rest (omega (arith, found.0.high)) (λ j below. false_from_ne_true (get_or rest j 0 == 10) (found.0.before j (omega arith) below)))
        ∙ option-behind passed feed (length_through_end (drop feed rest))
        ∙ ap (λ (behind : List ℕ). option_map (λ (n : ℕ). passed + feed + n) (length_through_end behind)) (drop-drop feed passed bytes)

    here : drop (passed + feed) bytes ≡ get_or bytes (passed + feed) 0 ∷ drop (passed + feed + 1) bytes
    here = drop_more bytes (passed + feed) 0 feed-within

    at-here : length_through_end (drop (passed + feed) bytes) ≡ unless_there (end_in_front (drop (passed + feed) bytes)) (length_through_end (drop (passed + feed + 1) bytes))
    at-here = rw here (through-cons (get_or bytes (passed + feed) 0) (drop (passed + feed + 1) bytes))

    -- an end stands at the line feed
    pub passed-end : (end : ℕ) → end_in_front (drop (passed + feed) bytes) ≡ Some end → length_through_end bytes ≡ Some (passed + feed + end)
    passed-end end is =
        at-feed ∙ ap (option_map (λ (n : ℕ). passed + feed + n))
        (at-here ∙ ap (λ (front : Option ℕ). unless_there front (length_through_end (drop (passed + feed + 1) bytes))) is)

    -- none stands there
    pub passed-more : end_in_front (drop (passed + feed) bytes) ≡ None → Passed bytes (passed + feed + 1)
    passed-more none = record {
      within = omega (arith, feed-within);
      same =
          at-feed ∙ ap (option_map (λ (n : ℕ). passed + feed + n))
          (at-here ∙ ap (λ (front : Option ℕ). unless_there front (length_through_end (drop (passed + feed + 1) bytes))) none)
          ∙ option-next (passed + feed) (length_through_end (drop (passed + feed + 1) bytes));
    }

-- the lengths of the empty lines and of the head behind them are that of all
pub head_length-parts : (bytes : List ℕ) (blank : ℕ) (end : Option ℕ) → blank ≤ length bytes → drop blank bytes ≡ without_blank bytes →
    end ≡ length_through_end (drop blank bytes) → option_map (λ (n : ℕ). blank + n) end ≡ head_length bytes
unfolding head_length
head_length-parts bytes blank end fits behind is =
    let size : length bytes - length (without_blank bytes) ≡ blank = omega (arith, ap (length {A = ℕ}) behind, length-drop blank bytes) in
    ap (option_map (λ (n : ℕ). blank + n)) (is ∙ ap length_through_end behind)
    ∙ ap (λ (k : ℕ). option_map (λ (n : ℕ). k + n) (length_through_end (without_blank bytes))) (sym size)

-- ---- empty lines, one at a time

-- the rest of the bytes behind some empty lines
pub record Blank (bytes rest : List ℕ) : Type 0 where
  pub within : length rest ≤ length bytes
  pub suffix : drop (length bytes - length rest) bytes ≡ rest
  pub same : without_blank rest ≡ without_blank bytes

-- an empty line in front
pub behind-feed : (bytes rest : List ℕ) → bytes ≡ 10 ∷ rest → IsBehindBlank bytes rest
behind-feed bytes rest is = record {
  count = 1;
  some = omega arith;
  size = omega (arith, ap (length {A = ℕ}) is);
  suffix = ap (drop 1) is;
  same = ap without_blank is ∙ blank-feed 10 rest refl;
}

pub behind-return : (bytes rest : List ℕ) → bytes ≡ 13 ∷ 10 ∷ rest → IsBehindBlank bytes rest
behind-return bytes rest is = record {
  count = 2;
  some = omega arith;
  size = omega (arith, ap (length {A = ℕ}) is);
  suffix = ap (drop 2) is;
  same = ap without_blank is ∙ blank-return 13 10 rest refl refl;
}

-- no empty line in front
pub no_blank : (bytes : List ℕ) → ((more : List ℕ) → bytes ≡ 10 ∷ more → ⊥) → ((more : List ℕ) → bytes ≡ 13 ∷ 10 ∷ more → ⊥) → without_blank bytes ≡ bytes
no_blank [] no_feed no_return = still-none
no_blank (first ∷ []) no_feed no_return = still-one first (false_from_ne_true (first == 10) (λ feed. no_feed [] (ap (λ (byte : ℕ). byte ∷ []) (eqb-true first 10 feed))))
no_blank (first ∷ second ∷ more) no_feed no_return = still-more first second more
    (false_from_ne_true (first == 10) (λ feed. no_feed (second ∷ more) (ap (λ (byte : ℕ). byte ∷ second ∷ more) (eqb-true first 10 feed))))
    (false_from_ne_true (first == 13 && second == 10) (λ both.
    let parts = and_parts (first == 13) (second == 10) both in
    no_return more (ap (λ (byte : ℕ). byte ∷ second ∷ more) (eqb-true first 13 parts.0) ∙ ap (λ (byte : ℕ). 13 ∷ byte ∷ more) (eqb-true second 10 parts.1))))

-- all bytes are empty lines where their count is that of all
pub blank-whole : (bytes : List ℕ) (n : ℕ) → n ≤ length bytes → drop n bytes ≡ without_blank bytes →
    (IsTrue (nat_eq n (length bytes)) → without_blank bytes ≡ []) × (without_blank bytes ≡ [] → IsTrue (nat_eq n (length bytes)))
blank-whole bytes n fits behind = (
  λ whole. sym behind ∙ drop_all n bytes (let same : n ≡ length bytes = eqb-true n (length bytes) whole in omega arith),
  λ none.
      let rest : length (drop n bytes) ≡ 0 = ap (length {A = ℕ}) (behind ∙ none) in
      eq-eqb n (length bytes) (omega (arith, length-drop n bytes)),
)

-- what `strip_prefix` answers for an empty line of two bytes, where none of one byte is there
pub behind-second : (bytes : List ℕ) (r : Option (Bor (List ℕ))) → MatchOption r ((rest : List ℕ) → bytes ≢ 13 ∷ 10 ∷ rest) (λ rest. bytes ≡ 13 ∷ 10 ∷ rest.now) → IfSome r (λ rest. IsBehindBlank bytes rest.now)
behind-second bytes (Some rest) is = behind-return bytes rest.now is
behind-second bytes None is = tt

pub behind-none : (bytes : List ℕ) (r : Option (Bor (List ℕ))) → ((rest : List ℕ) → bytes ≢ 10 ∷ rest) → MatchOption r ((rest : List ℕ) → bytes ≢ 13 ∷ 10 ∷ rest) (λ rest. bytes ≡ 13 ∷ 10 ∷ rest.now) → IfNone r (without_blank bytes ≡ bytes)
behind-none bytes (Some rest) no_feed is = tt
behind-none bytes None no_feed is = no_blank bytes no_feed is
