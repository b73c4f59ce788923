-- Passes joined one after another.
use Rattle.std.proofs.Common.{◌≡◌, ℕ, ◌-◌, take, List, [], ◌∷◌, ◌++◌, map, sym, ap, ◌∙◌, append_assoc}
use mathlib.Core.List.{map-append}
use Rattle.atomic_table.specs.Seated.{TableId}
use Rattle.turn_lock.specs.declared.view.Place.TheVariants.{Away}
use Rattle.turn_lock.specs.declared.view.Joined.{Joined}
use Rattle.turn_lock.specs.declared.view.Known.{Known}
use Rattle.turn_lock.specs.Steps.{Seated, empty_handed, joined_with}
use Rattle.turn_lock.specs.LockValues.{PassValue}
use Rattle.turn_lock.specs.Seats.{IsPassOf}
use Rattle.turn_lock.specs.Passes.{joined_of, Unites}

-- the passes that are left, and then what was joined, are all
pub record Unions {V I N : Type 0} (all left : List (PassValue I N)) (me : Seated V I N) : Type 0 where
  pub known : Known I N
  pub is : me ≡ empty_handed known
  pub away : known.place ≡ Away
  pub split : map joined_of all ≡ map joined_of left ++ (known.joined ++ record { number = known.number; seen = known.seen } ∷ [])

module _ {V I N : Type 0} where
  record_of : (p : PassValue I N) (table : TableId) (me : Seated V I N) (h : IsPassOf p table me) → joined_of p ≡ record { number = h.seat.known.number; seen = h.seat.known.seen }
  record_of p table me h = ap joined_of h.shows

  pub table_of : (p : PassValue I N) (table : TableId) (me : Seated V I N) → IsPassOf p table me → p.lock.table ≡ table
  table_of p table me h = ap (λ (x : PassValue I N). x.lock.table) h.shows

  pub unions_first : (all left : List (PassValue I N)) (p : PassValue I N) (table : TableId) (me : Seated V I N) → all ≡ left ++ p ∷ [] → IsPassOf p table me → Unions all left me
  unions_first all left p table me e h = record {
    known = h.seat.known;
    is = h.seat.is;
    away = h.seat.away;
    split = ap (map joined_of) e ∙ (map-append joined_of left (p ∷ []) ∙ λ i. map joined_of left ++ (sym h.seat.alone i ++ record_of p table me h i ∷ []));
  }

  pub unions_more : (all old left : List (PassValue I N)) (q : PassValue I N) (table : TableId) (me him new : Seated V I N) → old ≡ left ++ q ∷ [] → Unions all old me → IsPassOf q table him
      → new ≡ (joined_with me.0 him.0, me.1) → Unions all left new
  unions_more all old left q table me him new e u h is =
      let k = u.known in
      let l = h.seat.known in
      let j : Joined I = record { number = l.number; seen = l.seen } in
      let last : List (Joined I) = record { number = k.number; seen = k.seen } ∷ [] in record {
        known = record k { joined = j ∷ k.joined };
        is = is ∙ λ i. (joined_with (u.is i).0 (h.seat.is i).0, (u.is i).1);
        away = u.away;
        split = u.split ∙ (ap (λ (xs : List (PassValue I N)). map joined_of xs ++ (k.joined ++ last)) e
            ∙ (ap (λ (xs : List (Joined I)). xs ++ (k.joined ++ last)) (map-append joined_of left (q ∷ []))
            ∙ (append_assoc (map joined_of left) (joined_of q ∷ []) (k.joined ++ last)
            ∙ ap (λ (x : Joined I). map joined_of left ++ (x ∷ (k.joined ++ last))) (record_of q table him h))));
      }

  -- once none is left
  pub unions_all : (all left : List (PassValue I N)) (me : Seated V I N) → left ≡ [] → Unions all left me → Unites all me
  unions_all all left me none u = record { known = u.known; is = u.is; away = u.away; all = u.split ∙ ap (λ (xs : List (PassValue I N)). map joined_of xs ++ (u.known.joined ++ record { number = u.known.number; seen = u.known.seen } ∷ [])) none }

-- a list whose pop gave nothing was empty
pub popped_none : {X : Type 0} (before after : List X) (long : ℕ) → before ≡ after ++ [] → after ≡ take (long - 1) before → long ≡ 0 → before ≡ []
popped_none {X} before after long e rest none = e ∙ ap (λ (xs : List X). xs ++ []) (rest ∙ ap (λ (n : ℕ). take (n - 1) before) none)
