-- The seat of a pass and of a turn, by what the pass or the turn shows.
use Rattle.std.proofs.Common.{◌≡◌, ℕ, true, sym, ap, ◌∙◌}
use Rattle.atomic_table.specs.Seated.{TableId}
use Rattle.turn_lock.specs.declared.view.Known.{Known}
use Rattle.turn_lock.specs.Views.{is_live, known_of}
use Rattle.turn_lock.specs.Steps.{Seated}
use Rattle.turn_lock.specs.LockValues.{PassValue, pass_value, TurnValue, turn_value}
use Rattle.turn_lock.specs.Seats.{IsAway, Rests, IsPassOf, IsInside, Holds, IsTurnOf}
use Rattle.turn_lock.proofs.ViewLemmas.{view_is, known_is}

module _ {V I N : Type 0} (table : TableId) (me : Seated V I N) (live : is_live me.0 ≡ true) where
  pub pass_shows : (number : ℕ) (p : PassValue I N) → IsAway number (known_of me.0 live) me.1 → pass_value table (known_of me.0 live) ≡ p → IsPassOf p table me
  pass_shows number p h is = record {
    seat = record { known = known_of me.0 live; numbered = ap (λ (x : PassValue I N). x.number) is; is = λ i. (view_is me.0 live i, h.none i); away = h.place; alone = h.alone };
    shows = sym is;
  }

  pub pass_made : (number : ℕ) → Rests number me → IsPassOf (pass_value table (known_of me.0 live)) table me
  pass_made number h = let same = known_is me.0 live h.known (ap (λ (m : Seated V I N). m.0) h.is) in record {
    seat = record { known = h.known; numbered = ap (λ (k : Known I N). k.number) (sym same); is = h.is; away = h.away; alone = h.alone };
    shows = ap (pass_value table) same;
  }

  -- the number that is kept beside the seat is the pass's
  pub pass_number : (number : ℕ) (p : PassValue I N) → IsAway number (known_of me.0 live) me.1 → pass_value table (known_of me.0 live) ≡ p → number ≡ p.number
  pass_number number p h is = sym h.numbered ∙ ap (λ (x : PassValue I N). x.number) is

  pub turn_shows : (number : ℕ) (t : TurnValue V I N) (value : V) → IsInside number (known_of me.0 live) me.1 → turn_value table (known_of me.0 live) value ≡ t → IsTurnOf t table me value
  turn_shows number t value h is = record {
    seat = record { known = known_of me.0 live; numbered = ap (λ (x : TurnValue V I N). x.number) is; ticket = h.ticket; is = λ i. (view_is me.0 live i, h.held i); inside = h.place; alone = h.alone };
    shows = sym is;
  }

  pub turn_made : (number : ℕ) (value : V) → Holds number me → IsTurnOf (turn_value table (known_of me.0 live) value) table me value
  turn_made number value h = let same = known_is me.0 live h.known (ap (λ (m : Seated V I N). m.0) h.is) in record {
    seat = record { known = h.known; numbered = ap (λ (k : Known I N). k.number) (sym same); ticket = h.ticket; is = h.is; inside = h.inside; alone = h.alone };
    shows = ap (λ (k : Known I N). turn_value table k value) same;
  }

  pub turn_number : (number : ℕ) (t : TurnValue V I N) (value : V) → IsInside number (known_of me.0 live) me.1 → turn_value table (known_of me.0 live) value ≡ t → number ≡ t.number
  turn_number number t value h is = sym h.numbered ∙ ap (λ (x : TurnValue V I N). x.number) is
