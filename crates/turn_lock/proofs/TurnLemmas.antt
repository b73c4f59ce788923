-- A turn from the pass that enters to the pass that leaves.
use Rattle.std.proofs.Common.{◌≡◌, ℕ, ◌^◌, ◌<◌, List, [], ◌∷◌, length, get_or, refl, sym, ap, ◌∙◌, subst}
use Rattle.std.specs.Prelude.{Option, Some, None}
use Rattle.atomic_table.specs.Seated.{TableId}
use Rattle.turn_lock.specs.declared.view.Place.TheVariants.{Away, Waiting, Inside}
use Rattle.turn_lock.specs.declared.view.Known.{Known}
use Rattle.turn_lock.specs.Lists.{IsPrefix, items_by, GrowsBy}
use Rattle.turn_lock.specs.Steps.{Seated, holding, moved_to, seeing, MayDraw, Draws, MayLook, Enters, ComesIn, MayNote, Notes, MayPassOn, PassesOn}
use Rattle.turn_lock.specs.LockValues.{LockId, PassValue, pass_value, TurnValue, turn_value}
use Rattle.turn_lock.specs.Seats.{Rests, IsPassOf, Holds, IsTurnOf}
use Rattle.turn_lock.proofs.ViewLemmas.{live_same}

abbrev lock_of : {N : Type 0} → TableId → N → LockId N
lock_of table name = record { table = table; name = name }

module _ {V I N : Type 0} where
  pub rests_draws : (number : ℕ) (me : Seated V I N) → Rests number me → MayDraw me
  rests_draws number me h = record { known = h.known; is = h.is; away = h.away }

  pub drawn_looks : (number : ℕ) (me after : Seated V I N) (found : ℕ) → Rests number me → Draws me found after → MayLook after found
  drawn_looks number me after found h draws = let d = draws h.known h.is in
      record { known = moved_to h.known (Waiting d.0); ticket = d.0; is = d.2; waits = refl; same = d.1 }

module _ {V I N : Type 0} (items : V → List I) (by : I → ℕ) (name : V → N) where
  -- the caller came in
  pub record CameIn (k : Known I N) (after : Seated V I N) : Type 0 where
    pub ticket : ℕ
    pub enters : Enters items by name k ticket after

  pub came_in : (number : ℕ) (me drawn after : Seated V I N) (found : ℕ) (h : Rests number me) → Draws me found drawn → ComesIn items by name drawn after → CameIn h.known after
  came_in number me drawn after found h draws comes = let d = draws h.known h.is in
      let e = comes (moved_to h.known (Waiting d.0)) d.0 d.2 refl in
      record { ticket = d.0; enters = record { value = e.value; out = e.out; prefix = e.prefix; own = e.own; named = e.named } }

  held_one : (a b : V) (xs : List (ℕ × Option V)) → xs ≡ (0, Some a) ∷ [] → xs ≡ (0, Some b) ∷ [] → a ≡ b
  held_one a b xs e f = let values : Some a ≡ Some b = ap (λ (ys : List (ℕ × Option V)). (get_or ys 0 (0, Some a)).1) (sym e ∙ f) in cc

  -- the caller has the value, and its seat the empty slot
  pub took_out : (number : ℕ) (me drawn after left : Seated V I N) (found : ℕ) (h : Rests number me) → Draws me found drawn → ComesIn items by name drawn after → left ≡ (after.0, (0, None) ∷ []) → Holds number left
  took_out number me drawn after left found h draws comes is =
      let e = came_in number me drawn after found h draws comes in record {
        known = seeing (moved_to h.known (Inside e.ticket)) (items e.enters.value);
        numbered = h.numbered;
        ticket = e.ticket;
        is = is ∙ ap (λ (m : Seated V I N). (m.0, (0, None) ∷ [])) e.enters.out;
        inside = refl;
        alone = h.alone;
      }

  -- what the turn shows of what the pass showed
  pub record Entered (p : PassValue I N) (t : TurnValue V I N) (value : V) : Type 0 where
    pub lock : t.lock ≡ p.lock
    pub number : t.number ≡ p.number
    pub found : t.found ≡ items value
    pub value_is : t.value ≡ value
    pub named : name value ≡ p.lock.name
    pub prefix : IsPrefix p.seen t.found
    pub own : items_by by p.number t.found ≡ items_by by p.number p.seen

  pub entered : (p : PassValue I N) (t : TurnValue V I N) (table table' : TableId) (me drawn after left : Seated V I N) (found : ℕ) (value : V) (h : IsPassOf p table me) → Draws me found drawn
      → ComesIn items by name drawn after → after.1 ≡ (0, Some value) ∷ [] → left ≡ (after.0, (0, None) ∷ []) → table' ≡ table → IsTurnOf t table' left value → Entered p t value
  unfolding took_out
  entered p t table table' me drawn after left found value h draws comes out is same turn =
      let k = h.seat.known in
      let e = came_in p.number me drawn after found h.seat draws comes in
      let held = took_out p.number me drawn after left found h.seat draws comes is in
      let one : e.enters.value ≡ value = held_one e.enters.value value after.1 (ap (λ (m : Seated V I N). m.1) e.enters.out) out in
      let known : turn.seat.known ≡ held.known = live_same turn.seat.known held.known (ap (λ (m : Seated V I N). m.0) (sym turn.seat.is ∙ held.is)) in
      let shows : t ≡ turn_value table' held.known value = turn.shows ∙ ap (λ (x : Known I N). turn_value table' x value) known in
      let list : t.found ≡ items e.enters.value = ap (λ (x : TurnValue V I N). x.found) shows in
      let seen : p.seen ≡ k.seen = ap (λ (x : PassValue I N). x.seen) h.shows in
      let number : p.number ≡ k.number = ap (λ (x : PassValue I N). x.number) h.shows in
      let lock : p.lock ≡ lock_of table k.name = ap (λ (x : PassValue I N). x.lock) h.shows in record {
        lock = ap (λ (x : TurnValue V I N). x.lock) shows ∙ (ap (λ (z : TableId). lock_of z k.name) same ∙ sym lock);
        number = ap (λ (x : TurnValue V I N). x.number) shows ∙ sym number;
        found = list ∙ ap items one;
        value_is = ap (λ (x : TurnValue V I N). x.value) shows;
        named = ap name (sym one) ∙ (e.enters.named ∙ sym (ap (λ (l : LockId N). l.name) lock));
        prefix = subst (λ (x : List I × List I). IsPrefix x.0 x.1) (λ i. (sym seen i, sym list i)) e.enters.prefix;
        own = subst (λ (x : ℕ × List I × List I). items_by by x.0 x.2 ≡ items_by by x.0 x.1) (λ i. (sym number i, sym seen i, sym list i)) e.enters.own;
      }

  -- from the turn to the pass
  module _ (t : TurnValue V I N) (table : TableId) (me put : Seated V I N) (value : V) (h : IsTurnOf t table me value) (is : put ≡ (me.0, (0, Some value) ∷ [])) where
    put_is : put ≡ holding h.seat.known (Some value)
    put_is = is ∙ ap (λ (m : Seated V I N). (m.0, (0, Some value) ∷ [])) h.seat.is

    pub may_note : (count : ℕ) → GrowsBy by t.number t.found (items t.value) → length (items t.value) < 2 ^ 63 → (length (items value) < 2 ^ 63 → count ≡ length (items value)) → MayNote items by put count
    may_note count grew room long = record {
      known = h.seat.known;
      ticket = h.seat.ticket;
      value = value;
      is = put_is;
      inside = h.seat.inside;
      grew = subst (λ (x : TurnValue V I N). GrowsBy by x.number x.found (items x.value)) h.shows grew;
      long = long (subst (λ (x : TurnValue V I N). length (items x.value) < 2 ^ 63) h.shows room);
    }

    pub may_pass_on : (noted : Seated V I N) → Notes items put noted → name t.value ≡ t.lock.name → MayPassOn items name noted
    may_pass_on noted notes named = record {
      known = seeing h.seat.known (items value);
      ticket = h.seat.ticket;
      value = value;
      is = notes h.seat.known value put_is;
      inside = h.seat.inside;
      list = refl;
      named = subst (λ (x : TurnValue V I N). name x.value ≡ x.lock.name) h.shows named;
    }

    pub rests_again : (noted passed : Seated V I N) → Notes items put noted → PassesOn noted passed → Rests t.number passed
    rests_again noted passed notes passes = record {
      known = moved_to (seeing h.seat.known (items value)) Away;
      numbered = h.seat.numbered;
      is = passes (seeing h.seat.known (items value)) value (notes h.seat.known value put_is);
      away = refl;
      alone = h.seat.alone;
    }

    pub record Left (p : PassValue I N) : Type 0 where
      pub lock : p.lock ≡ t.lock
      pub number : p.number ≡ t.number
      pub seen : p.seen ≡ items t.value

    pub left : (noted passed : Seated V I N) → Notes items put noted → PassesOn noted passed → (p : PassValue I N) (table' : TableId) → table' ≡ table → IsPassOf p table' passed → Left p
    unfolding rests_again
    left noted passed notes passes p table' same pass =
        let rests = rests_again noted passed notes passes in
        let known : pass.seat.known ≡ rests.known = live_same pass.seat.known rests.known (ap (λ (m : Seated V I N). m.0) (sym pass.seat.is ∙ rests.is)) in
        let shows : p ≡ pass_value table' rests.known = pass.shows ∙ ap (pass_value table') known in record {
          lock = ap (λ (x : PassValue I N). x.lock) shows ∙ (ap (λ (z : TableId). lock_of z h.seat.known.name) same ∙ sym (ap (λ (x : TurnValue V I N). x.lock) h.shows));
          number = ap (λ (x : PassValue I N). x.number) shows ∙ sym (ap (λ (x : TurnValue V I N). x.number) h.shows);
          seen = ap (λ (x : PassValue I N). x.seen) shows ∙ sym (ap (λ (x : TurnValue V I N). items x.value) h.shows);
        }
