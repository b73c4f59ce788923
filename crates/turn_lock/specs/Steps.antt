-- The kinds of steps: what each asks of the seat that makes it, and what it tells it.
-- A turn goes: draw a ticket, look until it is served, take the value out, put it back, note its length, pass on. Take and put touch the slot alone.
use Rattle.std.specs.Prelude.{◌≡◌, ◌≢◌, ℕ, ◌+◌, ◌^◌, ◌%◌, false, List, [], ◌∷◌, length, Option, Some}
use Rattle.atomic_table.specs.Table.{Me}
use Rattle.turn_lock.specs.declared.view.Place.{Place}
use Rattle.turn_lock.specs.declared.view.Place.TheVariants.{Away, Waiting, Inside}
use Rattle.turn_lock.specs.declared.view.Known.{Known}
use Rattle.turn_lock.specs.declared.view.View.{View}
use Rattle.turn_lock.specs.declared.view.View.TheVariants.{Live, Spent}
use Rattle.turn_lock.specs.Lists.{IsPrefix, items_by, GrowsBy}
use Rattle.turn_lock.specs.Views.{newcomer}

-- a seat's view, and the slots that it has out
abbrev pub Seated : Type 0 → Type 0 → Type 0 → Type 0
Seated V I N = Me (Option V) (View I N)

-- the same seat at another place
abbrev pub moved_to : {I N : Type 0} → Known I N → Place → Known I N
moved_to k place = record k { place = place }

-- the same seat, which has seen this list
abbrev pub seeing : {I N : Type 0} → Known I N → List I → Known I N
seeing k log = record k { seen = log }

-- a live seat that has no slot out
abbrev pub empty_handed : {V I N : Type 0} → Known I N → Seated V I N
empty_handed k = (Live k, [])

-- a live seat that has the slot out, with this in it
abbrev pub holding : {V I N : Type 0} → Known I N → Option V → Seated V I N
holding k held = (Live k, (0, held) ∷ [])

module _ {V I N : Type 0} where
  -- draw: one that has no ticket
  pub record MayDraw (before : Seated V I N) : Type 0 where
    pub known : Known I N
    pub is : before ≡ empty_handed known
    pub away : known.place ≡ Away

  -- it waits with a ticket, which the word found is modulo 2^64
  abbrev pub Draws : Seated V I N → ℕ → Seated V I N → Type 0
  Draws before found after = (k : Known I N) → before ≡ empty_handed k → (t : ℕ) × (found ≡ t % 2 ^ 64) × (after ≡ empty_handed (moved_to k (Waiting t)))

  -- look: one that waits with a ticket, which this is modulo 2^64
  pub record MayLook (before : Seated V I N) (found : ℕ) : Type 0 where
    pub known : Known I N
    pub ticket : ℕ
    pub is : before ≡ empty_handed known
    pub waits : known.place ≡ Waiting ticket
    pub same : found ≡ ticket % 2 ^ 64

  module _ (items : V → List I) (by : I → ℕ) (name : V → N) where
    -- it is in and has the value out, whose list begins with what it had seen and has no items by its number but those
    pub record Enters (k : Known I N) (t : ℕ) (after : Seated V I N) : Type 0 where
      pub value : V
      pub out : after ≡ holding (seeing (moved_to k (Inside t)) (items value)) (Some value)
      pub prefix : IsPrefix k.seen (items value)
      pub own : items_by by k.number (items value) ≡ items_by by k.number k.seen
      pub named : name value ≡ k.name

    abbrev pub ComesIn : Seated V I N → Seated V I N → Type 0
    ComesIn before after = (k : Known I N) (t : ℕ) → before ≡ empty_handed k → k.place ≡ Waiting t → Enters k t after

    -- who finds its ticket comes in, and else nothing changes
    abbrev pub Looks : Seated V I N → ℕ → Seated V I N → Type 0
    Looks before found after = (k : Known I N) (t : ℕ) → before ≡ empty_handed k → k.place ≡ Waiting t → (found ≡ t % 2 ^ 64 → Enters k t after) × (found ≢ t % 2 ^ 64 → after ≡ before)

  -- note: one that is in, and has out a value whose list grew by items of its number to this length
  pub record MayNote (items : V → List I) (by : I → ℕ) (before : Seated V I N) (count : ℕ) : Type 0 where
    pub known : Known I N
    pub ticket : ℕ
    pub value : V
    pub is : before ≡ holding known (Some value)
    pub inside : known.place ≡ Inside ticket
    pub grew : GrowsBy by known.number known.seen (items value)
    pub long : count ≡ length (items value)

  -- it has seen that list
  abbrev pub Notes : (V → List I) → Seated V I N → Seated V I N → Type 0
  Notes items before after = (k : Known I N) (value : V) → before ≡ holding k (Some value) → after ≡ holding (seeing k (items value)) (Some value)

  -- pass on: one that is in, and has out a value with the lock's name whose list it has seen
  pub record MayPassOn (items : V → List I) (name : V → N) (before : Seated V I N) : Type 0 where
    pub known : Known I N
    pub ticket : ℕ
    pub value : V
    pub is : before ≡ holding known (Some value)
    pub inside : known.place ≡ Inside ticket
    pub list : items value ≡ known.seen
    pub named : name value ≡ known.name

  -- it is away, and the value is at home
  abbrev pub PassesOn : Seated V I N → Seated V I N → Type 0
  PassesOn before after = (k : Known I N) (value : V) → before ≡ holding k (Some value) → after ≡ empty_handed (moved_to k Away)

module _ {I N : Type 0} where
  -- split: the newest seat stays as it is, but is not the newest, and a new seat has the next number
  abbrev pub older : View I N → View I N
  older (Live k) = Live record k { newest = false }
  older Spent = Spent

  abbrev pub newer : View I N → View I N
  newer (Live k) = Live (newcomer (k.number + 1) k.name)
  newer Spent = Spent

  -- join: the first seat keeps the number and the list of the second, which is spent
  abbrev pub joined_with : View I N → View I N → View I N
  joined_with (Live k) (Live l) = Live record k { joined = record { number = l.number; seen = l.seen } ∷ k.joined }
  joined_with (Live k) Spent = Live k
  joined_with Spent w = Spent
