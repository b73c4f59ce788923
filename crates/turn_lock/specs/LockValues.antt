-- What contracts see of a lock, a pass and a turn, each with its code as plain data.
use Rattle.std.specs.Prelude.{ℕ, List, refl}
use Rattle.std.specs.Coded.{Coded, code_by, coded×, coded_ℕ, coded_list}
use Rattle.atomic_table.specs.Seated.{TableId, table_id_coded}
use Rattle.turn_lock.specs.declared.view.Known.{Known}

-- Which lock: what no other lock shares with it, and its name
pub record LockId (N : Type 0) : Type 0 where
  pub table : TableId
  pub name : N

abbrev pub id_code : {N : Type 0} → Coded N → Coded (LockId N)
id_code {N} n = code_by (TableId × N) (coded× table_id_coded n) (λ l. (l.table, l.name)) (λ d. record { table = d.0; name = d.1 }) (λ _. refl)

-- A lock: which it is, and how many callers it has
pub record LockValue (N : Type 0) : Type 0 where
  pub id : LockId N
  pub callers : ℕ

abbrev pub lock_code : {N : Type 0} → Coded N → Coded (LockValue N)
lock_code {N} n = code_by (LockId N × ℕ) (coded× (id_code n) coded_ℕ) (λ l. (l.id, l.callers)) (λ d. record { id = d.0; callers = d.1 }) (λ _. refl)

-- what a lock shows
abbrev pub lock_value : {N : Type 0} → TableId → N → ℕ → LockValue N
lock_value table name callers = record { id = record { table = table; name = name }; callers = callers }

-- A pass: its lock, its caller's number, and the list that it has seen
pub record PassValue (I N : Type 0) : Type 0 where
  pub lock : LockId N
  pub number : ℕ
  pub seen : List I

abbrev pub pass_code : {I N : Type 0} → Coded I → Coded N → Coded (PassValue I N)
pass_code {I} {N} i n = code_by (LockId N × (ℕ × List I)) (coded× (id_code n) (coded× coded_ℕ (coded_list i)))
    (λ p. (p.lock, (p.number, p.seen))) (λ d. record { lock = d.0; number = d.1.0; seen = d.1.1 }) (λ _. refl)

-- what a pass shows of its seat
abbrev pub pass_value : {I N : Type 0} → TableId → Known I N → PassValue I N
pass_value table k = record { lock = record { table = table; name = k.name }; number = k.number; seen = k.seen }

-- A turn: its lock, its caller's number, the list that it found, and the value now
pub record TurnValue (V I N : Type 0) : Type 0 where
  pub lock : LockId N
  pub number : ℕ
  pub found : List I
  pub value : V

abbrev pub turn_code : {V I N : Type 0} → Coded V → Coded I → Coded N → Coded (TurnValue V I N)
turn_code {V} {I} {N} v i n = code_by (LockId N × (ℕ × (List I × V))) (coded× (id_code n) (coded× coded_ℕ (coded× (coded_list i) v)))
    (λ p. (p.lock, (p.number, (p.found, p.value)))) (λ d. record { lock = d.0; number = d.1.0; found = d.1.1.0; value = d.1.1.1 }) (λ _. refl)

-- what a turn shows of its seat
abbrev pub turn_value : {V I N : Type 0} → TableId → Known I N → V → TurnValue V I N
turn_value table k value = record { lock = record { table = table; name = k.name }; number = k.number; found = k.seen; value = value }

-- the turn after a write to its value
abbrev pub with_value : {V I N : Type 0} → TurnValue V I N → V → TurnValue V I N
with_value t value = record t { value = value }
