-- What each kind of step shares in keeping the rule.
use Rattle.std.proofs.Common.{◌≡◌, ◌≢◌, ℕ, ◌+◌, ◌^◌, ◌%◌, ◌<◌, ◌≤◌, List, [], ◌∷◌, ◌++◌, ◌⊎◌, length, set, sym, ap, ◌∙◌, ⊎_elim, subst, arith, length-set}
use Rattle.std.specs.Prelude.{Option, Some, All}
use Rattle.std.proofs.lemmas.List.Elements.{All-weaker, All-append, All-same}
use mathlib.Core.Option.{Option as Maybe, some}
use lib.ListN.{get_elem?, get_or}
use lib.Seq.{set-get_or}
use Rattle.atomic_table.specs.Table.{State}
use Rattle.atomic_table.proofs.Lists.{set_else, set_again}
use Rattle.turn_lock.specs.declared.view.Place.{Place}
use Rattle.turn_lock.specs.declared.view.Place.TheVariants.{Inside}
use Rattle.turn_lock.specs.declared.view.Joined.{Joined}
use Rattle.turn_lock.specs.declared.view.Known.{Known}
use Rattle.turn_lock.specs.declared.view.View.{View}
use Rattle.turn_lock.specs.declared.view.View.TheVariants.{Live}
use Rattle.turn_lock.specs.Lists.{IsPrefix, items_by, GrowsBy}
use Rattle.turn_lock.specs.Views.{Knows, IsSpent}
use Rattle.turn_lock.specs.Queue.{IsQueue, ticket_of}
use Rattle.turn_lock.specs.Rule.{IsHome, IsOut, IsKept, Fits, TakesTurns}
use Rattle.turn_lock.proofs.LogLemmas.{prefix_more, items_by-others}
use Rattle.turn_lock.proofs.ViewLemmas.{knows_set, knows_one, knows_not_spent, seat_below}

module _ {V I N : Type 0} (items : V → List I) (by : I → ℕ) (name : V → N) (called : N) where
  abbrev pub Views : Type 0
  Views = List (View I N)

  -- a seat's knowledge with another place and list
  abbrev pub changed : Known I N → Place → List I → Known I N
  changed k place seen = record k { place = place; seen = seen }

  abbrev Kept : List I → Views → Joined I → Type 0
  Kept = IsKept items by name called

  abbrev pub Fit : List I → ℕ → Views → ℕ → Known I N → Type 0
  Fit = Fits items by name called

  -- what is kept of a joined seat stays so
  pub kept_set : (log log' : List I) (views : Views) (me : ℕ) (v w : Known I N) → Knows views me v → GrowsBy by (me + 1) log log' → (j : Joined I) → Kept log views j → Kept log' (set views me (Live w)) j
  kept_set log log' views me v w at grows j k =
      let other : k.seat ≢ me = λ same. knows_not_spent views me v at (subst (IsSpent views) same k.spent) in
      let apart : j.number ≢ me + 1 = let n = k.numbered in λ e. other (omega arith) in record {
        seat = k.seat;
        numbered = k.numbered;
        spent = set_else views me k.seat (Live w) other ∙ k.spent;
        prefix = prefix_more j.seen log grows.0 log' k.prefix grows.1;
        own = items_by-others by (me + 1) j.number log log' grows apart ∙ k.own;
      }

  -- what another seat knows stays so, where the list grows by this seat's items alone
  pub others_fit : (log log' : List I) (served served' : ℕ) (views : Views) (me : ℕ) (v w : Known I N) → Knows views me v → GrowsBy by (me + 1) log log' → (seat : ℕ) (k : Known I N) → seat ≢ me
      → Fit log served views seat k → ((t : ℕ) → k.place ≡ Inside t → (t ≡ served') × (k.seen ≡ log')) → Fit log' served' (set views me (Live w)) seat k
  others_fit log log' served served' views me v w at grows seat k other f turn =
      let apart : k.number ≢ me + 1 = let n = f.numbered in λ e. other (omega arith) in record {
        numbered = f.numbered;
        named = f.named;
        prefix = prefix_more k.seen log grows.0 log' f.prefix grows.1;
        own = items_by-others by (me + 1) k.number log log' grows apart ∙ f.own;
        turn = turn;
        last = λ newest. length-set views me (Live w) ∙ f.last newest;
        kept = All-weaker (Kept log views) (Kept log' (set views me (Live w))) (kept_set log log' views me v w at grows) k.joined f.kept;
      }

  pub mine_fits : (log log' : List I) (served served' : ℕ) (views : Views) (me : ℕ) (v : Known I N) (place : Place) (seen : List I) → Knows views me v → GrowsBy by (me + 1) log log'
      → Fit log served views me v → IsPrefix seen log' → items_by by v.number log' ≡ items_by by v.number seen → ((t : ℕ) → place ≡ Inside t → (t ≡ served') × (seen ≡ log'))
      → Fit log' served' (set views me (Live (changed v place seen))) me (changed v place seen)
  mine_fits log log' served served' views me v place seen at grows f prefix own turn = record {
    numbered = f.numbered;
    named = f.named;
    prefix = prefix;
    own = own;
    turn = turn;
    last = λ newest. length-set views me (Live (changed v place seen)) ∙ f.last newest;
    kept = All-weaker (Kept log views) (Kept log' (set views me (Live (changed v place seen)))) (kept_set log log' views me v (changed v place seen) at grows) v.joined f.kept;
  }

  -- the value stays at home, where the seat does not come in
  pub home_set : (log : List I) (homes : List (Maybe (Option V))) (views : Views) (me : ℕ) (w : Known I N) → ((t : ℕ) → w.place ≢ Inside t) → IsHome items by name called log homes views
      → IsHome items by name called log homes (set views me (Live w))
  home_set log homes views me w out h = record {
    value = h.value;
    there = h.there;
    list = h.list;
    named = h.named;
    empty = λ seat k t at inside. ⊎_elim
        (λ (e : (seat ≡ me) × (w ≡ k)). out t (ap (λ (x : Known I N). x.place) e.1 ∙ inside))
        (λ (e : (seat ≢ me) × Knows views seat k). h.empty seat k t e.1 inside)
        (knows_set views me w seat k at);
  }

  -- the value stays out, where the seat was not in
  pub out_set : (homes : List (Maybe (Option V))) (views : Views) (me : ℕ) (v w : Known I N) → Knows views me v → ((t : ℕ) → v.place ≢ Inside t) → IsOut items by name called homes views
      → IsOut items by name called homes (set views me (Live w))
  out_set homes views me v w at away h =
      let other : h.seat ≢ me = λ same. away h.ticket (ap (λ (x : Known I N). x.place) (knows_one views me v h.known at (subst (λ (n : ℕ). Knows views n h.known) same h.there)) ∙ h.inside) in record {
        seat = h.seat;
        known = h.known;
        ticket = h.ticket;
        there = set_else views me h.seat (Live w) other ∙ h.there;
        inside = h.inside;
        gone = h.gone;
      }

  module _ (callers : ℕ) where
    abbrev pub St : Type 0
    St = State (Option V) (View I N)

    abbrev pub Rule : St → Type 0
    Rule = TakesTurns items by name called callers

    -- one seat is in at most
    pub one_in : (s : St) (r : Rule s) (me seat : ℕ) (v k : Known I N) (t t' : ℕ) → Knows s.views me v → v.place ≡ Inside t → Knows s.views seat k → k.place ≡ Inside t' → seat ≡ me
    one_in s r me seat v k t t' at inside at' inside' =
        let a = (r.fits me v at).turn t inside in
        let b = (r.fits seat k at').turn t' inside' in
        r.queue.apart seat me k v r.served at' at (ap ticket_of inside' ∙ ap (λ (n : ℕ). Some n) b.0) (ap ticket_of inside ∙ ap (λ (n : ℕ). Some n) a.0)

    -- a step that changes one live seat keeps the rule
    pub keeps_step : (s : St) (r : Rule s) (me : ℕ) (v : Known I N) (place : Place) (seen : List I) (words : List ℕ) (homes : List (Maybe (Option V))) (log : List I) (served drawn : ℕ)
        → Knows s.views me v
        → words ≡ drawn % 2 ^ 64 ∷ served % 2 ^ 64 ∷ length log ∷ []
        → IsQueue served drawn (set s.views me (Live (changed v place seen)))
        → IsHome items by name called log homes (set s.views me (Live (changed v place seen))) ⊎ IsOut items by name called homes (set s.views me (Live (changed v place seen)))
        → GrowsBy by (me + 1) r.log log
        → IsPrefix seen log
        → items_by by v.number log ≡ items_by by v.number seen
        → ((t : ℕ) → place ≡ Inside t → (t ≡ served) × (seen ≡ log))
        → ((seat : ℕ) (k : Known I N) (t : ℕ) → seat ≢ me → Knows s.views seat k → k.place ≡ Inside t → (t ≡ served) × (k.seen ≡ log))
        → Rule record { words = words; homes = homes; views = set s.views me (Live (changed v place seen)) }
    keeps_step s r me v place seen words homes log served drawn at words_are queue slot grows prefix own mine others =
        let w = changed v place seen in
        let many : length (set s.views me (Live w)) ≡ length s.views = length-set s.views me (Live w) in
        let below = seat_below s.views me (Live v) at in
        let Author : I → Type 0 = λ x. (0 < by x) × (by x ≤ length s.views) in record {
          log = log;
          served = served;
          drawn = drawn;
          words = words_are;
          queue = queue;
          slot = slot;
          fits = λ seat k there. ⊎_elim
              (λ (e : (seat ≡ me) × (w ≡ k)). subst (λ (x : ℕ × Known I N). Fit log served (set s.views me (Live w)) x.0 x.1) (λ i. (sym e.0 i, e.1 i))
              (mine_fits r.log log r.served served s.views me v place seen at grows (r.fits me v at) prefix own mine))
              (λ (e : (seat ≢ me) × Knows s.views seat k). others_fit r.log log r.served served s.views me v w at grows seat k e.0 (r.fits seat k e.1) (λ t. others seat k t e.0 e.1))
              (knows_set s.views me w seat k there);
          authors = subst (λ (n : ℕ). All (λ x. (0 < by x) × (by x ≤ n)) log) (sym many)
              (All-same Author log (r.log ++ grows.0) grows.1
              (All-append Author r.log grows.0 r.authors (All-weaker (λ x. by x ≡ me + 1) Author (λ x e. (omega arith, omega arith)) grows.0 grows.2)));
          few = subst (λ (n : ℕ). (n ≤ callers) × (callers ≤ 64)) (sym many) r.few;
        }

    -- a step that changes nothing
    pub keeps_same : (s : St) (r : Rule s) (me : ℕ) (v : View I N) (word : ℕ) → get_elem? s.views me ≡ some v → Rule record { words = set s.words word (get_or s.words word 0); homes = s.homes; views = set s.views me v }
    keeps_same s r me v word at = subst (λ (x : List ℕ × Views). Rule record { words = x.0; homes = s.homes; views = x.1 }) (λ i. (sym (set-get_or s.words word 0) i, sym (set_again s.views me v at) i)) r
