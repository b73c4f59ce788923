-- The queue of tickets after each kind of step.
use Rattle.std.proofs.Common.{◌≡◌, ◌≢◌, ℕ, ◌+◌, ◌<◌, ◌≤◌, List, [], ◌∷◌, ◌++◌, set, sym, ap, ◌∙◌, ⊎_elim, cond, arith}
use Rattle.std.specs.Prelude.{Option, Some, None, is_some, count_by}
use Rattle.std.proofs.lemmas.List.Sums.{sum_by-append}
use Rattle.atomic_table.proofs.Lists.{at_snoc}
use Rattle.turn_lock.specs.declared.view.Place.{Place}
use Rattle.turn_lock.specs.declared.view.Place.TheVariants.{Away, Waiting, Inside}
use Rattle.turn_lock.specs.declared.view.Known.{Known}
use Rattle.turn_lock.specs.declared.view.View.{View}
use Rattle.turn_lock.specs.declared.view.View.TheVariants.{Live, Spent}
use Rattle.turn_lock.specs.Views.{Knows}
use Rattle.turn_lock.specs.Queue.{ticket_of, has_ticket, IsQueue}
use Rattle.turn_lock.proofs.ViewLemmas.{knows_set, count_by-set, knows_spent, live_same}

module _ {I N : Type 0} where
  -- after the change of one seat, whose ticket no other has
  queue_set : (served drawn served' drawn' : ℕ) (views : List (View I N)) (me : ℕ) (w : Known I N) → IsQueue served drawn views
      → ((t : ℕ) → ticket_of w.place ≡ Some t → (served' ≤ t) × (t < drawn'))
      → ((seat : ℕ) (k : Known I N) (t : ℕ) → seat ≢ me → Knows views seat k → ticket_of k.place ≡ Some t → (served' ≤ t) × (t < drawn'))
      → ((seat : ℕ) (k : Known I N) (t : ℕ) → seat ≢ me → Knows views seat k → ticket_of k.place ≡ Some t → ticket_of w.place ≡ Some t → ⊥)
      → served' + count_by has_ticket (set views me (Live w)) ≡ drawn' → IsQueue served' drawn' (set views me (Live w))
  queue_set served drawn served' drawn' views me w queue mine others alone each = record {
    within = λ seat k t at e. ⊎_elim
        (λ (h : (seat ≡ me) × (w ≡ k)). mine t (ap (λ (x : Known I N). ticket_of x.place) h.1 ∙ e))
        (λ (h : (seat ≢ me) × Knows views seat k). others seat k t h.0 h.1 e)
        (knows_set views me w seat k at);
    apart = λ seat other k l t at at' e e'. ⊎_elim
        (λ (h : (seat ≡ me) × (w ≡ k)). ⊎_elim
        (λ (h' : (other ≡ me) × (w ≡ l)). h.0 ∙ sym h'.0)
        (λ (h' : (other ≢ me) × Knows views other l). absurd (alone other l t h'.0 h'.1 e' (ap (λ (x : Known I N). ticket_of x.place) h.1 ∙ e)))
        (knows_set views me w other l at'))
        (λ (h : (seat ≢ me) × Knows views seat k). ⊎_elim
        (λ (h' : (other ≡ me) × (w ≡ l)). absurd (alone seat k t h.0 h.1 e (ap (λ (x : Known I N). ticket_of x.place) h'.1 ∙ e')))
        (λ (h' : (other ≢ me) × Knows views other l). queue.apart seat other k l t h.1 h'.1 e e')
        (knows_set views me w other l at'))
        (knows_set views me w seat k at);
    each = each;
  }

  -- where the seat keeps its ticket, or has none before and after
  pub queue_same : (served drawn : ℕ) (views : List (View I N)) (me : ℕ) (v w : Known I N) → IsQueue served drawn views → Knows views me v → ticket_of w.place ≡ ticket_of v.place
      → IsQueue served drawn (set views me (Live w))
  queue_same served drawn views me v w queue at same = queue_set served drawn served drawn views me w queue
      (λ t e. queue.within me v t at (sym same ∙ e))
      (λ seat k t ne there e. queue.within seat k t there e)
      (λ seat k t ne there e e'. ne (queue.apart seat me k v t there at e (sym same ∙ e')))
      (let c = count_by-set has_ticket views me (Live v) (Live w) at in
      let d : cond {A = ℕ} (has_ticket (Live w)) 1 0 ≡ cond {A = ℕ} (has_ticket (Live v)) 1 0 = ap (λ (o : Option ℕ). cond {A = ℕ} (is_some o) 1 0) same in
      let e = queue.each in omega arith)

  -- draw
  pub queue_drawn : (served drawn : ℕ) (views : List (View I N)) (me : ℕ) (v w : Known I N) → IsQueue served drawn views → Knows views me v → v.place ≡ Away → w.place ≡ Waiting drawn
      → IsQueue served (drawn + 1) (set views me (Live w))
  queue_drawn served drawn views me v w queue at away waits =
      let new : ticket_of w.place ≡ Some drawn = ap ticket_of waits in
      let e = queue.each in
      queue_set served drawn served (drawn + 1) views me w queue
      (λ t is. let same : drawn ≡ t = cc (sym new ∙ is) in omega arith)
      (λ seat k t ne there is. let h = queue.within seat k t there is in (h.0, omega arith))
      (λ seat k t ne there is is'. let h = queue.within seat k t there is in let same : drawn ≡ t = cc (sym new ∙ is') in omega arith)
      (let c = count_by-set has_ticket views me (Live v) (Live w) at in
      let d : cond {A = ℕ} (has_ticket (Live w)) 1 0 ≡ 1 = ap (λ (o : Option ℕ). cond {A = ℕ} (is_some o) 1 0) new in
      let d' : cond {A = ℕ} (has_ticket (Live v)) 1 0 ≡ 0 = ap (λ (p : Place). cond {A = ℕ} (is_some (ticket_of p)) 1 0) away in omega arith)

  -- pass on
  pub queue_passed : (served drawn : ℕ) (views : List (View I N)) (me : ℕ) (v w : Known I N) → IsQueue served drawn views → Knows views me v → v.place ≡ Inside served → w.place ≡ Away
      → IsQueue (served + 1) drawn (set views me (Live w))
  queue_passed served drawn views me v w queue at inside away =
      let old : ticket_of v.place ≡ Some served = ap ticket_of inside in
      let new : ticket_of w.place ≡ None = ap ticket_of away in
      let e = queue.each in
      queue_set served drawn (served + 1) drawn views me w queue
      (λ t is. absurd (let h : None ≡ Some t = sym new ∙ is in cc))
      (λ seat k t ne there is. let h = queue.within seat k t there is in
      let other : t ≢ served = λ same. ne (queue.apart seat me k v t there at is (old ∙ ap (λ (n : ℕ). Some n) (sym same))) in (omega arith, h.1))
      (λ seat k t ne there is is'. let h : None ≡ Some t = sym new ∙ is' in cc)
      (let c = count_by-set has_ticket views me (Live v) (Live w) at in
      let d : cond {A = ℕ} (has_ticket (Live w)) 1 0 ≡ 0 = ap (λ (o : Option ℕ). cond {A = ℕ} (is_some o) 1 0) new in
      let d' : cond {A = ℕ} (has_ticket (Live v)) 1 0 ≡ 1 = ap (λ (p : Place). cond {A = ℕ} (is_some (ticket_of p)) 1 0) inside in omega arith)

  -- split: the new seat has no ticket
  pub queue_longer : (served drawn : ℕ) (views : List (View I N)) (w : Known I N) → IsQueue served drawn views → w.place ≡ Away → IsQueue served drawn (views ++ Live w ∷ [])
  queue_longer served drawn views w queue away =
      let none : ticket_of w.place ≡ None = ap ticket_of away in
      let old : (seat : ℕ) (k : Known I N) (t : ℕ) → Knows (views ++ Live w ∷ []) seat k → ticket_of k.place ≡ Some t → Knows views seat k = λ seat k t at is. ⊎_elim
      (λ (h : Knows views seat k). h)
      (λ (h : Live w ≡ Live k). absurd (let e : None ≡ Some t = sym none ∙ (ap (λ (x : Known I N). ticket_of x.place) (live_same w k h) ∙ is) in cc))
      (at_snoc views (Live w) (Live k) seat at) in record {
        within = λ seat k t at is. queue.within seat k t (old seat k t at is) is;
        apart = λ seat other k l t at at' is is'. queue.apart seat other k l t (old seat k t at is) (old other l t at' is') is is';
        each =
            let c = sum_by-append (λ (x : View I N). cond {A = ℕ} (has_ticket x) 1 0) views (Live w ∷ []) in
            let d : cond {A = ℕ} (has_ticket (Live w)) 1 0 ≡ 0 = ap (λ (o : Option ℕ). cond {A = ℕ} (is_some o) 1 0) none in
            let e = queue.each in omega arith;
      }

  -- join: the seat that is spent had no ticket
  pub queue_spent : (served drawn : ℕ) (views : List (View I N)) (other : ℕ) (k : Known I N) → IsQueue served drawn views → Knows views other k → k.place ≡ Away → IsQueue served drawn (set views other Spent)
  queue_spent served drawn views other k queue at away =
      let old : (seat : ℕ) (l : Known I N) → Knows (set views other Spent) seat l → Knows views seat l = λ seat l there. (knows_spent views other seat l there).1 in record {
        within = λ seat l t there is. queue.within seat l t (old seat l there) is;
        apart = λ seat seat' l l' t there there' is is'. queue.apart seat seat' l l' t (old seat l there) (old seat' l' there') is is';
        each =
            let c = count_by-set has_ticket views other (Live k) Spent at in
            let d : cond {A = ℕ} (has_ticket (Live k)) 1 0 ≡ 0 = ap (λ (p : Place). cond {A = ℕ} (is_some (ticket_of p)) 1 0) away in
            let e = queue.each in omega arith;
      }
