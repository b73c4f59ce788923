-- The rule as the lock is made, as a seat is made or joined into another, and at the end.
use Rattle.std.proofs.Common.{◌≡◌, ◌≢◌, ℕ, zero, suc, ◌+◌, ◌<◌, ◌≤◌, List, [], ◌∷◌, ◌++◌, ◌⊎◌, length, set, refl, sym, ap, ◌∙◌, inl, inr, ⊎_elim, subst, true, false, arith, length-set, length-append}
use Rattle.std.specs.Prelude.{Option, Some, None, All}
use Rattle.std.proofs.lemmas.List.Elements.{All-weaker, All-nil, All-cons}
use mathlib.Core.Option.{Option as Maybe, some, some-injective, some-ne-none}
use lib.ListN.{get_elem?}
use Rattle.atomic_table.specs.Table.{State, Splits, Joins, opening}
use Rattle.atomic_table.proofs.Lists.{set_here, set_else, at_longer}
use Rattle.turn_lock.specs.declared.view.Place.TheVariants.{Away, Inside}
use Rattle.turn_lock.specs.declared.view.Joined.{Joined}
use Rattle.turn_lock.specs.declared.view.Known.{Known}
use Rattle.turn_lock.specs.declared.view.View.{View}
use Rattle.turn_lock.specs.declared.view.View.TheVariants.{Live, Spent}
use Rattle.turn_lock.specs.Views.{Knows, IsSpent, newcomer}
use Rattle.turn_lock.specs.Queue.{ticket_of}
use Rattle.turn_lock.specs.Rule.{IsHome, IsOut, IsKept, Fits, TakesTurns}
use Rattle.turn_lock.specs.Steps.{Seated, empty_handed, older, newer, joined_with}
use Rattle.turn_lock.proofs.LogLemmas.{items_by-none}
use Rattle.turn_lock.proofs.ViewLemmas.{knows_set, knows_spent, knows_one, knows_not_spent, live_same, seat_below}
use Rattle.turn_lock.proofs.RuleKeeps.{home_set, out_set}
use Rattle.turn_lock.proofs.QueueKeeps.{queue_same, queue_longer, queue_spent}

at_end : {A : Type 0} (xs : List A) (a b : A) (i : ℕ) → get_elem? (xs ++ a ∷ []) i ≡ some b → (get_elem? xs i ≡ some b) ⊎ ((i ≡ length xs) × (a ≡ b))
at_end [] a b zero e = inr (refl, some-injective a b e)
at_end [] a b (suc i) e = absurd (some-ne-none b (sym e))
at_end (x ∷ xs) a b zero e = inl e
at_end (x ∷ xs) a b (suc i) e = ⊎_elim (λ h. inl h) (λ h. inr (ap suc h.0, h.1)) (at_end xs a b i e)

module _ {V I N : Type 0} (items : V → List I) (by : I → ℕ) (name : V → N) (called : N) (callers : ℕ) where
  abbrev R : State (Option V) (View I N) → Type 0
  R = TakesTurns items by name called callers

  abbrev Kept : List I → List (View I N) → Joined I → Type 0
  Kept = IsKept items by name called

  -- the lock as it is made, with one seat
  pub opens : (value : V) → items value ≡ [] → name value ≡ called → 1 ≤ callers → callers ≤ 64 → R (opening (0 ∷ 0 ∷ 0 ∷ []) (Some value ∷ []) (Live (newcomer 1 called)))
  opens value nothing named some_caller few =
      let views : List (View I N) = Live (newcomer 1 called) ∷ [] in
      let only : (seat : ℕ) (k : Known I N) → Knows views seat k → (seat ≡ 0) × (newcomer 1 called ≡ k) = first_alone (newcomer 1 called) in record {
        log = [];
        served = 0;
        drawn = 0;
        words = refl;
        queue = record {
          within = λ seat k t at is. absurd (let h : None ≡ Some t = ap (λ (x : Known I N). ticket_of x.place) (only seat k at).1 ∙ is in cc);
          apart = λ seat other k l t at at' is is'. (only seat k at).0 ∙ sym (only other l at').0;
          each = refl;
        };
        slot = inl record {
          value = value;
          there = refl;
          list = nothing;
          named = named;
          empty = λ seat k t at is. let h : Away ≡ Inside t = ap (λ (x : Known I N). x.place) (only seat k at).1 ∙ is in cc;
        };
        fits = λ seat k at. let h = only seat k at in subst (λ (x : ℕ × Known I N). Fits items by name called [] 0 views x.0 x.1) (λ i. (sym h.0 i, h.1 i)) record {
          numbered = refl;
          named = refl;
          prefix = ([], refl);
          own = refl;
          turn = λ t is. absurd (let clash : Away ≡ Inside t = is in cc);
          last = λ _. refl;
          kept = All-nil (Kept [] views);
        };
        authors = All-nil (λ x. (0 < by x) × (by x ≤ 1));
        few = (some_caller, few);
      }
    where
      first_alone : (k₀ : Known I N) (seat : ℕ) (k : Known I N) → Knows (Live k₀ ∷ []) seat k → (seat ≡ 0) × (k₀ ≡ k)
      first_alone k₀ zero k e = (refl, live_same k₀ k (some-injective _ _ e))
      first_alone k₀ (suc n) k e = absurd (some-ne-none _ (sym e))

  abbrev Home : List I → List (Maybe (Option V)) → List (View I N) → Type 0
  Home = IsHome items by name called

  abbrev Out : List (Maybe (Option V)) → List (View I N) → Type 0
  Out = IsOut items by name called

  home_longer : (log : List I) (homes : List (Maybe (Option V))) (views : List (View I N)) (w : Known I N) → w.place ≡ Away → Home log homes views → Home log homes (views ++ Live w ∷ [])
  home_longer log homes views w away h = record {
    value = h.value;
    there = h.there;
    list = h.list;
    named = h.named;
    empty = λ seat k t at is. ⊎_elim
        (λ (e : Knows views seat k). h.empty seat k t e is)
        (λ (e : (seat ≡ length views) × (Live w ≡ Live k)). let clash : Away ≡ Inside t = sym away ∙ (ap (λ (x : Known I N). x.place) (live_same w k e.1) ∙ is) in cc)
        (at_end views (Live w) (Live k) seat at);
  }

  out_longer : (homes : List (Maybe (Option V))) (views : List (View I N)) (w : Known I N) → Out homes views → Out homes (views ++ Live w ∷ [])
  out_longer homes views w h = record { seat = h.seat; known = h.known; ticket = h.ticket; there = at_longer views (Live w ∷ []) h.seat (Live h.known) h.there; inside = h.inside; gone = h.gone }

  home_spent : (log : List I) (homes : List (Maybe (Option V))) (views : List (View I N)) (other : ℕ) → Home log homes views → Home log homes (set views other Spent)
  home_spent log homes views other h = record {
    value = h.value;
    there = h.there;
    list = h.list;
    named = h.named;
    empty = λ seat k t at is. h.empty seat k t (knows_spent views other seat k at).1 is;
  }

  out_spent : (homes : List (Maybe (Option V))) (views : List (View I N)) (other : ℕ) (l : Known I N) → Knows views other l → ((t : ℕ) → l.place ≢ Inside t) → Out homes views → Out homes (set views other Spent)
  out_spent homes views other l at not_in h =
      let ne : h.seat ≢ other = λ same. not_in h.ticket (ap (λ (x : Known I N). x.place) (knows_one views other l h.known at (subst (λ (n : ℕ). Knows views n h.known) same h.there)) ∙ h.inside) in
      record { seat = h.seat; known = h.known; ticket = h.ticket; there = set_else views other h.seat Spent ne ∙ h.there; inside = h.inside; gone = h.gone }

  -- a new seat
  pub splits : (id : ℕ) (k : Known I N) → k.newest ≡ true → k.place ≡ Away → k.number < callers → Splits R id (Live k) (older (Live k)) (newer (Live k))
  splits id k newest away room s r at =
      let old : Known I N = record k { newest = false } in
      let new : Known I N = newcomer (k.number + 1) k.name in
      let mid : List (View I N) = set s.views id (Live old) in
      let views : List (View I N) = mid ++ Live new ∷ [] in
      let f = r.fits id k at in
      let not_in : (t : ℕ) → k.place ≢ Inside t = λ t e. let clash : Away ≡ Inside t = sym away ∙ e in cc in
      let many : length s.views ≡ id + 1 = f.last newest in
      let mid_many : length mid ≡ length s.views = length-set s.views id (Live old) in
      let more : length views ≡ length mid + 1 = length-append mid (Live new ∷ []) in
      let spent : (j : Joined I) → Kept r.log s.views j → Kept r.log views j = λ j h. record {
        seat = h.seat;
        numbered = h.numbered;
        spent = at_longer mid (Live new ∷ []) h.seat Spent (set_else s.views id h.seat (Live old) (λ same. knows_not_spent s.views id k at (subst (IsSpent s.views) same h.spent)) ∙ h.spent);
        prefix = h.prefix;
        own = h.own;
      } in
      let cases : (seat : ℕ) (l : Known I N) → Knows views seat l → (((seat ≡ id) × (old ≡ l)) ⊎ ((seat ≢ id) × Knows s.views seat l)) ⊎ ((seat ≡ length mid) × (new ≡ l)) = λ seat l there. ⊎_elim
      (λ (h : Knows mid seat l). inl (knows_set s.views id old seat l h))
      (λ (h : (seat ≡ length mid) × (Live new ≡ Live l)). inr (h.0, live_same new l h.1))
      (at_end mid (Live new) (Live l) seat there) in record {
        log = r.log;
        served = r.served;
        drawn = r.drawn;
        words = r.words;
        queue = queue_longer r.served r.drawn mid new (queue_same r.served r.drawn s.views id k old r.queue at refl) refl;
        slot = ⊎_elim
            (λ (h : Home r.log s.homes s.views). inl (home_longer r.log s.homes mid new refl (home_set items by name called r.log s.homes s.views id old not_in h)))
            (λ (h : Out s.homes s.views). inr (out_longer s.homes mid new (out_set items by name called s.homes s.views id k old at not_in h)))
            r.slot;
        fits = λ seat l there. ⊎_elim
            (λ (h : ((seat ≡ id) × (old ≡ l)) ⊎ ((seat ≢ id) × Knows s.views seat l)). ⊎_elim
            (λ (e : (seat ≡ id) × (old ≡ l)). subst (λ (x : ℕ × Known I N). Fits items by name called r.log r.served views x.0 x.1) (λ i. (sym e.0 i, e.1 i)) record {
              numbered = f.numbered;
              named = f.named;
              prefix = f.prefix;
              own = f.own;
              turn = f.turn;
              last = λ no. absurd (let clash : false ≡ true = no in cc);
              kept = All-weaker (Kept r.log s.views) (Kept r.log views) spent k.joined f.kept;
            })
            (λ (e : (seat ≢ id) × Knows s.views seat l). let g = r.fits seat l e.1 in record {
              numbered = g.numbered;
              named = g.named;
              prefix = g.prefix;
              own = g.own;
              turn = g.turn;
              last = λ newest'. absurd (e.0 (let m = g.last newest' in omega arith));
              kept = All-weaker (Kept r.log s.views) (Kept r.log views) spent l.joined g.kept;
            })
            h)
            (λ (e : (seat ≡ length mid) × (new ≡ l)). subst (λ (x : ℕ × Known I N). Fits items by name called r.log r.served views x.0 x.1) (λ i. (sym e.0 i, e.1 i)) record {
              numbered = let n = f.numbered in omega arith;
              named = f.named;
              prefix = (r.log, refl);
              own = items_by-none by (k.number + 1) r.log (All-weaker (λ x. (0 < by x) × (by x ≤ length s.views)) (λ x. by x ≢ k.number + 1) (λ x h e. let n = f.numbered in omega arith) r.log r.authors);
              turn = λ t is. absurd (let clash : Away ≡ Inside t = is in cc);
              last = λ _. more;
              kept = All-nil (Kept r.log views);
            })
            (cases seat l there);
        authors = All-weaker (λ x. (0 < by x) × (by x ≤ length s.views)) (λ x. (0 < by x) × (by x ≤ length views)) (λ x h. (h.0, omega arith)) r.log r.authors;
        few = let n = f.numbered in (omega arith, r.few.1);
      }

  -- a seat is joined into another
  pub joins : (id other : ℕ) (k l : Known I N) → k.place ≡ Away → l.place ≡ Away → Joins R id (Live k) other (Live l) (joined_with (Live k) (Live l)) Spent
  joins id other k l away away' s r at apart at' =
      let j : Joined I = record { number = l.number; seen = l.seen } in
      let new : Known I N = record k { joined = j ∷ k.joined } in
      let mid : List (View I N) = set s.views id (Live new) in
      let views : List (View I N) = set mid other Spent in
      let there : Knows s.views other l = sym (set_else s.views id other (Live new) apart) ∙ at' in
      let f = r.fits id k at in
      let g = r.fits other l there in
      let many : length views ≡ length s.views = length-set mid other Spent ∙ length-set s.views id (Live new) in
      let not_in : (t : ℕ) → k.place ≢ Inside t = λ t e. let clash : Away ≡ Inside t = sym away ∙ e in cc in
      let not_in' : (t : ℕ) → l.place ≢ Inside t = λ t e. let clash : Away ≡ Inside t = sym away' ∙ e in cc in
      let kept : (i : Joined I) → Kept r.log s.views i → Kept r.log views i = λ i h.
      let ne : h.seat ≢ id = λ same. knows_not_spent s.views id k at (subst (IsSpent s.views) same h.spent) in
      let ne' : h.seat ≢ other = λ same. knows_not_spent s.views other l there (subst (IsSpent s.views) same h.spent) in record {
        seat = h.seat;
        numbered = h.numbered;
        spent = set_else mid other h.seat Spent ne' ∙ (set_else s.views id h.seat (Live new) ne ∙ h.spent);
        prefix = h.prefix;
        own = h.own;
      } in record {
        log = r.log;
        served = r.served;
        drawn = r.drawn;
        words = r.words;
        queue = queue_spent r.served r.drawn mid other l (queue_same r.served r.drawn s.views id k new r.queue at refl) at' away';
        slot = ⊎_elim
            (λ (h : Home r.log s.homes s.views). inl (home_spent r.log s.homes mid other (home_set items by name called r.log s.homes s.views id new not_in h)))
            (λ (h : Out s.homes s.views). inr (out_spent s.homes mid other l at' not_in' (out_set items by name called s.homes s.views id k new at not_in h)))
            r.slot;
        fits = λ seat x here. let e = knows_spent mid other seat x here in ⊎_elim
            (λ (h : (seat ≡ id) × (new ≡ x)). subst (λ (y : ℕ × Known I N). Fits items by name called r.log r.served views y.0 y.1) (λ i. (sym h.0 i, h.1 i)) record {
              numbered = f.numbered;
              named = f.named;
              prefix = f.prefix;
              own = f.own;
              turn = f.turn;
              last = λ newest. many ∙ f.last newest;
              kept = All-cons (Kept r.log views) j k.joined
                  record { seat = other; numbered = g.numbered; spent = set_here mid other Spent (seat_below mid other (Live l) at'); prefix = g.prefix; own = g.own }
                  (All-weaker (Kept r.log s.views) (Kept r.log views) kept k.joined f.kept);
            })
            (λ (h : (seat ≢ id) × Knows s.views seat x). let y = r.fits seat x h.1 in record {
              numbered = y.numbered;
              named = y.named;
              prefix = y.prefix;
              own = y.own;
              turn = y.turn;
              last = λ newest. many ∙ y.last newest;
              kept = All-weaker (Kept r.log s.views) (Kept r.log views) kept x.joined y.kept;
            })
            (knows_set s.views id new seat x e.1);
        authors = subst (λ (n : ℕ). All (λ x. (0 < by x) × (by x ≤ n)) r.log) (sym many) r.authors;
        few = subst (λ (n : ℕ). (n ≤ callers) × (callers ≤ 64)) (sym many) r.few;
      }

  pub may_split : (id number : ℕ) (n : N) (me : Seated V I N) → me ≡ empty_handed (newcomer number n) → number < callers → Splits R id me.0 (older me.0) (newer me.0)
  may_split id number n me is room = subst (λ (m : Seated V I N). Splits R id m.0 (older m.0) (newer m.0)) (sym is) (splits id (newcomer number n) refl refl room)

  pub may_join : (id other : ℕ) (k l : Known I N) (me him : Seated V I N) → me ≡ empty_handed k → him ≡ empty_handed l → k.place ≡ Away → l.place ≡ Away → Joins R id me.0 other him.0 (joined_with me.0 him.0) Spent
  may_join id other k l me him is is' away away' =
      subst (λ (m : Seated V I N × Seated V I N). Joins R id m.0.0 other m.1.0 (joined_with m.0.0 m.1.0) Spent) (λ i. (sym is i, sym is' i)) (joins id other k l away away')
