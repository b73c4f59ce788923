-- Each kind of step keeps the rule, and tells its seat what it should.
use Rattle.std.proofs.Common.{◌≡◌, ◌≢◌, ℕ, ◌+◌, ◌^◌, ◌%◌, List, [], ◌∷◌, length, set, refl, sym, ap, ◌∙◌, inl, inr, ⊎_elim, subst, arith, eq-eqb, ne_eqb}
use Rattle.std.specs.Prelude.{Option, Some, ◌==◌, MatchBool}
use Rattle.std.proofs.Math.Nat.{mod-add-mod}
use Rattle.std.proofs.lemmas.List.Sums.{count_by-le-length}
use mathlib.Core.Option.{Option as Maybe, some, none}
use mathlib.Core.Logic.{dite}
use native.Mathlib.Decide.{ℕ_discrete}
use lib.ListN.{get_elem?, get_or}
use Rattle.atomic_table.specs.Table.{State, Act, keeps, takes, gives, Valid, stepped, carried_after, Allows}
use lib.Seq.{set-get_or}
use Rattle.atomic_table.proofs.Lists.{set_here, one_turn}
use Rattle.turn_lock.specs.declared.view.Place.TheVariants.{Away, Waiting, Inside}
use Rattle.turn_lock.specs.declared.view.Known.{Known}
use Rattle.turn_lock.specs.declared.view.View.{View}
use Rattle.turn_lock.specs.declared.view.View.TheVariants.{Live}
use Rattle.turn_lock.specs.Lists.{IsPrefix, items_by, GrowsBy}
use Rattle.turn_lock.specs.Views.{Knows}
use Rattle.turn_lock.specs.Queue.{ticket_of, has_ticket}
use Rattle.turn_lock.specs.Rule.{IsHome, IsOut, TakesTurns}
use Rattle.turn_lock.specs.Steps.{Seated, moved_to, seeing, MayDraw, Draws, MayLook, Enters, ComesIn, Looks, MayNote, Notes, MayPassOn, PassesOn}
use Rattle.turn_lock.proofs.LogLemmas.{prefix_same, grows_same}
use Rattle.turn_lock.proofs.ViewLemmas.{knows_set, knows_one, live_same, seat_below}
use Rattle.turn_lock.proofs.QueueKeeps.{queue_same, queue_drawn, queue_passed}
use Rattle.turn_lock.proofs.RuleKeeps.{home_set, out_set, one_in, keeps_step, keeps_same}

-- the word after a step that adds one
next_ticket : (ws : List ℕ) (i t : ℕ) → get_or ws i 0 ≡ t % 2 ^ 64 → (get_or ws i 0 + 1) % 2 ^ 64 ≡ (t + 1) % 2 ^ 64
next_ticket ws i t e = ap (λ (n : ℕ). (n + 1) % 2 ^ 64) e ∙ mod-add-mod t (2 ^ 64) 1

module _ {V I N : Type 0} (items : V → List I) (by : I → ℕ) (name : V → N) (called : N) (callers : ℕ) where
  abbrev R : State (Option V) (View I N) → Type 0
  R = TakesTurns items by name called callers

  -- a ticket in the queue is not gone round
  served_is : (s : State (Option V) (View I N)) (r : R s) (me t : ℕ) (k : Known I N) → Knows s.views me k → ticket_of k.place ≡ Some t → r.served % 2 ^ 64 ≡ t % 2 ^ 64 → r.served ≡ t
  served_is s r me t k at ticket e =
      let h = r.queue.within me k t at ticket in
      let c = r.queue.each in
      let few = r.few in
      let most = count_by-le-length (has_ticket {I = I} {N = N}) s.views in
      one_turn r.served t (2 ^ 64) h.0 (omega arith) e

  pub draws : (slots me : ℕ) (k : Known I N) → k.place ≡ Away → Allows R slots me (Live k, []) 0 (λ n. (n + 1) % 2 ^ 64) (Draws (Live k, []))
  draws slots me k away s r _ at _ =
      let t : ℕ = r.drawn in
      let w : Known I N = moved_to k (Waiting t) in
      let word : get_or s.words 0 0 ≡ t % 2 ^ 64 = ap (λ (ws : List ℕ). get_or ws 0 0) r.words in
      let out : (u : ℕ) → k.place ≢ Inside u = λ u e. let h : Away ≡ Inside u = sym away ∙ e in cc in
      let new : (u : ℕ) → w.place ≢ Inside u = λ u e. let h : Waiting t ≡ Inside u = e in cc in
      let f = r.fits me k at in (
        Live w,
        keeps,
        tt,
        keeps_step items by name called callers s r me k (Waiting t) k.seen (set s.words 0 ((get_or s.words 0 0 + 1) % 2 ^ 64)) s.homes r.log r.served (t + 1) at
            (ap (λ (ws : List ℕ). set ws 0 ((get_or s.words 0 0 + 1) % 2 ^ 64)) r.words ∙ ap (λ (n : ℕ). n ∷ r.served % 2 ^ 64 ∷ length r.log ∷ []) (next_ticket s.words 0 t word))
            (queue_drawn r.served t s.views me k w r.queue at away refl)
            (⊎_elim (λ (h : IsHome items by name called r.log s.homes s.views). inl (home_set items by name called r.log s.homes s.views me w new h))
            (λ (h : IsOut items by name called s.homes s.views). inr (out_set items by name called s.homes s.views me k w at out h)) r.slot)
            (grows_same by (me + 1) r.log)
            f.prefix
            f.own
            (λ u e. absurd (new u e))
            (λ seat l u _ there inside. (r.fits seat l there).turn u inside),
        (λ k' e. (t, word, ap (λ (x : Known I N). (Live (moved_to x (Waiting t)), [])) (live_same k k' (ap (λ (m : Seated V I N). m.0) e)))),
      )

  held_same : (k k' : Known I N) (value value' : V) → (let a : Seated V I N = (Live k, (0, Some value) ∷ []) in let b : Seated V I N = (Live k', (0, Some value') ∷ []) in a ≡ b) → (k ≡ k') × (value ≡ value')
  held_same k k' value value' e =
      let values : Some value ≡ Some value' = ap (λ (m : Seated V I N). (get_or m.1 0 (0, Some value)).1) e in
      (live_same k k' (ap (λ (m : Seated V I N). m.0) e), cc)

  -- where the ticket is served nobody is in, so the value is at home
  at_home : (s : State (Option V) (View I N)) (r : R s) (me t : ℕ) (k : Known I N) → Knows s.views me k → k.place ≡ Waiting t → r.served ≡ t → IsHome items by name called r.log s.homes s.views
  at_home s r me t k at waits same = ⊎_elim
      (λ (h : IsHome items by name called r.log s.homes s.views). h)
      (λ (h : IsOut items by name called s.homes s.views).
      let turn = (r.fits h.seat h.known h.there).turn h.ticket h.inside in
      let here : h.seat ≡ me = r.queue.apart h.seat me h.known k t h.there at (ap ticket_of h.inside ∙ ap (λ (n : ℕ). Some n) (turn.0 ∙ same)) (ap ticket_of waits) in
      let one : k ≡ h.known = knows_one s.views me k h.known at (subst (λ (n : ℕ). Knows s.views n h.known) here h.there) in
      let clash : Waiting t ≡ Inside h.ticket = sym waits ∙ (ap (λ (x : Known I N). x.place) one ∙ h.inside) in absurd cc)
      r.slot

  tells : (k : Known I N) (t n : ℕ) (after : Seated V I N) → k.place ≡ Waiting t → (n ≡ t % 2 ^ 64 → Enters items by name k t after) × (n ≢ t % 2 ^ 64 → after ≡ (Live k, []))
      → Looks items by name (Live k, []) n after
  tells k t n after waits told k' t' e waits' =
      let same : k ≡ k' = live_same k k' (ap (λ (m : Seated V I N). m.0) e) in
      let ticket : t ≡ t' = let clash : Waiting t ≡ Waiting t' = sym waits ∙ (ap (λ (x : Known I N). x.place) same ∙ waits') in cc in
      subst (λ (x : Known I N × ℕ). (n ≡ x.1 % 2 ^ 64 → Enters items by name x.0 x.1 after) × (n ≢ x.1 % 2 ^ 64 → after ≡ (Live k, []))) (λ i. (same i, ticket i)) told

  -- where the ticket is served, the seat comes in
  comes_in : (s : State (Option V) (View I N)) (r : R s) (me t : ℕ) (k : Known I N) → Knows s.views me k → k.place ≡ Waiting t → r.served ≡ t → get_or s.words 1 0 ≡ t % 2 ^ 64
      → (w : View I N) × (a : Act (Option V)) × Valid s.homes [] a × R (stepped s 1 (get_or s.words 1 0) me [] w a) × Looks items by name (Live k, []) (get_or s.words 1 0) (w, carried_after [] a)
  comes_in s r me t k at waits same found =
      let h = at_home s r me t k at waits same in
      let f = r.fits me k at in
      let log : List I = items h.value in
      let list : log ≡ r.log = h.list in
      let w : Known I N = seeing (moved_to k (Inside t)) log in
      let prefix : IsPrefix k.seen log = subst (IsPrefix k.seen) (sym list) f.prefix in
      let own : items_by by k.number log ≡ items_by by k.number k.seen = ap (items_by by k.number) list ∙ f.own in (
        Live w,
        takes 0 (Some h.value),
        ap (λ (hs : List (Maybe (Option V))). get_elem? hs 0) h.there,
        keeps_step items by name called callers s r me k (Inside t) log (set s.words 1 (get_or s.words 1 0)) (set s.homes 0 none) r.log r.served r.drawn at
            (set-get_or s.words 1 0 ∙ r.words)
            (queue_same r.served r.drawn s.views me k w r.queue at (ap (λ (n : ℕ). Some n) refl ∙ sym (ap ticket_of waits)))
            (inr record { seat = me; known = w; ticket = t; there = set_here s.views me (Live w) (seat_below s.views me (Live k) at); inside = refl; gone = ap (λ (hs : List (Maybe (Option V))). set hs 0 none) h.there })
            (grows_same by (me + 1) r.log)
            (subst (λ (xs : List I). IsPrefix xs r.log) (sym list) (prefix_same r.log))
            (ap (items_by by k.number) (sym list))
            (λ u e. (let clash : Inside t ≡ Inside u = e in let tu : t ≡ u = cc in sym tu ∙ sym same, list))
            (λ seat l u _ there inside. (r.fits seat l there).turn u inside),
        tells k t (get_or s.words 1 0) (Live w, (0, Some h.value) ∷ []) waits
            ((λ _. record { value = h.value; out = refl; prefix = prefix; own = own; named = h.named ∙ sym f.named }), (λ n. absurd (n found))),
      )

  pub looks : (slots me t : ℕ) (k : Known I N) → k.place ≡ Waiting t → Allows R slots me (Live k, []) 1 (λ n. n) (Looks items by name (Live k, []))
  looks slots me t k waits s r _ at _ = dite (ℕ_discrete (get_or s.words 1 0) (t % 2 ^ 64))
      (λ found.
      let word : get_or s.words 1 0 ≡ r.served % 2 ^ 64 = ap (λ (ws : List ℕ). get_or ws 1 0) r.words in
      comes_in s r me t k at waits (served_is s r me t k at (ap ticket_of waits) (sym word ∙ found)) found)
      (λ other. (
        Live k,
        keeps,
        tt,
        keeps_same items by name called callers s r me (Live k) 1 at,
        tells k t (get_or s.words 1 0) (Live k, []) waits ((λ found. absurd (other found)), (λ _. refl)),
      ))

  pub notes : (slots me t n : ℕ) (k : Known I N) (value : V) → k.place ≡ Inside t → GrowsBy by k.number k.seen (items value) → n ≡ length (items value)
      → Allows R slots me (Live k, (0, Some value) ∷ []) 2 (λ _. n) (λ _. Notes items (Live k, (0, Some value) ∷ []))
  notes slots me t n k value inside grew long s r _ at _ =
      let log : List I = items value in
      let w : Known I N = seeing k log in
      let f = r.fits me k at in
      let all : k.seen ≡ r.log = (f.turn t inside).1 in
      let grows : GrowsBy by (me + 1) r.log log = subst (λ (x : ℕ × List I). GrowsBy by x.0 x.1 log) (λ i. (f.numbered i, all i)) grew in
      let below = seat_below s.views me (Live k) at in (
        Live w,
        keeps,
        tt,
        keeps_step items by name called callers s r me k k.place log (set s.words 2 n) s.homes log r.served r.drawn at
            (ap (λ (ws : List ℕ). set ws 2 n) r.words ∙ ap (λ (m : ℕ). r.drawn % 2 ^ 64 ∷ r.served % 2 ^ 64 ∷ m ∷ []) long)
            (queue_same r.served r.drawn s.views me k w r.queue at refl)
            (⊎_elim (λ (h : IsHome items by name called r.log s.homes s.views). absurd (h.empty me k t at inside))
            (λ (h : IsOut items by name called s.homes s.views). inr record { seat = me; known = w; ticket = t; there = set_here s.views me (Live w) below; inside = inside; gone = h.gone }) r.slot)
            grows
            (prefix_same log)
            refl
            (λ u e. ((f.turn u e).0, refl))
            (λ seat l u other there inside'. absurd (other (one_in items by name called callers s r me seat k l t u at inside there inside'))),
        (λ k' value' e. let h = held_same k k' value value' e in λ i. (Live (seeing (h.0 i) (items (h.1 i))), (0, Some (h.1 i)) ∷ [])),
      )

  pub passes : (slots me t : ℕ) (k : Known I N) (value : V) → k.place ≡ Inside t → items value ≡ k.seen → name value ≡ k.name
      → Allows R slots me (Live k, (0, Some value) ∷ []) 1 (λ n. (n + 1) % 2 ^ 64) (λ _. PassesOn (Live k, (0, Some value) ∷ []))
  passes slots me t k value inside list named s r _ at _ =
      let w : Known I N = moved_to k Away in
      let f = r.fits me k at in
      let turn = f.turn t inside in
      let word : get_or s.words 1 0 ≡ r.served % 2 ^ 64 = ap (λ (ws : List ℕ). get_or ws 1 0) r.words in
      let away : (u : ℕ) → w.place ≢ Inside u = λ u e. let h : Away ≡ Inside u = e in cc in
      let nobody : (seat : ℕ) (l : Known I N) (u : ℕ) → seat ≢ me → Knows s.views seat l → l.place ≡ Inside u → ⊥ = λ seat l u other there inside'. other (one_in items by name called callers s r me seat k l t u at inside there inside') in (
        Live w,
        gives,
        tt,
        keeps_step items by name called callers s r me k Away k.seen (set s.words 1 ((get_or s.words 1 0 + 1) % 2 ^ 64)) (set s.homes 0 (some (Some value))) r.log (r.served + 1) r.drawn at
            (ap (λ (ws : List ℕ). set ws 1 ((get_or s.words 1 0 + 1) % 2 ^ 64)) r.words ∙ ap (λ (n : ℕ). r.drawn % 2 ^ 64 ∷ n ∷ length r.log ∷ []) (next_ticket s.words 1 r.served word))
            (queue_passed r.served r.drawn s.views me k w r.queue at (inside ∙ ap (λ (n : ℕ). Inside n) turn.0) refl)
            (⊎_elim (λ (h : IsHome items by name called r.log s.homes s.views). absurd (h.empty me k t at inside))
            (λ (h : IsOut items by name called s.homes s.views). inl record {
              value = value;
              there = ap (λ (hs : List (Maybe (Option V))). set hs 0 (some (Some value))) h.gone;
              list = list ∙ turn.1;
              named = named ∙ f.named;
              empty = λ seat l u there inside'. ⊎_elim
                  (λ (e : (seat ≡ me) × (w ≡ l)). away u (ap (λ (x : Known I N). x.place) e.1 ∙ inside'))
                  (λ (e : (seat ≢ me) × Knows s.views seat l). nobody seat l u e.0 e.1 inside')
                  (knows_set s.views me w seat l there);
            }) r.slot)
            (grows_same by (me + 1) r.log)
            f.prefix
            f.own
            (λ u e. absurd (away u e))
            (λ seat l u other there inside'. absurd (nobody seat l u other there inside')),
        (λ k' value' e. let h = held_same k k' value value' e in λ i. (Live (moved_to (h.0 i) Away), [])),
      )

  -- the same for a seat that may make the step
  pub may_draw : (slots id : ℕ) (me : Seated V I N) → MayDraw me → Allows R slots id me 0 (λ n. (n + 1) % 2 ^ 64) (Draws me)
  may_draw slots id me h = subst (λ (m : Seated V I N). Allows R slots id m 0 (λ n. (n + 1) % 2 ^ 64) (Draws m)) (sym h.is) (draws slots id h.known h.away)

  pub may_look : (slots id n : ℕ) (me : Seated V I N) → MayLook me n → Allows R slots id me 1 (λ m. m) (Looks items by name me)
  may_look slots id n me h = subst (λ (m : Seated V I N). Allows R slots id m 1 (λ m. m) (Looks items by name m)) (sym h.is) (looks slots id h.ticket h.known h.waits)

  pub may_note : (slots id n : ℕ) (me : Seated V I N) → MayNote items by me n → Allows R slots id me 2 (λ _. n) (λ _. Notes items me)
  may_note slots id n me h = subst (λ (m : Seated V I N). Allows R slots id m 2 (λ _. n) (λ _. Notes items m)) (sym h.is) (notes slots id h.ticket n h.known h.value h.inside h.grew h.long)

  pub may_pass_on : (slots id : ℕ) (me : Seated V I N) → MayPassOn items name me → Allows R slots id me 1 (λ n. (n + 1) % 2 ^ 64) (λ _. PassesOn me)
  may_pass_on slots id me h = subst (λ (m : Seated V I N). Allows R slots id m 1 (λ n. (n + 1) % 2 ^ 64) (λ _. PassesOn m)) (sym h.is) (passes slots id h.ticket h.known h.value h.inside h.list h.named)

module _ {V I N : Type 0} (items : V → List I) (by : I → ℕ) (name : V → N) where
  -- what a look says
  pub looked : (found ticket : ℕ) (before after : Seated V I N) → MayLook before ticket → Looks items by name before found after → MatchBool (found == ticket) (ComesIn items by name before after) (after ≡ before)
  looked found ticket before after h looks = dite (ℕ_discrete found ticket)
      (λ same. rw (eq-eqb found ticket same) (λ k t is waits.
      let one : h.known ≡ k = live_same h.known k (ap (λ (m : Seated V I N). m.0) (sym h.is ∙ is)) in
      let tickets : h.ticket ≡ t = let e : Waiting h.ticket ≡ Waiting t = sym h.waits ∙ (ap (λ (x : Known I N). x.place) one ∙ waits) in cc in
      (looks k t is waits).0 (same ∙ (h.same ∙ ap (λ (n : ℕ). n % 2 ^ 64) tickets))))
      (λ other. rw (ne_eqb found ticket other) ((looks h.known h.ticket h.is h.waits).1 (λ e. other (e ∙ sym h.same))))
