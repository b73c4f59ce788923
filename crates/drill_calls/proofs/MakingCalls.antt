-- Calls that are made one after another.
use Rattle.std.proofs.Common.{◌≡◌, ℕ, ◌+◌, ◌*◌, max, List, [], ◌∷◌, ◌++◌, length, Result, Ok, Err, refl, sym, ap, subst, ◌∙◌, add-zero, arith, append_assoc, append-nil, length-append, suc}
use Rattle.std.specs.Prelude.{flat_map}
use Rattle.std.proofs.lemmas.List.Concat.{flat_map-append}
use Rattle.desk_types.specs.declared.call.Call.{Call}
use Rattle.desk_types.specs.declared.entry.Fault.{Fault}
use Rattle.desk_types.specs.declared.reply.Reply.{Reply}
use Rattle.desk_types.specs.Journal.{IsLegal}
use Rattle.desk_types.specs.Opening.{greatest}
use Rattle.desk_types.specs.Serving.{ServiceView, Serves, AreServed}
use Rattle.desk_types.proofs.ServedInTurn.{AreServed-none, AreServed-one, AreServed-append}
use Rattle.drill_calls.specs.DrillCalls.{placements_answered, greatest_placement, at_moments}
use Rattle.std.proofs.lemmas.List.Elements.{All-append, All-cons, All-nil}
use Rattle.drill_calls.specs.DrillRun.{HasMemory}
use Rattle.drill_calls.specs.Making.{Stand, standing, AreCalled, AreCalledInPart, CallsThrough}

pub at_moments-append : (before : ℕ) (calls more : List Call) → at_moments before (calls ++ more) ≡ at_moments before calls ++ at_moments (before + length calls) more
unfolding at_moments
at_moments-append before [] more = ap (λ n. at_moments n more) (sym (add-zero before))
at_moments-append before (call ∷ calls) more =
    let next : before + 1 + length calls ≡ before + length (call ∷ calls) = omega arith in
    ap (λ rest. (60 * (before + 1), call) ∷ rest) (at_moments-append (before + 1) calls more ∙ ap (λ n. at_moments (before + 1) calls ++ at_moments n more) next)

greatest-append : (a b : List ℕ) → greatest (a ++ b) ≡ max (greatest a) (greatest b)
greatest-append [] b = omega arith
greatest-append (n ∷ a) b = omega (arith, greatest-append a b)

pub placement-append : (results more : List (Result Reply Fault)) → greatest_placement (results ++ more) ≡ max (greatest_placement results) (greatest_placement more)
unfolding greatest_placement
placement-append results more =
    ap greatest (flat_map-append placements_answered results more) ∙ greatest-append (flat_map placements_answered results) (flat_map placements_answered more)

pub placement-one : (result : Result Reply Fault) → greatest_placement (result ∷ []) ≡ greatest (placements_answered result)
unfolding greatest_placement
placement-one result = ap greatest (append-nil (placements_answered result))

pub length-served : (service left : ServiceView) (calls : List (ℕ × Call)) (results : List (Result Reply Fault)) → AreServed service calls results left → length results ≡ length calls
unfolding AreServed
length-served service left [] [] h = refl
length-served service left (call ∷ calls) (result ∷ results) h = ap suc (length-served h.0 left calls results h.2)
length-served service left [] (result ∷ results) h = absurd h
length-served service left (call ∷ calls) [] h = absurd h

-- calls served behind others
pub served-then : (a b c : ServiceView) (before : ℕ) (calls more : List Call) (results others : List (Result Reply Fault))
    → AreServed a (at_moments before calls) results b → AreServed b (at_moments (before + length calls) more) others c
    → AreServed a (at_moments before (calls ++ more)) (results ++ others) c
served-then a b c before calls more results others h k =
    subst (λ (made : List (ℕ × Call)). AreServed a made (results ++ others) c) (sym (at_moments-append before calls more))
    (AreServed-append a b c (at_moments before calls) (at_moments (before + length calls) more) results others h k)

module _ (a b c : Stand) (calls more : List Call) (h : AreCalled a b calls) where
  pub made-then : AreCalled b c more → AreCalled a c (calls ++ more)
  made-then k =
      let whole = length-append calls more in record {
        results = h.results ++ k.results;
        served = served-then a.service b.service c.service a.made calls more h.results k.results h.served
            (subst (λ (n : ℕ). AreServed b.service (at_moments n more) k.results c.service) h.made k.served);
        made = omega (arith, h.made, k.made, whole);
        greatest = (let both = placement-append h.results k.results in omega (arith, h.greatest, k.greatest, both));
        answered = All-append HasMemory h.results k.results h.answered k.answered;
      }

  pub part-then : AreCalledInPart b c more → AreCalledInPart a c (calls ++ more)
  part-then k = record {
    made = calls ++ k.made;
    rest = k.rest;
    results = h.results ++ k.results;
    first = ap (λ s. calls ++ s) k.first ∙ sym (append_assoc calls k.made k.rest);
    served = served-then a.service b.service c.service a.made calls k.made h.results k.results h.served
        (subst (λ (n : ℕ). AreServed b.service (at_moments n k.made) k.results c.service) h.made k.served);
  }

  pub makes-then : {E : Type 0} (result : Result (Unit {0}) E) → CallsThrough b c more result → CallsThrough a c (calls ++ more) result
  makes-then (Ok done) k = made-then k
  makes-then (Err fault) k = part-then k

-- calls made in part are so of a longer list as well
pub part-longer : (a b : Stand) (calls more : List Call) → AreCalledInPart a b calls → AreCalledInPart a b (calls ++ more)
part-longer a b calls more h = record {
  made = h.made;
  rest = h.rest ++ more;
  results = h.results;
  first = ap (λ s. s ++ more) h.first ∙ append_assoc h.made h.rest more;
  served = h.served;
}

-- no call is made
pub made-none : (a : Stand) → IsLegal a.service.opening.settings a.service.seen → AreCalled a a []
unfolding at_moments greatest_placement
made-none a legal = record { results = []; served = AreServed-none a.service legal; made = omega arith; greatest = omega arith; answered = All-nil HasMemory }

pub part-none : (a : Stand) (calls : List Call) → IsLegal a.service.opening.settings a.service.seen → AreCalledInPart a a calls
unfolding at_moments
part-none a calls legal = record { made = []; rest = calls; results = []; first = refl; served = AreServed-none a.service legal }

-- one call is made
module _ (service now : ServiceView) (made made' most most' moment : ℕ) (call : Call) (result : Result Reply Fault)
    (serves : Serves service moment call result now) (next : made' ≡ made + 1) (at : moment ≡ 60 * made') where
  served-one : AreServed service (at_moments made (call ∷ [])) (result ∷ []) now
  unfolding at_moments
  served-one =
      AreServed-one service now (60 * (made + 1)) call result
      (subst (λ (m : ℕ). Serves service m call result now) (at ∙ ap (λ n. 60 * n) next) serves)

  pub made-one : HasMemory result → most' ≡ max most (greatest (placements_answered result)) → AreCalled (standing service made most) (standing now made' most') (call ∷ [])
  made-one answered most-now = record {
    results = result ∷ [];
    served = served-one;
    made = next;
    greatest = most-now ∙ ap (λ n. max most n) (sym (placement-one result));
    answered = All-cons HasMemory result [] answered (All-nil HasMemory);
  }

  pub part-one : AreCalledInPart (standing service made most) (standing now made' most') (call ∷ [])
  part-one = record { made = call ∷ []; rest = []; results = result ∷ []; first = refl; served = served-one }
