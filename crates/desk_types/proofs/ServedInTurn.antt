-- Lists of calls that are served one after the other are served as one list.
use Rattle.std.proofs.Common.{◌≡◌, ◌≢◌, ℕ, sym, ap, List, [], ◌∷◌, ◌++◌, Result, ◌∙◌, subst, append_assoc}
use Rattle.std.proofs.lemmas.List.{append-nil}
use Rattle.std.proofs.lemmas.List.Elements.{All-append, All-nil}
use Rattle.desk_types.specs.declared.call.Call.{Call}
use Rattle.desk_types.specs.declared.entry.Entry.{Entry}
use Rattle.desk_types.specs.declared.entry.Fault.{Fault}
use Rattle.desk_types.specs.declared.reply.Reply.{Reply}
use Rattle.desk_types.specs.Journal.{IsLegal}
use Rattle.desk_types.specs.Serving.{AreOfOthers, AreServed, Ends, IsIdle, Serves, ServiceView, with_seen}

-- entries of others that came before a list of calls belong to it
from_others : (service left : ServiceView) (others : List Entry) (calls : List (ℕ × Call)) (results : List (Result Reply Fault))
    → AreOfOthers service.me others → AreServed (with_seen service (service.seen ++ others)) calls results left → AreServed service calls results left
unfolding AreServed
from_others service left others [] [] of_others h = record {
  others = others ++ h.others;
  of_others = All-append (λ (e : Entry). e.caller ≢ service.me) others h.others of_others h.of_others;
  seen = h.seen ∙ ap (with_seen service) (append_assoc service.seen others h.others);
  legal = h.legal;
}
from_others service left others (call ∷ calls) (result ∷ results) of_others h =
    let first = h.1 in (
      h.0,
      record {
        others = others ++ first.others;
        of_others = All-append (λ (e : Entry). e.caller ≢ service.me) others first.others of_others first.of_others;
        ends = subst (λ found. Ends (with_seen service found) call.0 call.1 result h.0.seen) (append_assoc service.seen others first.others) first.ends;
        legal = first.legal;
        stays = first.stays;
        sure_result = first.sure_result;
      },
      h.2,
    )
from_others service left others [] (result ∷ results) of_others h = absurd h
from_others service left others (call ∷ calls) [] of_others h = absurd h

AreServed-later : (service between left : ServiceView) (calls : List (ℕ × Call)) (results : List (Result Reply Fault))
    → IsIdle service between → AreServed between calls results left → AreServed service calls results left
AreServed-later service between left calls results idle h =
    from_others service left idle.others calls results idle.of_others (subst (λ found. AreServed found calls results left) idle.seen h)

pub AreServed-append : (service between left : ServiceView) (calls more : List (ℕ × Call)) (results others : List (Result Reply Fault))
    → AreServed service calls results between → AreServed between more others left → AreServed service (calls ++ more) (results ++ others) left
unfolding AreServed
AreServed-append service between left [] more [] others h k = AreServed-later service between left more others h k
AreServed-append service between left (call ∷ calls) more (result ∷ results) others h k =
    (h.0, h.1, AreServed-append h.0 between left calls more results others h.2 k)
AreServed-append service between left [] more (result ∷ results) others h k = absurd h
AreServed-append service between left (call ∷ calls) more [] others h k = absurd h

-- no call and one call, as lists
pub AreServed-none : (service : ServiceView) → IsLegal service.opening.settings service.seen → AreServed service [] [] service
unfolding AreServed
AreServed-none service legal = record {
  others = [];
  of_others = All-nil (λ (e : Entry). e.caller ≢ service.me);
  seen = ap (with_seen service) (sym (append-nil service.seen));
  legal = legal;
}

pub AreServed-one : (service left : ServiceView) (moment : ℕ) (call : Call) (result : Result Reply Fault)
    → Serves service moment call result left → AreServed service ((moment, call) ∷ []) (result ∷ []) left
unfolding AreServed
AreServed-one service left moment call result h =
    let settings = ap (λ (s : ServiceView). s.opening.settings) h.stays in
    (left, h, AreServed-none left (subst (λ s. IsLegal s left.seen) (sym settings) h.legal))

-- the caller, the opening and whether the keeper is sure stay
pub AreServed-stays : (service left : ServiceView) (calls : List (ℕ × Call)) (results : List (Result Reply Fault))
    → AreServed service calls results left → left ≡ with_seen service left.seen
unfolding AreServed
AreServed-stays service left [] [] h = h.seen ∙ ap (λ (s : ServiceView). with_seen service s.seen) (sym h.seen)
AreServed-stays service left (call ∷ calls) (result ∷ results) h =
    AreServed-stays h.0 left calls results h.2 ∙ ap (λ (s : ServiceView). with_seen s left.seen) h.1.stays
AreServed-stays service left [] (result ∷ results) h = absurd h
AreServed-stays service left (call ∷ calls) [] h = absurd h
