-- Work goes on by a session at a time.
use Rattle.std.proofs.Common.{◌≡◌, ◌≢◌, ℕ, ◌+◌, ◌-◌, ◌^◌, Bool, List, [], ◌∷◌, ◌++◌, Option, Some, None, refl, sym, ap, subst, ◌∙◌, append_assoc, append-nil, length-append, arith}
use Rattle.std.specs.Prelude.{map, min}
use Rattle.std.specs.Option.{option_map}
use Rattle.std.proofs.lemmas.List.{map-append}
use Rattle.std.proofs.lemmas.List.Elements.{All-nil}
use Rattle.desk_doors.specs.Accepting.{IsGivenBack, LinkComes}
use Rattle.desk_doors.specs.DoorView.{DoorView}
use Rattle.desk_types.specs.Journal.{IsLegal}
use Rattle.desk_types.specs.Serving.{IsIdle, ServiceView, with_seen}
use Rattle.desk_types.specs.declared.entry.Entry.{Entry}
use Rattle.serve_threads.specs.declared.worker.WorkerEnd.{WorkerEnd}
use Rattle.serve_threads.specs.Underway.{HoldsSession, IsUnderway}
use Rattle.serve_threads.specs.Visits.{AreWorked, LinkSides, Visit}
use Rattle.serve_threads.specs.WorkerView.{WorkerView, work_state}
use Rattle.serve_threads.specs.Working.{HasWorked, HavePassed, StopsSo}
use Rattle.serve_threads.proofs.Sessions.{few_messages}

-- told lists with members before or behind them
none_before : {A : Type 0} (told : Option (List A)) → told ≡ option_map (λ xs. [] ++ xs) told
none_before None = refl
none_before (Some xs) = refl

none_behind : {A : Type 0} (told : Option (List A)) → told ≡ option_map (λ xs. xs ++ []) told
none_behind None = refl
none_behind (Some xs) = ap Some (sym (append-nil xs))

both_before : {A : Type 0} (first : List A) (x : A) (told : Option (List A))
    → option_map (λ xs. first ++ xs) (option_map (λ xs. x ∷ xs) told) ≡ option_map (λ xs. (first ++ x ∷ []) ++ xs) told
both_before first x None = refl
both_before first x (Some xs) = ap Some (sym (append_assoc first (x ∷ []) xs))

both_behind : {A : Type 0} (first : List A) (x : A) (told : Option (List A))
    → option_map (λ xs. xs ++ x ∷ []) (option_map (λ xs. xs ++ first) told) ≡ option_map (λ xs. xs ++ (first ++ x ∷ [])) told
both_behind first x None = refl
both_behind first x (Some xs) = ap Some (append_assoc xs first (x ∷ []))

module _ {L : Type 0} where
  passed_none : (door : DoorView L) → HavePassed [] door door
  passed_none door = record { waiting = none_before door.waiting; given = none_behind door.given; out = λ _. refl }

  -- one link more
  passed_one : (visits : List (Visit L)) (visit : Visit L) (start before door after : DoorView L) → HavePassed visits start before
      → LinkComes before visit.accepted door → IsGivenBack door visit.given_back after → HavePassed (visits ++ visit ∷ []) start after
  passed_one visits visit start before door after passed comes given =
      let accepted : map (λ (v : Visit L). v.accepted) (visits ++ visit ∷ []) ≡ map (λ (v : Visit L). v.accepted) visits ++ visit.accepted ∷ [] =
      map-append (λ (v : Visit L). v.accepted) visits (visit ∷ []) in
      let given_back : map (λ (v : Visit L). v.given_back) (visits ++ visit ∷ []) ≡ map (λ (v : Visit L). v.given_back) visits ++ visit.given_back ∷ [] =
      map-append (λ (v : Visit L). v.given_back) visits (visit ∷ []) in
      let left : after.waiting ≡ door.waiting = ap (λ (d : DoorView L). d.waiting) given.rest in
      let kept : door.given ≡ before.given = ap (λ (d : DoorView L). d.given) comes.rest in
      let out : door.out ≡ min (before.out + 1) (2 ^ 64 - 1) = ap (λ (d : DoorView L). d.out) comes.rest in
      record {
        waiting = passed.waiting ∙ ap (option_map (λ links. map (λ (v : Visit L). v.accepted) visits ++ links)) comes.waiting
            ∙ both_before (map (λ (v : Visit L). v.accepted) visits) visit.accepted door.waiting
            ∙ ap (λ (xs : List L). option_map (λ links. xs ++ links) door.waiting) (sym accepted)
            ∙ ap (option_map (λ links. map (λ (v : Visit L). v.accepted) (visits ++ visit ∷ []) ++ links)) (sym left);
        given = given.given ∙ ap (option_map (λ links. links ++ visit.given_back ∷ [])) (kept ∙ passed.given)
            ∙ both_behind (map (λ (v : Visit L). v.given_back) visits) visit.given_back start.given
            ∙ ap (λ (xs : List L). option_map (λ links. links ++ xs) start.given) (sym given_back);
        out = λ room. let same = passed.out room in let back = given.out in omega (arith, room, same, out, back);
      }

  -- a link that comes and is given back leaves a door shut or not
  pub shut-more : (start before door after : DoorView L) (link back : L) → before.shut ≡ start.shut → LinkComes before link door
      → IsGivenBack door back after → after.shut ≡ start.shut
  shut-more start before door after link back same comes given =
      ap (λ (d : DoorView L). d.shut) given.rest ∙ ap (λ (d : DoorView L). d.shut) comes.rest ∙ same

module _ {H L : Type 0} (sides : LinkSides L) (host_key : List ℕ) where
  -- before the first link
  pub underway-none : (start : WorkerView H L) → start.sessions ≡ 0 → start.messages ≡ 0 → IsUnderway sides host_key start start
  underway-none start sessions messages = record {
    visits = [];
    home = refl;
    service = refl;
    passed = passed_none start.door;
    follows = λ later more after h.
        let e : more ≡ start.messages + more = omega (arith, messages) in
        subst (λ n. AreWorked sides host_key (work_state start) later n after) e h;
    sessions = sessions;
    few = omega (arith, messages);
  }

  -- a link comes, and a session is held on it
  pub underway-more : (start before after : WorkerView H L) (link : L) (door : DoorView L) → IsUnderway sides host_key start before
      → LinkComes before.door link door → HoldsSession sides host_key (record before { door = door }) link after → IsUnderway sides host_key start after
  unfolding AreWorked
  underway-more start before after link door underway comes held =
      let visit : Visit L = record { accepted = link; given_back = held.given_back } in
      let few = few_messages host_key _ _ held.session held.served.run in
      let fewer = underway.few in
      let sessions = held.sessions in
      let messages = held.messages in
      let was = underway.sessions in
      record {
        visits = underway.visits ++ visit ∷ [];
        home = held.home ∙ underway.home;
        service = held.service ∙ ap (λ (s : ServiceView). with_seen s after.service.seen) underway.service;
        passed = passed_one underway.visits visit start.door before.door door after.door underway.passed comes held.given;
        follows = λ later more end h.
            let number : before.messages + (held.session.messages + more) ≡ after.messages + more = omega (arith, messages) in
            let all = underway.follows (visit ∷ later) (held.session.messages + more) end (held.session, work_state after, more, held.served, refl, h) in
            let joined = subst (λ visits. AreWorked sides host_key (work_state start) visits (before.messages + (held.session.messages + more)) end)
            (sym (append_assoc underway.visits (visit ∷ []) later)) all in
            subst (λ n. AreWorked sides host_key (work_state start) ((underway.visits ++ visit ∷ []) ++ later) n end) number joined;
        sessions = omega (arith, sessions, was, length-append underway.visits (visit ∷ []));
        few = omega (arith, sessions, messages, few, fewer);
      }

  -- no link comes
  pub underway-still : (start before : WorkerView H L) (door : DoorView L) (faults : ℕ) (shut : Bool) → IsUnderway sides host_key start before
      → door ≡ record before.door { faults = faults; shut = shut } → IsUnderway sides host_key start (record before { door = door })
  underway-still start before door faults shut underway same =
      let passed = underway.passed in
      let out = ap (λ (d : DoorView L). d.out) same in
      record {
        visits = underway.visits;
        home = underway.home;
        service = underway.service;
        passed = record {
          waiting = passed.waiting ∙ ap (λ (d : DoorView L). option_map (λ links. map (λ (v : Visit L). v.accepted) underway.visits ++ links) d.waiting) (sym same);
          given = ap (λ (d : DoorView L). d.given) same ∙ passed.given;
          out = λ room. out ∙ passed.out room;
        };
        follows = underway.follows;
        sessions = underway.sessions;
        few = underway.few;
      }

  -- the work is done
  pub worked-whole : (most : ℕ) (start now : WorkerView H L) (end : WorkerEnd) → IsUnderway sides host_key start now → IsLegal now.service.opening.settings now.service.seen
      → StopsSo end most now.sessions start.door now.door → HasWorked sides host_key most start (record now { end = end })
  unfolding AreWorked
  worked-whole most start now end underway legal stopped =
      let idle : IsIdle now.service now.service = record {
        others = [];
        of_others = All-nil (λ (e : Entry). e.caller ≢ now.service.me);
        seen = ap (with_seen now.service) (sym (append-nil now.service.seen));
        legal = legal;
      } in
      let all = underway.follows [] 0 (work_state now) (idle, refl, refl) in
      let number : now.messages + 0 ≡ now.messages = omega arith in
      record {
        visits = underway.visits;
        home = underway.home;
        service = underway.service;
        passed = underway.passed;
        worked = subst (λ n. AreWorked sides host_key (work_state start) underway.visits n (work_state now)) number
            (subst (λ visits. AreWorked sides host_key (work_state start) visits (now.messages + 0) (work_state now)) (append-nil underway.visits) all);
        sessions = underway.sessions;
        stopped = stopped;
      }
