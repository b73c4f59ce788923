-- What the workers' parts come to, when all have left.
use Rattle.std.proofs.Common.{◌≡◌, ℕ, zero, suc, ◌+◌, ◌*◌, ◌≤◌, List, [], ◌∷◌, ◌++◌, length, map, slice_get, sum_by, take, drop, Option, Some, refl, sym, ap, subst, ◌∙◌, arith, append-nil, ◌||◌}
use Rattle.std.specs.Prelude.{All, Any}
use Rattle.std.specs.List.{AllZip, list_any}
use Rattle.std.proofs.lemmas.List.{drop_all, length-map, take_all}
use Rattle.std.proofs.lemmas.List.Elements.{length_all_zip}
use Rattle.std.proofs.lemmas.List.Sums.{sum_by-cons, sum_by-le}
use Rattle.std.proofs.lemmas.Option.{none-some, same_Some}
use Rattle.desk_core.specs.declared.name.DeskName.{DeskName}
use Rattle.desk_core.specs.DeskValue.{DeskValue, name_of}
use Rattle.desk_doors.specs.DoorView.{DoorView}
use Rattle.turn_lock.specs.Lists.{IsPrefix}
use Rattle.turn_lock.specs.LockValues.{LockValue}
use Rattle.turn_lock.specs.Passes.{AreAll, AreNew}
use Rattle.turn_lock.proofs.AllPasses.{all_in_order}
use Rattle.desk_hall.specs.Callers.{CallerValue, HallPass, caller_of, entries_by}
use Rattle.serve_threads.specs.declared.worker.Worker.{Worker}
use Rattle.serve_threads.specs.declared.worker.WorkerEnd.{WorkerEnd}
use Rattle.serve_threads.specs.declared.worker.WorkerEnd.TheVariants.{Unused, Closed, Enough, DoorFailed}
use Rattle.serve_threads.specs.Visits.{AreWorked, LinkSides}
use Rattle.serve_threads.specs.Working.{StopsSo}
use Rattle.serve_threads.proofs.Sessions.{few_worked}
use Rattle.desk_server.specs.declared.served.Totals.{Totals}
use Rattle.desk_server.specs.Parts.{Orders, Part, is_failed, totals_of}
use Rattle.desk_server.specs.Serving.{IsServed, IsWorkOf}
use Rattle.desk_server.proofs.Places.{all_at, all_of, any_at, same_maps, within, zipped}
use Rattle.desk_server.proofs.Members.{IsMember, Works, came_new, numbered, of_lock, state_after, state_before}

-- a list that is written back in the place of another of its length
pub written_back : {A : Type 0} (R : A → A → Type 0) (before after : List A) (size : ℕ) → AllZip R before after → size ≡ length before
    → take size (after ++ drop (length after) before) ≡ after
written_back R before after size all is =
    let same = length_all_zip R before after all in
    ap (λ l. take size (after ++ l)) (drop_all (length after) before (omega (arith, same)))
    ∙ ap (take size) (append-nil after) ∙ take_all size after (omega (arith, same, is))

-- work holds no more sessions than it was asked for
few_sessions : {L : Type 0} (end : WorkerEnd) (most sessions : ℕ) (before after : DoorView L) → StopsSo end most sessions before after → sessions ≤ most
few_sessions Unused most sessions before after h = absurd h
few_sessions Closed most sessions before after h = let few = h.0 in omega (arith, few)
few_sessions Enough most sessions before after h = let all = h.0 in omega (arith, all)
few_sessions DoorFailed most sessions before after h = let few = h.0 in omega (arith, few)

module _ {D C L : Type 0} (door : D → DoorView L) (moments : C → Option (List ℕ)) (sides : LinkSides L) (orders : Orders) where
  -- the part of a worker
  abbrev part_of : Worker CallerValue D C → Worker CallerValue D C → Part L
  part_of w w_now = record {
    door = door w.door;
    door_now = door w_now.door;
    moments = moments w.clock;
    end = w_now.end;
    sessions = w_now.sessions;
    messages = w_now.messages;
  }

  pub parts_of : List (Worker CallerValue D C) → List (Worker CallerValue D C) → List (Part L)
  parts_of [] later = []
  parts_of (w ∷ ws) [] = []
  parts_of (w ∷ ws) (w_now ∷ ws_now) = part_of w w_now ∷ parts_of ws ws_now

  -- a worker that worked stands at a place of its part
  record PartAt (ws ws_now : List (Worker CallerValue D C)) (place : ℕ) (part : Part L) : Type 0 where
    before : Worker CallerValue D C
    after : Worker CallerValue D C
    here : slice_get ws place ≡ Some before
    here_now : slice_get ws_now place ≡ Some after
    works : Works door moments sides orders before after
    is : part ≡ part_of before after

  part_at : (ws ws_now : List (Worker CallerValue D C)) → AllZip (Works door moments sides orders) ws ws_now
      → (place : ℕ) (part : Part L) → slice_get (parts_of ws ws_now) place ≡ Some part → PartAt ws ws_now place part
  unfolding parts_of
  part_at [] ws_now all place part at = absurd (none-some part at)
  part_at (w ∷ ws) [] all place part at = absurd all
  part_at (w ∷ ws) (w_now ∷ ws_now) all zero part at = record {
    before = w;
    after = w_now;
    here = refl;
    here_now = refl;
    works = all.0;
    is = sym (same_Some (part_of w w_now) part at);
  }
  part_at (w ∷ ws) (w_now ∷ ws_now) all (suc place) part at =
      let rest = part_at ws ws_now all.1 place part at in record {
        before = rest.before;
        after = rest.after;
        here = rest.here;
        here_now = rest.here_now;
        works = rest.works;
        is = rest.is;
      }

  -- the parts are as many as the workers, and are at their doors, with their clocks
  record AreTheirs (ws ws_now : List (Worker CallerValue D C)) (parts : List (Part L)) : Type 0 where
    size : length parts ≡ length ws_now
    doors : map (λ p. p.door) parts ≡ map door (map (λ w. w.door) ws)
    doors_now : map (λ p. p.door_now) parts ≡ map door (map (λ w. w.door) ws_now)
    clocks : map (λ p. p.moments) parts ≡ map moments (map (λ w. w.clock) ws)
    sessions : sum_by (λ w. w.sessions) ws_now ≡ sum_by (λ p. p.sessions) parts
    messages : sum_by (λ w. w.messages) ws_now ≡ sum_by (λ p. p.messages) parts
    failed : list_any (λ w. is_failed w.end) ws_now ≡ list_any (λ p. is_failed p.end) parts

  are_theirs : (ws ws_now : List (Worker CallerValue D C)) → AllZip (Works door moments sides orders) ws ws_now → AreTheirs ws ws_now (parts_of ws ws_now)
  unfolding parts_of
  are_theirs [] [] all = record { size = refl; doors = refl; doors_now = refl; clocks = refl; sessions = refl; messages = refl; failed = refl }
  are_theirs [] (w ∷ ws_now) all = absurd all
  are_theirs (w ∷ ws) [] all = absurd all
  are_theirs (w ∷ ws) (w_now ∷ ws_now) all =
      let rest = are_theirs ws ws_now all.1 in
      let parts = parts_of ws ws_now in record {
        size = ap suc rest.size;
        doors = ap (λ l. door w.door ∷ l) rest.doors;
        doors_now = ap (λ l. door w_now.door ∷ l) rest.doors_now;
        clocks = ap (λ l. moments w.clock ∷ l) rest.clocks;
        sessions = sum_by-cons (λ u. u.sessions) w_now ws_now ∙ ap (λ n. w_now.sessions + n) rest.sessions
            ∙ sym (sum_by-cons (λ p. p.sessions) (part_of w w_now) parts);
        messages = sum_by-cons (λ u. u.messages) w_now ws_now ∙ ap (λ n. w_now.messages + n) rest.messages
            ∙ sym (sum_by-cons (λ p. p.messages) (part_of w w_now) parts);
        failed = ap (λ b. is_failed w_now.end || b) rest.failed;
      }

  -- each worker held at most so many sessions, and wrote at most so many answers
  pub few_of_all : (most : ℕ) → orders.sessions ≤ most → (ws ws_now : List (Worker CallerValue D C)) → AllZip (Works door moments sides orders) ws ws_now
      → (sum_by (λ w. w.sessions) ws_now ≤ length ws_now * most) × (sum_by (λ w. w.messages) ws_now ≤ length ws_now * (10000 * most))
  few_of_all most few ws ws_now all = (
    sum_by-le (λ (w : Worker CallerValue D C). w.sessions) most ws_now (all_of (λ (w : Worker CallerValue D C). w.sessions ≤ most) ws_now
        (λ place w here.
        let h = zipped (Works door moments sides orders) ws ws_now all place w here in
        let fits = few_sessions w.end orders.sessions w.sessions _ _ h.is.stopped in
        omega (arith, fits, few))),
    sum_by-le (λ (w : Worker CallerValue D C). w.messages) (10000 * most) ws_now (all_of (λ (w : Worker CallerValue D C). w.messages ≤ 10000 * most) ws_now
        (λ place w here.
        let h = zipped (Works door moments sides orders) ws ws_now all place w here in
        let fits = few_sessions w.end orders.sessions w.sessions _ _ h.is.stopped in
        let written = few_worked sides orders.host_key _ _ h.is.visits w.messages h.is.worked in
        let held = h.is.sessions in
        omega (arith, fits, few, written, held))),
  )

  module _ (lock : LockValue DeskName) (made passes : List HallPass) (ws ws_now : List (Worker CallerValue D C))
      (new : AreNew lock made) (callers : map (λ w. w.service) ws ≡ map caller_of made)
      (all : AllZip (Works door moments sides orders) ws ws_now) (back : map caller_of passes ≡ map (λ w. w.service) ws_now) where
    -- the passes that come back are in the order of their numbers
    in_order : (place : ℕ) (pass : HallPass) → slice_get passes place ≡ Some pass → (pass.lock ≡ lock.id) × (pass.number ≡ place + 1)
    in_order place pass here =
        let after = same_maps caller_of (λ (w : Worker CallerValue D C). w.service) passes ws_now back place pass here in
        let before = zipped (Works door moments sides orders) ws ws_now all place after.item after.here in
        let member : IsMember door moments sides orders lock.id (place + 1) before.item after.item pass = record {
          came = came_new door moments sides orders lock made ws new callers place before.item before.here;
          works = before.is;
          left = sym after.is;
        } in (
          of_lock door moments sides orders lock.id (place + 1) before.item after.item pass member,
          numbered door moments sides orders lock.id (place + 1) before.item after.item pass member,
        )

    as_many : length passes ≡ length ws_now
    as_many = sym (length-map passes caller_of) ∙ ap length back ∙ length-map ws_now (λ (w : Worker CallerValue D C). w.service)

    pub are_all : AreAll lock passes
    are_all =
        let came = sym (length-map ws (λ (w : Worker CallerValue D C). w.service)) ∙ ap length callers ∙ length-map made caller_of in
        all_in_order lock passes (as_many ∙ sym (length_all_zip (Works door moments sides orders) ws ws_now all) ∙ came ∙ new.count) in_order

    module _ (desk : DeskValue) (named : lock.id.name ≡ name_of desk) (begin : All (λ p. IsPrefix p.seen desk.log) passes)
        (own : All (λ p. entries_by p.number desk.log ≡ entries_by p.number p.seen) passes)
        (others : All (λ e. Any (λ p. p.number ≡ e.caller) passes) desk.log) where
      work_of : (place : ℕ) (part : Part L) → slice_get (parts_of ws ws_now) place ≡ Some part → IsWorkOf sides orders desk (place + 1) part
      work_of place part here =
          let at = part_at ws ws_now all place part here in
          let pass = same_maps (λ (w : Worker CallerValue D C). w.service) caller_of ws_now passes (sym back) place at.after at.here_now in
          let member : IsMember door moments sides orders lock.id (place + 1) at.before at.after pass.item = record {
            came = came_new door moments sides orders lock made ws new callers place at.before at.here;
            works = at.works;
            left = pass.is;
          } in
          let number = numbered door moments sides orders lock.id (place + 1) at.before at.after pass.item member in
          let before = state_before door moments sides orders lock.id (place + 1) at.before at.after pass.item member desk named in
          let after = state_after door moments sides orders lock.id (place + 1) at.before at.after pass.item member desk named in
          subst (IsWorkOf sides orders desk (place + 1)) (sym at.is) (record {
            visits = at.works.visits;
            seen = pass.item.seen;
            moments_now = moments at.after.clock;
            passed = at.works.passed;
            worked = subst (λ t. t) (λ i. AreWorked sides orders.host_key (before i) at.works.visits at.after.messages (after i)) at.works.worked;
            begins = all_at (λ (p : HallPass). IsPrefix p.seen desk.log) passes begin place pass.item pass.here;
            own = subst (λ n. entries_by n desk.log ≡ entries_by n pass.item.seen) number
                (all_at (λ (p : HallPass). entries_by p.number desk.log ≡ entries_by p.number p.seen) passes own place pass.item pass.here);
            sessions = at.works.sessions;
            stopped = at.works.stopped;
          })

      callers_are : All (λ e. (1 ≤ e.caller) × (e.caller ≤ length (parts_of ws ws_now))) desk.log
      callers_are k d low =
          let somewhere = any_at (λ (p : HallPass). p.number ≡ _) passes (others k d low) in
          let number = (in_order somewhere.place somewhere.item somewhere.here).1 in
          let is = somewhere.is in
          let inside = within passes somewhere.place somewhere.item somewhere.here in
          let size = (are_theirs ws ws_now all).size in
          let many = as_many in
          (omega (arith, number, is), omega (arith, number, is, inside, size, many))

      -- the workers served the desk
      pub served : (doors doors_now : List D) (clocks : List C) → map (λ w. w.door) ws ≡ doors → doors_now ≡ map (λ w. w.door) ws_now
          → map (λ w. w.clock) ws ≡ clocks → (totals : Totals) → totals ≡ totals_of ws_now
          → IsServed sides orders desk (record { doors = map door doors; doors_now = map door doors_now; moments = map moments clocks }) totals
      served doors doors_now clocks at_doors given by_clocks totals sums =
          let theirs = are_theirs ws ws_now all in record {
            parts = parts_of ws ws_now;
            at = record {
              doors = theirs.doors ∙ ap (map door) at_doors;
              doors_now = theirs.doors_now ∙ ap (map door) (sym given);
              moments = theirs.clocks ∙ ap (map moments) by_clocks;
            };
            each = work_of;
            callers = callers_are;
            sums = sums ∙ (λ i. record { sessions = theirs.sessions i; messages = theirs.messages i; door_failed = theirs.failed i });
          }
