-- Clicks on a placement that was clicked, or whose deadline has passed.
use Rattle.std.proofs.Common.{◌≡◌, ℕ, ◌+◌, ◌≤◌, ◌⊎◌, max, min, true, false, ◌==◌, ◌&&◌, inl, inr, List, [], ◌∷◌, find, Option, None, Some, is_some, is_none, option_map, unwrap_or, refl, sym, ap, subst, ◌∙◌, arith}
use Rattle.std.specs.Prelude.{nat_lt}
use Rattle.std.proofs.lemmas.Bool.{cases_Bool, cond-true, cond-false, both_ways, and_parts, false_from_ne_true}
use Rattle.std.proofs.lemmas.Bool.Decides.{nat_tests}
use Rattle.desk_types.specs.declared.limits.TheConstants.{MOMENT_MAX}
use Rattle.desk_types.specs.declared.call.Call.TheVariants.{Click}
use Rattle.desk_types.specs.declared.entry.Entry.{Entry}
use Rattle.desk_types.specs.declared.refusal.Refusal.TheVariants.{NoPlacement}
use Rattle.desk_types.specs.declared.reply.Reply.TheVariants.{Went, Refused}
use Rattle.desk_types.specs.declared.rows.Fate.{Fate}
use Rattle.desk_types.specs.declared.rows.Fate.TheVariants.{Open, Settled, Credited}
use Rattle.desk_types.specs.declared.rows.Line.{Line}
use Rattle.desk_types.specs.declared.rows.Placement.{Placement}
use Rattle.desk_types.specs.declared.tables.Change.{Change}
use Rattle.desk_types.specs.declared.tables.Change.TheVariants.{PutLine, PutFate}
use Rattle.desk_types.specs.declared.tables.Tables.{Tables}
use Rattle.desk_types.specs.Changes.{changes, link_clicked, link_of, raises_edition, reply, settlement}
use Rattle.desk_types.specs.Judged.{first, judged, refusals, when}
use Rattle.desk_types.specs.Keys.{is_same_key, line_key, placement_key}
use Rattle.desk_types.specs.LedgerLaws.{ChangesNoRow}
use Rattle.desk_types.specs.Money.{is_escrowed, is_open}
use Rattle.desk_types.specs.Run.{run}
use Rattle.desk_types.specs.State.{State}
use Rattle.desk_types.specs.Step.{accepted, answered, at_moment, step}
use Rattle.desk_types.specs.Tables.{line_of, placement_of, put, put_all, put_fate}
use Rattle.desk_types.proofs.Costs.{escrowed_before}
use Rattle.desk_types.proofs.Histories.{sound_step}
use Rattle.desk_types.proofs.Lasting.{Lasts, lasts_run}
use Rattle.desk_types.proofs.Lawful.{GoesOnward, IsGoodLine, IsLawful, changed, finds_one, finds_two, found_all}
use Rattle.desk_types.proofs.Placements.{has_number, remains_put}
use Rattle.desk_types.proofs.Puts.{FindsKey, find-put, find-put_same, same_key}
use Rattle.desk_types.proofs.Sound.{sound_later}
use Rattle.desk_types.proofs.Stable.{IsStable}

-- a click on a placement that is there is accepted
click_accepted : (S : State) (n : ℕ) (p : Placement) → placement_of S.tables n ≡ Some p → judged S (Click n) ≡ None
unfolding refusals
click_accepted S n p found = ap (λ o. first (when (is_none o) NoPlacement ∷ [])) found

-- a click that settles nothing
no_settlement : (moment : ℕ) (p : Placement) → is_escrowed moment p ≡ false → settlement moment (Some p) ≡ []
no_settlement moment p over = cond-false _ (PutFate p.number (Settled moment) ∷ []) [] over

settles_nothing : (S : State) (n : ℕ) (p : Placement) → placement_of S.tables n ≡ Some p → is_escrowed S.moment p ≡ false → accepted S (Click n) ≡ S
unfolding accepted changes raises_edition put_all
settles_nothing S n p found over =
    ap (λ cs. record S { tables = put_all S.tables cs }) (ap (settlement S.moment) found ∙ no_settlement S.moment p over)

pub no_row : (S : State) (moment n : ℕ) (p : Placement) (link : List ℕ) → placement_of S.tables n ≡ Some p → is_escrowed (max S.moment (min moment MOMENT_MAX)) p ≡ false
    → link_clicked S.tables n ≡ link → ChangesNoRow S moment n link
unfolding step reply
no_row S moment n p link found over goes =
    let now = at_moment S moment in
    let judgement = click_accepted now n p found in
    let same : (answered now (Click n) (judged now (Click n))).state ≡ now =
    ap (λ j. (answered now (Click n) j).state) judgement ∙ settles_nothing now n p found over in
    record {
      rows = same ∙ (λ i. record S { moment = (sym same i).moment });
      reply = ap (λ j. (answered now (Click n) j).reply) judgement ∙ ap Went goes;
    }

-- a placement whose deadline has passed is not escrowed
passed : (moment : ℕ) (p : Placement) → p.deadline ≤ moment → is_escrowed moment p ≡ false
passed moment p late =
    false_from_ne_true (is_escrowed moment p) (λ t.
    let early = (and_parts (is_open p.fate) (nat_lt moment p.deadline) t).1 in
    let low : moment + 1 ≤ p.deadline = grind (arith, nat_tests, early) in
    omega (arith, low, late))

pub too_late : (S : State) (moment n : ℕ) (p : Placement) → placement_of S.tables n ≡ Some p → p.deadline ≤ (at_moment S moment).moment → ChangesNoRow S moment n (link_clicked S.tables n)
too_late S moment n p found late = no_row S moment n p (link_clicked S.tables n) found (passed (max S.moment (min moment MOMENT_MAX)) p late) refl

-- what is not escrowed is not escrowed later
over_later : (first second : ℕ) (p : Placement) → first ≤ second → is_escrowed first p ≡ false → is_escrowed second p ≡ false
over_later first second p low over = false_from_ne_true (is_escrowed second p) (λ t. both_ways _ over (escrowed_before first second p low t))

-- the placement of this number is there and not escrowed, and its line has this link
pub record IsDone (S : State) (n : ℕ) (link : List ℕ) : Type 0 where
  p : Placement
  found : placement_of S.tables n ≡ Some p
  over : is_escrowed S.moment p ≡ false
  line : Line
  line_is : line_of S.tables p.account p.line ≡ Some line
  link_is : line.link ≡ link

done_link : (S : State) (n : ℕ) (link : List ℕ) → (h : IsDone S n link) → link_clicked S.tables n ≡ link
done_link S n link h =
    ap (λ o. unwrap_or (option_map (λ (p : Placement). link_of S.tables p.account p.line) o) []) h.found
    ∙ ap (λ o. unwrap_or (option_map (λ (l : Line). l.link) o) []) h.line_is ∙ h.link_is

done_later : (S : State) (moment n : ℕ) (link : List ℕ) → IsDone S n link → IsDone (at_moment S moment) n link
done_later S moment n link h = record {
  p = h.p;
  found = h.found;
  over = over_later S.moment (max S.moment (min moment MOMENT_MAX)) h.p (omega arith) h.over;
  line = h.line;
  line_is = h.line_is;
  link_is = h.link_is;
}

pub done_again : (S : State) (moment n : ℕ) (link : List ℕ) → IsDone S n link → ChangesNoRow S moment n link
done_again S moment n link h =
    no_row S moment n h.p link h.found (over_later S.moment (max S.moment (min moment MOMENT_MAX)) h.p (omega arith) h.over) (done_link S n link h)

key_parts : (a b x y : ℕ) → a ∷ b ∷ [] ≡ x ∷ y ∷ [] → (a ≡ x) × (b ≡ y)
key_parts a b x y e = (cc, cc)

-- a line that takes the place of one keeps its link
record HasLink (S : State) (account line : ℕ) (link : List ℕ) : Type 0 where
  row : Line
  is : line_of S.tables account line ≡ Some row
  same : row.link ≡ link

line_put : (S : State) (l : Line) (account line : ℕ) (link : List ℕ) → IsGoodLine S l → HasLink S account line link → HasLink (changed S (PutLine l)) account line link
unfolding put
line_put S l account line link good h =
    let test = λ (k : Line). k.account == account && k.number == line in
    let now = find-put line_key (account ∷ line ∷ []) l test S.tables.lines (finds_two line_key (λ (k : Line). k.account) (λ k. k.number) account line (λ x. refl)) in
    elim (cases_Bool (is_same_key (line_key l) (account ∷ line ∷ []))) [
      | inl t ↦
          let parts = key_parts l.account l.number account line (same_key (line_key l) (account ∷ line ∷ []) t) in
          let before : line_of S.tables l.account l.number ≡ Some h.row =
          (λ i. line_of S.tables (parts.0 i) (parts.1 i)) ∙ h.is in
          record { row = l; is = now ∙ cond-true _ (Some l) (line_of S.tables account line) t; same = good.same_link h.row before ∙ h.same }
      | inr t ↦ record { row = h.row; is = now ∙ cond-false _ (Some l) (line_of S.tables account line) t ∙ h.is; same = h.same }
    ]

link_fate : (S : State) (fate : Fate) (found : Option Placement) (account line : ℕ) (link : List ℕ) → HasLink S account line link → HasLink (record S { tables = put_fate S.tables fate found }) account line link
link_fate S fate None account line link h = record { row = h.row; is = h.is; same = h.same }
link_fate S fate (Some p) account line link h = record { row = h.row; is = h.is; same = h.same }

link_put : (S : State) (change : Change) (account line : ℕ) (link : List ℕ) → IsLawful S change → HasLink S account line link → HasLink (changed S change) account line link
unfolding put
link_put S (PutLine l) account line link lawful h = line_put S l account line link lawful h
link_put S (PutFate number fate) account line link lawful h = link_fate S fate (placement_of S.tables number) account line link h
link_put S change account line link lawful h = record { row = h.row; is = h.is; same = h.same }

-- the fate of a placement that is put
is_over : (moment : ℕ) (p : Placement) (fate : Fate) → GoesOnward moment p fate → is_escrowed moment (record p { fate = fate }) ≡ false
is_over moment p Open h = absurd (elim h [ ])
is_over moment p (Settled at) h = refl
is_over moment p (Credited settled at) h = refl

still_over : (moment : ℕ) (p : Placement) (now : Fate) → (now ≡ p.fate) ⊎ GoesOnward moment p now → is_escrowed moment p ≡ false → is_escrowed moment (record p { fate = now }) ≡ false
still_over moment p now (inl same) over = ap (λ f. is_escrowed moment (record p { fate = f })) same ∙ over
still_over moment p now (inr onward) over = is_over moment p now onward

done_put : (S : State) (change : Change) (n : ℕ) (link : List ℕ) → IsStable S → IsLawful S change → IsDone S n link → IsDone (changed S change) n link
done_put S change n link sound lawful h =
    let stays = remains_put S change n h.p sound lawful h.found in
    let has = link_put S change h.p.account h.p.line link lawful (record { row = h.line; is = h.line_is; same = h.link_is }) in
    record {
      p = record h.p { fate = stays.now };
      found = stays.found;
      over = still_over S.moment h.p stays.now stays.goes h.over;
      line = has.row;
      line_is = has.is;
      link_is = has.same;
    }

done_lasts : (n : ℕ) (link : List ℕ) → Lasts (λ S. IsDone S n link)
done_lasts n link = record {
  put = λ S change sound lawful h. done_put S change n link sound lawful h;
  later = λ S moment h. done_later S moment n link h;
  edition = λ S edition h. record { p = h.p; found = h.found; over = h.over; line = h.line; line_is = h.line_is; link_is = h.link_is };
}

some_of : {A : Type 0} (o : Option A) → is_some o ≡ true → (x : A) × (o ≡ Some x)
some_of None h = absurd cc
some_of (Some x) h = (x, refl)

-- the first click: it went to the link of a placement, which is settled or not escrowed from then on
record WentTo (S : State) (n : ℕ) (link : List ℕ) : Type 0 where
  p : Placement
  found : placement_of S.tables n ≡ Some p
  goes : link_clicked S.tables n ≡ link

went_link : (one other : List ℕ) → Went one ≡ Went other → one ≡ other
went_link one other h = cc

went_there : (S : State) (n : ℕ) (known : Option Placement) (link : List ℕ) → placement_of S.tables n ≡ known → (answered S (Click n) (judged S (Click n))).reply ≡ Went link → WentTo S n link
unfolding refusals reply
went_there S n None link is h =
    let j : judged S (Click n) ≡ Some NoPlacement = ap (λ o. first (when (is_none o) NoPlacement ∷ [])) is in
    let no : Refused NoPlacement ≡ Went link = sym (ap (λ k. (answered S (Click n) k).reply) j) ∙ h in
    absurd cc
went_there S n (Some p) link is h =
    let j = click_accepted S n p is in
    record { p = p; found = is; goes = went_link (link_clicked S.tables n) link (sym (ap (λ k. (answered S (Click n) k).reply) j) ∙ h) }

-- after it
record IsOver (S T : State) (n : ℕ) : Type 0 where
  p : Placement
  before : (q : Placement) × (placement_of S.tables n ≡ Some q) × (p.account ≡ q.account) × (p.line ≡ q.line)
  found : placement_of T.tables n ≡ Some p
  over : is_escrowed T.moment p ≡ false
  lines : T.tables.lines ≡ S.tables.lines

clicked_over : (S : State) (n : ℕ) (p : Placement) → placement_of S.tables n ≡ Some p → IsOver S (accepted S (Click n)) n
unfolding accepted changes put_all put
clicked_over S n p is =
    let T : State = accepted S (Click n) in
    let settled : T.tables ≡ put_all S.tables (settlement S.moment (Some p)) = ap (λ o. put_all S.tables (settlement S.moment o)) is in
    elim (cases_Bool (is_escrowed S.moment p)) [
      | inl t ↦
          let q : Placement = record p { fate = Settled S.moment } in
          let same : p.number ≡ n = has_number S.tables n p is in
          let one : T.tables ≡ put_fate S.tables (Settled S.moment) (placement_of S.tables p.number) =
          settled ∙ ap (put_all S.tables) (cond-true _ (PutFate p.number (Settled S.moment) ∷ []) [] t) in
          let rows : T.tables ≡ put_fate S.tables (Settled S.moment) (Some p) =
          one ∙ ap (put_fate S.tables (Settled S.moment)) (subst (λ m. placement_of S.tables m ≡ Some p) (sym same) is) in
          let finds : FindsKey placement_key (placement_key q) (λ (x : Placement). x.number == n) =
          subst (λ m. FindsKey placement_key (m ∷ []) (λ (x : Placement). x.number == n)) (sym same) (finds_one placement_key (λ (x : Placement). x.number) n (λ x. refl)) in
          record {
            p = q;
            before = (p, is, refl, refl);
            found = ap (λ (U : Tables). placement_of U n) rows ∙ find-put_same placement_key q (λ (x : Placement). x.number == n) S.tables.placements finds;
            over = refl;
            lines = ap (λ (U : Tables). U.lines) rows;
          }
      | inr t ↦
          let rows : T.tables ≡ S.tables = settled ∙ ap (put_all S.tables) (no_settlement S.moment p t) in
          record {
            p = p;
            before = (p, is, refl, refl);
            found = ap (λ (U : Tables). placement_of U n) rows ∙ is;
            over = t;
            lines = ap (λ (U : Tables). U.lines) rows;
          }
    ]

over_step : (S : State) (n : ℕ) (p : Placement) → placement_of S.tables n ≡ Some p → IsOver S (answered S (Click n) (judged S (Click n))).state n
over_step S n p is = subst (λ j. IsOver S (answered S (Click n) j).state n) (sym (click_accepted S n p is)) (clicked_over S n p is)

link_after : (S T : State) (n : ℕ) → IsOver S T n → link_clicked T.tables n ≡ link_clicked S.tables n
link_after S T n h =
    ap (λ o. unwrap_or (option_map (λ (p : Placement). link_of T.tables p.account p.line) o) []) h.found
    ∙ (λ i. unwrap_or (option_map (λ (l : Line). l.link) (find (λ (l : Line). l.account == h.before.2 i && l.number == h.before.3 i) (h.lines i))) [])
    ∙ sym (ap (λ o. unwrap_or (option_map (λ (p : Placement). link_of S.tables p.account p.line) o) []) h.before.1)

pub repeated : (S : State) (first second n : ℕ) (link : List ℕ) → (step S first (Click n)).reply ≡ Went link → ChangesNoRow (step S first (Click n)).state second n link
unfolding step
repeated S first second n link h =
    let now = at_moment S first in
    let went = went_there now n (placement_of now.tables n) link refl h in
    let T : State = (answered now (Click n) (judged now (Click n))).state in
    let done = over_step now n went.p went.found in
    no_row T second n done.p link done.found (over_later T.moment (max T.moment (min second MOMENT_MAX)) done.p (omega arith) done.over) (link_after now T n done ∙ went.goes)

start_done : (S T : State) (n : ℕ) (link : List ℕ) → IsStable S → IsOver S T n → link_clicked S.tables n ≡ link → IsDone T n link
start_done S T n link sound done goes =
    let known = found_all (λ (x : Placement). is_some (line_of S.tables x.account x.line) ≡ true) (λ (x : Placement). x.number == n) S.tables.placements done.before.0 sound.named.placements done.before.1 in
    let line = some_of (line_of S.tables done.before.0.account done.before.0.line) known.0 in
    let line_is : line_of T.tables done.p.account done.p.line ≡ Some line.0 =
    (λ i. find (λ (l : Line). l.account == done.before.2 i && l.number == done.before.3 i) (done.lines i)) ∙ line.1 in
    let now : link_clicked T.tables n ≡ line.0.link =
    ap (λ o. unwrap_or (option_map (λ (p : Placement). link_of T.tables p.account p.line) o) []) done.found ∙ ap (λ o. unwrap_or (option_map (λ (l : Line). l.link) o) []) line_is in
    record {
      p = done.p;
      found = done.found;
      over = done.over;
      line = line.0;
      line_is = line_is;
      link_is = sym now ∙ link_after S T n done ∙ goes;
    }

later_answered : (S : State) (between : List Entry) (second n : ℕ) (link : List ℕ) → IsStable S → (answered S (Click n) (judged S (Click n))).reply ≡ Went link → IsStable (answered S (Click n) (judged S (Click n))).state
    → ChangesNoRow (run (answered S (Click n) (judged S (Click n))).state between) second n link
later_answered S between second n link sound h after =
    let went = went_there S n (placement_of S.tables n) link refl h in
    let T : State = (answered S (Click n) (judged S (Click n))).state in
    let start = start_done S T n link sound (over_step S n went.p went.found) went.goes in
    done_again (run T between) second n link (lasts_run (λ U. IsDone U n link) T between (done_lasts n link) after start)

pub later : (S : State) (between : List Entry) (first second n : ℕ) (link : List ℕ) → IsStable S → (step S first (Click n)).reply ≡ Went link → ChangesNoRow (run (step S first (Click n)).state between) second n link
unfolding step
later S between first second n link sound h =
    later_answered (at_moment S first) between second n link (sound_later S first sound) h (sound_step S first (Click n) sound)
