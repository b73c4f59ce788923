-- Rows that were shown in turn can be shown again, one after another.
use Rattle.std.proofs.Common.{◌≡◌, ℕ, ◌<◌, ◌≤◌, List, length, get_or, take, subst, sym, arith}
use Rattle.std.proofs.lemmas.List.{get_or_default, get_or-take, length-take-le}
use Rattle.desk_types.specs.declared.rows.Placement.{Placement}
use Rattle.placements.specs.PlacementsValue.{AreShownInTurn, IsNext}
use Rattle.placements.proofs.Numbers.{number_at}

pub next_at : (rows : List Placement) (k : ℕ) (d : Placement) → AreShownInTurn rows → k < length rows → IsNext (take k rows) (get_or rows k d)
next_at rows k d h low =
    let count : length (take k rows) ≡ k = length-take-le k rows (omega (arith, low)) in
    record {
      number = omega (arith, number_at rows k d h.numbers low, count);
      moment = λ i e before. subst (λ (p : Placement). p.shown ≤ (get_or rows k d).shown) (sym (get_or-take k rows i e (omega (arith, before, count)))) (earlier i e (omega (arith, before, count)));
      deadline = h.deadlines k d low;
      within = h.within k d low;
    }
  where
    earlier : (i : ℕ) (e : Placement) → i < k → (get_or rows i e).shown ≤ (get_or rows k d).shown
    earlier i e before = subst (λ (p : Placement). (get_or rows i e).shown ≤ p.shown) (get_or_default rows k e d low) (h.moments i k e before low)
