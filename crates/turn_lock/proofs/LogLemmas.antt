-- Beginnings of a list that grows, and its items by one number.
use Rattle.std.proofs.Common.{◌≡◌, ◌≢◌, ℕ, ne_eqb, List, [], ◌∷◌, ◌++◌, refl, sym, ap, ◌∙◌, append_assoc, append-nil, arith}
use Rattle.std.specs.Prelude.{◌==◌, All}
use Rattle.std.proofs.lemmas.List.Elements.{filter-append, All-head, All-tail, All-weaker}
use Rattle.turn_lock.specs.Lists.{IsPrefix, items_by, GrowsBy}

module _ {I : Type 0} where
  pub prefix_same : (log : List I) → IsPrefix log log
  prefix_same log = ([], sym (append-nil log))

  pub prefix_more : (part whole added now : List I) → IsPrefix part whole → now ≡ whole ++ added → IsPrefix part now
  prefix_more part whole added now p e = (p.0 ++ added, e ∙ (ap (λ (xs : List I). xs ++ added) p.1 ∙ append_assoc part p.0 added))

module _ {I : Type 0} (by : I → ℕ) where
  -- where no item is by this number, none is found
  pub items_by-none : (n : ℕ) (xs : List I) → All (λ x. by x ≢ n) xs → items_by by n xs ≡ []
  items_by-none n [] h = refl
  items_by-none n (x ∷ xs) h = rw (ne_eqb (by x) n (All-head (λ y. by y ≢ n) x xs h)) (items_by-none n xs (All-tail (λ y. by y ≢ n) x xs h))

  -- items by another number leave those by this one
  pub items_by-others : (n m : ℕ) (before now : List I) → GrowsBy by n before now → m ≢ n → items_by by m now ≡ items_by by m before
  items_by-others n m before now g ne =
      let none : items_by by m g.0 ≡ [] = items_by-none m g.0 (All-weaker (λ x. by x ≡ n) (λ x. by x ≢ m) (λ x e f. ne (sym f ∙ e)) g.0 g.2) in
      ap (items_by by m) g.1 ∙ (filter-append (λ x. by x == m) before g.0 ∙ (ap (λ (xs : List I). items_by by m before ++ xs) none ∙ append-nil (items_by by m before)))

  pub grows_same : (n : ℕ) (log : List I) → GrowsBy by n log log
  grows_same n log = ([], sym (append-nil log), λ k d l. absurd (omega arith))
