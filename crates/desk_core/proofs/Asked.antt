-- What becomes of a keeper that is asked, or not.
use Rattle.std.proofs.Common.{◌≡◌, ◌==◌, true, false, length, List, [], ◌∷◌, Option, None, Some, option_map, Result, Ok, Err, refl, sym, subst, ◌∙◌, arith}
use Rattle.std.proofs.lemmas.Bool.{eqb-true}
use Rattle.desk_types.specs.declared.tables.Change.{Change}
use Rattle.desk_types.specs.declared.tables.Tables.{Tables}
use Rattle.desk_types.specs.Tables.{put_all}
use Rattle.desk_keeper.specs.declared.keeper.KeeperFault.{KeeperFault}
use Rattle.desk_keeper.specs.declared.keeper.KeeperFault.TheVariants.{NoMemory}
use Rattle.desk_keeper.specs.Keeping.{Applies, IsSameKeeper}
use Rattle.desk_keeper.specs.KeeperView.{KeeperView}
use Rattle.desk_core.specs.Asking.{IsAsked}

pub same_keeper : (k : KeeperView) → IsSameKeeper k k
same_keeper k = record { faults = omega arith; fates_free = refl; sure = refl }

put_none : (held : Option Tables) → held ≡ option_map (λ T. put_all T []) held
unfolding put_all
put_none None = refl
put_none (Some T) = refl

not_nil : (change : Change) (changes : List Change) → change ∷ changes ≡ [] → ⊥
not_nil change changes h = absurd cc

-- there was nothing to ask for
pub asked_nothing : {A : Type 0} (k : KeeperView) (done : A) → IsAsked k [] (Ok done) k
asked_nothing k done = record { same = same_keeper k; put = put_none k.held; kept = tt; cause = tt; unasked = λ none. refl }

pub asked_empty : {A : Type 0} (k : KeeperView) (changes : List Change) (done : A) → (length changes == 0) ≡ true → IsAsked k changes (Ok done) k
asked_empty k [] done none = asked_nothing k done
asked_empty k (change ∷ changes) done none = absurd (omega (arith, eqb-true (length (change ∷ changes)) 0 none))

some_there : (changes : List Change) → (length changes == 0) ≡ false → changes ≡ [] → ⊥
some_there [] some none = absurd cc
some_there (change ∷ changes) some none = not_nil change changes none

-- memory was wanted before it was asked
pub asked_not : {A : Type 0} (k : KeeperView) (changes : List Change) → IsAsked {A = A} k changes (Err NoMemory) k
asked_not k changes = record { same = same_keeper k; put = tt; kept = refl; cause = tt; unasked = λ none. refl }

-- it was asked for changes, of which there are some
pub asked_for : (before after : KeeperView) (changes : List Change) (result : Result Unit KeeperFault) → (changes ≡ [] → ⊥) → Applies before changes result after → IsAsked before changes result after
asked_for before after changes (Ok done) some h = record { same = h.same; put = h.held; kept = tt; cause = tt; unasked = λ none. absurd (some none) }
asked_for before after changes (Err fault) some h = record { same = h.same; put = tt; kept = h.held; cause = h.cause; unasked = λ none. absurd (some none) }

pub asked_list : (before after : KeeperView) (changes : List Change) (result : Result Unit KeeperFault) → (length changes == 0) ≡ false → Applies before changes result after → IsAsked before changes result after
asked_list before after changes result some h = asked_for before after changes result (some_there changes some) h

pub asked_one : (before after : KeeperView) (change : Change) (changes : List Change) (result : Result Unit KeeperFault) → changes ≡ change ∷ [] → Applies before changes result after → IsAsked before changes result after
asked_one before after change changes result one h = asked_for before after changes result (λ none. not_nil change [] (sym one ∙ none)) h

-- the same, with the changes said otherwise
pub asked_same : {A : Type 0} (before after : KeeperView) (list changes : List Change) (result : Result A KeeperFault) → list ≡ changes → IsAsked before list result after → IsAsked before changes result after
asked_same before after list changes result same h = subst (λ c. IsAsked before c result after) same h
