-- Members one behind another.
use Rattle.std.proofs.Common.{◌≡◌, ℕ, List, [], ◌∷◌, ◌++◌, refl, append_assoc}
use Rattle.std.specs.Prelude.{codes, flat_map, map}
use Rattle.std.proofs.lemmas.List.Folds.{flat_map-map}
use Rattle.http_api.specs.declared.json.Member.{Member}
use Rattle.http_api.specs.Json.{behind_comma, escaped, member_of, named, quoted, with_commas}

-- a member behind a comma
abbrev pub next_member : Member → List ℕ
next_member member = behind_comma (named (member_of member))

pub members-first : (members more : List Member) (first : Member) → members ≡ first ∷ more →
    named (member_of first) ++ flat_map next_member more ≡ with_commas (map named (map member_of members))
members-first members more first is =
    rw (is, flat_map-map behind_comma named (map member_of more), flat_map-map (λ member. behind_comma (named member)) member_of more) refl

-- the name of a member stands in front of its value
pub member-named : (name value : List ℕ) → (codes "\"" ++ (name ++ codes "\":")) ++ value ≡ named (name, value)
member-named name value = simp append_assoc

pub cons_same : {A : Type 0} {x y : A} {xs ys : List A} → x ≡ y → xs ≡ ys → ◌≡◌ {A = List A} (x ∷ xs) (y ∷ ys)
cons_same is are = cc

pub last_same : {A : Type 0} {x y : A} → x ≡ y → ◌≡◌ {A = List A} (x ∷ []) (y ∷ [])
last_same is = cc

pub quoted_same : (name text told : List ℕ) → text ≡ told → ◌≡◌ {A = List ℕ × List ℕ} (name, quoted (escaped text)) (name, quoted (escaped told))
quoted_same name text told is = rw is refl
