-- The spots of a page one behind another.
use Rattle.std.proofs.Common.{◌≡◌, ℕ, List, [], ◌∷◌, ◌++◌, refl, append_assoc}
use Rattle.std.specs.Prelude.{codes, flat_map, map}
use Rattle.std.proofs.lemmas.List.Folds.{flat_map-map}
use Rattle.desk_types.specs.declared.reply.Spot.{Spot}
use Rattle.http_api.specs.AnswerText.{spot_body}
use Rattle.http_api.specs.Json.{behind_comma, object, with_commas}

-- a spot behind a comma
abbrev pub next_spot : Spot → List ℕ
next_spot spot = behind_comma (spot_body spot)

pub spots-first : (spots more : List Spot) (first : Spot) → spots ≡ first ∷ more →
    spot_body first ++ flat_map next_spot more ≡ with_commas (map spot_body spots)
spots-first spots more first is = rw (is, flat_map-map behind_comma spot_body more) refl

-- an object of the spots alone
pub page-text : (spots : List ℕ) → codes "{\"page\":[" ++ (spots ++ codes "]}") ≡ object ((codes "page", codes "[" ++ spots ++ codes "]") ∷ [])
page-text spots = simp append_assoc
