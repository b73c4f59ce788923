-- The routes, and what a path names.
use Rattle.std.proofs.Common.{◌≡◌, ℕ, List, [], Option, Some, None, Bor, sym, ap, ◌∙◌, option_map, get_or}
use Rattle.std.specs.Prelude.{slice_get, unwrap_or, option_and_then}
use Rattle.std.specs.Str.{IsUtf8, is_utf8}
use Rattle.std.proofs.lemmas.Bool.{cond-true, cond-false, false_from_ne_true}
use Rattle.std.proofs.lemmas.Option.{unwrap_or-slice_get}
use Rattle.std.proofs.lemmas.Str.{IsUtf8-from_is_utf8, is_utf8-from_IsUtf8}
use Rattle.matchit.specs.Rows.{RowsOf}
use Rattle.matchit.specs.Route.{parse_route}
use Rattle.matchit.specs.Router.{RouteOf}
use Rattle.matchit.specs.Seek.{first}
use Rattle.http_api.specs.declared.route.Route.{Route}
use Rattle.http_api.specs.Resources.{resource_of, resource_on}
use Rattle.http_api.specs.Routes.{desk_rows, route_of, with_scan}

-- rows with one route more
pub put : (text : List ℕ) (route : Route) {rows before want : RowsOf (RouteOf Route)} → before ≡ want → rows ≡ with_scan (parse_route text) route before → rows ≡ with_scan (parse_route text) route want
put text route same is = is ∙ ap (with_scan (parse_route text) route) same

module _ (rows : RowsOf (RouteOf Route)) (path : List ℕ) (all : rows ≡ desk_rows) where
  by_rows : first rows path ≡ first desk_rows path
  by_rows = ap (λ (those : RowsOf (RouteOf Route)). first those path) all

  pub route_found : (row : RouteOf Route) → first rows path ≡ Some row → Some row.value ≡ route_of path
  unfolding route_of
  route_found row is = ap (option_map (λ (one : RouteOf Route). one.value)) (sym is ∙ by_rows)

  pub route_none : first rows path ≡ None → None ≡ route_of path
  unfolding route_of
  route_none is = ap (option_map (λ (one : RouteOf Route). one.value)) (sym is ∙ by_rows)

-- what a path names by its route
pub resource_by : (path : List ℕ) (found : Option Route) → IsUtf8 path → found ≡ route_of path → option_and_then (λ route. resource_on route path) found ≡ resource_of path
unfolding resource_of
resource_by path found text is =
    ap (option_and_then (λ (route : Route). resource_on route path)) is ∙ sym (cond-true (is_utf8 path) _ _ (is_utf8-from_IsUtf8 path text))

pub resource_none : (path : List ℕ) → (IsUtf8 path → ⊥) → None ≡ resource_of path
unfolding resource_of
resource_none path other = sym (cond-false (is_utf8 path) _ _ (false_from_ne_true (is_utf8 path) (λ is. other (IsUtf8-from_is_utf8 path is))))

-- a part by its place, or the default
pub part_read : (result : Option (Bor (List ℕ))) (default : Bor (List ℕ)) (parts : List (List ℕ)) (place : ℕ) → option_map (λ part. part.now) result ≡ slice_get parts place → default.now ≡ [] →
    (unwrap_or result default).now ≡ get_or parts place []
part_read None default parts place is none = none ∙ (ap (λ (part : Option (List ℕ)). unwrap_or part []) is ∙ unwrap_or-slice_get parts place [])
part_read (Some part) default parts place is none = ap (λ (one : Option (List ℕ)). unwrap_or one []) is ∙ unwrap_or-slice_get parts place []
