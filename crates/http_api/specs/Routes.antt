-- The routes, by the patterns of their paths.
use Rattle.std.specs.Prelude.{ℕ, List, [], ◌∷◌, fold, codes, Option, option_map, Result, Ok, Err}
use Rattle.matchit.specs.Rows.{RowsOf}
use Rattle.matchit.specs.Order.{placed}
use Rattle.matchit.specs.Route.{Scan, parse_route}
use Rattle.matchit.specs.Router.{RouteOf, route_from}
use Rattle.matchit.specs.Seek.{first}
use Rattle.matchit.specs.declared.error.InsertError.{InsertError}
use Rattle.http_api.specs.declared.route.Route.{Route}
use Rattle.http_api.specs.declared.route.Route.TheVariants.{AddAccount, SetQuality, Suspend, Credit, HostReport, AddCampaign, SetBudget, AddLine, SetBid, Pause, AddNegative, DropNegative, Import, Report, Shown, Search, Click}

-- the pattern of each route's path
unfoldable pub route_table : List (List ℕ × Route)
route_table =
    (codes "/accounts", AddAccount)
    ∷ (codes "/quality", SetQuality)
    ∷ (codes "/suspend", Suspend)
    ∷ (codes "/credit/{n}", Credit)
    ∷ (codes "/host/{day}", HostReport)
    ∷ (codes "/a/{account}/campaigns", AddCampaign)
    ∷ (codes "/a/{account}/budget", SetBudget)
    ∷ (codes "/a/{account}/lines", AddLine)
    ∷ (codes "/a/{account}/bid", SetBid)
    ∷ (codes "/a/{account}/pause", Pause)
    ∷ (codes "/a/{account}/negatives", AddNegative)
    ∷ (codes "/a/{account}/drop/{n}", DropNegative)
    ∷ (codes "/a/{account}/import/{batch}", Import)
    ∷ (codes "/a/{account}/report/{day}", Report)
    ∷ (codes "/a/{account}/shown/{day}", Shown)
    ∷ (codes "/search", Search)
    ∷ (codes "/click/{n}", Click)
    ∷ []

-- a router's rows with a pattern that was read
abbrev pub with_scan : Result Scan InsertError → Route → RowsOf (RouteOf Route) → RowsOf (RouteOf Route)
with_scan (Ok scan) route rows = placed (scan.pattern, route_from scan route) rows
with_scan (Err error) route rows = rows

-- the router's rows with the routes of a table
abbrev pub with_routes : RowsOf (RouteOf Route) → List (List ℕ × Route) → RowsOf (RouteOf Route)
with_routes rows table = fold (λ rows entry. with_scan (parse_route entry.0) entry.1 rows) rows table

unfoldable pub desk_rows : RowsOf (RouteOf Route)
desk_rows = with_routes [] route_table

-- the route of a path
unfoldable pub route_of : List ℕ → Option Route
route_of path = option_map (λ row. row.value) (first desk_rows path)
