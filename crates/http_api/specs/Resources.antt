-- What the path of a target names.
use Rattle.std.specs.Prelude.{ℕ, Bool, true, false, ◌==◌, if◌then◌else◌, List, [], get_or, codes, Option, Some, None, option_map, option_and_then}
use Rattle.std.specs.List.{slice_split}
use Rattle.std.specs.Str.{is_utf8}
use Rattle.form_urlencoded.specs.Form.{split_once}
use Rattle.desk_io.specs.Number.{number}
use Rattle.http_api.specs.declared.route.Route.{Route}
use Rattle.http_api.specs.declared.route.Route.TheVariants as route
use Rattle.http_api.specs.declared.resource.Resource.{Resource}
use Rattle.http_api.specs.declared.resource.Resource.TheVariants.{Host, Account, Import, Shown, Search, Click}
use Rattle.http_api.specs.declared.resource.HostResource.TheVariants as host
use Rattle.http_api.specs.declared.resource.AccountResource.{AccountResource}
use Rattle.http_api.specs.declared.resource.AccountResource.TheVariants as asked
use Rattle.http_api.specs.HeadValue.{HeadValue}
use Rattle.http_api.specs.Routes.{route_of}

-- the path of a target, and the query behind its first question mark
abbrev pub path_of : HeadValue → List ℕ
path_of head = (split_once 63 head.target).0

abbrev pub query_of : HeadValue → List ℕ
query_of head = (split_once 63 head.target).1

-- the number that a segment of a path spells; the first segment, before the first slash, is empty and has the place 0
abbrev pub number_at : ℕ → List ℕ → Option ℕ
number_at place path = number (get_or (slice_split (λ byte. byte == 47) path) place [])

abbrev pub of_account : AccountResource → List ℕ → Option Resource
of_account resource path = option_map (λ account. Account account resource) (number_at 2 path)

-- what a path names by its route, where its numbers are numbers
unfoldable pub resource_on : Route → List ℕ → Option Resource
resource_on route.AddAccount path = Some (Host host.AddAccount)
resource_on route.SetQuality path = Some (Host host.SetQuality)
resource_on route.Suspend path = Some (Host host.Suspend)
resource_on route.Credit path = option_map (λ placement. Host (host.Credit placement)) (number_at 2 path)
resource_on route.HostReport path = option_map (λ day. Host (host.Report day)) (number_at 2 path)
resource_on route.AddCampaign path = of_account asked.AddCampaign path
resource_on route.SetBudget path = of_account asked.SetBudget path
resource_on route.AddLine path = of_account asked.AddLine path
resource_on route.SetBid path = of_account asked.SetBid path
resource_on route.Pause path = of_account asked.Pause path
resource_on route.AddNegative path = of_account asked.AddNegative path
resource_on route.DropNegative path =
    option_and_then (λ negative. of_account (asked.DropNegative negative) path) (number_at 4 path)
resource_on route.Import path =
    option_and_then (λ batch. option_map (λ account. Import account batch) (number_at 2 path)) (number_at 4 path)
resource_on route.Report path = option_and_then (λ day. of_account (asked.Report day) path) (number_at 4 path)
resource_on route.Shown path =
    option_and_then (λ day. option_map (λ account. Shown account day) (number_at 2 path)) (number_at 4 path)
resource_on route.Search path = Some Search
resource_on route.Click path = option_map Click (number_at 2 path)

-- what a path names; a path is UTF-8
unfoldable pub resource_of : List ℕ → Option Resource
resource_of path = if is_utf8 path then option_and_then (λ route. resource_on route path) (route_of path) else None

-- the method that a resource takes
abbrev pub method_of : Resource → List ℕ
method_of (Host (host.Report day)) = codes "GET"
method_of (Host host.AddAccount) = codes "POST"
method_of (Host host.SetQuality) = codes "POST"
method_of (Host host.Suspend) = codes "POST"
method_of (Host (host.Credit placement)) = codes "POST"
method_of (Account account (asked.Report day)) = codes "GET"
method_of (Account account resource) = codes "POST"
method_of (Import account batch) = codes "POST"
method_of (Shown account day) = codes "GET"
method_of Search = codes "GET"
method_of (Click placement) = codes "GET"

-- whether only the host may ask for it
abbrev pub is_of_host : Resource → Bool
is_of_host (Host resource) = true
is_of_host (Account account resource) = false
is_of_host (Import account batch) = false
is_of_host (Shown account day) = false
is_of_host Search = false
is_of_host (Click placement) = false
