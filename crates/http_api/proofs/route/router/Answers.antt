use Rattle.std.specs.Prelude.{codes}
use Rattle.http_api.specs.declared.route.Route.TheVariants.{AddAccount, SetQuality, Suspend, Credit, HostReport, AddCampaign, SetBudget, AddLine, SetBid, Pause, AddNegative, DropNegative, Import, Report, Shown, Search, Click}
use Rattle.http_api.specs.Routes.{desk_rows, route_table}
use Rattle.http_api.proofs.RoutesLemmas.{put}
use Rattle.http_api.proofs.route.router.Goals as goal

pub returns : goal.returns
unfolding desk_rows route_table
returns c =
    let rows-1 = put (codes "/accounts") AddAccount c.new-router.ensures c.in_ok-insert.ensures in
    let rows-2 = put (codes "/quality") SetQuality rows-1 c.in_ok-insert-2.ensures in
    let rows-3 = put (codes "/suspend") Suspend rows-2 c.in_ok-insert-3.ensures in
    let rows-4 = put (codes "/credit/{n}") Credit rows-3 c.in_ok-insert-4.ensures in
    let rows-5 = put (codes "/host/{day}") HostReport rows-4 c.in_ok-insert-5.ensures in
    let rows-6 = put (codes "/a/{account}/campaigns") AddCampaign rows-5 c.in_ok-insert-6.ensures in
    let rows-7 = put (codes "/a/{account}/budget") SetBudget rows-6 c.in_ok-insert-7.ensures in
    let rows-8 = put (codes "/a/{account}/lines") AddLine rows-7 c.in_ok-insert-8.ensures in
    let rows-9 = put (codes "/a/{account}/bid") SetBid rows-8 c.in_ok-insert-9.ensures in
    let rows-10 = put (codes "/a/{account}/pause") Pause rows-9 c.in_ok-insert-10.ensures in
    let rows-11 = put (codes "/a/{account}/negatives") AddNegative rows-10 c.in_ok-insert-11.ensures in
    let rows-12 = put (codes "/a/{account}/drop/{n}") DropNegative rows-11 c.in_ok-insert-12.ensures in
    let rows-13 = put (codes "/a/{account}/import/{batch}") Import rows-12 c.in_ok-insert-13.ensures in
    let rows-14 = put (codes "/a/{account}/report/{day}") Report rows-13 c.in_ok-insert-14.ensures in
    let rows-15 = put (codes "/a/{account}/shown/{day}") Shown rows-14 c.in_ok-insert-15.ensures in
    let rows-16 = put (codes "/search") Search rows-15 c.in_ok-insert-16.ensures in
    put (codes "/click/{n}") Click rows-16 c.in_ok-insert-17.ensures
