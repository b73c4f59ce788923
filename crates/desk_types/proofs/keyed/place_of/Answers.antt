use Rattle.std.proofs.Common.{rules}
use Rattle.std.proofs.lemmas.List.Sorted.{IsPartitionPoint-from_clause}
use Rattle.desk_types.specs.Keys.{is_less_key}
use Rattle.desk_types.proofs.Places.{parted}
use Rattle.desk_types.proofs.keyed.place_of.Goals as goal

pub returns-clause-place : goal.returns-clause-place
returns-clause-place g c =
    let key = g.R.Keyed.key in
    let wanted = key c.args.row.now in
    IsPartitionPoint-from_clause (λ r. is_less_key (key r) wanted) _ _ c.partition_point.ensures.partitioned (parted key wanted _ c.requires) (λ a r q k. search rules)
