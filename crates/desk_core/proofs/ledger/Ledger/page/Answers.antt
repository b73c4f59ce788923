use Rattle.desk_types.proofs.Soundness.{stable}
use Rattle.desk_core.proofs.ledger.Ledger.page.Goals as goal

pub eligible_ads-requires : goal.eligible_ads-requires
eligible_ads-requires c = (stable c.args.self.now.state c.requires.sound).in_range
