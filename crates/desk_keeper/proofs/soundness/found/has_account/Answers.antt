use Rattle.std.proofs.Common.{◌≡◌, ◌&&◌, length, sym, ◌∙◌, rules}
use Rattle.std.specs.Prelude.{nat_le}
use Rattle.desk_keeper.proofs.KeptTables.{account_there}
use Rattle.desk_keeper.proofs.soundness.found.has_account.Goals as goal

pub returns : goal.returns
returns c =
    let within : c.contains.result ≡ (nat_le 1 c.args.account && nat_le c.args.account (length c.args.accounts.now)) = search rules in
    within ∙ sym (account_there c.args.accounts.now c.args.account c.requires)
