use Rattle.desk_cli.proofs.opening.open_desk.Goals as goal

pub returns-in-Err-clause-back : goal.returns-in-Err-clause-back
returns-in-Err-clause-back g c = c.say_unopened.ensures.back (g.K.Keeper.keeper c.args.keeper) c.in-Err.ensures.unopened

pub returns-in-Err-clause-said : goal.returns-in-Err-clause-said
returns-in-Err-clause-said g c = c.say_unopened.ensures.said (g.K.Keeper.keeper c.args.keeper) c.in-Err.ensures.unopened
