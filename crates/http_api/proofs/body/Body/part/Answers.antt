use Rattle.std.proofs.Common.{None, ap, ◌∙◌, option_map}
use Rattle.desk_types.specs.declared.call.Part.TheVariants.{OfCampaign, OfLine}
use Rattle.http_api.specs.BodyTold.{told_of}
use Rattle.http_api.proofs.BodyLemmas.{part_by}
use Rattle.http_api.proofs.body.Body.part.Goals as goal

pub returns-in_err-as_u64-in-Some-None : goal.returns-in_err-as_u64-in-Some-None
returns-in_err-as_u64-in-Some-None c =
    c.from_residual.ensures ∙ (ap (option_map OfCampaign) c.in_err-as_u64-in-Some-None.ensures ∙ part_by (told_of c.args.self.now) _ None c.in-Some-None.ensures c.in-Some-None.ensures')

pub returns-in_err-as_u64-in-None-Some : goal.returns-in_err-as_u64-in-None-Some
returns-in_err-as_u64-in-None-Some c =
    c.from_residual-in_err-as_u64-in-None-Some.ensures ∙ (ap (option_map OfLine) c.in_err-as_u64-in-None-Some.ensures ∙ part_by (told_of c.args.self.now) None _ c.in-None-Some.ensures c.in-None-Some.ensures')

pub returns-in_ok-as_u64-in-Some-None : goal.returns-in_ok-as_u64-in-Some-None
returns-in_ok-as_u64-in-Some-None c =
    ap (option_map OfCampaign) c.in_ok-as_u64-in-Some-None.ensures ∙ part_by (told_of c.args.self.now) _ None c.in-Some-None.ensures c.in-Some-None.ensures'

pub returns-in_ok-as_u64-in-None-Some : goal.returns-in_ok-as_u64-in-None-Some
returns-in_ok-as_u64-in-None-Some c =
    ap (option_map OfLine) c.in_ok-as_u64-in-None-Some.ensures ∙ part_by (told_of c.args.self.now) None _ c.in-None-Some.ensures c.in-None-Some.ensures'

pub returns-in_default : goal.returns-in_default
returns-in_default c = part_by (told_of c.args.self.now) _ _ c.in_default.ensures c.in_default.ensures'

pub returns-in_default-2 : goal.returns-in_default-2
returns-in_default-2 c = part_by (told_of c.args.self.now) None None c.in_default.ensures c.in_default.ensures'
