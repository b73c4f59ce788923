-- What a body of JSON tells.
use Rattle.std.specs.Prelude.{Option, option_map}
use Rattle.serde_json.specs.Data.{Data}
use Rattle.serde_json.specs.View.{view}
use Rattle.http_api.specs.declared.body.Body.{Body}

-- nothing, where it is no JSON
abbrev pub told_of : Body → Option Data
told_of body = option_map view body.value
