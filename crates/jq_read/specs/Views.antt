-- What the arguments of a call leave in the code is to the definitions.
use Rattle.jq_parts.specs.Bindings.{Value}
use Rattle.jq_parts.specs.Stating.{Effect}
use Rattle.jq_parts.specs.ScopeViews.{effect_of}
use Rattle.jq_parts.specs.Views.{value_of}
use Rattle.jq_read.specs.declared.values.Done.{Done}

abbrev pub done_of : Done → Value × Effect
done_of d = (value_of d.reached, effect_of d.effect)
