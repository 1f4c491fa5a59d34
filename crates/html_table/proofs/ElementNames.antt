-- The names of the code are those of the definition.
use Rattle.std.proofs.Common.{◌≡◌, map, refl}
use Rattle.html_table.specs.declared.elements.TheConstants.{KINDS}
use Rattle.html_tokens.specs.Bytes.{lowered}
use Rattle.html_tokens.specs.Words.{words_from}
use Rattle.html_table.specs.Elements.{named_kinds}

pub same_kinds : map (λ k. (lowered k.0.now, k.1)) KINDS ≡ named_kinds
unfolding words_from named_kinds
same_kinds = refl
