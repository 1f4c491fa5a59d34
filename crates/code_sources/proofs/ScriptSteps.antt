-- The names that the code writes down.
use Rattle.std.proofs.Common.{◌≡◌, map, refl}
use Rattle.html_tokens.specs.Bytes.{lowered}
use Rattle.html_tokens.specs.Words.{words_from}
use Rattle.code_sources.specs.declared.scripts.TheConstants.{RUN_TYPES}
use Rattle.code_sources.specs.Scripts.{run_types}

pub run_types_are : map (λ w. lowered w.now) RUN_TYPES ≡ run_types
unfolding words_from
run_types_are = refl
