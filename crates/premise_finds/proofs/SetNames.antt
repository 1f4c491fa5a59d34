-- The names of attributes that change otherwise are in the code those of the definition.
use Rattle.std.proofs.Common.{◌≡◌, map, refl}
use Rattle.html_tokens.specs.Bytes.{lowered}
use Rattle.html_tokens.specs.Words.{words_from}
use Rattle.premise_finds.specs.declared.sheet_names.TheConstants.{SET_NAMES}
use Rattle.premise_finds.specs.SheetNames.{set_names}

pub same_names : map (λ w. lowered w.now) SET_NAMES ≡ set_names
unfolding words_from
same_names = refl
