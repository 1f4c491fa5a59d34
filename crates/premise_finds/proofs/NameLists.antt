-- The names that the code writes down are all names.
use Rattle.std.proofs.Common.{◌≡◌, refl}
use Rattle.premise_finds.specs.declared.names.TheConstants.{ALL}
use Rattle.premise_finds.specs.NameTexts.{all_names}

pub all_are : ALL ≡ all_names
all_are = refl
