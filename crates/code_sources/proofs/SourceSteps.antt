-- Sources one after the other.
use Rattle.std.proofs.Common.{◌≡◌, List, ◌++◌, append_assoc}
use Rattle.code_sources.specs.declared.sources.Source.{Source}

pub three : (old a b c : List Source) → ((old ++ a) ++ b) ++ c ≡ old ++ ((a ++ b) ++ c)
three old a b c = simp append_assoc
