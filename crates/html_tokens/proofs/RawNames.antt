-- The raw elements of the code are those of the definition.
use Rattle.std.proofs.Common.{◌≡◌, map, refl}
use Rattle.html_tokens.specs.declared.raw.TheConstants.{RAW}
use Rattle.html_tokens.specs.Bytes.{lowered}
use Rattle.html_tokens.specs.Names.{raw_names}

pub same_names : map (λ n. lowered n.now) RAW ≡ raw_names
same_names = refl
