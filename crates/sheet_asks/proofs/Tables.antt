-- The tables of the code have the names of the definitions.
use Rattle.std.proofs.Common.{◌≡◌, refl, map}
use Rattle.html_tokens.specs.Words.{words_from}
use Rattle.sheet_asks.specs.Properties.{renamed, switches, editable}
use Rattle.sheet_asks.specs.declared.properties.TheConstants.{RENAMED, SWITCHES, EDITABLE}

pub same_rows : map (λ r. (r.0.now, r.1.now)) RENAMED ≡ renamed
same_rows = refl

pub same_switches : map (λ n. n.now) SWITCHES ≡ switches
unfolding words_from
same_switches = refl

pub same_editable : map (λ n. n.now) EDITABLE ≡ editable
unfolding words_from
same_editable = refl
