-- The words that the code tells apart are those of the definitions.
use Rattle.std.proofs.Common.{◌≡◌, List, [], ◌∷◌, map, codes, refl}
use Rattle.code_values.specs.declared.chains.TheConstants.{JQUERY_NAMES, CREATIONS, KEEPING, SETTING, PAIRING, CONSTANTS, DOCUMENT, THIS}
use Rattle.code_values.specs.declared.runs.TheConstants.{OPERAND_ENDS}
use Rattle.code_values.specs.Chains.{jquery_names, creations, keeping, setting, pairing, constants}
use Rattle.code_values.specs.Runs.{operand_ends}

pub same_jquery_names : map (λ n. n.now) JQUERY_NAMES ≡ jquery_names
same_jquery_names = refl

pub same_creations : map (λ n. n.now) CREATIONS ≡ creations
same_creations = refl

pub same_keeping : map (λ n. n.now) KEEPING ≡ keeping
same_keeping = refl

pub same_setting : map (λ n. n.now) SETTING ≡ setting
same_setting = refl

pub same_pairing : map (λ n. n.now) PAIRING ≡ pairing
same_pairing = refl

pub same_constants : map (λ n. n.now) CONSTANTS ≡ constants
same_constants = refl

pub same_document : map (λ n. n.now) DOCUMENT ≡ codes "document" ∷ []
same_document = refl

pub same_this : map (λ n. n.now) THIS ≡ codes "this" ∷ []
same_this = refl

pub same_operand_ends : map (λ n. n.now) OPERAND_ENDS ≡ operand_ends
same_operand_ends = refl
