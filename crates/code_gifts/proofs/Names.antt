-- The names that the code tells apart are those of the definitions.
use Rattle.std.proofs.Common.{◌≡◌, map, refl}
use Rattle.code_gifts.specs.declared.classes.TheConstants.{FIRST_NAMES, SECOND_NAMES, FUNCTIONS, EACH_NAMES, TOGGLE_NAMES, QUIET_NAMES, LIST_NAMES}
use Rattle.code_gifts.specs.declared.values.TheConstants.{NO_CLASSES}
use Rattle.code_gifts.specs.Classes.{first_names, second_names, functions, each_names, toggle_names, quiet_names, list_names}
use Rattle.code_gifts.specs.Values.{no_classes}

pub same_no_classes : map (λ n. n.now) NO_CLASSES ≡ no_classes
same_no_classes = refl

pub same_first_names : map (λ n. n.now) FIRST_NAMES ≡ first_names
same_first_names = refl

pub same_second_names : map (λ n. n.now) SECOND_NAMES ≡ second_names
same_second_names = refl

pub same_functions : map (λ n. n.now) FUNCTIONS ≡ functions
same_functions = refl

pub same_each_names : map (λ n. n.now) EACH_NAMES ≡ each_names
same_each_names = refl

pub same_toggle_names : map (λ n. n.now) TOGGLE_NAMES ≡ toggle_names
same_toggle_names = refl

pub same_quiet_names : map (λ n. n.now) QUIET_NAMES ≡ quiet_names
same_quiet_names = refl

pub same_list_names : map (λ n. n.now) LIST_NAMES ≡ list_names
same_list_names = refl
