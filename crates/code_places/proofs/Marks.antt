-- The words and marks that the code tells apart are those of the definitions.
use Rattle.std.proofs.Common.{◌≡◌, map, refl}
use Rattle.code_places.specs.declared.writes.TheConstants.{WHOLE_MARKS, MADE_MARKS, SIGNS, EQUALS}
use Rattle.code_places.specs.declared.patterns.TheConstants.{VALUE_ENDS, STATEMENT_ENDS, LOOP_NAMES, PART_ENDS}
use Rattle.code_places.specs.declared.places.TheConstants.{RESERVED, DECLARING, GENERATOR}
use Rattle.code_places.specs.declared.steps.TheConstants.{STEPS, MEMBER_MARKS}
use Rattle.code_places.specs.Patterns.{value_ends, statement_ends, loop_names, part_ends}
use Rattle.code_places.specs.Places.{reserved, declaring, generator}
use Rattle.code_places.specs.Steps.{steps, member_marks}
use Rattle.code_places.specs.Writes.{whole_marks, made_marks, signs, equals}

pub same_whole_marks : map (λ n. n.now) WHOLE_MARKS ≡ whole_marks
same_whole_marks = refl

pub same_made_marks : map (λ n. n.now) MADE_MARKS ≡ made_marks
same_made_marks = refl

pub same_signs : map (λ n. n.now) SIGNS ≡ signs
same_signs = refl

pub same_equals : map (λ n. n.now) EQUALS ≡ equals
same_equals = refl

pub same_value_ends : map (λ n. n.now) VALUE_ENDS ≡ value_ends
same_value_ends = refl

pub same_statement_ends : map (λ n. n.now) STATEMENT_ENDS ≡ statement_ends
same_statement_ends = refl

pub same_loop_names : map (λ n. n.now) LOOP_NAMES ≡ loop_names
same_loop_names = refl

pub same_part_ends : map (λ n. n.now) PART_ENDS ≡ part_ends
same_part_ends = refl

pub same_reserved : map (λ n. n.now) RESERVED ≡ reserved
same_reserved = refl

pub same_declaring : map (λ n. n.now) DECLARING ≡ declaring
same_declaring = refl

pub same_generator : map (λ n. n.now) GENERATOR ≡ generator
same_generator = refl

pub same_steps : map (λ n. n.now) STEPS ≡ steps
same_steps = refl

pub same_member_marks : map (λ n. n.now) MEMBER_MARKS ≡ member_marks
same_member_marks = refl
