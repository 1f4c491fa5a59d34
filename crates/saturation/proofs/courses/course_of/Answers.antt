use Rattle.std.proofs.Common.{rules}
use Rattle.std.proofs.lemmas.List.Sorted.{answers_always}
use Rattle.saturation.specs.declared.courses.Course.{Course}
use Rattle.saturation.proofs.SearchLemmas.{course_found, course_missing}
use Rattle.saturation.proofs.courses.course_of.Goals as goal

pub returns-in-Ok-clause-some : goal.returns-in-Ok-clause-some
returns-in-Ok-clause-some c =
    let facts = c.in-Ok.ensures in
    course_found c.args.courses.now c.requires c.args.atom c.in-Ok.place c.index-courses-place.result facts.bound
    (facts.position (λ (e : Course). e.atom) (answers_always _ _ _ (λ f a r g called. search rules))) c.index-courses-place.is

pub returns-in-Err-clause-none : goal.returns-in-Err-clause-none
returns-in-Err-clause-none c = λ none.
    course_missing c.args.courses.now c.requires c.args.atom c.in-Err.field-0 (c.in-Err.ensures.position (λ (e : Course). e.atom) (answers_always _ _ _ (λ f a r g called. search rules)))
