use Rattle.std.proofs.Common.{rules, ◌≡◌, true, refl, subst}
use Rattle.std.specs.Str.Parse.{ParsesUnsigned}
use Rattle.command_words.specs.Orders as spec
use Rattle.command_words.proofs.NumberLemmas.{not_read}
use Rattle.command_words.proofs.numbers.number_of.Goals as goal

pub returns-in_default : goal.returns-in_default
returns-in_default c =
    let is : spec.is_number c.args.text.now ≡ true = search rules in
    rw (not_read c.args.least c.args.most c.args.text.now c.in_default.field-0 c.ranges.most.fits is (subst (ParsesUnsigned 32 10 c.args.text.now) c.in_default.is c.parse.ensures.value.0)) refl
