-- What some words ask for.
use Rattle.std.proofs.Common.{◌≡◌, [], ◌∷◌, Some, None, codes, refl}
use Rattle.std.specs.Str.{chars}
use Rattle.clap.specs.Walk.{walked}
use Rattle.clap.specs.Faults.{walk_fault, defaults_fault, flags_fault}
use Rattle.widen_sheet.specs.declared.words.Way.TheVariants as way
use Rattle.widen_sheet.specs.Words.{order_of}

one_file : order_of (codes "a" ∷ []) ≡ Some (way.Widen, codes "a")
unfolding walk_fault walked defaults_fault flags_fault chars
one_file = refl

back : order_of (codes "--back" ∷ codes "a" ∷ []) ≡ Some (way.Back, codes "a")
unfolding walk_fault walked defaults_fault flags_fault chars
back = refl

behind_the_name : order_of (codes "a" ∷ codes "--back" ∷ []) ≡ Some (way.Back, codes "a")
unfolding walk_fault walked defaults_fault flags_fault chars
behind_the_name = refl

behind_dashes : order_of (codes "--" ∷ codes "--back" ∷ []) ≡ Some (way.Widen, codes "--back")
unfolding walk_fault walked defaults_fault flags_fault chars
behind_dashes = refl

dashes_behind : order_of (codes "--back" ∷ codes "--" ∷ codes "-x" ∷ []) ≡ Some (way.Back, codes "-x")
unfolding walk_fault walked defaults_fault flags_fault chars
dashes_behind = refl

a_dash : order_of (codes "-" ∷ []) ≡ Some (way.Widen, codes "-")
unfolding walk_fault walked defaults_fault flags_fault chars
a_dash = refl

empty_name : order_of ([] ∷ []) ≡ Some (way.Widen, [])
unfolding walk_fault walked defaults_fault flags_fault chars
empty_name = refl

twice : order_of (codes "--back" ∷ codes "--back" ∷ codes "a" ∷ []) ≡ None
unfolding walk_fault walked defaults_fault flags_fault chars
twice = refl

with_a_value : order_of (codes "--back=true" ∷ codes "a" ∷ []) ≡ None
unfolding walk_fault walked defaults_fault flags_fault chars
with_a_value = refl

another_option : order_of (codes "--bac" ∷ codes "a" ∷ []) ≡ None
unfolding walk_fault walked defaults_fault flags_fault chars
another_option = refl

a_letter : order_of (codes "-b" ∷ codes "a" ∷ []) ≡ None
unfolding walk_fault walked defaults_fault flags_fault chars
a_letter = refl

two_files : order_of (codes "a" ∷ codes "b" ∷ []) ≡ None
unfolding walk_fault walked defaults_fault flags_fault chars
two_files = refl

no_name : order_of (codes "--back" ∷ []) ≡ None
unfolding walk_fault walked defaults_fault flags_fault chars
no_name = refl

no_words : order_of [] ≡ None
unfolding walk_fault walked defaults_fault flags_fault chars
no_words = refl
