-- What some words ask for.
use Rattle.std.proofs.Common.{◌≡◌, [], ◌∷◌, Some, None, codes, refl}
use Rattle.std.specs.Str.{chars}
use Rattle.clap.specs.Walk.{walked}
use Rattle.clap.specs.Faults.{walk_fault, defaults_fault, flags_fault}
use Rattle.premise_finds.specs.declared.names.Name.TheVariants.{Escape, InATable}
use Rattle.premise_lines.specs.Words.{order_of}

files : order_of (codes "a" ∷ codes "b" ∷ []) ≡ Some (record { excepted = []; page = codes "a"; sheet = codes "b" })
unfolding walk_fault walked defaults_fault flags_fault chars
files = refl

one_name : order_of (codes "--except" ∷ codes "in a table" ∷ codes "a" ∷ codes "b" ∷ []) ≡ Some (record { excepted = InATable ∷ []; page = codes "a"; sheet = codes "b" })
unfolding walk_fault walked defaults_fault flags_fault chars
one_name = refl

-- anywhere, in one word or in two, and each once
names_between : order_of (codes "a" ∷ codes "--except=escape" ∷ codes "--except" ∷ codes "in a table" ∷ codes "b" ∷ codes "--except=escape" ∷ []) ≡ Some (record { excepted = Escape ∷ InATable ∷ []; page = codes "a"; sheet = codes "b" })
unfolding walk_fault walked defaults_fault flags_fault chars
names_between = refl

behind_dashes : order_of (codes "--" ∷ codes "--except" ∷ codes "-" ∷ []) ≡ Some (record { excepted = []; page = codes "--except"; sheet = codes "-" })
unfolding walk_fault walked defaults_fault flags_fault chars
behind_dashes = refl

no_such_name : order_of (codes "--except" ∷ codes "Escape" ∷ codes "a" ∷ codes "b" ∷ []) ≡ None
unfolding walk_fault walked defaults_fault flags_fault chars
no_such_name = refl

no_name : order_of (codes "a" ∷ codes "b" ∷ codes "--except" ∷ []) ≡ None
unfolding walk_fault walked defaults_fault flags_fault chars
no_name = refl

no_value : order_of (codes "--except=" ∷ codes "a" ∷ codes "b" ∷ []) ≡ None
unfolding walk_fault walked defaults_fault flags_fault chars
no_value = refl

another_option : order_of (codes "--all" ∷ codes "a" ∷ codes "b" ∷ []) ≡ None
unfolding walk_fault walked defaults_fault flags_fault chars
another_option = refl

a_letter : order_of (codes "-e" ∷ codes "a" ∷ codes "b" ∷ []) ≡ None
unfolding walk_fault walked defaults_fault flags_fault chars
a_letter = refl

one_file : order_of (codes "a" ∷ []) ≡ None
unfolding walk_fault walked defaults_fault flags_fault chars
one_file = refl

three_files : order_of (codes "a" ∷ codes "b" ∷ codes "c" ∷ []) ≡ None
unfolding walk_fault walked defaults_fault flags_fault chars
three_files = refl

no_words : order_of [] ≡ None
unfolding walk_fault walked defaults_fault flags_fault chars
no_words = refl
