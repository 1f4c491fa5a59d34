-- Command lines and what they order.
use Rattle.std.proofs.Common.{◌≡◌, true, false, List, [], ◌∷◌, ◌++◌, Option, Some, None, codes, refl}
use Rattle.limits.specs.declared.budgets.Limits.{Limits}
use Rattle.limits.specs.Budgets.{standard}
use Rattle.command_words.specs.declared.words.Mode.{Mode}
use Rattle.command_words.specs.declared.words.Mode.TheVariants.{Report, Prune, Dead, Runs, Site, SitePrune}
use Rattle.command_words.specs.declared.words.Order.{Order}
use Rattle.command_words.specs.Parts.{Text, reading}
use Rattle.command_words.specs.Orders.{order_of, is_site}

abbrev three_names : List Text
three_names = codes "a" ∷ codes "b" ∷ codes "c" ∷ []

abbrev ordered : Mode → List Text → Limits → Option Order
ordered m names limits = Some (record { names = names; size = None; mode = m; limits = limits })

usual : order_of three_names ≡ ordered Report three_names standard
unfolding reading
usual = refl

two : order_of (codes "a" ∷ codes "b" ∷ []) ≡ None
unfolding reading
two = refl

least : order_of (codes "--pairs" ∷ codes "1" ∷ three_names) ≡ ordered Report three_names (record standard { pairs = 1 })
unfolding reading
least = refl

behind_dashes : order_of (codes "--pairs=7" ∷ codes "a" ∷ codes "--" ∷ codes "-b" ∷ codes "c" ∷ []) ≡ ordered Report (codes "a" ∷ codes "-b" ∷ codes "c" ∷ []) (record standard { pairs = 7 })
unfolding reading
behind_dashes = refl

-- what is written
between : order_of (codes "a" ∷ codes "--runs" ∷ codes "b" ∷ codes "c" ∷ []) ≡ ordered Runs three_names standard
unfolding reading
between = refl

unknown : order_of (codes "--pruned" ∷ three_names) ≡ None
unfolding reading
unknown = refl

pruned : order_of (three_names ++ codes "--prune" ∷ []) ≡ ordered Prune three_names standard
unfolding reading
pruned = refl

pruned_dead : order_of (codes "--prune" ∷ codes "--dead" ∷ three_names) ≡ None
unfolding reading
pruned_dead = refl

pruned_runs : order_of (codes "--runs" ∷ codes "--prune" ∷ three_names) ≡ None
unfolding reading
pruned_runs = refl

dead : order_of (codes "--dead" ∷ codes "--plain" ∷ three_names) ≡ ordered Dead three_names (record standard { plain = true })
unfolding reading
dead = refl

in_runs : order_of (three_names ++ codes "--runs" ∷ []) ≡ ordered Runs three_names standard
unfolding reading
in_runs = refl

both : order_of (codes "--dead" ∷ codes "--runs" ∷ three_names) ≡ None
unfolding reading
both = refl

twice : order_of (codes "--dead" ∷ codes "--dead" ∷ three_names) ≡ None
unfolding reading
twice = refl

with_value : order_of (codes "--dead=1" ∷ three_names) ≡ None
unfolding reading
with_value = refl

-- a sheet, and one to sixty-four pages with their scripts
one_page : order_of (codes "--site" ∷ three_names) ≡ ordered Site three_names standard
unfolding reading
one_page = refl

two_pages : order_of (three_names ++ codes "--site" ∷ codes "d" ∷ codes "e" ∷ []) ≡ ordered Site (three_names ++ codes "d" ∷ codes "e" ∷ []) standard
unfolding reading
two_pages = refl

no_script : order_of (codes "--site" ∷ three_names ++ codes "d" ∷ []) ≡ None
unfolding reading
no_script = refl

no_page : order_of (codes "--site" ∷ codes "a" ∷ []) ≡ None
unfolding reading
no_page = refl

dead_site : order_of (codes "--site" ∷ codes "--dead" ∷ three_names) ≡ None
unfolding reading
dead_site = refl

pruned_site : order_of (codes "--prune" ∷ codes "a" ∷ codes "--site" ∷ codes "b" ∷ codes "c" ∷ []) ≡ ordered SitePrune three_names standard
unfolding reading
pruned_site = refl

most_pages : is_site 129 ≡ true
most_pages = refl

more_pages : is_site 131 ≡ false
more_pages = refl

-- a size takes no names, and no mode but the report
generated : order_of (codes "--gen" ∷ codes "20" ∷ []) ≡ Some (record { names = []; size = Some 20; mode = Report; limits = standard })
unfolding reading
generated = refl

generated_dead : order_of (codes "--dead" ∷ codes "--gen" ∷ codes "20" ∷ []) ≡ None
unfolding reading
generated_dead = refl

generated_pruned : order_of (codes "--prune" ∷ codes "--gen" ∷ codes "20" ∷ []) ≡ None
unfolding reading
generated_pruned = refl

generated_names : order_of (codes "--gen=5" ∷ three_names) ≡ None
unfolding reading
generated_names = refl

help : order_of (codes "--help" ∷ []) ≡ None
unfolding reading
help = refl
