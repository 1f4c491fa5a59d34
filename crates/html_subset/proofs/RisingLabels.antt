-- The labels of html, head and body rise, whatever tags give.
use Rattle.std.proofs.Common.{ℕ, List, [], ◌∷◌, Option, Some, None, arith}
use Rattle.std.specs.List.Sorted.{IsStrictlyIncreasing}
use Rattle.tp_base.specs.Names.{Named, with_name}
use Rattle.tp_base.proofs.ClassLemmas.{IsStrictlyIncreasing-with_class, IsStrictlyIncreasing-union_of}
use Rattle.html_tokens.specs.Attributes.{firsts_besides}
use Rattle.html_tokens.specs.Tokens.{StartTag}
use Rattle.html_subset.specs.Labels.{given_names, and_one, labelled}
use Rattle.html_subset.specs.Building.{Root, unless_given, with_given}
use Rattle.html_subset.specs.Pages.{root_label}
use Rattle.html_subset.proofs.AtomLemmas.{Brings, brings_then}

abbrev pub IsLabel : List ℕ × List Named → Type 0
IsLabel l = IsStrictlyIncreasing l.0

one_rises : (at : ℕ) (label : List ℕ) (table : List Named) (o : Option (ℕ × List Named)) → IsStrictlyIncreasing label → Brings IsLabel (and_one at label table o)
one_rises at label table None up = tt
one_rises at label table (Some e) up = IsStrictlyIncreasing-with_class e.0 label up

label_rises : (at : ℕ) (names : List Named) (label : List ℕ) (table : List Named) → IsStrictlyIncreasing label → Brings IsLabel (labelled at names label table)
unfolding labelled
label_rises at [] label table up = up
label_rises at (name ∷ names) label table up =
    brings_then IsLabel IsLabel (and_one at label table (with_name table name)) (λ l. labelled at names l.0 l.1) (one_rises at label table (with_name table name) up) (λ l first. label_rises at names l.0 l.1 first)

pub root_rises : (name : List ℕ) (table : List Named) → Brings IsLabel (root_label name table)
root_rises name table = label_rises 0 _ [] table (λ k within. absurd (omega arith))

pub given_rises : (t : StartTag) (r : Root) (table : List Named) → IsStrictlyIncreasing r.label → Brings (λ (g : Root × List Named). IsStrictlyIncreasing g.0.label) (with_given t r table)
unfolding with_given
given_rises t r table up =
    let names = given_names (unless_given r.has_id t.id) (unless_given r.has_class t.class) (firsts_besides r.others t.others) in
    brings_then IsLabel (λ (g : Root × List Named). IsStrictlyIncreasing g.0.label) (labelled t.at names [] table) _ (label_rises t.at names [] table (λ k within. absurd (omega arith)))
    (λ l first. IsStrictlyIncreasing-union_of r.label l.0 up)
