-- The rules for added atoms and for goals, from the atoms of guards.
--     class_rules guards i r      the rules of the classes that the rule i adds, with the atoms of all rules' guards
--     seen_rules first guards     the rules that give the atom of each of these guards' atoms, which count from `first`
use Rattle.std.specs.Prelude.{ℕ, ◌+◌, ◌==◌, List, [], ◌∷◌, map, Some, None, get_or}
use Rattle.simple_core.specs.declared.rules.Local.{Local}
use Rattle.simple_core.specs.declared.rules.Link.{Link}
use Rattle.guard_sem.specs.declared.rules.Rule.{Rule}
use Rattle.guard_simplify.specs.Firsts.{place_of}
use Rattle.guard_simplify.specs.Simplified.{classes_of}

abbrev pub class_locals : ℕ → ℕ → List ℕ → List Local
class_locals i needs classes = map (λ a. record { needs = needs ∷ []; gives = a; stmt = Some i }) classes

abbrev pub class_rules : List ℕ → ℕ → Rule → List Local
class_rules guards i r = class_locals i (get_or guards i 0) (classes_of r.action)

abbrev pub seen_rules : ℕ → List ℕ → List Local
seen_rules first [] = []
seen_rules first (a ∷ guards) = record { needs = a ∷ []; gives = first; stmt = None } ∷ seen_rules (first + 1) guards

abbrev pub seen_links : ℕ → List ℕ → List Link
seen_links first [] = []
seen_links first (a ∷ guards) = record { from = first; to = first } ∷ seen_links (first + 1) guards

-- the atoms that are seen, of guards whose atoms are these, where the different ones are `once`
abbrev pub seen_of : ℕ → List ℕ → List ℕ → List ℕ
seen_of first once guards = map (λ a. first + place_of (λ x y. x == y) a once) guards
