-- The nodes of forests, as they are counted, are those of the rules; and whether all atoms are within the limit.
use Rattle.std.proofs.Common.{◌≡◌, ◌↔◌, ℕ, ◌+◌, ◌≤◌, ◌<◌, Bool, true, false, List, length, map, ap, ◌∙◌, inl, inr, arith}
use Rattle.std.specs.Prelude.{nat_lt, filter}
use Rattle.std.specs.List.{flat_map}
use Rattle.std.proofs.lemmas.Bool.{both_ways, cases_lt}
use Rattle.std.proofs.lemmas.List.{length-map}
use Rattle.tp_base.specs.declared.atoms.TheConstants.{MOST_ATOMS}
use Rattle.simple_core.specs.declared.system.TheConstants.{MOST_KINDS}
use Rattle.guard_sem.specs.Guards.{Guard}
use Rattle.guard_sem.specs.declared.rules.Rule.{Rule}
use Rattle.guard_simplify.specs.declared.forest_nodes.ForestNode.{ForestNode}
use Rattle.guard_simplify.specs.declared.forest_nodes.RuleForest.{RuleForest}
use Rattle.guard_simplify.specs.declared.formulas.Formulas.{Formulas}
use Rattle.guard_simplify.specs.Firsts.{different}
use Rattle.guard_simplify.specs.Auxiliaries.{same_place, places, owners, auxiliaries}
use Rattle.guard_simplify.specs.ForestRules.{placed, child_count}
use Rattle.guard_simplify.specs.Forests.{Planted, planted, plantings, places_of, owners_of}
use Rattle.guard_simplify.specs.Counted.{IsNumbering}
use Rattle.guard_simplify.proofs.Distinct.{places_different, owners_different}
use Rattle.guard_simplify.proofs.PlantedLemmas.{by_planted}
use Rattle.guard_simplify.proofs.SystemLemmas.{all_counted}

module _ (rules : List Rule) (fs : List RuleForest) (are : map planted fs ≡ plantings 0 rules) where
  pub nodes_are : (ns : List ForestNode) → map placed ns ≡ different same_place (flat_map places_of fs) → map placed ns ≡ places rules
  nodes_are ns is = is ∙ ap (different same_place) (by_planted (λ (p : Planted). map (λ q. (p.rule, q)) p.paths) fs rules are) ∙ places_different rules

  pub owners_are : (os : List ForestNode) → map placed os ≡ different same_place (flat_map owners_of fs) → map placed os ≡ owners rules
  owners_are os is = is ∙ ap (different same_place) (by_planted (λ (p : Planted). map (λ q. (p.rule, q)) (filter (λ q. nat_lt 0 (child_count p.tree q)) p.paths)) fs rules are) ∙ owners_different rules

  pub few_kinds : (ns : List ForestNode) → map placed ns ≡ different same_place (flat_map places_of fs) → length (places rules) ≤ MOST_KINDS → length ns ≤ MOST_KINDS
  few_kinds ns is few =
      let left : length (map placed ns) ≡ length ns = length-map ns placed in
      let same = ap length (nodes_are ns is) in
      omega (arith, left, same, few)

  pub too_many : (guards : List Guard) (n : ℕ) (f : Formulas) → IsNumbering rules guards n f → (os : List ForestNode) → map placed os ≡ different same_place (flat_map owners_of fs)
      → (b : Bool) → (b ≡ true) ↔ (n + length f.keys.keys + length os + length f.seen ≤ MOST_ATOMS) → b ≡ false → MOST_ATOMS < n + length (auxiliaries rules guards)
  too_many guards n f is os own b test no' =
      let all' = all_counted rules guards n f is os (owners_are os own) in
      let more : MOST_ATOMS < n + length f.keys.keys + length os + length f.seen = elim (cases_lt MOST_ATOMS (n + length f.keys.keys + length os + length f.seen)) [
        | inl past ↦ past
        | inr few ↦ absurd (both_ways b no' (test.1 few))
      ] in
      omega (arith, all', more)
