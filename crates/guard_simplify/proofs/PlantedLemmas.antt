-- The forests that are kept are those of the rules, one after another.
use Rattle.std.proofs.Common.{◌≡◌, ℕ, suc, ◌+◌, ◌<◌, Bool, List, [], ◌∷◌, ◌++◌, length, map, refl, ap, ◌∙◌, subst, arith}
use Rattle.std.specs.List.{flat_map}
use Rattle.std.proofs.lemmas.List.{map-append}
use Rattle.std.proofs.lemmas.List.Elements.{All-nil, All-cons}
use Rattle.tree_sem.specs.Trees.{LabelTree}
use Rattle.guard_sem.specs.declared.rules.Rule.{Rule}
use Rattle.guard_simplify.specs.declared.forest_nodes.RuleForest.{RuleForest}
use Rattle.guard_simplify.specs.Auxiliaries.{forest_of, nodes_of, by_rule}
use Rattle.guard_simplify.specs.Simplified.{is_beside}
use Rattle.guard_simplify.specs.Forests.{Planted, planted, planting, plantings, AreBelow}
use Rattle.guard_simplify.proofs.RuleLists.{pushed_next}

pub planted_is : (i : ℕ) (r : Rule) (t : LabelTree) (qs : List (List ℕ)) (beside : Bool) → t ≡ forest_of r → qs ≡ nodes_of r → beside ≡ is_beside r.action
    → ◌≡◌ {A = Planted} (record { rule = i; tree = t; paths = qs; beside = beside }) (planting i r)
planted_is i r t qs beside tree' paths' beside' = λ j. record { rule = i; tree = tree' j; paths = paths' j; beside = beside' j }

-- one forest more
pub forest_pushed : (old new : List RuleForest) (f : RuleForest) (i : ℕ) (r : Rule) (rules : List Rule) → new ≡ old ++ f ∷ [] → planted f ≡ planting i r → map planted new ++ plantings (i + 1) rules ≡ map planted old ++ plantings i (r ∷ rules)
forest_pushed old new f i r rules last is =
    pushed_next (λ i r. planting i r ∷ []) (map planted old) (map planted new) i r rules (ap (map planted) last ∙ map-append planted old (f ∷ []) ∙ ap (λ (p : Planted). map planted old ++ p ∷ []) is)

flat_map_planted : {X : Type 0} (g : Planted → List X) (fs : List RuleForest) → flat_map (λ f. g (planted f)) fs ≡ flat_map g (map planted fs)
flat_map_planted g [] = refl
flat_map_planted g (f ∷ fs) = ap (λ z. g (planted f) ++ z) (flat_map_planted g fs)

flat_map_plantings : {X : Type 0} (g : Planted → List X) (i : ℕ) (rules : List Rule) → flat_map g (plantings i rules) ≡ by_rule (λ i r. g (planting i r)) i rules
flat_map_plantings g i [] = refl
flat_map_plantings g i (r ∷ rules) = ap (λ z. g (planting i r) ++ z) (flat_map_plantings g (suc i) rules)

-- what forests give is what their rules give
pub by_planted : {X : Type 0} (g : Planted → List X) (fs : List RuleForest) (rules : List Rule) → map planted fs ≡ plantings 0 rules → flat_map (λ f. g (planted f)) fs ≡ by_rule (λ i r. g (planting i r)) 0 rules
by_planted g fs rules are = flat_map_planted g fs ∙ ap (flat_map g) are ∙ flat_map_plantings g 0 rules

below_from : (i : ℕ) (rules : List Rule) (fs : List RuleForest) → map planted fs ≡ plantings i rules → AreBelow (i + length rules) fs
below_from i [] [] are = All-nil (λ (f : RuleForest). f.rule < i + 0)
below_from i [] (f ∷ fs) are = cc
below_from i (r ∷ rules) [] are = cc
below_from i (r ∷ rules) (f ∷ fs) are =
    let first : planted f ≡ planting i r = cc in
    let rest : map planted fs ≡ plantings (suc i) rules = cc in
    let number : f.rule ≡ i = ap (λ (p : Planted). p.rule) first in
    let more : AreBelow (i + length (r ∷ rules)) fs = subst (λ k. AreBelow k fs) {x = suc i + length rules} (omega arith) (below_from (suc i) rules fs rest) in
    All-cons (λ (f : RuleForest). f.rule < i + length (r ∷ rules)) f fs (omega (arith, number)) more

pub are_below : (rules : List Rule) (fs : List RuleForest) → map planted fs ≡ plantings 0 rules → AreBelow (length rules) fs
are_below rules fs are = subst (λ k. AreBelow k fs) {x = 0 + length rules} (omega arith) (below_from 0 rules fs are)
