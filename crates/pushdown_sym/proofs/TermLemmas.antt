-- What a round gives to a cell.
use Rattle.std.proofs.Common.{◌≡◌, ℕ, Bool, true, false, ◌&&◌, ◌||◌, ◌==◌, List, [], ◌∷◌, ◌++◌, map, refl, sym, ap, ◌∙◌}
use Rattle.std.specs.List.{filter, list_any, list_all}
use Rattle.std.proofs.lemmas.List.Folds.{list_any-append}
use Rattle.tp_base.specs.Classes.{has_class}
use Rattle.tp_base.proofs.Truths.{or_false, or_assoc, cond_itself}
use Rattle.class_diagrams.specs.Trees.{Tree, leaf, eval, tand, tor, variable}
use Rattle.class_diagrams.proofs.CombineLemmas.{eval-tand, eval-tor}
use Rattle.diagram_ops.specs.Compositions.{tcompose}
use Rattle.simple_core.specs.declared.rules.Link.{Link}
use Rattle.simple_core.specs.declared.rules.Spawn.{Spawn}
use Rattle.simple_core.specs.declared.system.System.{System}
use Rattle.pushdown_sym.specs.Terms.{CellTrees, Term, conjunction, local_term, up_term, down_term, local_terms, up_terms, down_terms, terms, disjunction, next_tree}
use Rattle.pushdown_sym.proofs.Tests.{any_map, any_filter, any_flat_map, any_same}

and_assoc : (u v w : Bool) → ((u && v) && w) ≡ (u && (v && w))
and_assoc true v w = refl
and_assoc false v w = refl

and_true : (v : Bool) → v ≡ (v && true)
and_true true = refl
and_true false = refl

eval-conjunction : (now : CellTrees) (j : ℕ) (sofar : Tree) (atoms p : List ℕ)
    → eval (conjunction now j sofar atoms) p ≡ (eval sofar p && list_all (λ a. eval (now j a) p) atoms)
eval-conjunction now j sofar [] p = and_true (eval sofar p)
eval-conjunction now j sofar (a ∷ atoms) p =
    eval-conjunction now j (tand sofar (now j a)) atoms p
    ∙ ap (λ b. b && list_all (λ a. eval (now j a) p) atoms) (eval-tand sofar (now j a) p)
    ∙ and_assoc (eval sofar p) (eval (now j a) p) (list_all (λ a. eval (now j a) p) atoms)

eval-disjunction : (sofar : Tree) (ts : List Term) (p : List ℕ) → eval (disjunction sofar ts) p ≡ (eval sofar p || list_any (λ t. eval t.tree p) ts)
eval-disjunction sofar [] p = sym (or_false (eval sofar p))
eval-disjunction sofar (t ∷ ts) p =
    eval-disjunction (tor sofar t.tree) ts p
    ∙ ap (λ b. b || list_any (λ t. eval t.tree p) ts) (eval-tor sofar t.tree p)
    ∙ or_assoc (eval sofar p) (eval t.tree p) (list_any (λ t. eval t.tree p) ts)

-- ### what the rules give under a label

module _ (s : System) (now : CellTrees) (j a : ℕ) (p : List ℕ) where
  abbrev pub by_local_rules : Bool
  by_local_rules = list_any (λ r. (r.gives == a) && list_all (λ b. eval (now j b) p) r.needs) s.local

  abbrev pub by_up_links : Bool
  by_up_links = list_any (λ l. (l.to == a) && has_class l.from p) s.up

  abbrev pub by_down_links : Bool
  by_down_links = list_any (λ l. (l.to == a) && list_any (λ c. eval (now j c.needs) p && eval (tcompose (now c.kind l.from) (now j)) p) s.child) s.down

  any_local : list_any (λ t. eval t.tree p) (local_terms s now j a) ≡ by_local_rules
  any_local =
      any_map (λ t. eval t.tree p) (local_term now j) (filter (λ r. r.gives == a) s.local)
      ∙ any_filter (λ r. eval (conjunction now j (leaf true) r.needs) p) (λ r. r.gives == a) s.local
      ∙ any_same (λ r. (r.gives == a) && eval (conjunction now j (leaf true) r.needs) p) (λ r. (r.gives == a) && list_all (λ b. eval (now j b) p) r.needs) s.local
      (λ r there. ap (λ b. (r.gives == a) && b) (eval-conjunction now j (leaf true) r.needs p))

  any_up : list_any (λ t. eval t.tree p) (up_terms s a) ≡ by_up_links
  any_up =
      any_map (λ t. eval t.tree p) up_term (filter (λ l. l.to == a) s.up)
      ∙ any_filter (λ (l : Link). eval (variable l.from) p) (λ l. l.to == a) s.up
      ∙ any_same (λ (l : Link). (l.to == a) && eval (variable l.from) p) (λ l. (l.to == a) && has_class l.from p) s.up
      (λ l there. ap (λ b. (l.to == a) && b) (cond_itself (has_class l.from p)))

  any_down : list_any (λ t. eval t.tree p) (down_terms s now j a) ≡ by_down_links
  any_down =
      any_flat_map (λ t. eval t.tree p) (λ l. map (down_term now j l) s.child) (filter (λ l. l.to == a) s.down)
      ∙ any_filter (λ (l : Link). list_any (λ t. eval t.tree p) (map (down_term now j l) s.child)) (λ l. l.to == a) s.down
      ∙ any_same (λ (l : Link). (l.to == a) && list_any (λ t. eval t.tree p) (map (down_term now j l) s.child))
      (λ l. (l.to == a) && list_any (λ c. eval (now j c.needs) p && eval (tcompose (now c.kind l.from) (now j)) p) s.child) s.down
      (λ l there. ap (λ b. (l.to == a) && b)
      (any_map (λ t. eval t.tree p) (down_term now j l) s.child
      ∙ any_same (λ (c : Spawn). eval (tand (now j c.needs) (tcompose (now c.kind l.from) (now j))) p)
      (λ c. eval (now j c.needs) p && eval (tcompose (now c.kind l.from) (now j)) p) s.child
      (λ c in_child. eval-tand (now j c.needs) (tcompose (now c.kind l.from) (now j)) p)))

  pub eval-next_tree : eval (next_tree s now j a) p ≡ (eval (now j a) p || (by_local_rules || by_up_links || by_down_links))
  unfolding next_tree
  eval-next_tree =
      eval-disjunction (now j a) (terms s now j a) p
      ∙ ap (λ b. eval (now j a) p || b)
      (list_any-append (λ t. eval t.tree p) (local_terms s now j a ++ up_terms s a) (down_terms s now j a)
      ∙ ap (λ b. b || list_any (λ t. eval t.tree p) (down_terms s now j a)) (list_any-append (λ t. eval t.tree p) (local_terms s now j a) (up_terms s a))
      ∙ (λ i. any_local i || any_up i || any_down i))
