-- The steps of a system: one rule, applied at one node.
--     IsLegal s t step       the rule is one of s, and the tree has the atoms that it looks at
--     end_of t steps         the tree after the steps
--     AreLegal s t steps     each step is legal in the tree before it
use Rattle.std.specs.Prelude.{◌≡◌, ℕ, List, [], ◌∷◌, ◌++◌, Contains}
use Rattle.tree_sem.specs.Trees.{LabelTree, edit_at, add_class, add_child}
use Rattle.tree_sem.specs.Nodes.{IsNode, HasAtom, HasAtoms}
use Rattle.tree_sem.specs.Series.{AreLegalBy, end_by}
use Rattle.simple_core.specs.declared.rules.Local.{Local}
use Rattle.simple_core.specs.declared.rules.Link.{Link}
use Rattle.simple_core.specs.declared.rules.Spawn.{Spawn}
use Rattle.simple_core.specs.declared.system.System.{System}
use Rattle.simple_core.specs.Systems.{kind_label}

-- a rule of one of the lists, and the path of the node that gets an atom or a child
pub data SimpleStep : Type 0 where
  by_local : Local → List ℕ → SimpleStep
  by_up : Link → List ℕ → SimpleStep
  by_down : Link → List ℕ → SimpleStep
  by_spawn : Spawn → List ℕ → SimpleStep

-- `up` looks at the parent, and `down` at some child
abbrev pub IsLegal : System → LabelTree → SimpleStep → Type 0
IsLegal s t (by_local r v) = Contains s.local r × HasAtoms t v r.needs
IsLegal s t (by_up l v) = Contains s.up l × IsNode t v × (p : List ℕ) × (n : ℕ) × (v ≡ p ++ n ∷ []) × HasAtom t p l.from
IsLegal s t (by_down l v) = Contains s.down l × (n : ℕ) × HasAtom t (v ++ n ∷ []) l.from
IsLegal s t (by_spawn c v) = Contains s.child c × HasAtom t v c.needs

abbrev pub after_step : System → LabelTree → SimpleStep → LabelTree
after_step s t (by_local r v) = edit_at v (add_class r.gives) t
after_step s t (by_up l v) = edit_at v (add_class l.to) t
after_step s t (by_down l v) = edit_at v (add_class l.to) t
after_step s t (by_spawn c v) = edit_at v (add_child (kind_label s c.kind)) t

abbrev pub end_of : System → LabelTree → List SimpleStep → LabelTree
end_of s t steps = end_by (λ t s step. after_step s t step) t s steps

abbrev pub AreLegal : System → LabelTree → List SimpleStep → Type 0
AreLegal s t steps = AreLegalBy (λ t s step. IsLegal s t step) (λ t s step. after_step s t step) t s steps
