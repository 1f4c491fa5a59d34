-- Trees that a system makes of a tree by legal steps, and that grow.
use Rattle.std.proofs.Common.{◌≡◌, ℕ, List, [], ◌∷◌, ◌++◌, Some, None, option_map, IsSome, IsSomeAnd, Contains, refl, sym, ap, ◌∙◌, subst}
use Rattle.tp_base.specs.Classes.{with_class}
use Rattle.tp_base.proofs.ClassLemmas.{with_class-there}
use Rattle.tree_sem.specs.Trees.{LabelTree, node_at, edit_at, add_class, add_child}
use Rattle.tree_sem.specs.Nodes.{IsNode, HasAtom, HasAtoms}
use Rattle.tree_sem.proofs.EditLemmas.{label_at-add_class}
use Rattle.tree_sem.proofs.GrowthLemmas.{grows_itself, grows_both, add_class_grows, add_child_grows}
use Rattle.tree_sem.proofs.NodeLemmas.{HasAtoms-node}
use Rattle.simple_core.specs.declared.rules.Local.{Local}
use Rattle.simple_core.specs.declared.rules.Link.{Link}
use Rattle.simple_core.specs.declared.rules.Spawn.{Spawn}
use Rattle.simple_core.specs.declared.system.System.{System}
use Rattle.simple_core.specs.Systems.{kind_label}
use Rattle.simple_core.specs.SimpleSteps.{SimpleStep, by_local, by_up, by_down, by_spawn, after_step, end_of, AreLegal}
use Rattle.simple_core.specs.Reached.{IsLater, Got}

module _ (s : System) where
  pub end_of-append : (u : LabelTree) (a b : List SimpleStep) → end_of s u (a ++ b) ≡ end_of s (end_of s u a) b
  end_of-append u [] b = refl
  end_of-append u (x ∷ a) b = end_of-append (after_step s u x) a b

  pub AreLegal-append : (u : LabelTree) (a b : List SimpleStep) → AreLegal s u a → AreLegal s (end_of s u a) b → AreLegal s u (a ++ b)
  AreLegal-append u [] b la lb = lb
  AreLegal-append u (x ∷ a) b la lb = (la.0, AreLegal-append (after_step s u x) a b la.1 lb)

  pub later_itself : (u : LabelTree) → IsLater s u u
  later_itself u = record { steps = []; legal = tt; ends = refl; grows = grows_itself u }

  pub later_both : (u u' u'' : LabelTree) → IsLater s u u' → IsLater s u' u'' → IsLater s u u''
  later_both u u' u'' a b = record {
    steps = a.steps ++ b.steps;
    legal = AreLegal-append u a.steps b.steps a.legal (subst (λ z. AreLegal s z b.steps) (sym a.ends) b.legal);
    ends = end_of-append u a.steps b.steps ∙ ap (λ z. end_of s z b.steps) a.ends ∙ b.ends;
    grows = grows_both u u' u'' a.grows b.grows;
  }

  pub got_already : (u : LabelTree) (v : List ℕ) (x : ℕ) → HasAtom u v x → Got s u v x
  got_already u v x has = record { after = u; later = later_itself u; has = has }

  pub then_got : (u w : LabelTree) (v : List ℕ) (x : ℕ) → IsLater s u w → Got s w v x → Got s u v x
  then_got u w v x first got = record { after = got.after; later = later_both u w got.after first got.later; has = got.has }

  has_new : (u : LabelTree) (v : List ℕ) (x : ℕ) → IsNode u v → HasAtom (edit_at v (add_class x) u) v x
  has_new u v x is =
      rw (label_at-add_class v x u)
      (elim (node_at v u) as (λ o. IsSome o → IsSomeAnd (option_map (with_class x) (option_map (λ (n : LabelTree). n.label) o)) (λ l. Contains l x)) [
        | None ↦ λ is. cc
        | Some n ↦ λ is. with_class-there x n.label
      ] is)

  pub got_by_local : (r : Local) → Contains s.local r → (u : LabelTree) (v : List ℕ) → HasAtoms u v r.needs → Got s u v r.gives
  got_by_local r listed u v needs = record {
    after = edit_at v (add_class r.gives) u;
    later = record { steps = by_local r v ∷ []; legal = ((listed, needs), tt); ends = refl; grows = add_class_grows r.gives v u };
    has = has_new u v r.gives (HasAtoms-node u v r.needs needs);
  }

  pub got_by_up : (l : Link) → Contains s.up l → (u : LabelTree) (p : List ℕ) (k : ℕ) → IsNode u (p ++ k ∷ []) → HasAtom u p l.from → Got s u (p ++ k ∷ []) l.to
  got_by_up l listed u p k is has = record {
    after = edit_at (p ++ k ∷ []) (add_class l.to) u;
    later = record { steps = by_up l (p ++ k ∷ []) ∷ []; legal = ((listed, is, p, k, refl, has), tt); ends = refl; grows = add_class_grows l.to (p ++ k ∷ []) u };
    has = has_new u (p ++ k ∷ []) l.to is;
  }

  pub got_by_down : (l : Link) → Contains s.down l → (u : LabelTree) (v : List ℕ) (k : ℕ) → IsNode u v → HasAtom u (v ++ k ∷ []) l.from → Got s u v l.to
  got_by_down l listed u v k is has = record {
    after = edit_at v (add_class l.to) u;
    later = record { steps = by_down l v ∷ []; legal = ((listed, k, has), tt); ends = refl; grows = add_class_grows l.to v u };
    has = has_new u v l.to is;
  }

  pub later_by_spawn : (c : Spawn) → Contains s.child c → (u : LabelTree) (v : List ℕ) → HasAtom u v c.needs → IsLater s u (edit_at v (add_child (kind_label s c.kind)) u)
  later_by_spawn c listed u v has = record { steps = by_spawn c v ∷ []; legal = ((listed, has), tt); ends = refl; grows = add_child_grows (kind_label s c.kind) v u }
