-- A system that reads right: the atom 0 lets the statement 0 add a child with the atom 1, which is what the target 2 looks for.
use Rattle.std.proofs.Common.{◌≡◌, ℕ, zero, suc, true, false, if◌then◌else◌, List, [], ◌∷◌, ◌++◌, length, Contains, Some, None, IsSome, slice_get, refl, sym, ap, ◌∙◌, subst, arith}
use Rattle.tp_base.proofs.Lists.{Contains-only}
use Rattle.tp_base.proofs.Rising.{Contains-none}
use Rattle.tree_sem.specs.Trees.{LabelTree, leaf, no_nodes, tree_of, node_at, edit_at}
use Rattle.tree_sem.specs.Actions.{add_trees}
use Rattle.simple_core.specs.declared.rules.Kind.{Kind}
use Rattle.simple_core.specs.declared.rules.Link.{Link}
use Rattle.simple_core.specs.declared.rules.Local as rule
use Rattle.simple_core.specs.declared.rules.Spawn.{Spawn}
use Rattle.simple_core.specs.declared.system.System.{System}
use Rattle.simple_core.specs.Systems.{kind_label}
use Rattle.tree_sem.specs.Nodes.{HasAtom}
use Rattle.tree_sem.proofs.GrowthLemmas.{HasAtom-grows}
use Rattle.proof_core.specs.Readings.{step_at, Reading, IsReading}
use Rattle.proof_check.specs.Unfolding.{forest_children}
use Rattle.proof_core.proofs.KeepLemmas.{kept_node, node_has, has_there}

abbrev the_rule : rule.Local
the_rule = record { needs = 1 ∷ []; gives = 2; stmt = None }

abbrev the_link : Link
the_link = record { from = 2; to = 2 }

abbrev the_spawn : Spawn
the_spawn = record { needs = 0; kind = 0 }

abbrev the_kind : Kind
the_kind = record { label = 1 ∷ []; stmt = 0; above = None; number = 0; siblings = 1; beside = false }

abbrev system : System
system = record { local = the_rule ∷ []; up = []; down = the_link ∷ []; child = the_spawn ∷ []; kinds = the_kind ∷ []; visible = [] }

abbrev page : LabelTree
page = leaf (0 ∷ [])

abbrev means : LabelTree → List ℕ → ℕ → Type 0
means t v zero = HasAtom t v 0
means t v (suc zero) = HasAtom t v 1
means t v (suc (suc a)) = IsSome (node_at v t)

abbrev reading : Reading
reading = record {
  system = system;
  kind_tree = λ j. leaf (1 ∷ []);
  Legal = λ t step. HasAtom t step.at 0;
  after = λ t step. edit_at step.at (add_trees (leaf (1 ∷ []) ∷ [])) t;
  Means = means;
  target = 2;
  Goal = λ t v. HasAtom t v 1;
}

it_reads : IsReading reading page
it_reads = record {
  means_kept = λ t u keeps v a is. means_more t u v a (λ b has. HasAtom-grows t u keeps v b has) (λ node. kept_node t u keeps v node) is;
  goal_kept = λ t u keeps v is. HasAtom-grows t u keeps v 1 is;
  page_label = λ v a has. labelled v a has;
  kind_labels = λ j t x v at more a is. of_kind j t x v at more a is;
  local = λ x in' none t v node needs. subst (λ (r : rule.Local). means t v r.gives) (Contains-only the_rule x in') node;
  act = λ x in' s some t v node needs. let same = Contains-only the_rule x in' in let never : None ≡ Some s = ap (λ (r : rule.Local). r.stmt) same ∙ some in cc;
  up = λ link in' t p k node is. absurd (Contains-none link in');
  down = λ link in' t v k node is. subst (λ (l : Link). means t v l.to) (Contains-only the_link link in') node;
  inside = λ c kind in' at above plain t v node is. let same = Contains-only the_spawn c in' in subst (λ (s : Spawn). means t v s.needs) (sym same) is;
  beside = λ c kind in' at above yes' link in'' to t v k is.
      let same = Contains-only the_spawn c in' in
      let at' : Some the_kind ≡ Some kind = ap (λ (s : Spawn). slice_get system.kinds s.kind) same ∙ at in
      let one : the_kind ≡ kind = cc in
      let never : false ≡ true = ap (λ (k : Kind). k.beside) one ∙ yes' in cc;
  tops = λ i kind at above. top_of i kind at;
  inner = λ i j kind at above. none_inner i j kind at above;
  children = λ j is. no_children j is;
  target_page = λ v has. not_there v has;
  target_kind = λ j is. no_kind j is;
  target_local = λ x in' gives t v needs. let same = Contains-only the_rule x in' in needs 1 (subst (λ (r : rule.Local). Contains r.needs 1) same (0, omega arith, refl));
  target_up = λ link in' to. Contains-none link in';
  target_down = λ link in' to. sym (ap (λ (l : Link). l.from) (Contains-only the_link link in'));
}
  where
    means_more : (t u : LabelTree) (v : List ℕ) (a : ℕ) → ((b : ℕ) → HasAtom t v b → HasAtom u v b) → (IsSome (node_at v t) → IsSome (node_at v u)) → means t v a → means u v a
    means_more t u v zero f g is = f 0 is
    means_more t u v (suc zero) f g is = f 1 is
    means_more t u v (suc (suc a)) f g is = g is

    labelled : (v : List ℕ) (a : ℕ) → HasAtom page v a → means page v a
    labelled v zero has = has
    labelled v (suc zero) has = has
    labelled v (suc (suc a)) has = has_there page v (suc (suc a)) has

    of_kind : (j : ℕ) (t x : LabelTree) (v : List ℕ) → node_at v t ≡ Some x → ((a : ℕ) → Contains (1 ∷ []) a → Contains x.label a) → (a : ℕ) → Contains (kind_label system j) a → means t v a
    of_kind zero t x v at more a is = subst (means t v) (Contains-only 1 a is) (node_has t x v 1 at (more 1 (0, omega arith, refl)))
    of_kind (suc j) t x v at more a is = absurd (Contains-none a is)

    top_of : (i : ℕ) (kind : Kind) → slice_get system.kinds i ≡ Some kind → (trees : List LabelTree) × (slice_get trees kind.number ≡ Some (leaf (1 ∷ []))) × (length trees ≡ kind.siblings)
        × ((t : LabelTree) (v : List ℕ) (k : ℕ) → reading.after t (step_at kind.stmt (if kind.beside then v ++ k ∷ [] else v)) ≡ edit_at v (add_trees trees) t)
    top_of zero kind at =
        let one : the_kind ≡ kind = cc in
        subst (λ (kind : Kind). (trees : List LabelTree) × (slice_get trees kind.number ≡ Some (leaf (1 ∷ []))) × (length trees ≡ kind.siblings)
        × ((t : LabelTree) (v : List ℕ) (k : ℕ) → reading.after t (step_at kind.stmt (if kind.beside then v ++ k ∷ [] else v)) ≡ edit_at v (add_trees trees) t)) one
        (leaf (1 ∷ []) ∷ [], refl, refl, λ t v k. refl)
    top_of (suc i) kind at = cc

    none_inner : (i j : ℕ) (kind : Kind) → slice_get system.kinds i ≡ Some kind → kind.above ≡ Some j → tree_of no_nodes kind.number ≡ Some (leaf (1 ∷ []))
    none_inner zero j kind at above = let one : the_kind ≡ kind = cc in let never : None ≡ Some j = ap (λ (k : Kind). k.above) one ∙ above in cc
    none_inner (suc i) j kind at above = cc

    no_children : (j : ℕ) → IsSome (slice_get system.kinds j) → 0 ≡ forest_children system j
    no_children zero is = refl
    no_children (suc j) is = cc

    not_there : (v : List ℕ) → HasAtom page v 2 → ⊥
    not_there [] has = let never = Contains-only 0 2 has in omega (arith, never)
    not_there (k ∷ q) has = has

    no_kind : (j : ℕ) → Contains (kind_label system j) 2 → ⊥
    no_kind zero is = let never = Contains-only 1 2 is in omega (arith, never)
    no_kind (suc j) is = Contains-none 2 is
