-- What the rules of a system look at.
use Rattle.std.proofs.Common.{◌≡◌, ℕ, List, [], map, Contains, sym, ap, subst, ◌∙◌}
use Rattle.tp_base.specs.Classes.{union_of}
use Rattle.tp_base.proofs.ClassLemmas.{union_of-keeps_left, union_of-keeps_right}
use Rattle.tree_sem.proofs.NodeLemmas.{Contains-map}
use Rattle.simple_core.specs.declared.rules.Link.{Link}
use Rattle.simple_core.specs.declared.rules.Local.{Local}
use Rattle.simple_core.specs.declared.rules.Spawn.{Spawn}
use Rattle.simple_core.specs.declared.system.System.{System}
use Rattle.saturation.specs.Tables.{OfNeeds, OfLinks, OfSpawns, AreReads}

-- from what the tables and the sets were made of
module _ (s : System) (by_needs by_child makers : ℕ → List ℕ) (locals : List Local) (downs : List Link) (spawns : List Spawn)
    (local_is : locals ≡ s.local) (down_is : downs ≡ s.down) (spawn_is : spawns ≡ s.child)
    (needs : OfNeeds locals by_needs) (child : OfLinks downs by_child) (spawned : OfSpawns spawns makers) where
  module _ (needed looked marks : List ℕ) (made : List Spawn) (made_are : made ≡ s.child) (needed_are : needed ≡ union_of [] (map (λ (c : Spawn). c.needs) made))
      (looked_be : looked ≡ union_of (union_of [] s.visible) (map (λ (c : Spawn). c.needs) s.child)) (marks_are : marks ≡ looked) where
    needed_be : needed ≡ union_of [] (map (λ (c : Spawn). c.needs) s.child)
    needed_be = needed_are ∙ ap (λ (cs : List Spawn). union_of [] (map (λ (c : Spawn). c.needs) cs)) made_are

    marks_be : marks ≡ union_of (union_of [] s.visible) (map (λ (c : Spawn). c.needs) s.child)
    marks_be = marks_are ∙ looked_be

    pub all_reads : AreReads s by_needs by_child makers needed marks
    all_reads = record {
      needs = subst (λ (rs : List Local). OfNeeds rs by_needs) local_is needs;
      child = subst (λ (ls : List Link). OfLinks ls by_child) down_is child;
      spawns = subst (λ (cs : List Spawn). OfSpawns cs makers) spawn_is spawned;
      all_needed = λ c listed.
          subst (λ (xs : List ℕ). Contains xs c.needs) (sym needed_be)
          (union_of-keeps_right [] (map (λ (c : Spawn). c.needs) s.child) c.needs (Contains-map (λ (c : Spawn). c.needs) s.child c listed));
      making = λ c listed.
          subst (λ (xs : List ℕ). Contains xs c.needs) (sym marks_be)
          (union_of-keeps_right (union_of [] s.visible) (map (λ (c : Spawn). c.needs) s.child) c.needs (Contains-map (λ (c : Spawn). c.needs) s.child c listed));
      visible = λ b there.
          subst (λ (xs : List ℕ). Contains xs b) (sym marks_be)
          (union_of-keeps_left (union_of [] s.visible) (map (λ (c : Spawn). c.needs) s.child) b (union_of-keeps_right [] s.visible b there));
    }
