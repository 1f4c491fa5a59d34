-- The cells that the first round may change are listed.
use Rattle.std.proofs.Common.{◌≡◌, ◌≢◌, ◌⊎◌, ℕ, ◌<◌, true, false, List, [], ◌++◌, map, filter, length, All, Contains, refl, sym, ap, subst, ◌∙◌, inl, inr}
use Rattle.std.specs.List.{range_with_len}
use Rattle.std.proofs.lemmas.Bool.{cases_Bool}
use Rattle.std.proofs.lemmas.List.Elements.{All-contains, Contains-append_left, Contains-append_right, Contains-append_cases}
use Rattle.tp_base.specs.Classes.{has_class, union_of}
use Rattle.tp_base.proofs.ClassLemmas.{has_class-Contains, Contains-has_class, union_of-keeps_left, union_of-keeps_right, Contains-union_of}
use Rattle.tp_base.proofs.Lists.{Contains-flat_map, flat_map-Contains}
use Rattle.tp_base.proofs.Rising.{All-from_Contains, Contains-none}
use Rattle.tree_sem.proofs.NodeLemmas.{Contains-map, map-Contains}
use Rattle.class_diagrams.specs.References.{Reference, leaf_reference}
use Rattle.class_diagrams.specs.Trees.{Tree, leaf}
use Rattle.class_diagrams.specs.Arena.{tree_at}
use Rattle.row_index.specs.Rows.{row_of}
use Rattle.simple_core.specs.declared.rules.Local.{Local}
use Rattle.simple_core.specs.declared.rules.Link.{Link}
use Rattle.simple_core.specs.declared.rules.Spawn.{Spawn}
use Rattle.simple_core.specs.declared.system.System.{System}
use Rattle.simple_core.specs.Systems.{kind_label, IsSound}
use Rattle.simple_core.proofs.Members.{Contains-range, range-Contains, Contains-filter, filter-Contains}
use Rattle.pushdown_sym.specs.CellMap.{Entries, place_in, trees_in}
use Rattle.pushdown_sym.specs.Terms.{CellTrees}
use Rattle.pushdown_sym.specs.Rounds.{cell, given_atoms}
use Rattle.saturation.specs.Histories.{start_place}
use Rattle.saturation.specs.Reads.{IsRead, by_rule, by_child}
use Rattle.saturation.specs.Waking.{CellName, Fits, named_each, AreReaders, AreEnds, HaveChanged}
use Rattle.saturation.specs.Starting.{is_none, bare_gives, labelled, labelled_each, AreFirst}
use Rattle.saturation.proofs.GivenLemmas.{given_local, given_up}
use Rattle.saturation.proofs.WakingLemmas.{named_there, there_named}

module _ (s : System) where
  -- before the cells of the labels there was nothing
  abbrev pub nothing : CellTrees
  nothing j a = leaf false

  pub label_there : (labels : List (CellName × Reference)) → labels ≡ labelled_each s (length s.kinds) → (j a : ℕ) → j < length s.kinds → Contains (kind_label s j) a
      → Contains {X = CellName × Reference} labels ((j, a), leaf_reference true)
  label_there labels are j a kind there = subst (λ (z : List (CellName × Reference)). Contains z ((j, a), leaf_reference true)) (sym are)
      (Contains-flat_map {X = ℕ} {Y = CellName × Reference} (λ i. labelled i (kind_label s i)) (range_with_len 0 (length s.kinds)) j ((j, a), leaf_reference true) (Contains-range (length s.kinds) j kind)
      (Contains-map {X = ℕ} {Y = CellName × Reference} (λ b. ((j, b), leaf_reference true)) (kind_label s j) a there))

  pub labels_below : (labels : List (CellName × Reference)) → labels ≡ labelled_each s (length s.kinds) → All (λ c. c.0.0 < length s.kinds) labels
  labels_below labels are = All-from_Contains (λ c. c.0.0 < length s.kinds) labels (λ c there.
      let found = flat_map-Contains {X = ℕ} {Y = CellName × Reference} (λ i. labelled i (kind_label s i)) (range_with_len 0 (length s.kinds)) c (subst (λ (z : List (CellName × Reference)). Contains z c) are there) in
      let one = map-Contains {X = ℕ} {Y = CellName × Reference} (λ b. ((found.0, b), leaf_reference true)) (kind_label s found.0) c found.2 in
      subst (λ z. z < length s.kinds) (sym (ap (λ (d : CellName × Reference). d.0.0) one.2)) (range-Contains (length s.kinds) found.0 found.1))

  pub no_ends : (ends : List (List ℕ)) → ends ≡ [] → AreEnds s nothing (row_of ends)
  no_ends ends none = record {
    whole = λ l listed c in_child some. absurd (some refl);
    only = λ m a there. absurd (Contains-none a (subst (λ (z : List (List ℕ)). Contains (row_of z m) a) none there));
  }

module _ (s : System) (branches : List Tree) (cells : Entries) (start : (j a : ℕ) → place_in cells j a ≡ start_place s j a) where
  pub starts_as : (j a : ℕ) → trees_in branches cells j a ≡ cell s 0 j a
  starts_as j a = ap (tree_at branches) (start j a)

  some_there : (j a : ℕ) → Contains (kind_label s j) a → trees_in branches cells j a ≢ leaf false
  some_there j a there none =
      let never : leaf true ≡ leaf false = ap leaf (sym (has_class-Contains a (kind_label s j) there)) ∙ sym (starts_as j a) ∙ none in cc

  module _ (labels : List (CellName × Reference)) (labels_are : labels ≡ labelled_each s (length s.kinds)) where
    pub all_changed : HaveChanged s (nothing s) (trees_in branches cells) labels
    all_changed i b kind some = elim (cases_Bool (has_class b (kind_label s i))) [
      | inl has ↦ inr (leaf_reference true, label_there s labels labels_are i b kind (Contains-has_class b (kind_label s i) has))
      | inr lacks ↦ absurd (some (starts_as i b ∙ ap leaf lacks))
    ]

    module _ (sound : IsSound s) (anywhere : List ℕ) (all : anywhere ≡ union_of (union_of [] (map (λ (l : Link). l.to) s.up)) (bare_gives s.local))
        (read todo once : List CellName) (readers : AreReaders s (trees_in branches cells) labels read) (listed : todo ≡ read ++ named_each (range_with_len 0 (length s.kinds)) anywhere)
        (kept : (c : CellName) → Contains todo c → Contains once c) (only : (c : CellName) → Contains once c → Contains todo c) where
      abbrev ups : List ℕ
      ups = map (λ (l : Link). l.to) s.up

      abbrev others : List CellName
      others = named_each (range_with_len 0 (length s.kinds)) anywhere

      from_anywhere : (j a : ℕ) → j < length s.kinds → Contains anywhere a → Contains {X = CellName} once (j, a)
      from_anywhere j a kind there = kept (j, a) (subst (λ (z : List CellName). Contains z (j, a)) (sym listed)
          (Contains-append_right read others (j, a) (named_there (range_with_len 0 (length s.kinds)) anywhere j a (Contains-range (length s.kinds) j kind) there)))

      from_label : (i b j a : ℕ) → i < length s.kinds → Contains (kind_label s i) b → j < length s.kinds → IsRead s (trees_in branches cells) i b j a → Contains {X = CellName} once (j, a)
      from_label i b j a kind there below reads = kept (j, a) (subst (λ (z : List CellName). Contains z (j, a)) (sym listed)
          (Contains-append_left read others (j, a) (readers.readers i b j a (leaf_reference true) (label_there s labels labels_are i b kind there) below reads)))

      is_anywhere : (a : ℕ) → Contains ups a ⊎ Contains (bare_gives s.local) a → Contains anywhere a
      is_anywhere a of = subst (λ (z : List ℕ). Contains z a) (sym all) (elim of [
        | inl up ↦ union_of-keeps_left (union_of [] ups) (bare_gives s.local) a (union_of-keeps_right [] ups a up)
        | inr bare ↦ union_of-keeps_right (union_of [] ups) (bare_gives s.local) a bare
      ])

      given_somewhere : (a : ℕ) → Contains anywhere a → Contains (given_atoms s) a
      given_somewhere a there = elim ((Contains-union_of (union_of [] ups) (bare_gives s.local) a).0 (subst (λ (z : List ℕ). Contains z a) all there)) [
        | inr bare ↦
            let r = map-Contains (λ (r : Local). r.gives) (filter (λ (r : Local). is_none r.needs) s.local) a bare in
            subst (λ z. Contains (given_atoms s) z) (sym r.2) (given_local s r.0 (filter-Contains (λ (r : Local). is_none r.needs) s.local r.0 r.1).0)
        | inl links ↦ elim ((Contains-union_of [] ups a).0 links) [
          | inr there ↦ let l = map-Contains (λ (l : Link). l.to) s.up a there in subst (λ z. Contains (given_atoms s) z) (sym l.2) (given_up s l.0 l.1)
          | inl never ↦ absurd (Contains-none a never)
        ]
      ]

      fits_other : (c : CellName) → Contains others c → Fits s c
      fits_other c there =
          let both = there_named (range_with_len 0 (length s.kinds)) anywhere c there in
          (range-Contains (length s.kinds) c.0 both.0, given_somewhere c.1 both.1)

      kind_of : (c : Spawn) → Contains s.child c → c.kind < length s.kinds
      kind_of c in_child = All-contains (λ (c : Spawn). c.kind < length s.kinds) s.child c sound.spawned in_child

      pub are_first : AreFirst s once
      are_first = record {
        up = λ l there j kind. from_anywhere j l.to kind (is_anywhere l.to (inl (Contains-map (λ (l : Link). l.to) s.up l there)));
        down = λ l there c in_child j kind maker child. from_label c.kind l.from j l.to (kind_of c in_child) child kind
            (by_child l there refl c in_child refl refl (some_there j c.needs maker));
        bare = λ r there none j kind. from_anywhere j r.gives kind (is_anywhere r.gives (inr
            (Contains-map (λ (r : Local). r.gives) (filter (λ (r : Local). is_none r.needs) s.local) r (Contains-filter (λ (r : Local). is_none r.needs) s.local r there (ap is_none none)))));
        needing = λ r there b j needs kind label. from_label j b j r.gives kind label kind (by_rule r there refl needs refl);
        cells = All-from_Contains (Fits s) once (λ c there. elim (Contains-append_cases read others c (subst (λ (z : List CellName). Contains z c) listed (only c there))) [
          | inl first ↦ All-contains (Fits s) read c readers.cells first
          | inr other ↦ fits_other c other
        ]);
      }
