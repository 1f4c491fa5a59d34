-- The proof of an atom is valid.
use Rattle.std.proofs.Common.{◌≡◌, ◌≢◌, ◌⊎◌, ℕ, zero, suc, ◌-◌, ◌<◌, ◌≤◌, true, false, cond, ◌==◌, List, [], ◌∷◌, ◌++◌, length, map, filter, bytes_eq, take, Contains, Some, None, IsSome, IsSomeAnd, option_map, unwrap_or, slice_get, inl, inr, refl, sym, ap, ◌∙◌, subst, arith, append-nil}
use Rattle.std.specs.List.{flat_map}
use Rattle.std.proofs.lemmas.Bool.{cases_order, cases_lt, and_parts}
use Rattle.std.proofs.lemmas.Bool.Decides.{Decides-eqb}
use Rattle.std.proofs.lemmas.List.{append_assoc}
use Rattle.std.proofs.lemmas.List.Elements.{Contains-append_cases, Contains-append_right, All-contains}
use Rattle.std.proofs.lemmas.Option.{slice_get_within}
use Rattle.std.proofs.lemmas.Slice.Eq.{bytes_eq-Decides}
use Rattle.tp_base.specs.Classes.{has_class}
use Rattle.tp_base.proofs.ClassLemmas.{Contains-has_class, all_among-All, Contains-cut_to}
use Rattle.tp_base.proofs.Rising.{All-from_Contains, Contains-none}
use Rattle.tp_base.proofs.Lists.{Contains-at, at_Contains, Contains-flat_map, slice_get-take}
use Rattle.tree_sem.specs.Trees.{LabelTree, node_at, label_at, children_at, length_of, tree_of}
use Rattle.tree_sem.proofs.RowLemmas.{there, tree_of-within, child_node_at}
use Rattle.tree_sem.proofs.PathLemmas.{IsSome-parent_of}
use Rattle.tree_sem.specs.Paths.{parent_of}
use Rattle.tree_sem.specs.Nodes.{HasAtom}
use Rattle.tree_sem.proofs.NodeLemmas.{Contains-map, map-Contains}
use Rattle.simple_core.specs.declared.rules.Kind.{Kind}
use Rattle.simple_core.specs.declared.rules.Link.{Link}
use Rattle.simple_core.specs.declared.rules.Local as rule
use Rattle.simple_core.specs.declared.rules.Spawn.{Spawn}
use Rattle.simple_core.specs.declared.system.System.{System}
use Rattle.simple_core.specs.Systems.{kind_label, IsSound as IsSoundSystem}
use Rattle.simple_core.specs.Labels.{visible_in}
use Rattle.simple_core.specs.Rounds.{grown, IsFirst}
use Rattle.simple_core.specs.Pages.{page_round}
use Rattle.simple_core.proofs.Members.{filter-Contains}
use Rattle.simple_core.proofs.LabelLemmas.{Gives, before, local, up, down, next_label-gives}
use Rattle.simple_core.proofs.RoundLemmas.{set_of-is}
use Rattle.simple_core.proofs.PageLemmas.{parent_in, below_in}
use Rattle.proof_check.specs.declared.proofs.Below.TheVariants.{Grown}
use Rattle.proof_check.specs.declared.proofs.Reason.TheVariants.{Down}
use Rattle.proof_check.specs.declared.proofs.ProofItem.{ProofItem}
use Rattle.proof_check.specs.declared.proofs.Entry.{Entry}
use Rattle.proof_check.specs.declared.proofs.PageItem.{PageItem}
use Rattle.proof_check.specs.declared.proofs.Proof.{Proof}
use Rattle.proof_check.specs.Validity.{atoms_of, items_at, IsDown, Place, IsSound, AreSound, in_entry, at_page, ArePlaced, IsValid}
use Rattle.proof_needs.specs.Choices.{on_page, on_added, Choice, at_start, by_local, by_up, by_real, by_spawn, from_up, from_down, needs_of, spawn_needs, spawn_kind, stands, chosen}
use Rattle.proof_maker.specs.Forests.{KeepsForests}
use Rattle.proof_maker.specs.Needs.{setting_at, path_at, labels_at, IsChosen, triple_by, Needed, goal, top, by_rule, by_parent, by_child, by_spawner, by_entry, Walks, done, seen, new, named_by, entry_names, IsReason, IsItem, IsNeededAbove, IsEntryOf, IsCanonical}
use Rattle.proof_needs.specs.Triples.{Triple, Spot, page_node, added}
use Rattle.proof_maker.proofs.ChoiceLemmas.{find_there, IsWay, chosen_is, below_of}

-- first rounds
pub first_one : (f : ℕ → List ℕ) (a m n : ℕ) → IsFirst f a (Some m) → IsFirst f a (Some n) → m ≡ n
first_one f a m n x y = elim (cases_order m n) [
  | inl same ↦ same
  | inr (inl less) ↦ absurd (y.1 m less x.0)
  | inr (inr more) ↦ absurd (x.1 n more y.0)
]

pub first_by : (f : ℕ → List ℕ) (a m k : ℕ) → IsFirst f a (Some m) → Contains (f k) a → m ≤ k
first_by f a m k x is = elim (cases_lt k m) [ inl less ↦ absurd (x.1 k less is) | inr le ↦ le ]

pub slice_get-untake : {X : Type 0} (xs : List X) (n j : ℕ) (x : X) → slice_get (take n xs) j ≡ Some x → slice_get xs j ≡ Some x
slice_get-untake [] zero j x at = at
slice_get-untake [] (suc n) j x at = at
slice_get-untake (y ∷ xs) zero j x at = cc
slice_get-untake (y ∷ xs) (suc n) zero x at = at
slice_get-untake (y ∷ xs) (suc n) (suc j) x at = slice_get-untake xs n j x at

-- the walk numbers each entry after those that it names
pub walked_lower : (names : ℕ → List ℕ) (n m : ℕ) (es : List ℕ) → Walks names n es m → (n ≤ m) × ((e : ℕ) → Contains es e → e < m) × ((k f : ℕ) → n ≤ k → k < m → Contains (names k) f → f < k)
walked_lower names n m es (done p) = (omega arith, λ e is. absurd (Contains-none e is), λ k f le lt is. absurd (omega arith))
walked_lower names n m es (seen p e q rest lt w) =
    let r = walked_lower names n m rest w in
    (r.0, λ x is. elim (Contains-append_cases (e ∷ []) rest x is) [ inl here ↦ let same = only e x here in omega (arith, same, lt, r.0) | inr later ↦ r.1 x later ], r.2)
  where
    only : (e x : ℕ) → Contains (e ∷ []) x → e ≡ x
    only e x (zero, within, at) = at
    only e x (suc k, within, at) = absurd (omega arith)
walked_lower names n m es (new p e q rest first w) =
    let a = walked_lower names n e (names e) first in
    let b = walked_lower names (suc e) m rest w in (
      omega (arith, a.0, b.0),
      λ x is. elim (Contains-append_cases (e ∷ []) rest x is) [ inl here ↦ let same = only e x here in omega (arith, same, b.0) | inr later ↦ b.1 x later ],
      λ k f le lt is. elim (cases_order k e) [
        | inl same ↦ let there : f < e = a.1 f (subst (λ z. Contains (names z) f) same is) in omega (arith, same, there)
        | inr (inl less) ↦ a.2 k f le less is
        | inr (inr more) ↦ b.2 k f (omega arith) lt is
      ],
    )
  where
    only : (e x : ℕ) → Contains (e ∷ []) x → e ≡ x
    only e x (zero, within, at) = at
    only e x (suc k, within, at) = absurd (omega arith)

module _ (s : System) (page : LabelTree) where
  abbrev pub label_of : Spot → ℕ → List ℕ
  label_of spot k = labels_at s page spot k

  -- what a spot has in a round is given by the round before
  pub gives_at : (spot : Spot) (k a : ℕ) → Contains (label_of spot (suc k)) a
      → Gives s ((setting_at s page spot).above k (path_at s page spot)) (label_of spot k) (below_of s (setting_at s page spot) k (path_at s page spot)) a
  gives_at (page_node v) k a is = next_label-gives s (parent_in s page k v) (page_round s page k v) (below_in s page k v) a is
  gives_at (added t) k a is = next_label-gives s t.parent (grown s k t.kind t.parent) (below_of s (on_added s t.kind t.parent) k []) a is

  -- what is chosen for an atom that comes later than at the start
  pub chosen_stands : (spot : Spot) (a k : ℕ) → IsFirst (label_of spot) a (Some (suc k)) → (w : Choice) × (chosen s (setting_at s page spot) (path_at s page spot) a (suc k) ≡ w)
      × IsWay s (setting_at s page spot) (path_at s page spot) a w × (stands s (setting_at s page spot) k (path_at s page spot) w ≡ true)
  chosen_stands spot a k first =
      let c = chosen_is s (setting_at s page spot) k (path_at s page spot) a (gives_at spot k a first.0) (first.1 k (omega arith)) in
      (chosen s (setting_at s page spot) (path_at s page spot) a (suc k), refl, c.0, c.1)

  -- at the start a spot has the atoms of the page, or of its kind
  abbrev pub AtStart : Spot → ℕ → Type 0
  AtStart (page_node v) a = Contains (unwrap_or (label_at v page) []) a
  AtStart (added t) a = Contains (kind_label s t.kind) a

  pub at_start_is : (spot : Spot) (a : ℕ) → Contains (label_of spot 0) a → AtStart spot a
  at_start_is (page_node v) a is = set_of-is (unwrap_or (label_at v page) []) a is
  at_start_is (added t) a is = set_of-is (kind_label s t.kind) a is

  on_page_has : (v : List ℕ) (a : ℕ) → Contains (unwrap_or (label_at v page) []) a → HasAtom page v a
  on_page_has v a is = elim (label_at v page) as (λ o. Contains (unwrap_or o []) a → IsSomeAnd o (λ label. Contains label a)) [ None ↦ λ h. absurd (Contains-none a h) | Some l ↦ λ h. h ] is

  -- what no rule gives is there at the start
  from_start : (spot : Spot) (a : ℕ) → ((r : rule.Local) → Contains s.local r → r.gives ≢ a) → ((l : Link) → Contains s.up l → l.to ≢ a) → ((l : Link) → Contains s.down l → l.to ≢ a)
      → (k : ℕ) → Contains (label_of spot k) a → Contains (label_of spot 0) a
  from_start spot a no_local no_up no_down zero is = is
  from_start spot a no_local no_up no_down (suc k) is = elim (gives_at spot k a is) [
    | before own ↦ from_start spot a no_local no_up no_down k own
    | local by ↦ absurd (no_local by.rule by.listed by.gives)
    | up by ↦ absurd (no_up by.link by.listed by.to)
    | down label in' by ↦ absurd (no_down by.link by.listed by.to)
  ]

  module _ (target : ℕ) (proof : Proof) (made : IsCanonical s page target proof) (sound : IsSoundSystem s) (forests : KeepsForests s page) where
    -- the kind that a place has
    abbrev HasKind : Spot → Place → Type 0
    HasKind (page_node v) place = place.kind ≡ None
    HasKind (added t) place = place.kind ≡ Some t.kind

    -- an item of an atom that only a child can give
    down_item : (spot : Spot) (y : ProofItem) → IsItem s page target made.triples spot y → ((r : rule.Local) → Contains s.local r → r.gives ≢ y.atom) → ((l : Link) → Contains s.up l → l.to ≢ y.atom) → (AtStart spot y.atom → ⊥) → IsDown y.reason
    down_item spot y item no_local no_up not_first = by_round item.round item.first item.reason
      where
        by_choice : (r : ℕ) (w : Choice) → IsWay s (setting_at s page spot) (path_at s page spot) y.atom w → IsReason s page target made.triples spot r w y.reason → IsDown y.reason
        by_choice r at_start way reason = absurd way
        by_choice r (by_local l) (rule, at, gives) reason = absurd (no_local rule (Contains-at s.local l rule at) gives)
        by_choice r (by_up l) (link, at, to) reason = absurd (no_up link (Contains-at s.up l link at) to)
        by_choice r (by_real l n) way reason = subst IsDown (sym reason) tt
        by_choice r (by_spawn l c) way reason = subst IsDown (sym reason.2) tt

        by_round : (r : ℕ) → IsFirst (labels_at s page spot) y.atom (Some r) → IsReason s page target made.triples spot r (chosen s (setting_at s page spot) (path_at s page spot) y.atom r) y.reason → IsDown y.reason
        by_round zero first reason = absurd (not_first (at_start_is spot y.atom first.0))
        by_round (suc k) first reason = let c = chosen_stands spot y.atom k first in by_choice (suc k) c.0 c.2 (subst (λ w. IsReason s page target made.triples spot (suc k) w y.reason) c.1 reason)

    -- The place of an item: what is known there of its spot.
    pub record IsPlace (spot : Spot) (place : Place) (i : ProofItem) (round : ℕ) : Type 0 where
      pub label : (a : ℕ) → AtStart spot a → Contains place.label a
      pub here : (b k : ℕ) → round ≡ suc k → Contains (label_of spot k) b → Needed s page target spot b → Contains (atoms_of place.here) b
      pub items : (y : ProofItem) → Contains place.here y → IsItem s page target made.triples spot y
      pub above : (l k : ℕ) → round ≡ suc k → IsChosen s page spot i.atom round (by_up l) → Contains ((setting_at s page spot).above k (path_at s page spot)) (from_up s l) → Contains place.above (from_up s l)
      pub child : (l n k : ℕ) → round ≡ suc k → IsChosen s page spot i.atom round (by_real l n) → n < (setting_at s page spot).reals (path_at s page spot)
          → Contains ((setting_at s page spot).label k (path_at s page spot ++ n ∷ [])) (from_down s l) → Contains (place.child n) (from_down s l)
      pub lower : (l c e : ℕ) → i.reason ≡ Down l (Grown c e) → e < place.lower
      pub kind : HasKind spot place

    there_at : {X : Type 0} (xs : List X) (i : ℕ) → i < length xs → (x : X) × (slice_get xs i ≡ Some x)
    there_at [] i lt = absurd (omega arith)
    there_at (x ∷ xs) zero lt = (x, refl)
    there_at (x ∷ xs) (suc i) lt = there_at xs i (omega arith)

    has_atom : (items : List ProofItem) (i : ℕ) (x : ProofItem) → slice_get items i ≡ Some x → Contains (atoms_of items) x.atom
    has_atom items i x at = Contains-map (λ (y : ProofItem). y.atom) items x (Contains-at items i x at)

    module _ (spot : Spot) (place : Place) (i : ProofItem) where
      -- what the entry of a spawn needs of the spot
      parent_needed : (k l c b : ℕ) → IsChosen s page spot i.atom (suc k) (by_spawn l c) → Needed s page target spot i.atom → IsNeededAbove s page target (added (triple_by s page spot (suc k) l c)) b
          → Contains (label_of spot k) b × Needed s page target spot b
      parent_needed k l c b choice needed (a, zero, m, need, chosen_up, from) = let never : at_start ≡ by_up m = chosen_up.choice in cc
      parent_needed k l c b choice needed (a, suc r, m, need, chosen_up, from) =
          let t = triple_by s page spot (suc k) l c in
          let st = chosen_stands (added t) a r chosen_up.first in
          let w : st.0 ≡ by_up m = sym st.1 ∙ chosen_up.choice in
          let stands_up : stands s (on_added s t.kind t.parent) r [] (by_up m) ≡ true = ap (stands s (on_added s t.kind t.parent) r []) (sym w) ∙ st.3 in
          let seen' : Contains (visible_in s (label_of spot (suc k - 1))) (from_up s m) = Contains-has_class (from_up s m) t.parent stands_up in
          let level : suc k - 1 ≡ k = omega arith in
          let seen'' : Contains (visible_in s (label_of spot k)) (from_up s m) = subst (λ n. Contains (visible_in s (label_of spot n)) (from_up s m)) level seen' in
          let both = (Contains-cut_to s.visible (label_of spot k) (from_up s m)).0 seen'' in
          (subst (λ z. Contains (label_of spot k) z) from both.1, subst (λ z. Needed s page target spot z) from (by_entry spot i.atom (suc k) l c a (suc r) m needed choice need chosen_up))

      inner_kind : (spawn : Spawn) (kind : Kind) (j k : ℕ) → HasKind spot place → Contains s.child spawn → slice_get s.kinds spawn.kind ≡ Some kind → kind.above ≡ Some j → Contains (label_of spot k) spawn.needs → place.kind ≡ Some j
      inner_kind spawn kind j k has in' at above is =
          let only = forests.inner spawn kind j in' at above in
          of_spot spot (at_start_is spot spawn.needs (from_start spot spawn.needs only.0 only.1 only.2 k is)) has
        where
          of_spot : (spot : Spot) → AtStart spot spawn.needs → HasKind spot place → place.kind ≡ Some j
          of_spot (page_node v) start has = absurd ((forests.inner spawn kind j in' at above).3 v (on_page_has v spawn.needs start))
          of_spot (added t) start has = has ∙ ap Some ((forests.inner spawn kind j in' at above).4 t.kind start)

      not_at_start : (spawn : Spawn) (kind : Kind) → Contains s.child spawn → slice_get s.kinds spawn.kind ≡ Some kind → kind.above ≡ None → kind.beside ≡ true → (spot : Spot) → AtStart spot spawn.needs → ⊥
      not_at_start spawn kind in' at none beside (page_node v) start = (forests.beside spawn kind in' at none beside).2 v (on_page_has v spawn.needs start)
      not_at_start spawn kind in' at none beside (added t) start = (forests.beside spawn kind in' at none beside).3 t.kind start

      spawn_sound : (k l c e : ℕ) (link : Link) (spawn : Spawn) → IsPlace spot place i (suc k) → Needed s page target spot i.atom → IsChosen s page spot i.atom (suc k) (by_spawn l c) → slice_get s.down l ≡ Some link → link.to ≡ i.atom → slice_get s.child c ≡ Some spawn
          → stands s (setting_at s page spot) k (path_at s page spot) (by_spawn l c) ≡ true → slice_get made.triples e ≡ Some (triple_by s page spot (suc k) l c) → e < place.lower → IsSound s proof.entries place i.atom (Down l (Grown c e))
      spawn_sound k l c e link spawn at needed choice at_link to at_spawn stands' at_triple lt =
          let t = triple_by s page spot (suc k) l c in
          let kind_is : spawn_kind s c ≡ spawn.kind = ap (λ o. unwrap_or (option_map (λ (r : Spawn). r.kind) o) 0) at_spawn in
          let needs_is : spawn_needs s c ≡ spawn.needs = ap (λ o. unwrap_or (option_map (λ (r : Spawn). r.needs) o) 0) at_spawn in
          let from_is : from_down s l ≡ link.from = ap (λ o. unwrap_or (option_map (λ (r : Link). r.from) o) 0) at_link in
          let in' : Contains s.child spawn = Contains-at s.child c spawn at_spawn in
          let kind = there_at s.kinds spawn.kind (All-contains (λ (x : Spawn). x.kind < length s.kinds) s.child spawn sound.spawned in') in
          let entry = there_at proof.entries e (subst (λ n. e < n) (sym made.count) (slice_get_within made.triples e t at_triple)) in
          let is_entry = made.entries e t entry.0 at_triple entry.1 in
          let parts = and_parts (has_class (spawn_needs s c) (label_of spot k)) (has_class (from_down s l) (grown s k (spawn_kind s c) (visible_in s (label_of spot k)))) stands' in
          let has_needs : Contains (label_of spot k) spawn.needs = subst (λ z. Contains (label_of spot k) z) needs_is (Contains-has_class (spawn_needs s c) (label_of spot k) parts.0) in
          let need_spawn : Needed s page target spot spawn.needs = subst (λ z. Needed s page target spot z) needs_is (by_spawner spot i.atom (suc k) l c needed choice) in
          let spawned' : Contains (atoms_of place.here) spawn.needs = at.here spawn.needs k refl has_needs need_spawn in
          let gives = is_entry.all t.atom (top t) in (
            link,
            at_link,
            to,
            spawn,
            at_spawn,
            kind.0,
            kind.1,
            entry.0,
            entry.1,
            record {
              lower = lt;
              its_kind = is_entry.kind ∙ kind_is;
              gives = subst (λ z. Contains (atoms_of entry.0.items) z) (gives.3 ∙ from_is) (has_atom entry.0.items gives.0 gives.1 gives.2);
              parent = All-from_Contains (Contains (atoms_of place.here)) entry.0.parent (λ b is. let p = parent_needed k l c b choice needed ((is_entry.parent b).0 is) in at.here b k refl p.0 p.1);
              spawns = spawned';
              inner = elim kind.0.above as (λ o. kind.0.above ≡ o → (o ≡ None) ⊎ (IsSome o × o ≡ place.kind)) [
                | None ↦ λ none. inl refl
                | Some j ↦ λ some. inr (refl, sym (inner_kind spawn kind.0 j k at.kind in' kind.1 some has_needs))
              ] refl;
              beside = λ none yes'.
                  let f = find_there (λ (y : ProofItem). y.atom == spawn.needs) place.here (of_atom place.here spawn.needs spawned').0 (of_atom place.here spawn.needs spawned').1 ((Decides-eqb (of_atom place.here spawn.needs spawned').0.atom spawn.needs).1 (of_atom place.here spawn.needs spawned').2) in
                  let same : f.0.atom ≡ spawn.needs = (Decides-eqb f.0.atom spawn.needs).0 f.3 in
                  let only = forests.beside spawn kind.0 in' kind.1 none yes' in
                  rw f.1 (down_item spot f.0 (at.items f.0 f.2) (λ r in'' e'. only.0 r in'' (e' ∙ same)) (λ x in'' e'. only.1 x in'' (e' ∙ same)) (λ start. not_at_start spawn kind.0 in' kind.1 none yes' spot (subst (λ z. AtStart spot z) same start)));
            },
          )
        where
          of_atom : (items : List ProofItem) (a : ℕ) → Contains (atoms_of items) a → (y : ProofItem) × Contains items y × (y.atom ≡ a)
          of_atom items a is = let m = map-Contains (λ (y : ProofItem). y.atom) items a is in (m.0, m.1, sym m.2)

      choice_sound : (k : ℕ) (w : Choice) → IsPlace spot place i (suc k) → Needed s page target spot i.atom → IsChosen s page spot i.atom (suc k) w → IsWay s (setting_at s page spot) (path_at s page spot) i.atom w
          → stands s (setting_at s page spot) k (path_at s page spot) w ≡ true → IsReason s page target made.triples spot (suc k) w i.reason → IsSound s proof.entries place i.atom i.reason
      choice_sound k at_start at needed choice way stands' reason = absurd way
      choice_sound k (by_local l) at needed choice (rule, at_rule, gives) stands' reason =
          let needs : needs_of s l ≡ rule.needs = ap (λ o. unwrap_or (option_map (λ r. r.needs) o) []) at_rule in
          let all = all_among-All (needs_of s l) (label_of spot k) stands' in
          subst (λ z. IsSound s proof.entries place i.atom z) (sym reason) (
            rule,
            at_rule,
            gives,
            All-from_Contains (Contains (atoms_of place.here)) rule.needs (λ b is.
                let is' : Contains (needs_of s l) b = rw needs is in
                at.here b k refl (All-contains (Contains (label_of spot k)) (needs_of s l) b all is') (by_rule spot i.atom (suc k) l b needed choice is')),
          )
      choice_sound k (by_up l) at needed choice (link, at_link, to) stands' reason =
          let from : from_up s l ≡ link.from = ap (λ o. unwrap_or (option_map (λ (r : Link). r.from) o) 0) at_link in
          let up : Contains place.above (from_up s l) = at.above l k refl choice (Contains-has_class (from_up s l) ((setting_at s page spot).above k (path_at s page spot)) stands') in
          subst (λ z. IsSound s proof.entries place i.atom z) (sym reason) (link, at_link, to, subst (λ z. Contains place.above z) from up)
      choice_sound k (by_real l n) at needed choice (link, at_link, to, lt) stands' reason =
          let from : from_down s l ≡ link.from = ap (λ o. unwrap_or (option_map (λ (r : Link). r.from) o) 0) at_link in
          let below : Contains (place.child n) (from_down s l) = at.child l n k refl choice lt (Contains-has_class (from_down s l) ((setting_at s page spot).label k (path_at s page spot ++ n ∷ [])) stands') in
          subst (λ z. IsSound s proof.entries place i.atom z) (sym reason) (link, at_link, to, subst (λ z. Contains (place.child n) z) from below)
      choice_sound k (by_spawn l c) at needed choice (link, at_link, to, spawn, at_spawn) stands' (e, at_triple, reason) =
          subst (λ z. IsSound s proof.entries place i.atom z) (sym reason) (spawn_sound k l c e link spawn at needed choice at_link to at_spawn stands' at_triple (at.lower l c e reason))

      item_sound : (x : IsItem s page target made.triples spot i) → IsPlace spot place i x.round → IsSound s proof.entries place i.atom i.reason
      item_sound x at = by_round x.round x.first x.reason at
        where
          by_round : (r : ℕ) → IsFirst (labels_at s page spot) i.atom (Some r) → IsReason s page target made.triples spot r (chosen s (setting_at s page spot) (path_at s page spot) i.atom r) i.reason → IsPlace spot place i r
              → IsSound s proof.entries place i.atom i.reason
          by_round zero first reason at = subst (λ z. IsSound s proof.entries place i.atom z) (sym reason) (at.label i.atom (at_start_is spot i.atom first.0))
          by_round (suc k) first reason at =
              let c = chosen_stands spot i.atom k first in
              choice_sound k c.0 at x.needed (record { first = first; choice = c.1 }) c.2 c.3 (subst (λ w. IsReason s page target made.triples spot (suc k) w i.reason) c.1 reason)

    -- an entry's items: what is needed in an earlier round stands earlier
    entry_earlier : (t : Triple) (entry : Entry) → IsEntryOf s page target made.triples t entry → (i : ℕ) (x : ProofItem) → slice_get entry.items i ≡ Some x → (item : IsItem s page target made.triples (added t) x) → (b k : ℕ) → item.round ≡ suc k
        → Contains (label_of (added t) k) b → Needed s page target (added t) b → Contains (atoms_of (take i entry.items)) b
    entry_earlier t entry is_entry i x at item b k round has need =
        let f = is_entry.all b need in
        let y = f.1 in
        let other = is_entry.each f.0 y f.2 in
        let le : other.round ≤ k = first_by (label_of (added t)) y.atom other.round k other.first (subst (λ z. Contains (label_of (added t) k) z) (sym f.3) has) in
        elim (cases_order f.0 i) [
          | inl same ↦
              let at' : slice_get entry.items i ≡ Some y = subst (λ z. slice_get entry.items z ≡ Some y) same f.2 in
              let one : y ≡ x = cc in
              let first' : IsFirst (label_of (added t)) y.atom (Some item.round) = subst (λ (z : ProofItem). IsFirst (label_of (added t)) z.atom (Some item.round)) (sym one) item.first in
              let rounds = first_one (label_of (added t)) y.atom other.round item.round other.first first' in
              absurd (omega (arith, rounds, le, round))
          | inr (inl less) ↦ subst (λ z. Contains (atoms_of (take i entry.items)) z) f.3 (has_atom (take i entry.items) f.0 y (slice_get-take entry.items i f.0 less ∙ f.2))
          | inr (inr more) ↦
              let c = is_entry.ordered i f.0 x y more at f.2 in
              let m = first_one (label_of (added t)) x.atom c.0 item.round c.2 item.first in
              let n = first_one (label_of (added t)) y.atom c.1 other.round c.3 other.first in
              elim c.4 [ inl less ↦ absurd (omega (arith, m, n, less, le, round)) | inr both ↦ let same = both.0 in absurd (omega (arith, m, n, same, le, round)) ]
        ]

    are_sound_each : (items : List ProofItem) (place : Place) → ((i : ℕ) (x : ProofItem) → slice_get items i ≡ Some x → IsSound s proof.entries (record place { here = place.here ++ take i items }) x.atom x.reason) → AreSound s proof.entries place items
    are_sound_each [] place each = tt
    are_sound_each (x ∷ items) place each = (
      subst (λ h. IsSound s proof.entries (record place { here = h }) x.atom x.reason) (append-nil place.here) (each 0 x refl),
      are_sound_each items (record place { here = place.here ++ x ∷ [] }) (λ i y at. subst (λ h. IsSound s proof.entries (record place { here = h }) y.atom y.reason) (sym (append_assoc place.here (x ∷ []) (take i items))) (each (suc i) y at)),
    )

    lowers : ((k f : ℕ) → k < length proof.entries → Contains (entry_names proof.entries k) f → f < k) × ((e : ℕ) → Contains (flat_map (λ (x : PageItem). named_by x.item.reason) proof.page) e → e < length proof.entries)
    lowers = let w = walked_lower (entry_names proof.entries) 0 (length proof.entries) (flat_map (λ (x : PageItem). named_by x.item.reason) proof.page) made.walked in ((λ k f lt is. w.2 k f (omega arith) lt is), w.1)

    entry_sound : (n : ℕ) (entry : Entry) → slice_get proof.entries n ≡ Some entry → AreSound s proof.entries (in_entry s n entry) entry.items
    entry_sound n entry at =
        let lt : n < length proof.entries = slice_get_within proof.entries n entry at in
        let t = there_at made.triples n (subst (λ m. n < m) made.count lt) in
        let is_entry = made.entries n t.0 entry t.1 at in
        are_sound_each entry.items (in_entry s n entry) (λ i x at_x.
        let item = is_entry.each i x at_x in
        item_sound (added t.0) (record (in_entry s n entry) { here = take i entry.items }) x item (record {
          label = λ a is. subst (λ j. Contains (kind_label s j) a) (sym is_entry.kind) is;
          here = λ b k round has need. entry_earlier t.0 entry is_entry i x at_x item b k round has need;
          items = λ y is. let j = at_Contains (take i entry.items) y is in is_entry.each j.0 y (slice_get-untake entry.items i j.0 y j.1);
          above = λ l k round choice has. (is_entry.parent (from_up s l)).1 (x.atom, item.round, l, item.needed, choice, refl);
          child = λ l m k round choice lt' has. absurd (omega arith);
          lower = λ l c e same. lowers.0 n e lt (rw at (Contains-flat_map (λ (y : ProofItem). named_by y.reason) entry.items x e (Contains-at entry.items i x at_x) (subst (λ z. Contains (named_by z) e) (sym same) (0, omega arith, refl))));
          kind = ap Some is_entry.kind;
        }))

    -- the page's items
    page_has : (items : List PageItem) (j : ℕ) (y : PageItem) → slice_get items j ≡ Some y → Contains (atoms_of (items_at y.at items)) y.item.atom
    page_has [] j y at = cc
    page_has (z ∷ items) zero y at =
        let same : z ≡ y = cc in
        let here : bytes_eq y.at y.at ≡ true = (bytes_eq-Decides y.at y.at).1 refl in
        let first : Contains (atoms_of (map (λ (i : PageItem). i.item) (cond (bytes_eq y.at y.at) (y ∷ filter (λ (i : PageItem). bytes_eq i.at y.at) items) (filter (λ i. bytes_eq i.at y.at) items)))) y.item.atom = rw here (0, omega arith, refl) in
        subst (λ (w : PageItem). Contains (atoms_of (items_at y.at (w ∷ items))) y.item.atom) (sym same) first
    page_has (z ∷ items) (suc j) y at =
        let rest = page_has items j y at in
        elim (bytes_eq z.at y.at) as (λ b. Contains (atoms_of (map (λ (i : PageItem). i.item) (cond b (z ∷ filter (λ (i : PageItem). bytes_eq i.at y.at) items) (filter (λ i. bytes_eq i.at y.at) items)))) y.item.atom) [
          | true ↦ Contains-append_right (z.item.atom ∷ []) (atoms_of (items_at y.at items)) y.item.atom rest
          | false ↦ rest
        ]

    in_page : (v : List ℕ) (items : List PageItem) (y : ProofItem) → Contains (items_at v items) y → (j : ℕ) × (z : PageItem) × (slice_get items j ≡ Some z) × (z.at ≡ v) × (z.item ≡ y)
    in_page v items y is =
        let m = map-Contains (λ (i : PageItem). i.item) (filter (λ (i : PageItem). bytes_eq i.at v) items) y is in
        let f = filter-Contains (λ (i : PageItem). bytes_eq i.at v) items m.0 m.1 in
        let j = at_Contains items m.0 f.0 in
        (j.0, m.0, j.1, (bytes_eq-Decides m.0.at v).0 f.1, sym m.2)

    page_earlier : (i : ℕ) (x : PageItem) → slice_get proof.page i ≡ Some x → (item : IsItem s page target made.triples (page_node x.at) x.item) → (q : List ℕ) (b k : ℕ) → item.round ≡ suc k
        → Contains (label_of (page_node q) k) b → Needed s page target (page_node q) b → Contains (atoms_of (items_at q (take i proof.page))) b
    page_earlier i x at item q b k round has need =
        let f = made.all q b need in
        let y = f.1 in
        let other = made.each f.0 y f.2 in
        let has' : Contains (label_of (page_node y.at) k) y.item.atom = subst (λ z. Contains (label_of (page_node z) k) y.item.atom) (sym f.3) (subst (λ z. Contains (label_of (page_node q) k) z) (sym f.4) has) in
        let le : other.round ≤ k = first_by (label_of (page_node y.at)) y.item.atom other.round k other.first has' in
        elim (cases_order f.0 i) [
          | inl same ↦
              let at' : slice_get proof.page i ≡ Some y = subst (λ z. slice_get proof.page z ≡ Some y) same f.2 in
              let one : y ≡ x = cc in
              let first' : IsFirst (label_of (page_node y.at)) y.item.atom (Some item.round) = subst (λ (z : PageItem). IsFirst (label_of (page_node z.at)) z.item.atom (Some item.round)) (sym one) item.first in
              let rounds = first_one (label_of (page_node y.at)) y.item.atom other.round item.round other.first first' in
              absurd (omega (arith, rounds, le, round))
          | inr (inl less) ↦
              let there = page_has (take i proof.page) f.0 y (slice_get-take proof.page i f.0 less ∙ f.2) in
              subst (λ z. Contains (atoms_of (items_at z (take i proof.page))) b) f.3 (subst (λ z. Contains (atoms_of (items_at y.at (take i proof.page))) z) f.4 there)
          | inr (inr more) ↦
              let c = made.ordered i f.0 x y more at f.2 in
              let m = first_one (label_of (page_node x.at)) x.item.atom c.0 item.round c.2 item.first in
              let n = first_one (label_of (page_node y.at)) y.item.atom c.1 other.round c.3 other.first in
              elim c.4 [ inl less ↦ absurd (omega (arith, m, n, less, le, round)) | inr both ↦ let same = both.0 in absurd (omega (arith, m, n, same, le, round)) ]
        ]

    -- what is needed on the page is needed at its nodes
    abbrev IsThere : Spot → Type 0
    IsThere (page_node v) = IsSome (node_at v page)
    IsThere (added t) = Unit {0}

    child_node : (v : List ℕ) (n : ℕ) → n < unwrap_or (children_at v page) 0 → IsSome (node_at (v ++ n ∷ []) page)
    child_node v n lt =
        elim (node_at v page) as (λ o. node_at v page ≡ o → n < unwrap_or (option_map (λ (x : LabelTree). length_of x.below) o) 0 → IsSome (node_at (v ++ n ∷ []) page)) [
          | None ↦ λ e less. absurd (omega arith)
          | Some x ↦ λ e less. let c = there (tree_of x.below n) (tree_of-within x.below n less) in rw (child_node_at v n page x c.0 e c.1) refl
        ] refl lt

    real_child : (v : List ℕ) (a r l n : ℕ) → IsChosen s page (page_node v) a r (by_real l n) → n < unwrap_or (children_at v page) 0
    real_child v a zero l n choice = let never : at_start ≡ by_real l n = choice.choice in cc
    real_child v a (suc k) l n choice =
        let c = chosen_stands (page_node v) a k choice.first in
        let w : c.0 ≡ by_real l n = sym c.1 ∙ choice.choice in
        let way : IsWay s (on_page s page) v a (by_real l n) = subst (IsWay s (on_page s page) v a) w c.2 in
        way.3

    needed_there : (spot : Spot) (a : ℕ) → Needed s page target spot a → IsThere spot
    needed_there spot a goal = refl
    needed_there spot a (top t) = tt
    needed_there spot a (by_rule p b r l x need choice is) = needed_there p b need
    needed_there spot a (by_parent v p b r l need choice is) = IsSome-parent_of v p page is (needed_there (page_node v) b need)
    needed_there spot a (by_child v b r l n need choice) = child_node v n (real_child v b r l n choice)
    needed_there spot a (by_spawner p b r l c need choice) = needed_there p b need
    needed_there spot a (by_entry p b r l c x m k need choice above chosen_above) = needed_there p b need

    are_placed_each : (items earlier : List PageItem) → ((i : ℕ) (x : PageItem) → slice_get items i ≡ Some x → IsSome (node_at x.at page) × IsSound s proof.entries (at_page page (length proof.entries) (earlier ++ take i items) x.at) x.item.atom x.item.reason)
        → ArePlaced s proof.entries page earlier items
    are_placed_each [] earlier each = tt
    are_placed_each (x ∷ items) earlier each =
        let first = each 0 x refl in (
          first.0,
          subst (λ h. IsSound s proof.entries (at_page page (length proof.entries) h x.at) x.item.atom x.item.reason) (append-nil earlier) first.1,
          are_placed_each items (earlier ++ x ∷ []) (λ i y at. let next = each (suc i) y at in (next.0, subst (λ h. IsSound s proof.entries (at_page page (length proof.entries) h y.at) y.item.atom y.item.reason) (sym (append_assoc earlier (x ∷ []) (take i items))) next.1)),
        )

    page_sound : ArePlaced s proof.entries page [] proof.page
    page_sound = are_placed_each proof.page [] (λ i x at.
        let item = made.each i x at in (
          needed_there (page_node x.at) x.item.atom item.needed,
          item_sound (page_node x.at) (at_page page (length proof.entries) (take i proof.page) x.at) x.item item (record {
            label = λ a is. is;
            here = λ b k round has need. page_earlier i x at item x.at b k round has need;
            items = λ y is. let z = in_page x.at (take i proof.page) y is in
                let one = made.each z.0 z.1 (slice_get-untake proof.page i z.0 z.1 z.2) in
                subst (λ q. IsItem s page target made.triples (page_node q) y) z.3 (subst (λ w. IsItem s page target made.triples (page_node z.1.at) w) z.4 one);
            above = λ l k round choice has. at_parent i x at item l k round choice has;
            child = λ l n k round choice lt has. page_earlier i x at item (x.at ++ n ∷ []) (from_down s l) k round has (by_child x.at x.item.atom item.round l n item.needed choice);
            lower = λ l c e same. lowers.1 e (Contains-flat_map (λ (y : PageItem). named_by y.item.reason) proof.page x e (Contains-at proof.page i x at) (subst (λ z. Contains (named_by z) e) (sym same) (0, omega arith, refl)));
            kind = refl;
          }),
        ))
      where
        at_parent : (i : ℕ) (x : PageItem) → slice_get proof.page i ≡ Some x → (item : IsItem s page target made.triples (page_node x.at) x.item) → (l k : ℕ) → item.round ≡ suc k → IsChosen s page (page_node x.at) x.item.atom item.round (by_up l)
            → Contains (unwrap_or (option_map (page_round s page k) (parent_of x.at)) []) (from_up s l) → Contains (unwrap_or (option_map (λ p. atoms_of (items_at p (take i proof.page))) (parent_of x.at)) []) (from_up s l)
        at_parent i x at item l k round choice has =
            elim (parent_of x.at) as (λ o. parent_of x.at ≡ o → Contains (unwrap_or (option_map (page_round s page k) o) []) (from_up s l) → Contains (unwrap_or (option_map (λ p. atoms_of (items_at p (take i proof.page))) o) []) (from_up s l)) [
              | None ↦ λ e h. h
              | Some p ↦ λ e h. page_earlier i x at item p (from_up s l) k round h (by_parent x.at p x.item.atom item.round l item.needed choice e)
            ] refl has

    -- the theorem
    pub canonical_valid : IsValid s page proof target
    canonical_valid =
        let f = made.all [] target goal in
        record {
          entries = entry_sound;
          page_items = page_sound;
          counts = made.steps;
          root = subst (λ z. Contains (atoms_of (items_at z proof.page)) target) f.3 (subst (λ z. Contains (atoms_of (items_at f.1.at proof.page)) z) f.4 (page_has proof.page f.0 f.1 f.2));
        }
