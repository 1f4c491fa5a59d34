-- Each step of a system leaves a grown page grown, so what isn't in the closed label of a page's node never gets there.
use Rattle.std.proofs.Common.{◌≡◌, ◌≢◌, ◌⊎◌, ℕ, ◌<◌, List, [], ◌∷◌, ◌++◌, map, Option, Some, None, IsSome, IsNone, IsSomeAnd, option_map, All, Contains, refl, sym, ap, ◌∙◌, inl, inr, subst}
use Rattle.std.proofs.lemmas.List.Elements.{All-contains}
use Rattle.tp_base.specs.Classes.{with_class}
use Rattle.tp_base.proofs.ClassLemmas.{Contains-with_class, Contains-cut_to}
use Rattle.tp_base.proofs.Rising.{All-from_Contains}
use Rattle.tp_base.proofs.Lists.{some_and, same_or_other, some_not_none}
use Rattle.tree_sem.specs.Trees.{LabelTree, length_of, node_at, label_at, children_at, edit_at, add_class, add_child}
use Rattle.tree_sem.specs.Nodes.{HasAtom}
use Rattle.tree_sem.specs.Paths.{parent_of}
use Rattle.tree_sem.proofs.EditLemmas.{label_at-add_class, label_at-add_class_other, label_at-add_child_new, label_at-add_child_old, IsSome-add_child, node_at-label_at}
use Rattle.tree_sem.proofs.NodeLemmas.{Contains-map}
use Rattle.tree_sem.proofs.PathLemmas.{parent_of-child}
use Rattle.tree_sem.proofs.RowLemmas.{node_at-child, tree_of-number}
use Rattle.simple_core.specs.declared.rules.Local.{Local}
use Rattle.simple_core.specs.declared.rules.Link.{Link}
use Rattle.simple_core.specs.declared.rules.Spawn.{Spawn}
use Rattle.simple_core.specs.declared.system.System.{System}
use Rattle.simple_core.specs.Systems.{kind_label, IsSound}
use Rattle.simple_core.specs.Labels.{visible_in}
use Rattle.simple_core.specs.Rounds.{InRest}
use Rattle.simple_core.specs.Pages.{InClosed}
use Rattle.simple_core.specs.SimpleSteps.{SimpleStep, by_local, by_up, by_down, by_spawn, IsLegal, after_step, end_of, AreLegal}
use Rattle.simple_core.specs.Growth.{IsAdded, IsGrown}
use Rattle.simple_core.proofs.Members.{Among, among_all, all_among_each}
use Rattle.simple_core.proofs.LabelLemmas.{is-kinds_at, kinds_at-more, visible_in-more}
use Rattle.simple_core.proofs.RoundLemmas.{is-set_of, rest_start, rest_local, rest_up, rest_down, rest_more}
use Rattle.simple_core.proofs.PageLemmas.{closed_start, closed_local, closed_up, closed_real, closed_added}

-- a value that is there, with what holds of it
and_some : {X : Type 0} (P : X → Type 0) (o : Option X) (x : X) → o ≡ Some x → P x → IsSomeAnd o P
and_some P o x is holds = subst (λ z. IsSomeAnd z P) (sym is) holds

pub label_there : (v : List ℕ) (t : LabelTree) → IsSome (node_at v t) → (l : List ℕ) × (label_at v t ≡ Some l)
label_there v t is = elim (node_at v t) as (λ o. IsSome o → (l : List ℕ) × (option_map (λ (n : LabelTree). n.label) o ≡ Some l)) [
  | None ↦ λ h. cc
  | Some n ↦ λ h. (n.label, refl)
] is

there_label : (v : List ℕ) (t : LabelTree) (l : List ℕ) → label_at v t ≡ Some l → IsSome (node_at v t)
there_label v t l at = (node_at-label_at v t).0 (subst (λ o. IsSome o) (sym at) refl)

node_there : (v : List ℕ) (t : LabelTree) → IsSome (node_at v t) → (n : LabelTree) × (node_at v t ≡ Some n)
node_there v t is = elim (node_at v t) as (λ o. IsSome o → (n : LabelTree) × (o ≡ Some n)) [
  | None ↦ λ h. cc
  | Some n ↦ λ h. (n, refl)
] is

there_or_not : (v : List ℕ) (t : LabelTree) → IsSome (node_at v t) ⊎ IsNone (node_at v t)
there_or_not v t = elim (node_at v t) as (λ o. IsSome o ⊎ IsNone o) [ None ↦ inr refl | Some n ↦ inl refl ]

-- paths with one parent
same_parent : (v p q : List ℕ) (n m : ℕ) → v ≡ p ++ n ∷ [] → v ≡ q ++ m ∷ [] → p ≡ q
same_parent v p q n m first second =
    let both : Some p ≡ Some q = sym (parent_of-child p n) ∙ ap parent_of (sym first ∙ second) ∙ parent_of-child q m in
    cc

parent_there : (p : List ℕ) (n : ℕ) (t : LabelTree) → IsSome (node_at (p ++ n ∷ []) t) → IsSome (node_at p t)
parent_there p n t is = let family = node_at-child p n t is in subst (λ o. IsSome o) (sym family.2) refl

-- a real child has a number below the count
child_number : (v : List ℕ) (n : ℕ) (t : LabelTree) → IsSome (node_at (v ++ n ∷ []) t) → (m : ℕ) × (children_at v t ≡ Some m) × (n < m)
child_number v n t is =
    let family = node_at-child v n t is in
    (length_of family.0.below, ap (option_map (λ (s : LabelTree). length_of s.below)) family.2, tree_of-number family.0.below n family.1 family.3)

-- the labels where the node at w got the atom a
module _ (u : LabelTree) (w : List ℕ) (a : ℕ) where
  pub record IsLater (v l l' : List ℕ) : Type 0 where
    pub more : Among l l'
    pub only : (x : ℕ) → Contains l' x → Contains l x ⊎ ((v ≡ w) × (x ≡ a))

  later : (v l : List ℕ) → (v ≡ w) ⊎ (v ≢ w) → label_at v u ≡ Some l → (l' : List ℕ) × (label_at v (edit_at w (add_class a) u) ≡ Some l') × IsLater v l l'
  later v l (inl same) at = (
    with_class a l,
    subst (λ z. label_at z (edit_at w (add_class a) u) ≡ Some (with_class a l)) (sym same)
        (label_at-add_class w a u ∙ ap (option_map (with_class a)) (subst (λ z. label_at z u ≡ Some l) same at)),
    record {
      more = λ x there. (Contains-with_class a l x).1 (inr there);
      only = λ x there. elim ((Contains-with_class a l x).0 there) [ inl new ↦ inr (same, new) | inr old ↦ inl old ];
    },
  )
  later v l (inr other) at = (l, label_at-add_class_other w v a u other ∙ at, record { more = λ x there. there; only = λ x there. inl there })

  -- the label before
  earlier : (v l' : List ℕ) → label_at v (edit_at w (add_class a) u) ≡ Some l' → (v ≡ w) ⊎ (v ≢ w) → (l : List ℕ) × (label_at v u ≡ Some l)
  earlier v l' at (inr other) = (l', sym (label_at-add_class_other w v a u other) ∙ at)
  earlier v l' at (inl same) =
      let now : option_map (with_class a) (label_at w u) ≡ Some l' = sym (label_at-add_class w a u) ∙ subst (λ z. label_at z (edit_at w (add_class a) u) ≡ Some l') same at in
      elim (label_at w u) as (λ o. label_at w u ≡ o → option_map (with_class a) o ≡ Some l' → (l : List ℕ) × (label_at v u ≡ Some l)) [
        | None ↦ λ e h. cc
        | Some l ↦ λ e h. (l, subst (λ z. label_at z u ≡ Some l) (sym same) e)
      ] refl now

module _ (s : System) (t u : LabelTree) (grown_u : IsGrown s t u) where
  -- the label of a page's node now
  kept_now : (v : List ℕ) → IsSome (node_at v t) → (now : List ℕ) × (label_at v u ≡ Some now) × All (InClosed s t v) now
  kept_now v is =
      let l = label_there v t is in
      let now = some_and (label_at v u) (λ now. All (Contains now) l.0 × All (InClosed s t v) now) (grown_u.kept v l.0 l.1) in
      (now.0, now.1, now.2.1)

  -- an atom that is there is closed, or comes to rest
  kept_has : (v : List ℕ) (a : ℕ) → IsSome (node_at v t) → HasAtom u v a → InClosed s t v a
  kept_has v a is has =
      let now = kept_now v is in
      let l = some_and (label_at v u) (λ label. Contains label a) has in
      let same : now.0 ≡ l.0 = cc in
      All-contains (InClosed s t v) now.0 a now.2 (subst (λ (z : List ℕ). Contains z a) (sym same) l.2)

  -- one more atom at w leaves the tree grown, where the atom is in the closed label there, or is one that an added node gets
  one_atom : (w : List ℕ) (a : ℕ) → (IsSome (node_at w t) → InClosed s t w a)
      → ((l : List ℕ) → label_at w u ≡ Some l → IsNone (node_at w t) → (x : IsAdded s u w l) → InRest s x.kind (visible_in s x.parent) a)
      → IsGrown s t (edit_at w (add_class a) u)
  one_atom w a if_page if_added = record {
    kept = λ v label at.
        let was = some_and (label_at v u) (λ now. All (Contains now) label × All (InClosed s t v) now) (grown_u.kept v label at) in
        let now = later u w a v was.0 (same_or_other v w) was.1 in
        and_some (λ now. All (Contains now) label × All (InClosed s t v) now) (label_at v (edit_at w (add_class a) u)) now.0 now.1 (
          among_all label now.0 (λ x there. now.2.more x (all_among_each label was.0 was.2.0 x there)),
          All-from_Contains (InClosed s t v) now.0 (λ x there. elim (now.2.only x there) [
            | inl old ↦ All-contains (InClosed s t v) was.0 x was.2.1 old
            | inr both ↦
                subst (λ z. InClosed s t v z) (sym both.1)
                (subst (λ z. IsSome (node_at z t) → InClosed s t z a) (sym both.0) if_page (there_label v t label at))
          ]),
        );
    added = λ v label at none.
        let was = earlier u w a v label at (same_or_other v w) in
        let y = grown_u.added v was.0 was.1 none in
        let now = later u w a v was.0 (same_or_other v w) was.1 in
        let parent = later u w a y.p y.parent (same_or_other y.p w) y.there in
        let same : now.0 ≡ label = cc in
        record {
          kind = y.kind;
          p = y.p;
          n = y.n;
          place = y.place;
          parent = parent.0;
          there = parent.1;
          spawned = kinds_at-more s y.parent parent.0 parent.2.more y.kind y.spawned;
          within = subst (λ (z : List ℕ). All (InRest s y.kind (visible_in s parent.0)) z) same
              (All-from_Contains (InRest s y.kind (visible_in s parent.0)) now.0 (λ x there.
              rest_more s y.kind (visible_in s y.parent) (visible_in s parent.0) (visible_in-more s y.parent parent.0 parent.2.more) x
              (elim (now.2.only x there) [
                | inl old ↦ All-contains (InRest s y.kind (visible_in s y.parent)) was.0 x y.within old
                | inr both ↦
                    subst (λ z. InRest s y.kind (visible_in s y.parent) z) (sym both.1)
                    (subst (λ z. (l : List ℕ) → label_at z u ≡ Some l → IsNone (node_at z t) → (x : IsAdded s u z l) → InRest s x.kind (visible_in s x.parent) a) (sym both.0) if_added was.0 was.1 none y)
              ])));
        };
  }

  -- an added node's parent is the node whose child it is
  parent_label : (v p : List ℕ) (n : ℕ) (label l : List ℕ) (x : IsAdded s u v label) → v ≡ p ++ n ∷ [] → label_at p u ≡ Some l → x.parent ≡ l
  parent_label v p n label l x place at =
      let same = same_parent v x.p p x.n n x.place place in
      let there : label_at p u ≡ Some x.parent = subst (λ z. label_at z u ≡ Some x.parent) same x.there in
      cc

  local_step : (r : Local) (w : List ℕ) → Contains s.local r → IsSomeAnd (label_at w u) (λ label. All (Contains label) r.needs) → IsGrown s t (edit_at w (add_class r.gives) u)
  local_step r w listed needs =
      let l = some_and (label_at w u) (λ label. All (Contains label) r.needs) needs in
      one_atom w r.gives
      (λ is. closed_local s t w r listed (All-from_Contains (InClosed s t w) r.needs (λ x there. kept_has w x is (and_some (λ label. Contains label x) (label_at w u) l.0 l.1 (all_among_each r.needs l.0 l.2 x there)))))
      (λ label at none x.
      let same : l.0 ≡ label = cc in
      rest_local s x.kind (visible_in s x.parent) r listed (All-from_Contains (InRest s x.kind (visible_in s x.parent)) r.needs (λ y there.
      All-contains (InRest s x.kind (visible_in s x.parent)) label y x.within (subst (λ (z : List ℕ). Contains z y) same (all_among_each r.needs l.0 l.2 y there)))))

  up_step : IsSound s → (l : Link) (w p : List ℕ) (n : ℕ) → Contains s.up l → w ≡ p ++ n ∷ [] → HasAtom u p l.from → IsGrown s t (edit_at w (add_class l.to) u)
  up_step sound l w p n listed place has =
      let above : parent_of w ≡ Some p = ap parent_of place ∙ parent_of-child p n in
      let at = some_and (label_at p u) (λ label. Contains label l.from) has in
      one_atom w l.to
      (λ is. closed_up s t w p l above listed (kept_has p l.from (parent_there p n t (subst (λ z. IsSome (node_at z t)) place is)) has))
      (λ label at_w none x.
      let same = parent_label w p n label at.0 x place at.1 in
      let seen : Contains s.visible l.from = subst (λ (z : List ℕ). Contains z l.from) (sym sound.visible) (is-set_of (map (λ (l : Link). l.from) s.up) l.from (Contains-map (λ (l : Link). l.from) s.up l listed)) in
      rest_up s x.kind (visible_in s x.parent) l listed ((Contains-cut_to s.visible x.parent l.from).1 (seen, subst (λ (z : List ℕ). Contains z l.from) (sym same) at.2)))

  down_step : (l : Link) (w : List ℕ) (n : ℕ) → Contains s.down l → HasAtom u (w ++ n ∷ []) l.from → IsGrown s t (edit_at w (add_class l.to) u)
  down_step l w n listed has =
      let at = some_and (label_at (w ++ n ∷ []) u) (λ label. Contains label l.from) has in
      one_atom w l.to
      (λ is. elim (there_or_not (w ++ n ∷ []) t) [
        | inl real ↦ let m = child_number w n t real in closed_real s t w n m.0 l m.1 m.2 listed (kept_has (w ++ n ∷ []) l.from real has)
        | inr none ↦
            let x = grown_u.added (w ++ n ∷ []) at.0 at.1 none in
            let now = kept_now w is in
            let same = parent_label (w ++ n ∷ []) w n at.0 now.0 x refl now.1 in
            closed_added s t w l x.parent x.kind listed (subst (λ (z : List ℕ). All (InClosed s t w) z) (sym same) now.2) x.spawned (All-contains (InRest s x.kind (visible_in s x.parent)) at.0 l.from x.within at.2)
      ])
      (λ label at_w none y.
      let gone : IsNone (node_at (w ++ n ∷ []) t) = elim (there_or_not (w ++ n ∷ []) t) [
        | inl real ↦ absurd (some_not_none (node_at w t) (parent_there w n t real) none)
        | inr none ↦ none
      ] in
      let x = grown_u.added (w ++ n ∷ []) at.0 at.1 gone in
      let same = parent_label (w ++ n ∷ []) w n at.0 label x refl at_w in
      rest_down s y.kind (visible_in s y.parent) l x.parent x.kind listed
      (subst (λ (z : List ℕ). All (InRest s y.kind (visible_in s y.parent)) z) (sym same) y.within) x.spawned
      (All-contains (InRest s x.kind (visible_in s x.parent)) at.0 l.from x.within at.2))

  spawn_step : (c : Spawn) (w : List ℕ) → Contains s.child c → HasAtom u w c.needs → IsGrown s t (edit_at w (add_child (kind_label s c.kind)) u)
  spawn_step c w listed has =
      let label_w = some_and (label_at w u) (λ label. Contains label c.needs) has in
      let parent = node_there w u (there_label w u label_w.0 label_w.1) in
      let u' = edit_at w (add_child (kind_label s c.kind)) u in
      let new = w ++ length_of parent.0.below ∷ [] in
      let old : (v : List ℕ) → IsSome (node_at v u) → label_at v u' ≡ label_at v u = λ v is. label_at-add_child_old w v (kind_label s c.kind) u is in
      record {
        kept = λ v label at.
            let was = some_and (label_at v u) (λ now. All (Contains now) label × All (InClosed s t v) now) (grown_u.kept v label at) in
            and_some (λ now. All (Contains now) label × All (InClosed s t v) now) (label_at v u') was.0 (old v (there_label v u was.0 was.1) ∙ was.1) was.2;
        added = λ v label at none. elim (IsSome-add_child w v (kind_label s c.kind) u parent.0 parent.1 (there_label v u' label at)) [
          | inl is ↦
              let y = grown_u.added v label (sym (old v is) ∙ at) none in
              record {
                kind = y.kind;
                p = y.p;
                n = y.n;
                place = y.place;
                parent = y.parent;
                there = old y.p (there_label y.p u y.parent y.there) ∙ y.there;
                spawned = y.spawned;
                within = y.within;
              }
          | inr same ↦
              let first : label_at new u' ≡ Some (kind_label s c.kind) = label_at-add_child_new w (kind_label s c.kind) u parent.0 parent.1 in
              let is_new : label_at new u' ≡ Some label = subst (λ z. label_at z u' ≡ Some label) same at in
              let is_kind : kind_label s c.kind ≡ label = cc in
              record {
                kind = c.kind;
                p = w;
                n = length_of parent.0.below;
                place = same;
                parent = label_w.0;
                there = old w (there_label w u label_w.0 label_w.1) ∙ label_w.1;
                spawned = is-kinds_at s label_w.0 c.kind (record { spawn = c; listed = listed; needs = label_w.2; kind = refl });
                within = All-from_Contains (InRest s c.kind (visible_in s label_w.0)) label (λ x there.
                    rest_start s c.kind (visible_in s label_w.0) x (subst (λ (z : List ℕ). Contains z x) (sym is_kind) there));
              }
        ];
      }

  pub step_grown : IsSound s → (step : SimpleStep) → IsLegal s u step → IsGrown s t (after_step s u step)
  step_grown sound (by_local r v) legal = local_step r v legal.0 legal.1
  step_grown sound (by_up l v) legal = let (listed, is, p, n, place, has) = legal in up_step sound l v p n listed place has
  step_grown sound (by_down l v) legal = let (listed, n, has) = legal in down_step l v n listed has
  step_grown sound (by_spawn c v) legal = spawn_step c v legal.0 legal.1

-- the page is grown
pub page_grown : (s : System) (t : LabelTree) → IsGrown s t t
page_grown s t = record {
  kept = λ v label at. and_some (λ now. All (Contains now) label × All (InClosed s t v) now) (label_at v t) label at
      (among_all label label (λ x there. there), All-from_Contains (InClosed s t v) label (λ x there. closed_start s t v label at x there));
  added = λ v label at none. absurd (some_not_none (node_at v t) (there_label v t label at) none);
}

pub steps_grown : (s : System) (t u : LabelTree) → IsSound s → (steps : List SimpleStep) → AreLegal s u steps → IsGrown s t u → IsGrown s t (end_of s u steps)
steps_grown s t u sound [] legal grown_u = grown_u
steps_grown s t u sound (step ∷ steps) legal grown_u = steps_grown s t (after_step s u step) sound steps legal.1 (step_grown s t u grown_u sound step legal.0)

-- what a page's node has after legal steps is in its closed label
pub closed_for_good : (s : System) (t : LabelTree) → IsSound s → (steps : List SimpleStep) → AreLegal s t steps
    → (v : List ℕ) (a : ℕ) → IsSome (node_at v t) → HasAtom (end_of s t steps) v a → InClosed s t v a
closed_for_good s t sound steps legal v a is has = kept_has s t (end_of s t steps) (steps_grown s t t sound steps legal (page_grown s t)) v a is has
