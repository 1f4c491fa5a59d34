-- First rounds, found by the parents of their nodes.
use Rattle.std.proofs.lemmas.Slice.Eq.{bytes_eq-Decides}
use Rattle.std.specs.Str.{bytes_eq}
use Rattle.std.proofs.Common.{◌≡◌, ◌==◌, ◌-◌, ◌<◌, ◌≤◌, ℕ, List, [], ◌∷◌, ◌++◌, length, get_or, slice_get, Option, Some, None, option_map, unwrap_or, Contains, refl, sym, ap, ◌∙◌, inl, inr, arith, subst, ◌&&◌, true, false}
use Rattle.std.proofs.lemmas.Bool.{cases_Bool, both_ways, eqb-true, eq-eqb, and_from}
use Rattle.std.proofs.lemmas.List.{length_push}
use Rattle.tp_base.proofs.Lists.{slice_get-push}
use Rattle.std.proofs.lemmas.Option.{slice_get-get_or, slice_get_past}
use Rattle.tp_base.proofs.Rising.{Contains-here, Contains-behind, Contains-cons, Contains-none}
use Rattle.tree_sem.specs.Paths.{parent_of}
use Rattle.tree_sem.proofs.NodeLemmas.{Contains-map, map-Contains}
use Rattle.tree_sem.proofs.PathLemmas.{parent_of-child}
use Rattle.closed_page.specs.Notes.{NodeFirst, IsSpot}
use Rattle.closed_page.specs.declared.first_rounds.Spot.{Spot}
use Rattle.closed_page.specs.ClosedPages.{round_of}
use Rattle.closed_page.specs.Views.{PageFirst, firsts_of}
use Rattle.closed_page.specs.Labelled.{IsAbove}
use Rattle.closed_page.specs.Firsts.{path_to, IsSpotOf, placed_one, placed, AreSpots, AreOfNodes, AreKept, IsFirstAt, IsRoundIn}
use Rattle.tree_sem.proofs.PathLemmas.{same_parent}

-- ---- the round that stands with a node and an atom

tests_of : (f : PageFirst) (v : List ℕ) (a : ℕ) → (bytes_eq f.at v && (f.atom == a)) ≡ true → (f.at ≡ v) × (f.atom ≡ a)
tests_of f v a pass = elim (bytes_eq f.at v) as (λ b. bytes_eq f.at v ≡ b → (b && (f.atom == a)) ≡ true → (f.at ≡ v) × (f.atom ≡ a)) [
  | true ↦ λ e h. ((bytes_eq-Decides f.at v).0 e, eqb-true f.atom a h)
  | false ↦ λ e h. cc
] refl pass

pub round_of-some : (fs : List PageFirst) (v : List ℕ) (a r : ℕ) → round_of (firsts_of fs) v a ≡ Some r → (f : PageFirst) × Contains fs f × (f.at ≡ v) × (f.atom ≡ a) × (f.round ≡ r)
round_of-some [] v a r is = cc
round_of-some (f ∷ fs) v a r is = elim (cases_Bool (bytes_eq f.at v && (f.atom == a))) [
  | inl same ↦ let here : Some f.round ≡ Some r = rw same at is in let tests = tests_of f v a same in (f, Contains-here f f fs refl, tests.0, tests.1, cc)
  | inr other ↦ let rest = round_of-some fs v a r (rw other at is) in (rest.0, Contains-behind rest.0 f fs rest.1, rest.2, rest.3, rest.4)
]

pub round_of-none : (fs : List PageFirst) (v : List ℕ) (a : ℕ) → round_of (firsts_of fs) v a ≡ None → (f : PageFirst) → Contains fs f → f.at ≡ v → f.atom ≡ a → ⊥
round_of-none [] v a is f there at atom = Contains-none f there
round_of-none (g ∷ fs) v a is f there at atom = elim (cases_Bool (bytes_eq g.at v && (g.atom == a))) [
  | inl same ↦ let never : Some g.round ≡ None = rw same at is in cc
  | inr other ↦ elim ((Contains-cons f g fs).0 there) [
    | inl here ↦
        let at_g : g.at ≡ v = ap (λ (z : PageFirst). z.at) (sym here) ∙ at in
        let atom_g : g.atom ≡ a = ap (λ (z : PageFirst). z.atom) (sym here) ∙ atom in
        both_ways (bytes_eq g.at v && (g.atom == a)) other (and_from (bytes_eq g.at v) (g.atom == a) ((bytes_eq-Decides g.at v).1 at_g) (eq-eqb g.atom a atom_g))
    | inr behind ↦ round_of-none fs v a (rw other at is) f behind at atom
  ]
]

-- ---- what stands for a node

last_step : (v : List ℕ) (n : ℕ) → slice_get (v ++ n ∷ []) (length (v ++ n ∷ []) - 1) ≡ Some n
last_step v n =
    let long = length_push v n in
    let place : length (v ++ n ∷ []) - 1 ≡ length v = omega (arith, long) in
    ap (slice_get (v ++ n ∷ [])) place ∙ slice_get-push v n

pub same_step : (v : List ℕ) (n m : ℕ) → v ++ n ∷ [] ≡ v ++ m ∷ [] → n ≡ m
same_step v n m same =
    let both : Some n ≡ Some m = sym (last_step v n) ∙ ap (λ u. slice_get u (length u - 1)) same ∙ last_step v m in
    cc

pub not_root : (v : List ℕ) (n : ℕ) → [] ≡ v ++ n ∷ [] → ⊥
not_root v n same = let never : None ≡ Some v = ap parent_of same ∙ parent_of-child v n in cc

pub path_there : (nodes : List (List ℕ)) (p s : ℕ) → p < length nodes → path_to nodes p s ≡ get_or nodes p [] ++ s ∷ []
path_there nodes p s less = ap (λ o. unwrap_or (option_map (λ (v : List ℕ). v ++ s ∷ []) o) []) (slice_get-get_or nodes p [] less)

pub path_root : (nodes : List (List ℕ)) (p s : ℕ) → length nodes ≤ p → path_to nodes p s ≡ []
path_root nodes p s le = ap (λ o. unwrap_or (option_map (λ (v : List ℕ). v ++ s ∷ []) o) []) (slice_get_past nodes p le)

-- what a path goes on from is the node that stands for it
pub spot_child : (nodes : List (List ℕ)) → ((i j : ℕ) → i < length nodes → j < length nodes → get_or nodes i [] ≡ get_or nodes j [] → i ≡ j)
    → (p n q t : ℕ) → p < length nodes → IsSpot nodes q t → path_to nodes q t ≡ get_or nodes p [] ++ n ∷ [] → (q ≡ p) × (t ≡ n)
spot_child nodes once p n q t less spot same = elim spot [
  | inl there ↦
      let both : get_or nodes q [] ++ t ∷ [] ≡ get_or nodes p [] ++ n ∷ [] = sym (path_there nodes q t there) ∙ same in
      let parents : get_or nodes q [] ≡ get_or nodes p [] = same_parent (get_or nodes q []) (get_or nodes p []) t n both in
      (once q p there less parents, same_step (get_or nodes p []) t n (ap (λ (z : List ℕ). z ++ t ∷ []) (sym parents) ∙ both))
  | inr none ↦ absurd (not_root (get_or nodes p []) n (sym (path_root nodes q t (omega (arith, none.0))) ∙ same))
]

module _ (nodes : List (List ℕ)) (once : (i j : ℕ) → i < length nodes → j < length nodes → get_or nodes i [] ≡ get_or nodes j [] → i ≡ j) (v : List ℕ) where
  pub spot_some : (p s : ℕ) → IsAbove nodes v (Some p) → ((u : List ℕ) (k : ℕ) → v ≡ u ++ k ∷ [] → s ≡ k) → IsSpotOf nodes v (record { parent = p; step = s })
  spot_some p s above last =
      let step : s ≡ above.1 = last (get_or nodes p []) above.1 above.2 in
      record {
        right = inl above.0;
        path = path_there nodes p s above.0 ∙ ap (λ z. get_or nodes p [] ++ z ∷ []) step ∙ sym above.2;
        only = λ q t spot same. let both = spot_child nodes once p above.1 q t above.0 spot (same ∙ above.2) in (both.0, both.1 ∙ sym step);
      }

  pub spot_none : (p : ℕ) → p ≡ length nodes → v ≡ [] → IsSpotOf nodes v (record { parent = p; step = 0 })
  spot_none p count root = record {
    right = inr (count, refl);
    path = path_root nodes p 0 (omega (arith, count)) ∙ sym root;
    only = λ q t spot same. elim spot [
      | inl less ↦ absurd (not_root (get_or nodes q []) t (sym root ∙ sym same ∙ path_there nodes q t less))
      | inr none ↦ (none.0 ∙ sym count, none.1)
    ];
  }

-- ---- firsts with the paths of their nodes

pub is_placed : (nodes : List (List ℕ)) (fs : List NodeFirst) (f : NodeFirst) → Contains fs f → Contains (placed nodes fs) (placed_one nodes f)
is_placed nodes fs f there = Contains-map (placed_one nodes) fs f there

pub placed-is : (nodes : List (List ℕ)) (fs : List NodeFirst) (g : PageFirst) → Contains (placed nodes fs) g → (f : NodeFirst) × Contains fs f × (g ≡ placed_one nodes f)
placed-is nodes fs g there = map-Contains (placed_one nodes) fs g there

-- the same firsts in another order say the same
pub round_same : (nodes : List (List ℕ)) (fs gs : List PageFirst) → AreOfNodes nodes fs → ((f : PageFirst) → Contains gs f → Contains fs f) → ((f : PageFirst) → Contains fs f → Contains gs f) → (v : List ℕ) (a : ℕ)
    → round_of (firsts_of gs) v a ≡ round_of (firsts_of fs) v a
round_same nodes fs gs of back on v a = elim (round_of (firsts_of gs) v a) as (λ o. round_of (firsts_of gs) v a ≡ o → o ≡ round_of (firsts_of fs) v a) [
  | None ↦ λ e. elim (round_of (firsts_of fs) v a) as (λ o. round_of (firsts_of fs) v a ≡ o → None ≡ o) [
    | None ↦ λ e'. refl
    | Some r ↦ λ e'. let (f, there, at, atom, round) = round_of-some fs v a r e' in absurd (round_of-none gs v a e f (on f there) at atom)
  ] refl
  | Some r ↦ λ e.
      let (g, there, at, atom, round) = round_of-some gs v a r e in
      elim (round_of (firsts_of fs) v a) as (λ o. round_of (firsts_of fs) v a ≡ o → Some r ≡ o) [
        | None ↦ λ e'. absurd (round_of-none fs v a e' g (back g there) at atom)
        | Some m ↦ λ e'.
            let (h, h_there, h_at, h_atom, h_round) = round_of-some fs v a m e' in
            let one : g.round ≡ h.round = of.one g h (back g there) h_there (at ∙ sym h_at) (atom ∙ sym h_atom) in
            ap Some (sym round ∙ one ∙ h_round)
      ] refl
] refl

module _ (nodes : List (List ℕ)) (fs gs : List NodeFirst) (back : (f : NodeFirst) → Contains gs f → Contains fs f) (on : (f : NodeFirst) → Contains fs f → Contains gs f) (kept : AreKept nodes fs) where
  to_old : (g : PageFirst) → Contains (placed nodes gs) g → Contains (placed nodes fs) g
  to_old g there =
      let f = placed-is nodes gs g there in
      subst (Contains (placed nodes fs)) (sym f.2) (is_placed nodes fs f.0 (back f.0 f.1))

  to_new : (g : PageFirst) → Contains (placed nodes fs) g → Contains (placed nodes gs) g
  to_new g there =
      let f = placed-is nodes fs g there in
      subst (Contains (placed nodes gs)) (sym f.2) (is_placed nodes gs f.0 (on f.0 f.1))

  pub moved_kept : AreKept nodes gs
  moved_kept = record {
    rooted = kept.rooted;
    of_nodes = record {
      once = kept.of_nodes.once;
      there = λ g listed. kept.of_nodes.there g (to_old g listed);
      one = λ g h in_g in_h. kept.of_nodes.one g h (to_old g in_g) (to_old h in_h);
    };
    spots = λ f there. kept.spots f (back f there);
  }

  pub moved_rounds : (v : List ℕ) (a : ℕ) → round_of (firsts_of (placed nodes gs)) v a ≡ round_of (firsts_of (placed nodes fs)) v a
  moved_rounds = round_same nodes (placed nodes fs) (placed nodes gs) kept.of_nodes to_old to_new

-- ---- the round of an atom at a node

module _ (nodes : List (List ℕ)) (fs : List NodeFirst) (of : AreOfNodes nodes (placed nodes fs)) (spots : AreSpots nodes fs) (v : List ℕ) (spot : Spot) (stands : IsSpotOf nodes v spot) (a : ℕ) where
  at_path : (f : NodeFirst) → IsFirstAt spot a f → path_to nodes f.parent f.step ≡ v
  at_path f at = ap (λ z. path_to nodes z f.step) at.parent ∙ ap (path_to nodes spot.parent) at.step ∙ stands.path

  pub round_is : (o : Option ℕ) → IsRoundIn fs spot a o → o ≡ round_of (firsts_of (placed nodes fs)) v a
  round_is None none = elim (round_of (firsts_of (placed nodes fs)) v a) as (λ o. round_of (firsts_of (placed nodes fs)) v a ≡ o → None ≡ o) [
    | None ↦ λ e. refl
    | Some r ↦ λ e.
        let (g, there, at, atom, round) = round_of-some (placed nodes fs) v a r e in
        let (f, listed, same) = placed-is nodes fs g there in
        let both = stands.only f.parent f.step (spots f listed) (ap (λ (z : PageFirst). z.at) (sym same) ∙ at) in
        absurd (none f listed (record { parent = both.0; step = both.1; atom = ap (λ (z : PageFirst). z.atom) (sym same) ∙ atom }))
  ] refl
  round_is (Some r) (f, listed, at, round) = elim (round_of (firsts_of (placed nodes fs)) v a) as (λ o. round_of (firsts_of (placed nodes fs)) v a ≡ o → Some r ≡ o) [
    | None ↦ λ e. absurd (round_of-none (placed nodes fs) v a e (placed_one nodes f) (is_placed nodes fs f listed) (at_path f at) at.atom)
    | Some m ↦ λ e.
        let (h, h_there, h_at, h_atom, h_round) = round_of-some (placed nodes fs) v a m e in
        let one : f.round ≡ h.round = of.one (placed_one nodes f) h (is_placed nodes fs f listed) h_there (at_path f at ∙ sym h_at) (at.atom ∙ sym h_atom) in
        ap Some (sym round ∙ one ∙ h_round)
  ] refl

-- a path that isn't a node's has no first
pub round_nowhere : (nodes : List (List ℕ)) (fs : List PageFirst) (v : List ℕ) (a : ℕ) → AreOfNodes nodes fs → (Contains nodes v → ⊥) → None ≡ round_of (firsts_of fs) v a
round_nowhere nodes fs v a of none = elim (round_of (firsts_of fs) v a) as (λ o. round_of (firsts_of fs) v a ≡ o → None ≡ o) [
  | None ↦ λ e. refl
  | Some r ↦ λ e. let (f, there, at, atom, round) = round_of-some fs v a r e in absurd (none (subst (Contains nodes) at (of.there f there)))
] refl
