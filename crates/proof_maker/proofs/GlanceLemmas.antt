-- What a look at one atom gives.
--     chosen_found, chosen_none     the chosen reason, by the way that is found
--     first_some                    an atom that comes has a first round
--     page_glance, added_glance     a look at a place, as one at its spot
use Rattle.std.proofs.Common.{◌≡◌, ℕ, suc, List, Contains, find, Option, Some, None, option_map, unwrap_or, sym, ap, ◌∙◌, subst}
use denote.Bor.{Bor}
use Rattle.tree_sem.specs.Trees.{LabelTree}
use Rattle.simple_core.specs.declared.system.System.{System}
use Rattle.simple_core.specs.Rounds.{IsFirst}
use Rattle.proof_maker.specs.declared.choices.Found.{Found}
use Rattle.proof_needs.specs.declared.needs.Choice.TheVariants.{Start}
use Rattle.proof_maker.specs.declared.glances.Glance.{Glance}
use Rattle.proof_maker.specs.declared.told.Told.{Told}
use Rattle.proof_maker.specs.declared.worlds.Place.TheVariants.{Node, Added}
use Rattle.proof_needs.specs.Choices.{Setting, at_start, stands, ways, chosen}
use Rattle.proof_maker.specs.Glances.{IsGlanceAt, IsGlance}
use Rattle.proof_needs.specs.Triples.{Triple, page_node, added}
use Rattle.proof_maker.specs.Reasons.{reason_of, found_reason}

module _ (s : System) (set : Setting) (v : List ℕ) (a round before : ℕ) (later : round ≡ suc before) (o : Option Found) (is : option_map found_reason o ≡ find (stands s set before v) (ways s set v a)) where
  pub chosen_found : (f : Found) → o ≡ Some f → found_reason f ≡ chosen s set v a round
  chosen_found f at = ap (λ w. unwrap_or w at_start) (ap (option_map found_reason) (sym at) ∙ is) ∙ ap (chosen s set v a) (sym later)

  pub chosen_none : (f : Found) → o ≡ None → f.choice ≡ Start → found_reason f ≡ chosen s set v a round
  chosen_none f none start = ap reason_of start ∙ ap (λ w. unwrap_or w at_start) (ap (option_map found_reason) (sym none) ∙ is) ∙ ap (chosen s set v a) (sym later)

pub first_some : (f : ℕ → List ℕ) (a : ℕ) (o : Option ℕ) → ((k : ℕ) × Contains (f k) a) → IsFirst f a o → IsFirst f a (Some (unwrap_or o 0))
first_some f a None comes first = absurd (first comes.0 comes.1)
first_some f a (Some r) comes first = first

module _ (s : System) (page : LabelTree) (a : ℕ) (g : Glance) where
  pub page_glance : (at : Bor (List ℕ)) (v : List ℕ) → at.now ≡ v → IsGlanceAt s page (Node at) a g → IsGlance s page (page_node v) a g
  page_glance at v same is =
      subst (λ z. IsGlance s page (page_node z) a g) same (record { chosen = record { first = is.first; choice = sym is.choice }; below = is.below })

  pub added_glance : (kind : ℕ) (parent : Bor (List ℕ)) (told : Option (Bor Told)) (i : ℕ) (t : Triple) → t.kind ≡ kind → parent.now ≡ t.parent → IsGlanceAt s page (Added kind parent told i) a g → IsGlance s page (added t) a g
  added_glance kind parent told entry t kinds parents is =
      let one : record { kind = kind; parent = parent.now; atom = t.atom } ≡ t = λ i. record { kind = sym kinds i; parent = parents i; atom = t.atom } in
      subst (λ z. IsGlance s page (added z) a g) one (record { chosen = record { first = is.first; choice = sym is.choice }; below = is.below })
