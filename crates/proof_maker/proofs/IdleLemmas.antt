-- Spawn rules whose atom never comes.
--     idle_next     one more of the first
--     idle_spawn    none of them adds a child
use Rattle.std.proofs.Common.{◌≡◌, ℕ, ◌+◌, ◌<◌, false, ◌&&◌, List, length, get_or, slice_get, Some, option_map, unwrap_or, inl, inr, sym, ap, ◌∙◌, arith}
use Rattle.std.proofs.lemmas.Bool.{cases_lt}
use Rattle.std.proofs.lemmas.Option.{slice_get-get_or}
use Rattle.tp_base.specs.Classes.{has_class}
use Rattle.simple_core.specs.declared.rules.Spawn.{Spawn}
use Rattle.simple_core.specs.declared.system.System.{System}
use Rattle.simple_core.specs.Labels.{visible_in}
use Rattle.simple_core.specs.Rounds.{grown}
use Rattle.proof_needs.specs.Choices.{spawn_needs, spawn_kind}
use Rattle.proof_maker.specs.declared.worlds.Place.{Place}
use Rattle.proof_maker.specs.declared.worlds.World.{World}
use Rattle.proof_maker.specs.Tellings.{AreIdle}
use Rattle.proof_maker.specs.Worlds.{labels_of, spawn_has}

pub idle_next : (s : System) (labels : ℕ → List ℕ) (c : ℕ) (spawns : List Spawn) (x : Spawn) → AreIdle s labels c → spawns ≡ s.child → c < length spawns → x ≡ get_or spawns c x
    → ((k : ℕ) → has_class x.needs (labels k) ≡ false) → AreIdle s labels (c + 1)
idle_next s labels c spawns x before are less is never = λ d k lt. elim (cases_lt d c) [
  | inl earlier ↦ before d k earlier
  | inr later ↦
      let same : d ≡ c = omega (arith, lt, later) in
      let at : slice_get s.child c ≡ Some x = ap (λ xs. slice_get xs c) (sym are) ∙ slice_get-get_or spawns c x less ∙ ap Some (sym is) in
      let needs : spawn_needs s c ≡ x.needs = ap (λ o. unwrap_or (option_map (λ (r : Spawn). r.needs) o) 0) at in
      ap (λ e. has_class (spawn_needs s e) (labels k)) same ∙ ap (λ a. has_class a (labels k)) needs ∙ never k
]

pub idle_spawn : {X : Type 0} (world : World X) (place : Place) (k from n : ℕ) → AreIdle world.system.now (labels_of world.system.now world.page.now place) n
    → (c : ℕ) → c < n → spawn_has world place k from c ≡ false
idle_spawn world place k from n idle c less =
    let s = world.system.now in
    ap (λ b. b && has_class from (grown s k (spawn_kind s c) (visible_in s (labels_of s world.page.now place k)))) (idle c k less)
