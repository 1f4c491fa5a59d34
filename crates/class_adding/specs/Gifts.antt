-- What added children give to their parents, round by round.
--     given_by k gifts       what is given after k rounds
--     IsGiven s kind seen gifts   a child of the kind below the visible label gives these
--     AreGifts s known rows  each row is of a known pair, and has what it gives
use Rattle.std.specs.Prelude.{◌≡◌, ◌<◌, ◌^◌, ℕ, nat_le, List, map, Contains}
use Rattle.std.specs.List.{filter}
use Rattle.pair_table.specs.declared.table.Row.{Row}
use Rattle.simple_core.specs.declared.system.System.{System}
use Rattle.simple_core.specs.Labels.{given_by_links}
use Rattle.simple_core.specs.Rounds.{grown}
use Rattle.simple_core.specs.Pairs.{Pair}
use Rattle.class_adding.specs.declared.gifts.Gift.{Gift}

abbrev pub given_by : ℕ → List Gift → List ℕ
given_by k gifts = map (λ g. g.to) (filter (λ g. nat_le g.round k) gifts)

-- all come in rounds that are counted
abbrev pub AreEarly : List Gift → Type 0
AreEarly gifts = (g : Gift) → Contains gifts g → g.round < 2 ^ 62

pub record IsGiven (s : System) (kind : ℕ) (seen : List ℕ) (gifts : List Gift) : Type 0 where
  pub gives : (k : ℕ) → given_by k gifts ≡ given_by_links s.down (grown s k kind seen)
  pub early : AreEarly gifts

abbrev pub AreGifts : System → (Pair → Type 0) → List (Row (List Gift)) → Type 0
AreGifts s known rows = (r : Row (List Gift)) → Contains rows r → known (r.kind, r.label) × IsGiven s r.kind r.label r.value
