-- What stands directly in the block of a holder, one after the other.
use Rattle.std.specs.Prelude.{◌≡◌, ℕ, ◌<◌, Bool, true, false, if◌then◌else◌, List, [], ◌∷◌, length, get_or, Option}
use Rattle.css_read.specs.Pruned.{is_owner}
use Rattle.css_prune.specs.declared.holders.Held.{Held}
use Rattle.css_prune.specs.declared.holders.Held.TheVariants.{Nothing, Gone, Stays}

-- with one more, which goes or stays
abbrev pub and_one : Held → Bool → Held
and_one Stays g = Stays
and_one h g = if g then Gone else Stays

abbrev pub and_all : Held → List Bool → Held
and_all h [] = h
and_all h (g ∷ gs) = and_all (and_one h g) gs

abbrev pub all_go : Held → Bool
all_go Gone = true
all_go h = false

-- with one more, if it stands in the block of the holder with a number
abbrev pub and_owned : ℕ → Option ℕ → Bool → Held → Held
and_owned n owner g h = if is_owner n owner then and_one h g else h

-- each holder's, before and with one more
pub record AreTold (owner : Option ℕ) (g : Bool) (old new : List Held) : Type 0 where
  pub count : length new ≡ length old
  pub each : (n : ℕ) → n < length old → get_or new n Nothing ≡ and_owned n owner g (get_or old n Nothing)
