-- Which holders are around which, and around which rules, by their numbers.
--     AreNested     each holder stands in the block of one with a smaller number, or in no block
--     AreHeld       each rule stands in the block of the holder with its owner's number, or in no block
use Rattle.std.specs.Prelude.{ℕ, ◌+◌, ◌≤◌, ◌<◌, List, [], ◌∷◌, Option, Some, None, IfSome, IsSomeAnd, slice_get}
use Rattle.css_read.specs.declared.holders.Holder.{Holder}
use Rattle.css_read.specs.Rules.{Rule}

-- the bytes between two offsets are in the block of the holder with this number, if there is a number
abbrev pub IsInBlock : List Holder → Option ℕ → ℕ → ℕ → Type 0
IsInBlock holders None from to = Unit {0}
IsInBlock holders (Some n) from to = IsSomeAnd (slice_get holders n) (λ h. (h.brace < from) × (to ≤ h.to))

abbrev pub AreHeld : List Holder → List Rule → List (Option ℕ) → Type 0
AreHeld holders [] [] = Unit {0}
AreHeld holders (r ∷ rules) (o ∷ owners) = IsInBlock holders o r.from r.to × AreHeld holders rules owners
AreHeld holders rules owners = ⊥

-- the holders from a number on
abbrev pub AreNestedFrom : List Holder → ℕ → List Holder → Type 0
AreNestedFrom holders n [] = Unit {0}
AreNestedFrom holders n (h ∷ hs) = IfSome h.inside (λ m. m < n) × IsInBlock holders h.inside h.from h.to × AreNestedFrom holders (n + 1) hs

abbrev pub AreNested : List Holder → Type 0
AreNested holders = AreNestedFrom holders 0 holders
