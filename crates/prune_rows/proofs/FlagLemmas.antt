-- Flags that are made one after the other.
use Rattle.std.proofs.Common.{◌≡◌, ◌+◌, Bool, true, false, List, [], ◌∷◌, ◌++◌, length, map, subst, arith, append_assoc}
use Rattle.std.proofs.lemmas.List.{append-nil, length_push}
use Rattle.css_read.specs.declared.sheets.SheetItem.{SheetItem}
use Rattle.css_read.specs.Effects.{AreJudged}
use Rattle.css_read.specs.Pruned.{Flagged, with_flags}
use Rattle.css_read.specs.Sheets.{Item}
use Rattle.css_read.specs.Views.{item_of}
use Rattle.prune_rows.specs.Flags.{CanGo}

-- with flags of those that are left, the flags are right
pub record AreFlags (items rest : List SheetItem) (flags : List Bool) : Type 0 where
  pub count : length flags + length rest ≡ length items
  pub judged : (gs : List Bool) → AreJudged (with_flags (map item_of rest) gs) → AreJudged (with_flags (map item_of items) (flags ++ gs))

pub none_yet : (items : List SheetItem) → AreFlags items items []
none_yet items = record { count = omega arith; judged = λ gs are. are }

before_others : (g : Bool) (i : Item) (fs : List Flagged) → CanGo g i → AreJudged fs → AreJudged ((i, g) ∷ fs)
before_others true i fs can are = (can.0, are)
before_others false i fs can are = are

pub one_flag : (items rest later : List SheetItem) (i : SheetItem) (flags new : List Bool) (g : Bool) → AreFlags items rest flags → rest ≡ i ∷ later → CanGo g (item_of i) → new ≡ flags ++ g ∷ [] → AreFlags items later new
one_flag items rest later i flags new g are first can more =
    let before = rw first at are in
    record {
      count = let size = length_push flags g in rw more (omega (arith, before.count));
      judged = λ gs judged. rw (more, append_assoc flags (g ∷ []) gs) (before.judged (g ∷ gs) (before_others g (item_of i) (with_flags (map item_of later) gs) can judged));
    }

pub all_flags : (items rest : List SheetItem) (flags : List Bool) → AreFlags items rest flags → length rest ≡ 0 → (length flags ≡ length items) × AreJudged (with_flags (map item_of items) flags)
all_flags items (i ∷ is) flags are none = absurd (omega arith)
all_flags items [] flags are none = (omega (arith, are.count), subst (λ x. AreJudged (with_flags (map item_of items) x)) (append-nil flags) (are.judged [] tt))
