-- A step behind a part.
use Rattle.std.proofs.Common.{◌≡◌, ℕ, Bool, ◌<◌, List, [], ◌∷◌, length, None, Some, Ok, Err, refl, arith}
use Rattle.sel_text.specs.declared.faults.SelFault.{SelFault}
use Rattle.sel_text.specs.declared.selectors.Join.{Join}
use Rattle.sel_text.specs.Grammar.{any_part, join_at}
use Rattle.sel_text.specs.Machine.{Draft, with_join, with_part, later_step}

pub at_join : (drops : Bool) (to : ℕ) (d : Draft) (bs : List ℕ) (j : Join) (rest : List ℕ) → join_at to bs ≡ Ok (Some j, rest) → later_step drops to d bs ≡ Ok (with_join d j, rest)
unfolding later_step
at_join drops to d bs j rest is = rw is refl

pub at_end : (drops : Bool) (to : ℕ) (d : Draft) (bs rest : List ℕ) → join_at to bs ≡ Ok (None, rest) → length rest ≡ 0 → later_step drops to d bs ≡ Ok (d, rest)
unfolding later_step
at_end drops to d bs [] is none = rw is refl
at_end drops to d bs (b ∷ rest) is none = absurd (omega arith)

pub at_part : (drops : Bool) (to : ℕ) (d : Draft) (bs rest : List ℕ) → join_at to bs ≡ Ok (None, rest) → 0 < length rest → later_step drops to d bs ≡ with_part to d (any_part drops rest) rest
unfolding later_step
at_part drops to d bs [] is some = absurd (omega arith)
at_part drops to d bs (b ∷ rest) is some = rw is refl

pub at_fault : (drops : Bool) (to : ℕ) (d : Draft) (bs : List ℕ) (e : SelFault) → join_at to bs ≡ Err e → later_step drops to d bs ≡ Err e
unfolding later_step
at_fault drops to d bs e is = rw is refl
