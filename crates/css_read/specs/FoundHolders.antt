-- The holders of a sheet, as far as it was read.
--     found_after     what is known behind one more step
--     found_from      what is known behind all steps
use Rattle.std.specs.Prelude.{ℕ, zero, suc, ◌-◌, not, Bool, true, false, if◌then◌else◌, List, [], ◌∷◌, ◌++◌, length, drop, Option, codes}
use Rattle.sel_text.specs.Grammar.{is_word}
use Rattle.css_read.specs.declared.fronts.Front.{Front}
use Rattle.css_read.specs.declared.fronts.Front.TheVariants.{Passed, Opens, Closes, Styles}
use Rattle.css_read.specs.declared.holders.Holder.{Holder}
use Rattle.css_read.specs.Holders.{Step, innermost, at_name}
use Rattle.css_read.specs.Units.{begins_gap}

-- the holders that began, the owners of the rules, and the numbers of the open holders, the innermost first
pub record Found : Type 0 where
  pub holders : List Holder
  pub owners : List (Option ℕ)
  pub opened : List ℕ

abbrev pub none_found : Found
none_found = record { holders = []; owners = []; opened = [] }

-- the list with the holder of this number changed
abbrev pub changed : (Holder → Holder) → ℕ → List Holder → List Holder
changed f n [] = []
changed f zero (h ∷ hs) = f h ∷ hs
changed f (suc n) (h ∷ hs) = h ∷ changed f n hs

-- the list with the innermost open holder changed
abbrev pub innermost_changed : (Holder → Holder) → List ℕ → List Holder → List Holder
innermost_changed f [] hs = hs
innermost_changed f (n ∷ outer) hs = changed f n hs

abbrev pub not_bare : Holder → Holder
not_bare h = record h { bare = false }

abbrev pub ended_at : ℕ → Holder → Holder
ended_at to h = record h { to = to }

-- a holder that a step begins; so far it ends with the file and is bare
abbrev pub begun : List ℕ → List ℕ → ℕ → ℕ → Holder
begun text outer from to = record { from = from; brace = to - 1; to = length text; inside = innermost outer; loose = not (is_word (at_name text from) (codes "layer")); bare = true }

-- what is known after something is passed over: white space, a comment, or anything else
abbrev pub passed_over : Bool → Found → Found
passed_over gap f = if gap then f else record f { holders = innermost_changed not_bare f.opened f.holders }

-- what is known behind the end of the innermost open holder
abbrev pub closed : ℕ → Found → Found
closed to f = record { holders = innermost_changed (ended_at to) f.opened f.holders; owners = f.owners; opened = drop 1 f.opened }

abbrev pub with_rule : Found → Found
with_rule f = record f { owners = f.owners ++ innermost f.opened ∷ [] }

abbrev pub found_after : List ℕ → Found → Front → ℕ → ℕ → Found
found_after text f Passed from to = passed_over (begins_gap (drop from text)) f
found_after text f Opens from to = record { holders = f.holders ++ begun text f.opened from to ∷ []; owners = f.owners; opened = length f.holders ∷ f.opened }
found_after text f Closes from to = closed to f
found_after text f (Styles len) from to = with_rule f

unfoldable pub found_from : List ℕ → Found → List Step → Found
found_from text f [] = f
found_from text f (s ∷ ss) = found_from text (found_after text f s.front s.from s.to) ss
