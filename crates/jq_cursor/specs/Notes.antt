-- How the arguments in the brackets of a file are noted, one word after another.
--     Ascends       words stand in the order of their offsets
--     IsNote        what is noted of the bracket at an offset
--     Holds         what is known of the brackets that are open
use Rattle.std.specs.Prelude.{◌≡◌, ⊤, ℕ, ◌<◌, Bool, false, List, [], ◌∷◌, drop, map, reverse, Option, Some, None}
use Rattle.jq_words.specs.declared.brackets.Bracket.{Bracket}
use Rattle.jq_words.specs.Words.{Word, Rest}
use Rattle.jq_words.specs.Brackets.{is_empty}
use Rattle.jq_words.specs.Results.{IsRest}
use Rattle.jq_cursor.specs.declared.argument_lists.Arguments.{Arguments}
use Rattle.jq_cursor.specs.declared.open_lists.Open.{Open}
use Rattle.jq_cursor.specs.declared.open_lists.Pending.{Pending}
use Rattle.jq_cursor.specs.Commas.{pending_in}
use Rattle.jq_cursor.specs.ListViews.{extent_of}
use Rattle.jq_cursor.specs.Lists.{extent}
use Rattle.jq_cursor.specs.Spans.{span, span_at, CanCount}

-- all of these stand behind an offset
abbrev pub AllBehind : ℕ → List Word → Type 0
AllBehind at [] = ⊤
AllBehind at (w ∷ ws) = (at < w.at) × AllBehind at ws

abbrev pub Ascends : List Word → Type 0
Ascends [] = ⊤
Ascends (w ∷ ws) = AllBehind w.at ws × Ascends ws

-- the arguments behind the word at an offset are these
abbrev pub IsNote : List Word → ℕ → Arguments Rest → Type 0
IsNote all at l = (ws : List Word) (w : Word) → IsRest all ws → ws ≡ w ∷ drop 1 ws → w.at ≡ at → extent (drop 1 ws) ≡ extent_of l

-- the brackets that were opened behind one, which are those of these entries, from the innermost outward
abbrev pub above : List Open → List Bracket
above os = reverse (map (λ o. o.bracket) os)

-- the arguments in a bracket, where they are to be noted, go on with these words
abbrev pub GoesOn : List Word → Option Pending → List Bracket → List Word → Type 0
GoesOn all None bs ws = ⊤
GoesOn all (Some p) bs ws = IsRest all p.list.words × CanCount p.commas ws × (span [] 0 (drop 1 p.list.words) ≡ span bs p.commas ws)

-- so do those in all brackets that are open, which stand from the outermost inward
abbrev pub Holds : List Word → List Open → List Word → Type 0
Holds all [] ws = ⊤
Holds all (o ∷ os) ws = GoesOn all (pending_in o.list) (above os) ws × Holds all os ws

-- the arguments in a bracket end before these words, with all their brackets closed or not
abbrev pub Ends : List Word → Option Pending → Bool → List Word → Type 0
Ends all None whole ws = ⊤
Ends all (Some p) whole ws = IsRest all p.list.words × CanCount p.commas ws × (left : List Bracket) × (is_empty left ≡ whole) × (span [] 0 (drop 1 p.list.words) ≡ span_at p.commas left ws)

-- those in all of some brackets end so, with brackets that aren't closed
abbrev pub AllEnd : List Word → List Open → List Word → Type 0
AllEnd all [] ws = ⊤
AllEnd all (o ∷ os) ws = Ends all (pending_in o.list) false ws × AllEnd all os ws
