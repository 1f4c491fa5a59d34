-- The rules of a sheet.
--     next_front  the front of a text, where a rule may begin, and the text behind it
--     rules_of    the rules that have a list of selectors, in the file's order
use Rattle.std.specs.Prelude.{ℕ, zero, suc, ◌+◌, ◌-◌, ◌==◌, ◌&&◌, ◌||◌, Bool, true, false, if◌then◌else◌, nat_eq, nat_lt, List, [], ◌∷◌, ◌++◌, length, take, drop, codes}
use Rattle.std.specs.List.{starts_with}
use Rattle.text_bytes.specs.OrderMark.{behind_order_mark}
use Rattle.sel_text.specs.Bytes.{name_len}
use Rattle.sel_text.specs.Grammar.{is_word}
use Rattle.css_read.specs.declared.fronts.Front.{Front}
use Rattle.css_read.specs.declared.fronts.Front.TheVariants.{Passed, Opens, Closes, Styles}
use Rattle.css_read.specs.Units.{behind_unit, begins_gap, from_first}

-- a front, and the text behind it
abbrev pub Begun : Type 0
Begun = Front × List ℕ

abbrev pub begins : List ℕ → List ℕ → Bool
begins front bs = starts_with nat_eq bs front

-- the bytes that end a list of selectors; inside a block that holds rules its `}` ends one, too
abbrev pub list_ends : Bool → List ℕ
list_ends true = codes "{}"
list_ends false = codes "{"

abbrev pub prelude_ends : Bool → List ℕ
prelude_ends true = codes ";{}"
prelude_ends false = codes ";{"

-- the text behind a block, from the text behind its `{`
unfoldable pub behind_block : List ℕ → List ℕ
behind_block bs = drop 1 (from_first (codes "}") bs)

-- whether at-rules with this name have blocks that hold rules
unfoldable pub holds_rules : List ℕ → Bool
holds_rules name = is_word name (codes "media") || is_word name (codes "supports") || is_word name (codes "layer") || is_word name (codes "container")

-- the front of an at-rule, from the text behind its `{`
abbrev pub at_block : Bool → List ℕ → Begun
at_block true bs = (Opens, bs)
at_block false bs = (Passed, behind_block bs)

-- the front of an at-rule, from the text behind its `@`
unfoldable pub at_rule : Bool → List ℕ → Begun
at_rule inside bs =
    let end = from_first (prelude_ends inside) bs in
    if begins (codes "{") end then at_block (holds_rules (take (name_len bs) bs)) (drop 1 end)
    else (if begins (codes ";") end then (Passed, drop 1 end) else (Passed, end))

-- the front of a list of selectors with its block; without a block it is passed over
unfoldable pub style_rule : Bool → List ℕ → Begun
style_rule inside bs =
    let end = from_first (list_ends inside) bs in
    if begins (codes "{") end then (Styles (length bs - length end), behind_block (drop 1 end)) else (Passed, end)

-- the front of a text inside a block that holds rules, or outside all blocks
unfoldable pub next_front : Bool → List ℕ → Begun
next_front inside [] = (Passed, [])
next_front inside (b ∷ bs) =
    if begins_gap (b ∷ bs) then (Passed, behind_unit (b ∷ bs))
    else (if inside && b == 125 then (Closes, bs) else (if b == 64 then at_rule inside bs else style_rule inside (b ∷ bs)))

-- the number of open blocks that hold rules, behind a front
abbrev pub depth_after : ℕ → Front → ℕ
depth_after depth Opens = depth + 1
depth_after depth Closes = depth - 1
depth_after depth f = depth

-- the offsets of a rule's first byte, of its `{`, and of the byte behind its end
pub record Rule : Type 0 where
  pub from : ℕ
  pub brace : ℕ
  pub to : ℕ

-- the rule between two offsets, if the front is one
abbrev pub rules_at : Front → ℕ → ℕ → List Rule
rules_at (Styles len) from to = (record { from = from; brace = from + len; to = to }) ∷ []
rules_at f from to = []

-- the rules of a file of `size` bytes, where `skip` bytes are left of the front before
unfoldable pub rules_from : ℕ → ℕ → ℕ → List ℕ → List Rule
rules_from size depth skip [] = []
rules_from size depth (suc skip) (b ∷ bs) = rules_from size depth skip bs
rules_from size depth zero (b ∷ bs) =
    let begun = next_front (nat_lt 0 depth) (b ∷ bs) in
    rules_at begun.0 (size - length (b ∷ bs)) (size - length begun.1) ++ rules_from size (depth_after depth begun.0) (length bs - length begun.1) bs

-- a byte order mark is passed over
unfoldable pub rules_of : List ℕ → List Rule
rules_of text = rules_from (length text) 0 0 (behind_order_mark text)
