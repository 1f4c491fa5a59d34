-- Selectors with parts that aren't judged, and sheets in which such parts stand in marks.
--     Wide           what the text of such a selector is, from left to right
--     wide_of        what a text is, if it is one
--     widened_item   a selector of a sheet with its marks, where it is widened
--     widened        a sheet with them
--     back           a text with what stood in the place of each mark
--     MatchesWide    the nodes that such a selector matches, whatever its parts mean
--     dropped        the selector that is left of it
use Rattle.std.specs.Prelude.{◌≡◌, ℕ, zero, suc, ◌+◌, ◌-◌, ◌<◌, ◌==◌, ◌&&◌, ◌||◌, not, nat_eq, nat_lt, nat_le, Bool, true, false, if◌then◌else◌, List, [], ◌∷◌, ◌++◌, map, length, take, drop, slice_range, reverse, codes, Option, Some, None, option_map, option_and_then, Result, Ok, Err}
use Rattle.std.specs.List.{starts_with, prefix_len, list_any}
use Rattle.std.specs.Str.{bytes_eq}
use Rattle.text_bytes.specs.Blanks.{is_blank}
use Rattle.tree_sem.specs.Trees.{LabelTree}
use Rattle.tree_sem.specs.Nodes.{IsNode, HasAtoms}
use Rattle.tree_sem.specs.Paths.{parent_of, IsAncestor}
use Rattle.sel_core.specs.Selectors.{Matches}
use Rattle.sel_text.specs.declared.faults.Skip.{Skip}
use Rattle.sel_text.specs.declared.faults.Skip.TheVariants.{Sibling, Pseudo, Attribute}
use Rattle.sel_text.specs.declared.faults.TheConstants.{MOST_PARTS}
use Rattle.sel_text.specs.Bytes.{name_len, begins_with, behind_close}
use Rattle.sel_text.specs.Grammar.{Outcome as sel_outcome}
use Rattle.sel_text.specs.Reading.{read_selector}
use Rattle.sel_text.specs.Selectors.{Selector, Outer, simple, child, inside}
use Rattle.sel_text.specs.Selectors as sel
use Rattle.css_read.specs.Sheets.{Outcome, judged, skipped, Item, Sheet}
use Rattle.css_read.specs.Units.{is_quote, behind_string}
use Rattle.css_read.specs.declared.faults.SheetFault.{SheetFault}
use Rattle.css_read.specs.Reading.{read_sheet}
use Rattle.tp_base.specs.declared.places.TheConstants.{MOST_BYTES}
use Rattle.widen_sheet.specs.declared.faults.BackFault.{BackFault}
use Rattle.widen_sheet.specs.declared.faults.BackFault.TheVariants.{NoMark}
use Rattle.widen_sheet.specs.declared.faults.WidenFault.{WidenFault}
use Rattle.widen_sheet.specs.declared.faults.WidenFault.TheVariants.{OfSheet, HasMark, TooLarge}
use Rattle.widen_sheet.specs.declared.tokens.Kind.{Kind}
use Rattle.widen_sheet.specs.declared.tokens.Kind.TheVariants.{Judged, Other, Inside, Child, Next, Later}
use Rattle.widen_sheet.specs.declared.marks.Mark.{Mark}
use Rattle.widen_sheet.specs.declared.marks.Mark.TheVariants as mark

-- ---- the grammar: compounds of one part or more, with one combinator between two of them

pub record Token : Type 0 where
  pub kind : Kind
  pub text : List ℕ

abbrev pub Wide : Type 0
Wide = List Token

abbrev pub is_combinator : Kind → Bool
is_combinator Judged = false
is_combinator Other = false
is_combinator k = true

abbrev pub is_sibling : Kind → Bool
is_sibling Next = true
is_sibling Later = true
is_sibling k = false

-- ---- parts of a compound

-- behind the bytes of a name
unfoldable pub behind_name : List ℕ → Option (List ℕ)
behind_name bs = let n = name_len bs in if nat_lt 0 n then Some (drop n bs) else None

-- what closes a bracket
abbrev pub closer : ℕ → Option ℕ
closer b = if b == 40 then Some 41 else (if b == 91 then Some 93 else (if b == 123 then Some 125 else None))

-- The open brackets are listed by what closes them, from the innermost outward. A closing one counts where it closes the innermost.
abbrev pub after_closed : ℕ → List ℕ → List ℕ
after_closed b [] = []
after_closed b (c ∷ cs) = if c == b then cs else c ∷ cs

abbrev pub after_opened : Option ℕ → ℕ → List ℕ → List ℕ
after_opened (Some c) b closers = c ∷ closers
after_opened None b closers = after_closed b closers

unfoldable pub after_byte : ℕ → List ℕ → List ℕ
after_byte b closers = after_opened (closer b) b closers

-- behind the string, or else the byte, that begins with a byte
unfoldable pub behind_quoted : ℕ → List ℕ → List ℕ
behind_quoted b bs = if is_quote b then behind_string b false bs else bs

-- behind what closes the last of some open brackets; `skip` bytes are left of a string
unfoldable pub behind_brackets : List ℕ → ℕ → List ℕ → Option (List ℕ)
behind_brackets closers skip [] = None
behind_brackets closers (suc skip) (b ∷ bs) = behind_brackets closers skip bs
behind_brackets closers zero (b ∷ bs) =
    if length (after_byte b closers) == 0 then Some bs else behind_brackets (after_byte b closers) (length bs - length (behind_quoted b bs)) bs

-- behind what stands in `( )`, where that is next
unfoldable pub behind_call : List ℕ → Option (List ℕ)
behind_call [] = Some []
behind_call (b ∷ bs) = if b == 40 then behind_brackets (41 ∷ []) 0 bs else Some (b ∷ bs)

-- behind a pseudo part, from behind its first colon on
unfoldable pub behind_pseudo : List ℕ → Option (List ℕ)
behind_pseudo bs = option_and_then behind_call (behind_name (if begins_with 58 bs then drop 1 bs else bs))

-- behind a part that may stand anywhere in a compound
unfoldable pub behind_part : List ℕ → Option (List ℕ)
behind_part [] = None
behind_part (b ∷ bs) =
    if b == 46 || b == 35 then behind_name bs else (if b == 58 then behind_pseudo bs else (if b == 91 then behind_brackets (93 ∷ []) 0 bs else None))

-- behind a part at the beginning of a compound
unfoldable pub behind_first : List ℕ → Option (List ℕ)
behind_first [] = None
behind_first (b ∷ bs) = if b == 42 then Some bs else (if nat_lt 0 (name_len (b ∷ bs)) then behind_name (b ∷ bs) else behind_part (b ∷ bs))

abbrev pub is_ok : sel_outcome Selector → Bool
is_ok (Ok s) = true
is_ok (Err e) = false

-- whether a text alone is a selector that is judged
unfoldable pub is_judged : List ℕ → Bool
is_judged bs = is_ok (read_selector bs 0 (length bs) []).1

abbrev pub kind_of_part : List ℕ → Kind
kind_of_part bs = if is_judged bs then Judged else Other

-- ---- combinators

unfoldable pub behind_blanks : List ℕ → List ℕ
behind_blanks bs = drop (prefix_len is_blank bs) bs

-- what a combinator is, by the first byte behind its blanks
abbrev pub combinator : List ℕ → Kind
combinator [] = Inside
combinator (b ∷ bs) = if b == 62 then Child else (if b == 43 then Next else (if b == 126 then Later else Inside))

abbrev pub behind_combinator : Kind → List ℕ → List ℕ
behind_combinator Inside bs = bs
behind_combinator k bs = behind_blanks (drop 1 bs)

abbrev pub begins_combinator : List ℕ → Bool
begins_combinator [] = false
begins_combinator (b ∷ bs) = is_blank b || b == 62 || b == 43 || b == 126

-- ---- texts

-- the bytes before a rest
abbrev pub before : List ℕ → List ℕ → List ℕ
before bs rest = take (length bs - length rest) bs

-- a token, and what is behind it
abbrev pub Front : Type 0
Front = Token × List ℕ

unfoldable pub part_before : List ℕ → List ℕ → Front
part_before bs rest = (record { kind = kind_of_part (before bs rest); text = before bs rest }, rest)

unfoldable pub combinator_at : List ℕ → Front
combinator_at bs =
    let at = behind_blanks bs in
    let rest = behind_combinator (combinator at) at in
    (record { kind = combinator at; text = before bs rest }, rest)

-- the token that a text begins with; behind a combinator a compound is wanted
unfoldable pub token_at : Bool → List ℕ → Option Front
token_at wanted bs =
    if wanted then option_map (part_before bs) (behind_first bs)
    else (if begins_combinator bs then Some (combinator_at bs) else option_map (part_before bs) (behind_part bs))

abbrev pub with_token : Option Front → (Front → Option Wide) → Option Wide
with_token None f = None
with_token (Some t) f = option_map (λ (ts : Wide). t.0 ∷ ts) (f t)

-- `skip` bytes are left of a token
unfoldable pub wide_from : Bool → ℕ → List ℕ → Option Wide
wide_from wanted skip [] = if wanted then None else Some []
wide_from wanted (suc skip) (b ∷ bs) = wide_from wanted skip bs
wide_from wanted zero (b ∷ bs) = with_token (token_at wanted (b ∷ bs)) (λ (t : Front). wide_from (is_combinator t.0.kind) (length bs - length t.1) bs)

abbrev pub wide_of : List ℕ → Option Wide
wide_of bs = wide_from true 0 bs

-- ---- marks: what stands between two `:hover`, of which nothing is asked, in a comment

abbrev pub letter : Mark → ℕ
letter mark.Part = 112
letter mark.Inside = 100
letter mark.Child = 99

-- what joins the compounds on both sides
abbrev pub joint : Mark → List ℕ
joint mark.Part = []
joint mark.Inside = 32 ∷ []
joint mark.Child = 62 ∷ []

abbrev pub opening : Mark → List ℕ
opening m = codes ":hover/*~" ++ letter m ∷ []

abbrev pub closing : Mark → List ℕ
closing m = codes "~*/:hover" ++ joint m

-- a text, and the mark that it stands in, if it stands in one
pub record Slot : Type 0 where
  pub mark : Option Mark
  pub text : List ℕ

-- whether the compound that these are the last of, and behind it the others, ends at a sibling combinator
abbrev pub goes : List Kind → Bool
goes [] = false
goes (k ∷ ks) = if is_combinator k then is_sibling k else goes ks

abbrev pub kinds : Wide → List Kind
kinds w = map (λ (t : Token). t.kind) w

-- the kind of a run of compounds that go, where it begins behind a token
abbrev pub run_behind : Kind → Mark → Mark
run_behind Child run = mark.Child
run_behind Inside run = mark.Inside
run_behind k run = run

-- The mark of a token, by whether the compound that it is in, or that it comes before, goes.
abbrev pub mark_of : Mark → Kind → Bool → Option Mark
mark_of run Judged gone = if gone then Some run else None
mark_of run Other gone = if gone then Some run else Some mark.Part
mark_of run Child gone = if gone then Some mark.Child else None
mark_of run Inside gone = if gone then Some mark.Inside else None
mark_of run k gone = Some run

abbrev pub slots_from : Mark → Wide → List Slot
slots_from run [] = []
slots_from run (t ∷ ts) = (record { mark = mark_of run t.kind (goes (kinds ts)); text = t.text }) ∷ slots_from (run_behind t.kind run) ts

-- between two texts
abbrev pub between : Option Mark → Option Mark → List ℕ
between None None = []
between None (Some n) = opening n
between (Some m) None = closing m
between (Some m) (Some n) = if letter m == letter n then [] else closing m ++ opening n

-- behind a text in a mark, if it is in one
abbrev pub spelled_from : Option Mark → List Slot → List ℕ
spelled_from prior [] = between prior None
spelled_from prior (s ∷ ss) = between prior s.mark ++ (s.text ++ spelled_from s.mark ss)

abbrev pub spelled : Wide → List ℕ
spelled w = spelled_from None (slots_from mark.Inside w)

-- ---- selectors of a sheet

-- whether some bytes stand anywhere in a text
unfoldable pub has : List ℕ → List ℕ → Bool
has bytes [] = false
has bytes (b ∷ bs) = starts_with nat_eq (b ∷ bs) bytes || has bytes bs

-- from the first place on where some bytes stand
unfoldable pub from_bytes : List ℕ → List ℕ → List ℕ
from_bytes bytes [] = []
from_bytes bytes (b ∷ bs) = if starts_with nat_eq (b ∷ bs) bytes then b ∷ bs else from_bytes bytes bs

-- combinators that stay, which are one fewer than the compounds that stay
abbrev pub joints : List Kind → ℕ
joints [] = 0
joints (k ∷ ks) = (if is_combinator k && not (is_sibling k) then 1 else 0) + joints ks

-- a run at the beginning leaves a compound, too
abbrev pub compounds_left : List Kind → ℕ
compounds_left ks = (if goes ks then 2 else 1) + joints ks

abbrev pub widened_text : List ℕ → Option Wide → List ℕ
widened_text bs None = bs
widened_text bs (Some w) = if nat_le (compounds_left (kinds w)) MOST_PARTS then spelled w else bs

abbrev pub can_widen : Skip → Bool
can_widen Sibling = true
can_widen Pseudo = true
can_widen Attribute = true
can_widen s = false

-- whether the text has no escape and no end of a comment
unfoldable pub is_plain : List ℕ → Bool
is_plain bs = not (list_any (λ b. b == 92) bs) && not (has (codes "*/") bs)

abbrev pub widens : Outcome → List ℕ → Bool
widens (judged s) bs = false
widens (skipped why at) bs = can_widen why && is_plain bs

abbrev pub bytes_at : List ℕ → Item → List ℕ
bytes_at text i = slice_range text i.from i.to

unfoldable pub widened_item : List ℕ → Item → List ℕ
widened_item text i = if widens i.outcome (bytes_at text i) then widened_text (bytes_at text i) (wide_of (bytes_at text i)) else bytes_at text i

-- from an offset on
abbrev pub widened_from : List ℕ → ℕ → List Item → List ℕ
widened_from text at [] = drop at text
widened_from text at (i ∷ items) = slice_range text at i.from ++ (widened_item text i ++ widened_from text i.to items)

unfoldable pub widened : List ℕ → Sheet → List ℕ
widened text sheet = widened_from text 0 sheet.items

-- a sheet with them, or why there is none
abbrev pub within_limit : List ℕ → Result (List ℕ) WidenFault
within_limit text = if nat_le (length text) MOST_BYTES then Ok text else Err TooLarge

abbrev pub opens_mark : List ℕ → Bool
opens_mark bs = starts_with nat_eq bs (codes "/*~")

-- a sheet without a `/*~`
unfoldable pub widen_sheet : List ℕ → Sheet → Result (List ℕ) WidenFault
widen_sheet text sheet =
    let marked = from_bytes (codes "/*~") text in
    if length marked == 0 then within_limit (widened text sheet) else Err (HasMark (length text - length marked))

abbrev pub widen_read : List ℕ → Result Sheet SheetFault → Result (List ℕ) WidenFault
widen_read text (Ok sheet) = widen_sheet text sheet
widen_read text (Err e) = Err (OfSheet e)

unfoldable pub widen : List ℕ → Result (List ℕ) WidenFault
widen text = widen_read text (read_sheet text []).1

-- ---- back

abbrev pub mark_by : ℕ → Option Mark
mark_by b = if b == 112 then Some mark.Part else (if b == 100 then Some mark.Inside else (if b == 99 then Some mark.Child else None))

-- what stood in the place of a mark, and what is behind the mark
abbrev pub Unmarked : Type 0
Unmarked = List ℕ × List ℕ

-- the text of a comment up to its `~*/`, and what follows the comment, which is the mark's other end
unfoldable pub ended_mark : List ℕ → List ℕ → List ℕ → Option Unmarked
ended_mark comment behind end =
    if bytes_eq (drop (length comment - 3) comment) (codes "~*/") && starts_with nat_eq behind end then Some (take (length comment - 3) comment, drop (length end) behind) else None

abbrev pub end_of : Mark → List ℕ
end_of mark.Part = codes ":hover"
end_of mark.Inside = codes ":hover "
end_of mark.Child = codes ":hover>"

abbrev pub with_end : List ℕ → Option Mark → Option Unmarked
with_end bs None = None
with_end bs (Some m) = ended_mark (before bs (behind_close bs)) (behind_close bs) (end_of m)

-- behind `:hover/*~`
abbrev pub mark_from : List ℕ → Option Unmarked
mark_from [] = None
mark_from (b ∷ bs) = with_end bs (mark_by b)

-- the mark that a text begins with
unfoldable pub mark_at : List ℕ → Option Unmarked
mark_at bs = if starts_with nat_eq bs (codes ":hover/*~") then mark_from (drop 9 bs) else None

-- a text, or the fault of a `/*~` that is in no mark, and has no `*` before it
abbrev pub Back : Type 0
Back = Result (List ℕ) BackFault

abbrev pub behind_text : List ℕ → Back → Back
behind_text bs (Ok text) = Ok (bs ++ text)
behind_text bs (Err e) = Err e

-- In a text of `size` bytes. Behind a `*` a `/` may end a comment, and begins no mark.
abbrev pub with_mark : ℕ → Bool → ℕ → List ℕ → Option Unmarked → (ℕ → Back) → Back
with_mark size star b bs None f = if opens_mark (b ∷ bs) && not star then Err (NoMark (size - length (b ∷ bs))) else behind_text (b ∷ []) (f 0)
with_mark size star b bs (Some m) f = behind_text m.0 (f (length bs - length m.1))

-- `skip` bytes are left of a mark
unfoldable pub back_from : ℕ → Bool → ℕ → List ℕ → Back
back_from size star skip [] = Ok []
back_from size star (suc skip) (b ∷ bs) = back_from size star skip bs
back_from size star zero (b ∷ bs) = with_mark size star b bs (mark_at (b ∷ bs)) (λ n. back_from size (begins_with 42 (b ∷ bs)) n bs)

unfoldable pub back : List ℕ → Back
back text = back_from (length text) false 0 text

-- ---- meaning: paths of nodes, by any meaning of the parts

-- what stands at u, on the left of a combinator, where v is on its right: siblings differ in the last number
abbrev pub IsJoined : Kind → List ℕ → List ℕ → Type 0
IsJoined Child u v = parent_of v ≡ Some u
IsJoined Inside u v = IsAncestor u v
IsJoined Next u v = (p : List ℕ) × (k : ℕ) × (u ≡ p ++ k ∷ []) × (v ≡ p ++ suc k ∷ [])
IsJoined Later u v = (p : List ℕ) × (j : ℕ) × (k : ℕ) × (j < k) × (u ≡ p ++ j ∷ []) × (v ≡ p ++ k ∷ [])
IsJoined k u v = ⊥

-- the atoms that a part asks for that is judged, and the nodes that another part is true of
module _ (atoms : List ℕ → List ℕ) (means : List ℕ → LabelTree → List ℕ → Bool) where
  abbrev pub MatchesToken : Kind → List ℕ → LabelTree → List ℕ → (List ℕ → Type 0) → Type 0
  MatchesToken Judged text t v Others = HasAtoms t v (atoms text) × Others v
  MatchesToken Other text t v Others = (means text t v ≡ true) × Others v
  MatchesToken k text t v Others = IsNode t v × ((u : List ℕ) × IsJoined k u v × Others u)

  -- the tokens from right to left: those of the compound that the node at v has to match, and then others
  abbrev pub MatchesBack : LabelTree → List ℕ → Wide → Type 0
  MatchesBack t v [] = IsNode t v
  MatchesBack t v (tok ∷ ts) = MatchesToken tok.kind tok.text t v (λ (u : List ℕ). MatchesBack t u ts)

  abbrev pub MatchesWide : LabelTree → List ℕ → Wide → Type 0
  MatchesWide t v w = MatchesBack t v (reverse w)

-- ---- the judged selector that is left

abbrev pub with_atoms : Selector → List ℕ → Selector
with_atoms s more = record { subject = s.subject ++ more; outer = s.outer }

abbrev pub behind_join : sel.Join → Selector → Selector
behind_join j s = record { subject = []; outer = (record { join = j; atoms = s.subject }) ∷ s.outer }

module _ (atoms : List ℕ → List ℕ) where
  abbrev pub dropped_at : Kind → List ℕ → Bool → (Bool → Selector) → Selector
  dropped_at Judged text gone others = if gone then others gone else with_atoms (others gone) (atoms text)
  dropped_at Other text gone others = others gone
  dropped_at Child text gone others = behind_join child (others false)
  dropped_at Inside text gone others = behind_join inside (others false)
  dropped_at k text gone others = others true

  -- the tokens from right to left; those go that stand before a sibling combinator, up to another one
  abbrev pub dropped_back : Bool → Wide → Selector
  dropped_back gone [] = if gone then behind_join inside (simple []) else simple []
  dropped_back gone (tok ∷ ts) = dropped_at tok.kind tok.text gone (λ (g : Bool). dropped_back g ts)

  abbrev pub dropped : Wide → Selector
  dropped w = dropped_back false (reverse w)

-- ---- laws

-- a sheet that is widened goes back to what it was
abbrev pub GoesBack : List ℕ → Type 0
GoesBack text = (wide : List ℕ) → widen text ≡ Ok wide → back wide ≡ Ok text

-- a node that a selector matches, whatever its parts mean that aren't judged, is matched by what is left of it
abbrev pub IsWider : LabelTree → Type 0
IsWider t = (atoms : List ℕ → List ℕ) (means : List ℕ → LabelTree → List ℕ → Bool) (v : List ℕ) (w : Wide) → MatchesWide atoms means t v w → Matches t v (dropped atoms w)
