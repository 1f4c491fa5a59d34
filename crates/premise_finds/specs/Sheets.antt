-- The findings of a sheet.
--     found_in         in a part of the sheet that is of one region
--     sheet_findings   in a sheet
use Rattle.std.specs.Prelude.{ℕ, zero, suc, ◌+◌, ◌-◌, nat_lt, Bool, if◌then◌else◌, List, [], ◌∷◌, ◌++◌, length, take, drop, codes, Option, Some, None}
use Rattle.text_bytes.specs.OrderMark.{behind_order_mark}
use Rattle.css_read.specs.declared.fronts.Front.{Front}
use Rattle.css_read.specs.declared.fronts.Front.TheVariants.{Styles}
use Rattle.css_read.specs.Rules.{next_front, depth_after}
use Rattle.css_read.specs.Units.{behind_unit}
use Rattle.premise_finds.specs.declared.names.Name.{Name}
use Rattle.premise_finds.specs.declared.findings.Finding.{Finding}
use Rattle.premise_finds.specs.declared.sheets.Region.{Region}
use Rattle.premise_finds.specs.declared.sheets.Region.TheVariants.{Between, List as InList, Block}
use Rattle.premise_finds.specs.Findings.{finding}
use Rattle.premise_finds.specs.Selectors.{selector_findings}
use Rattle.premise_finds.specs.SheetNames.{is_at_rule, name_at}

abbrev pub one : Option Name → ℕ → ℕ → List Finding
one None from to = []
one (Some name) from to = finding name from to ∷ []

-- In a part that ends at the offset `to`, to which each finding goes. `skip` bytes are left of a string or a comment.
unfoldable pub found_from : Region → Bool → ℕ → ℕ → List ℕ → List Finding
found_from region several to skip [] = []
found_from region several to (suc skip) (b ∷ bs) = found_from region several to skip bs
found_from region several to zero (b ∷ bs) =
    one (name_at region several (b ∷ bs)) (to - length (b ∷ bs)) to ++ found_from region several to (length bs - length (behind_unit (b ∷ bs))) bs

abbrev pub found_in : Region → Bool → ℕ → List ℕ → List Finding
found_in region several to bs = found_from region several to 0 bs

-- in a rule: in its list of selectors, and in its block from behind the `{` on
abbrev pub found_in_rule : Bool → ℕ → ℕ → List ℕ → List ℕ → List Finding
found_in_rule several size len bs rest =
    let behind = drop len bs in
    let block = drop 1 behind in
    found_in InList several (size - length behind) (take len bs) ++ found_in Block several (size - length rest) (take (length block - length rest) block)

-- in what begins the bytes, where a rule may begin, up to the rest
abbrev pub found_in_front : Bool → ℕ → List ℕ → Front × List ℕ → List Finding
found_in_front several size bs (Styles len, rest) = found_in_rule several size len bs rest
found_in_front several size bs (f, rest) = found_in Between several (size - length rest) (take (length bs - length rest) bs)

-- in the last bytes of a sheet of `size` bytes, in so many blocks that hold rules; `skip` bytes are left of what began before
unfoldable pub findings_from : Bool → ℕ → ℕ → ℕ → List ℕ → List Finding
findings_from several size depth skip [] = []
findings_from several size depth (suc skip) (b ∷ bs) = findings_from several size depth skip bs
findings_from several size depth zero (b ∷ bs) =
    let begun = next_front (nat_lt 0 depth) (b ∷ bs) in
    found_in_front several size (b ∷ bs) begun ++ findings_from several size (depth_after depth begun.0) (length bs - length begun.1) bs

abbrev pub layer_at : List ℕ → ℕ
layer_at bs = if is_at_rule (codes "layer") bs then 1 else 0

-- how many `@layer` there are outside strings and comments
unfoldable pub layers_from : ℕ → List ℕ → ℕ
layers_from skip [] = 0
layers_from (suc skip) (b ∷ bs) = layers_from skip bs
layers_from zero (b ∷ bs) = layer_at (b ∷ bs) + layers_from (length bs - length (behind_unit (b ∷ bs))) bs

-- those that are told by the bytes of a place; a byte order mark is passed over
unfoldable pub text_findings : List ℕ → List Finding
text_findings text = let sheet = behind_order_mark text in findings_from (nat_lt 1 (layers_from 0 sheet)) (length text) 0 0 sheet

-- with those of whole selectors
unfoldable pub sheet_findings : List ℕ → List Finding
sheet_findings text = text_findings text ++ selector_findings text
