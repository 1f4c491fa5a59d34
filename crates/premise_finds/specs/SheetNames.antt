-- What is found in a sheet: a definition for each name. Each is asked of the bytes from a place on that is in no string and in no comment.
use Rattle.std.specs.Prelude.{ℕ, ◌==◌, ◌&&◌, ◌||◌, Bool, true, false, if◌then◌else◌, List, [], ◌∷◌, take, drop, codes, Option, Some, None}
use Rattle.html_tokens.specs.Names.{is_among}
use Rattle.html_tokens.specs.Bytes.{lowered}
use Rattle.html_tokens.specs.Words.{words}
use Rattle.sel_text.specs.Bytes.{name_len, behind_gap}
use Rattle.sel_text.specs.Grammar.{is_word}
use Rattle.css_read.specs.Units.{is_quote, begins_comment}
use Rattle.premise_finds.specs.Texts.{begins, past_blanks}
use Rattle.premise_finds.specs.declared.names.Name.{Name}
use Rattle.premise_finds.specs.declared.names.Name.TheVariants as name
use Rattle.premise_finds.specs.declared.sheets.Region.{Region}
use Rattle.premise_finds.specs.declared.sheets.Region.TheVariants.{List as InList, Block}

-- a browser passes over these marks where a rule may begin
unfoldable pub is_comment_mark : List ℕ → Bool
is_comment_mark bs = begins (codes "<!--") bs || begins (codes "-->") bs

-- the byte behind it counts as a letter
unfoldable pub is_escape : List ℕ → Bool
is_escape bs = begins (codes "\\") bs

-- opens or ends something here, but nothing in an address that stands in no quotes
abbrev pub misleads : List ℕ → Bool
misleads [] = false
misleads (b ∷ bs) = is_quote b || b == 40 || b == 91 || b == 59 || b == 123 || b == 125 || begins_comment (b ∷ bs)

-- whether such a byte stands before the first `)`
unfoldable pub is_misread : List ℕ → Bool
is_misread [] = false
is_misread (b ∷ bs) = if b == 41 then false else (if misleads (b ∷ bs) then true else is_misread bs)

abbrev pub is_quoted : List ℕ → Bool
is_quoted [] = false
is_quoted (b ∷ bs) = is_quote b

-- an address without quotes, in which something begins or ends that is none in a browser
unfoldable pub is_address : List ℕ → Bool
is_address bs =
    let behind = past_blanks (drop 4 bs) in
    is_word (take 4 bs) (codes "url(") && (if is_quoted behind then false else is_misread behind)

-- in a rule's block
unfoldable pub is_nested_rule : Region → List ℕ → Bool
is_nested_rule Block bs = begins (codes "{") bs
is_nested_rule region bs = false

-- an at-rule of this name
unfoldable pub is_at_rule : List ℕ → List ℕ → Bool
is_at_rule word [] = false
is_at_rule word (b ∷ bs) = b == 64 && is_word (take (name_len bs) bs) word

unfoldable pub is_import : List ℕ → Bool
is_import bs = is_at_rule (codes "import") bs

-- in a rule's block, or wherever the sheet has several
unfoldable pub is_layer : Region → Bool → List ℕ → Bool
is_layer Block several bs = is_at_rule (codes "layer") bs
is_layer region several bs = several && is_at_rule (codes "layer") bs

-- the attributes that a call sets which is no statement, or a user
abbrev pub set_names : List (List ℕ)
set_names = words (codes "value checked selected disabled hidden multiple readonly required inert min max low high optimum rows cols size span colspan rowspan tabindex maxlength minlength start width height")

-- whether an attribute is one of these, without regard to ASCII case
unfoldable pub is_set_name : List ℕ → Bool
is_set_name name = is_among set_names (lowered name)

-- an attribute part of one of these names, in a list of selectors
unfoldable pub is_value_asked : Region → List ℕ → Bool
is_value_asked InList (b ∷ bs) = let name = behind_gap true 0 bs in b == 91 && is_set_name (take (name_len name) name)
is_value_asked region bs = false

-- What is found at a place. No two names hold at one: each has a first byte of its own, or a word behind an `@`.
unfoldable pub name_at : Region → Bool → List ℕ → Option Name
name_at region several bs =
    if is_comment_mark bs then Some name.CommentMark
    else (if is_escape bs then Some name.Escape
    else (if is_address bs then Some name.Address
    else (if is_nested_rule region bs then Some name.NestedRule
    else (if is_import bs then Some name.Import
    else (if is_layer region several bs then Some name.Layer
    else (if is_value_asked region bs then Some name.ValueAsked else None))))))
