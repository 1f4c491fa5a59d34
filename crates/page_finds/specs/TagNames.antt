-- What is found at a start tag or at one of its attributes: a definition for each name.
use Rattle.std.specs.Prelude.{ℕ, ◌==◌, ◌&&◌, ◌||◌, not, nat_lt, nat_eq, Bool, true, false, if◌then◌else◌, List, [], ◌∷◌, ◌++◌, map, flat_map, codes, Option, Some, None}
use Rattle.std.specs.Char.{is_ascii_alphabetic, to_ascii_lowercase}
use Rattle.std.specs.List.{list_any}
use Rattle.std.specs.Str.{byte, bytes_eq, str_eq_ignore_ascii_case}
use Rattle.text_bytes.specs.Marks.{behind_mark}
use Rattle.html_tokens.specs.Names.{is_among}
use Rattle.html_tokens.specs.Words.{words}
use Rattle.html_tokens.specs.Attributes.{Attribute, value_of}
use Rattle.premise_finds.specs.declared.findings.Finding.{Finding}
use Rattle.premise_finds.specs.declared.names.Name.TheVariants as name
use Rattle.premise_finds.specs.Findings.{when, finding}
use Rattle.page_finds.specs.Tags.{Placed, Tag}
use Rattle.premise_finds.specs.Texts.{is_seen, has_word, has_somewhere}

-- ---- tags

abbrev pub is_named : List ℕ → Tag → Bool
is_named name t = bytes_eq t.name name

-- the value of the first attribute of a name
abbrev pub value : List ℕ → Tag → Option (List ℕ)
value name t = value_of name (map (λ p. p.attribute) t.attributes)

abbrev pub is_given : Option (List ℕ) → Bool
is_given None = false
is_given (Some v) = true

abbrev pub has : List ℕ → Tag → Bool
has name t = is_given (value name t)

-- the types of scripts that a browser runs
abbrev pub script_types : List (List ℕ)
script_types =
    words (codes "module text/javascript application/javascript text/ecmascript application/ecmascript application/x-javascript application/x-ecmascript text/x-javascript text/x-ecmascript text/jscript text/livescript text/javascript1.0 text/javascript1.1 text/javascript1.2 text/javascript1.3 text/javascript1.4 text/javascript1.5")

-- a script without a type is run, and so is one whose type is empty
abbrev pub is_run : Option (List ℕ) → Bool
is_run None = true
is_run (Some v) = if is_seen v then has_word script_types v else true

-- a script that is linked to, or that has a text which is run
unfoldable pub is_script_here : Tag → Bool
is_script_here t =
    is_named (codes "script") t
    && (has (codes "src") t || has (codes "href") t || has (codes "xlink:href") t || (if is_seen t.inside then is_run (value (codes "type") t) else false))

abbrev pub is_for_sheets : Option (List ℕ) → Bool
is_for_sheets None = false
is_for_sheets (Some v) = has_word (codes "stylesheet" ∷ []) v

-- a sheet that the page has in it, or links to
unfoldable pub is_sheet_here : Tag → Bool
is_sheet_here t = is_named (codes "style") t && is_seen t.inside || is_named (codes "link") t && is_for_sheets (value (codes "rel") t)

abbrev pub framing_names : List (List ℕ)
framing_names = words (codes "iframe frame object embed")

unfoldable pub is_framing : List ℕ → Bool
is_framing name = is_among framing_names name

-- what shows another page
unfoldable pub is_other_document : Tag → Bool
is_other_document t =
    is_named (codes "frameset") t
    || is_framing t.name && (has (codes "src") t || has (codes "srcdoc") t || has (codes "data") t)

-- shown where scripts are off
unfoldable pub is_no_script : Tag → Bool
is_no_script t = is_named (codes "noscript") t && is_seen t.inside

unfoldable pub is_template : Tag → Bool
is_template t = is_named (codes "template") t

unfoldable pub has_hyphen : List ℕ → Bool
has_hyphen name = list_any (λ b. nat_eq b 45) name

-- an element of one's own, or one that is made by its own code
unfoldable pub is_own_element : Tag → Bool
is_own_element t = has_hyphen t.name || has (codes "is") t

unfoldable pub is_selected_content : Tag → Bool
is_selected_content t = is_named (codes "selectedcontent") t

-- the end of such a script is another one
unfoldable pub is_script_in_a_script : Tag → Bool
is_script_in_a_script t = is_named (codes "script") t && has_somewhere (codes "<script") (behind_mark (codes "<!--") t.inside)

-- ---- attributes

-- `on`, and a letter
unfoldable pub is_event_name : List ℕ → Bool
is_event_name (o ∷ n ∷ b ∷ bs) = to_ascii_lowercase o == byte "o" && to_ascii_lowercase n == byte "n" && is_ascii_alphabetic b
is_event_name bs = false

-- whether a text begins with a word, whatever control bytes and blanks stand before and in it
unfoldable pub spells : List ℕ → List ℕ → Bool
spells [] bs = true
spells (w ∷ ws) [] = false
spells (w ∷ ws) (b ∷ bs) = if nat_lt 32 b then to_ascii_lowercase b == w && spells ws bs else spells (w ∷ ws) bs

unfoldable pub is_code : Attribute → Bool
is_code a = is_event_name a.name

-- a browser takes blanks and control bytes out of an address
unfoldable pub is_code_address : Attribute → Bool
is_code_address a = spells (codes "javascript:") a.value

unfoldable pub is_typed_into : Attribute → Bool
is_typed_into a = str_eq_ignore_ascii_case a.name (codes "contenteditable") && not (str_eq_ignore_ascii_case a.value (codes "false"))

-- whether something begins here that may stand for other bytes
abbrev pub begins_reference : List ℕ → Bool
begins_reference (b ∷ c ∷ bs) = b == byte "&" && (is_ascii_alphabetic c || c == byte "#")
begins_reference bs = false

unfoldable pub has_reference : List ℕ → Bool
has_reference [] = false
has_reference (b ∷ bs) = if begins_reference (b ∷ bs) then true else has_reference bs

-- of an attribute that a selector may ask for
unfoldable pub is_reference : Attribute → Bool
is_reference a = not (str_eq_ignore_ascii_case a.name (codes "style") || str_eq_ignore_ascii_case a.name (codes "open")) && has_reference a.value

-- ---- all of them

unfoldable pub found_at_attribute : Placed → List Finding
found_at_attribute p =
    when (is_code p.attribute) (finding name.CodeInAnAttribute p.from p.to)
    ++ when (is_code_address p.attribute) (finding name.CodeInAnAddress p.from p.to)
    ++ when (is_typed_into p.attribute) (finding name.TypedInto p.from p.to)
    ++ when (is_reference p.attribute) (finding name.Reference p.from p.to)

unfoldable pub found_at_tag : Tag → List Finding
found_at_tag t =
    when (is_script_here t) (finding name.ScriptHere t.from t.to)
    ++ when (is_sheet_here t) (finding name.SheetHere t.from t.to)
    ++ when (is_other_document t) (finding name.OtherDocument t.from t.to)
    ++ when (is_no_script t) (finding name.NoScript t.from t.to)
    ++ when (is_template t) (finding name.Template t.from t.to)
    ++ when (is_own_element t) (finding name.OwnElement t.from t.to)
    ++ when (is_selected_content t) (finding name.SelectedContent t.from t.to)
    ++ when (is_script_in_a_script t) (finding name.ScriptInAScript t.from t.to)
    ++ flat_map found_at_attribute t.attributes
