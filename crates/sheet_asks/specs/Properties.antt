-- Names of properties and attributes.
--     attribute_of   the attribute that a property sets
--     is_switch      whether jQuery gives an attribute its own name as the value
--     brings_code    whether what an attribute holds is code, or lets a user write markup
use Rattle.std.specs.Prelude.{ℕ, ◌&&◌, ◌||◌, nat_eq, Bool, false, if◌then◌else◌, List, [], ◌∷◌, ◌++◌, drop, codes, unwrap_or}
use Rattle.std.specs.Char.{is_ascii_alphabetic, is_ascii_uppercase}
use Rattle.std.specs.List.{starts_with}
use Rattle.std.specs.Map.{lookup}
use Rattle.std.specs.Str.{bytes_eq, str_to_ascii_lowercase}
use Rattle.html_tokens.specs.Words.{words}
use Rattle.sheet_asks.specs.Names.{is_among}

-- properties, each with the attribute that it sets under another name
abbrev pub renamed : List (List ℕ × List ℕ)
renamed =
    (codes "className", codes "class")
    ∷ (codes "htmlFor", codes "for")
    ∷ (codes "httpEquiv", codes "http-equiv")
    ∷ (codes "acceptCharset", codes "accept-charset")
    ∷ (codes "encoding", codes "enctype")
    ∷ (codes "defaultValue", codes "value")
    ∷ (codes "defaultChecked", codes "checked")
    ∷ (codes "defaultSelected", codes "selected")
    ∷ (codes "defaultMuted", codes "muted")
    ∷ (codes "ch", codes "char")
    ∷ (codes "chOff", codes "charoff")
    ∷ (codes "fgColor", codes "text")
    ∷ (codes "linkColor", codes "link")
    ∷ (codes "alinkColor", codes "alink")
    ∷ (codes "vlinkColor", codes "vlink")
    ∷ (codes "popoverTargetElement", codes "popovertarget")
    ∷ (codes "commandForElement", codes "commandfor")
    ∷ (codes "ariaActiveDescendantElement", codes "aria-activedescendant")
    ∷ (codes "ariaControlsElements", codes "aria-controls")
    ∷ (codes "ariaDescribedByElements", codes "aria-describedby")
    ∷ (codes "ariaDetailsElements", codes "aria-details")
    ∷ (codes "ariaErrorMessageElements", codes "aria-errormessage")
    ∷ (codes "ariaFlowToElements", codes "aria-flowto")
    ∷ (codes "ariaLabelledByElements", codes "aria-labelledby")
    ∷ (codes "ariaOwnsElements", codes "aria-owns")
    ∷ (codes "hash", codes "href")
    ∷ (codes "host", codes "href")
    ∷ (codes "hostname", codes "href")
    ∷ (codes "password", codes "href")
    ∷ (codes "pathname", codes "href")
    ∷ (codes "port", codes "href")
    ∷ (codes "protocol", codes "href")
    ∷ (codes "search", codes "href")
    ∷ (codes "username", codes "href")
    ∷ []

abbrev pub begins_upper : List ℕ → Bool
begins_upper [] = false
begins_upper (b ∷ bs) = is_ascii_uppercase b

-- `aria` and a capital letter
abbrev pub is_aria : List ℕ → Bool
is_aria name = starts_with nat_eq name (codes "aria") && begins_upper (drop 4 name)

-- under its own name in lower case, and with `-` behind `aria`
abbrev pub in_lower_case : List ℕ → List ℕ
in_lower_case name = if is_aria name then codes "aria-" ++ str_to_ascii_lowercase (drop 4 name) else str_to_ascii_lowercase name

unfoldable pub attribute_of : List ℕ → List ℕ
attribute_of property = unwrap_or (lookup (bytes_eq property) renamed) (in_lower_case property)

-- the attributes to which jQuery gives their own name as the value
abbrev pub switches : List (List ℕ)
switches = words (codes "async autofocus autoplay checked controls defer disabled hidden ismap loop multiple open readonly required scoped selected")

-- whether a name in lower case is one of these
unfoldable pub is_switch : List ℕ → Bool
is_switch name = is_among switches name

abbrev pub begins_letter : List ℕ → Bool
begins_letter [] = false
begins_letter (b ∷ bs) = is_ascii_alphabetic b

-- `on` and a letter
abbrev pub is_handler : List ℕ → Bool
is_handler name = starts_with nat_eq name (codes "on") && begins_letter (drop 2 name)

-- where a user writes markup
abbrev pub editable : List (List ℕ)
editable = words (codes "contenteditable designmode")

-- of a name in lower case
unfoldable pub brings_code : List ℕ → Bool
brings_code name = is_handler name || is_among editable name
