-- Chains of calls, what they are on, and values that are new.
use Rattle.std.specs.Prelude.{ℕ, ◌-◌, ◌==◌, ◌&&◌, ◌||◌, not, nat_le, nat_lt, Bool, true, false, if◌then◌else◌, List, [], ◌∷◌, ◌++◌, length, get_or, Option, Some, None, codes}
use Rattle.std.specs.List.{prefix_len, list_any}
use Rattle.text_bytes.specs.Attributes.{is_among}
use Rattle.text_bytes.specs.Blanks.{is_blank}
use Rattle.code_scan.specs.declared.token.Token.{Token}
use Rattle.code_scan.specs.declared.token.TokenKind.{TokenKind}
use Rattle.code_scan.specs.declared.token.TokenKind.TheVariants.{Name, Number, Text, Dot, Member}
use Rattle.code_scan.specs.Spellings.{words_of, is_written}
use Rattle.code_tokens.specs.declared.code.Code.{Code}
use Rattle.code_tokens.specs.Members.{is_empty}
use Rattle.code_values.specs.declared.spans.Span.{Span}
use Rattle.code_values.specs.declared.chains.Chain.{Chain}
use Rattle.code_values.specs.declared.chains.Names.{Names}
use Rattle.code_values.specs.declared.chains.Names.TheVariants as names
use Rattle.code_values.specs.declared.chains.Origin.{Origin}
use Rattle.code_values.specs.declared.chains.Origin.TheVariants.{NewSet, NewNode, OfPage, Unknown}
use Rattle.code_values.specs.Arguments.{inside, arguments, is_spread}
use Rattle.code_values.specs.Objects.{is_object}
use Rattle.code_values.specs.Outer.{from_at, tokens_in, begins}
use Rattle.code_values.specs.Texts.{is_texts, is_plus}
use Rattle.code_values.specs.Values.{is_chosen}

-- ---- names

abbrev pub jquery_names : List (List ℕ)
jquery_names = codes "$" ∷ codes "jQuery" ∷ []

abbrev pub creations : List (List ℕ)
creations = codes "createElement" ∷ codes "createElementNS" ∷ codes "createTextNode" ∷ codes "createDocumentFragment" ∷ []

-- calls that give the set that they are called on, or nodes within it
abbrev pub keeping : List (List ℕ)
keeping =
    codes "addClass" ∷ codes "removeClass" ∷ codes "toggleClass" ∷ codes "append" ∷ codes "prepend" ∷ codes "appendTo" ∷ codes "prependTo"
    ∷ codes "insertAfter" ∷ codes "insertBefore" ∷ codes "removeAttr" ∷ codes "removeProp" ∷ codes "removeData" ∷ codes "remove"
    ∷ codes "detach" ∷ codes "empty" ∷ codes "show" ∷ codes "hide" ∷ codes "toggle" ∷ codes "fadeIn" ∷ codes "fadeOut" ∷ codes "slideUp"
    ∷ codes "slideDown" ∷ codes "animate" ∷ codes "stop" ∷ codes "delay" ∷ codes "on" ∷ codes "off" ∷ codes "one" ∷ codes "bind"
    ∷ codes "unbind" ∷ codes "click" ∷ codes "change" ∷ codes "submit" ∷ codes "keyup" ∷ codes "keydown" ∷ codes "keypress"
    ∷ codes "focus" ∷ codes "blur" ∷ codes "hover" ∷ codes "mouseenter" ∷ codes "mouseleave" ∷ codes "mousedown" ∷ codes "mouseup"
    ∷ codes "trigger" ∷ codes "each" ∷ codes "find" ∷ codes "children" ∷ codes "contents" ∷ codes "first" ∷ codes "last" ∷ codes "eq"
    ∷ codes "filter" ∷ codes "not" ∷ codes "has" ∷ codes "end" ∷ []

-- calls that do so where they are handed something
abbrev pub setting : List (List ℕ)
setting = codes "text" ∷ codes "html" ∷ codes "val" ∷ codes "width" ∷ codes "height" ∷ []

-- calls that do so where they are handed two values, or an object
abbrev pub pairing : List (List ℕ)
pairing = codes "attr" ∷ codes "prop" ∷ codes "css" ∷ codes "data" ∷ []

abbrev pub constants : List (List ℕ)
constants = codes "true" ∷ codes "false" ∷ codes "null" ∷ codes "undefined" ∷ []

abbrev pub names_of : Names → List (List ℕ)
names_of names.Jquery = jquery_names
names_of names.Creations = creations
names_of names.Keeping = keeping
names_of names.Setting = setting
names_of names.Pairing = pairing
names_of names.Constants = constants
names_of names.Document = codes "document" ∷ []
names_of names.This = codes "this" ∷ []

abbrev pub is_name : TokenKind → Bool
is_name Name = true
is_name kind = false

abbrev pub is_number : TokenKind → Bool
is_number Number = true
is_number kind = false

abbrev pub names_member : TokenKind → Bool
names_member Name = true
names_member (Member name) = true
names_member kind = false

-- ---- what stands at a place

-- whether tokens begin with one of these names
unfoldable pub begins_name : List ℕ → Names → List Token → Bool
begins_name text of [] = false
begins_name text of (t ∷ ts) = is_name t.kind && is_among (names_of of) (words_of text t)

-- the same of names of members, which a Text in brackets may ask for, too
unfoldable pub begins_member : List ℕ → Names → List Token → Bool
begins_member text of [] = false
begins_member text of (t ∷ ts) = names_member t.kind && is_among (names_of of) (words_of text t)

abbrev pub is_asking : TokenKind → Bool
is_asking Dot = true
is_asking kind = false

-- whether tokens begin with a dot
unfoldable pub begins_dot : List ℕ → List Token → Bool
begins_dot text [] = false
begins_dot text (t ∷ ts) = is_asking t.kind || is_written text (codes ".") t || is_written text (codes "?.") t

-- the names of calls stand before their brackets, and dots before those
abbrev pub calls : List ℕ → Code → Names → ℕ → Bool
calls text code of at = begins_name text of (from_at code (at - 1))

abbrev pub calls_member : List ℕ → Code → Names → ℕ → Bool
calls_member text code of at = begins_member text of (from_at code (at - 1)) && begins_dot text (from_at code (at - 2))

-- whether the bracket of a number is that of `$(..)` or `jQuery(..)`
unfoldable pub is_jquery : List ℕ → Code → ℕ → Bool
is_jquery text code at = calls text code names.Jquery at && not (begins_dot text (from_at code (at - 2)))

-- .. of `document.createElement(..)` and the like
unfoldable pub is_creation : List ℕ → Code → ℕ → Bool
is_creation text code at = calls_member text code names.Creations at && begins_name text names.Document (from_at code (at - 3))

-- ---- what a chain is on

abbrev pub is_less : ℕ → Bool
is_less b = b == 60

-- more than white space, and no `<` anywhere
unfoldable pub is_selector : List ℕ → Bool
is_selector letters = not (list_any is_less letters) && not (prefix_len is_blank letters == length letters)

unfoldable pub begins_tag : List ℕ → Bool
begins_tag [] = false
begins_tag (b ∷ bs) = is_less b

abbrev pub origin_of_text : List ℕ → Origin
origin_of_text letters = if begins_tag letters then NewSet else if is_selector letters then OfPage else Unknown

-- whether nothing stands behind a value, or something that is joined to it
unfoldable pub goes_on : List ℕ → List Token → Bool
goes_on text [] = false
goes_on text (t ∷ ts) = is_plus text t || is_written text (codes ",") t || is_written text (codes ")") t

unfoldable pub is_last : List ℕ → List Token → Bool
is_last text [] = false
is_last text (t ∷ ts) = is_written text (codes ",") t || is_written text (codes ")") t

abbrev pub origin_of_joined : List ℕ → List ℕ → List Token → Origin
origin_of_joined text letters behind = if goes_on text behind then origin_of_text letters else Unknown

abbrev pub origin_of_this : List ℕ → List ℕ → List Token → Origin
origin_of_this text words behind = if is_among (names_of names.This) words && is_last text behind then OfPage else Unknown

abbrev pub origin_of_kind : List ℕ → TokenKind → List ℕ → List Token → Origin
origin_of_kind text (Text letters) words behind = origin_of_joined text letters behind
origin_of_kind text Name words behind = origin_of_this text words behind
origin_of_kind text kind words behind = Unknown

-- by the tokens behind the bracket
unfoldable pub origin_of_tokens : List ℕ → List Token → Origin
origin_of_tokens text [] = Unknown
origin_of_tokens text (t ∷ ts) = origin_of_kind text t.kind (words_of text t) ts

-- What `$(v)` is on: new nodes where v begins with a Text that begins with `<`, nodes of the page where v is `this` or begins with another
-- Text. A value that chooses between others may be anything.
unfoldable pub origin_of_call : List ℕ → Code → ℕ → Origin
origin_of_call text code at = let s = inside code at in if is_chosen text code s then Unknown else origin_of_tokens text (from_at code s.from)

-- ---- chains

abbrev pub chain : ℕ → Origin → Chain
chain from origin = record { from = from; origin = origin }

abbrev pub no_chain : Chain
no_chain = chain 0 Unknown

-- with a call that gives nodes of the same kind
abbrev pub with_call : Chain → Origin → Chain
with_call before NewSet = before
with_call before OfPage = before
with_call before NewNode = no_chain
with_call before Unknown = no_chain

unfoldable pub has_two : List ℕ → Code → List Span → Bool
has_two text code [] = false
has_two text code (s ∷ []) = is_object text code s
has_two text code (s ∷ r ∷ ss) = not (is_spread text code s || is_spread text code r)

unfoldable pub has_one : List ℕ → Code → List Span → Bool
has_one text code [] = false
has_one text code (s ∷ ss) = not (is_spread text code s)

abbrev pub is_set : List ℕ → Code → ℕ → Bool
is_set text code at = has_one text code (arguments text code at)

abbrev pub is_paired : List ℕ → Code → ℕ → Bool
is_paired text code at = has_two text code (arguments text code at)

-- whether the call of a bracket gives nodes of what it is called on
unfoldable pub keeps : List ℕ → Code → ℕ → Bool
keeps text code at =
    if calls_member text code names.Keeping at then true
    else if calls_member text code names.Setting at then is_set text code at
    else if calls_member text code names.Pairing at then is_paired text code at
    else false

-- the chain before the name of a call, with that
abbrev pub continued : Bool → List Chain → ℕ → Chain
continued kept before at = if kept then (let c = get_or before (at - 3) no_chain in with_call c c.origin) else no_chain

-- the chain that ends with the call of a bracket
unfoldable pub chain_at : List ℕ → Code → List Chain → ℕ → Chain
chain_at text code before at =
    if is_jquery text code at then chain (at - 1) (origin_of_call text code at)
    else if is_creation text code at then chain (at - 3) NewNode
    else continued (keeps text code at) before at

abbrev pub closed_chain : List ℕ → Code → List Chain → Option ℕ → Chain
closed_chain text code before None = no_chain
closed_chain text code before (Some at) = chain_at text code before at

-- the chain that ends with the first of the tokens that are left, where those that end before it are known
unfoldable pub next_chain : List ℕ → Code → List Chain → List Token → Chain
next_chain text code before ts = if begins text (codes ")") ts then closed_chain text code before (get_or code.others (length before) None) else no_chain

-- The chains that end with the tokens that are left, behind those that end before.
unfoldable pub chains_from : List ℕ → Code → List Chain → List Token → List Chain
chains_from text code before [] = before
chains_from text code before (t ∷ ts) = chains_from text code (before ++ next_chain text code before (t ∷ ts) ∷ []) ts

-- for each token the chain that ends with it
abbrev pub chains : List ℕ → Code → List Chain
chains text code = chains_from text code [] code.tokens

-- ---- new

-- whether a range is one Number or one of the words for a constant
unfoldable pub is_constant : List ℕ → List Token → Bool
is_constant text [] = false
is_constant text (t ∷ ts) = is_empty ts && (is_number t.kind || is_name t.kind && is_among constants (words_of text t))

abbrev pub origin_of_all : Span → Chain → Origin
origin_of_all s c = if nat_lt s.from s.to && c.from == s.from then c.origin else Unknown

-- what a value is on that is one chain
abbrev pub origin_of : List Chain → Span → Origin
origin_of known s = origin_of_all s (get_or known (s.to - 1) no_chain)

abbrev pub is_new_origin : Origin → Bool
is_new_origin NewSet = true
is_new_origin NewNode = true
is_new_origin origin = false

-- whether a value can bring in no node of the page and no markup from elsewhere
abbrev pub is_new : List ℕ → Code → List Chain → Span → Bool
is_new text code known s = is_texts text code s || is_constant text (tokens_in code s) || is_new_origin (origin_of known s)

-- what the chain before the name of a member is on
unfoldable pub origin_before : List ℕ → Code → List Chain → ℕ → Origin
origin_before text code known at =
    if nat_le 2 at && begins_dot text (from_at code (at - 1)) then (get_or known (at - 2) no_chain).origin else Unknown
