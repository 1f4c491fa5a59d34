-- The elements `script` of a page.
--     sources_in_script    the source that its text is, if it is one
--     unseen               the file that it names, if that isn't handed in
use Rattle.std.specs.Prelude.{ℕ, ◌==◌, ◌&&◌, ◌||◌, not, nat_eq, Bool, true, false, if◌then◌else◌, List, [], ◌∷◌, length, take, drop, codes, Option, Some, None}
use Rattle.std.specs.Char.{is_ascii_alphabetic, is_ascii_digit}
use Rattle.std.specs.List.{starts_with, ends_with, prefix_len, list_any}
use Rattle.std.specs.Option.{is_some}
use Rattle.std.specs.Str.{byte, bytes_eq}
use Rattle.text_bytes.specs.Blanks.{is_blank}
use Rattle.html_tokens.specs.Bytes.{lowered}
use Rattle.html_tokens.specs.Names.{is_among}
use Rattle.html_tokens.specs.Words.{words}
use Rattle.code_sources.specs.declared.sources.Kind.{Kind}
use Rattle.code_sources.specs.declared.sources.Kind.TheVariants.{Script, Template, Unseen}
use Rattle.code_sources.specs.declared.sources.Source.{Source}
use Rattle.code_sources.specs.Bytes.{past_blanks}
use Rattle.code_sources.specs.References.{read_value}
use Rattle.code_sources.specs.Tags.{Tag, value}

-- ---- its text

-- The types of scripts that are run: none, `module`, and the JavaScript types of the standard on MIME types.
abbrev pub run_types : List (List ℕ)
run_types =
    []
    ∷ words (codes "module application/ecmascript application/javascript application/x-ecmascript application/x-javascript text/ecmascript text/javascript text/javascript1.0 text/javascript1.1 text/javascript1.2 text/javascript1.3 text/javascript1.4 text/javascript1.5 text/jscript text/livescript text/x-ecmascript text/x-javascript")

abbrev pub in_type : ℕ → Bool
in_type b = not (is_blank b || b == byte ";")

-- a type without blanks around it and without its parameters
unfoldable pub type_word : List ℕ → List ℕ
type_word text = let word = past_blanks text in take (prefix_len in_type word) word

unfoldable pub is_run_type : List ℕ → Bool
is_run_type word = is_among run_types word

abbrev pub is_run : Option (List ℕ) → Bool
is_run None = true
is_run (Some text) = is_run_type (lowered (type_word text))

-- what makes a `<` before it the beginning of markup, or of a mark of templates
abbrev pub opens_markup : List ℕ → Bool
opens_markup [] = false
opens_markup (b ∷ bs) = is_ascii_alphabetic b || b == byte "{" || b == byte "%" || b == byte "$" || b == byte "[" || b == byte "#"

unfoldable pub holds_markup : List ℕ → Bool
holds_markup [] = false
holds_markup (b ∷ bs) = if b == byte "<" && opens_markup bs then true else holds_markup bs

abbrev pub inside : Kind → Tag → List Source
inside kind t = record { kind = kind; text = t.inside; place = t.inside_at; is_sure = true } ∷ []

-- A script that is run has its text or a file. Another one is a template where it has markup.
unfoldable pub sources_in_script : Tag → List Source
sources_in_script t =
    if is_run (value (codes "type") t) then (if is_some (value (codes "src") t) then [] else inside Script t)
    else (if holds_markup t.inside then inside Template t else [])

-- ---- its file

abbrev pub in_path : ℕ → Bool
in_path b = not (b == byte "?" || b == byte "#")

-- an address without its query and its fragment
abbrev pub path_of : List ℕ → List ℕ
path_of address = take (prefix_len in_path address) address

abbrev pub has_slash : List ℕ → Bool
has_slash bs = list_any (λ b. nat_eq b 47) bs

-- behind the last slash
unfoldable pub last_part : List ℕ → List ℕ
last_part [] = []
last_part (b ∷ bs) = if has_slash (b ∷ bs) then last_part bs else b ∷ bs

abbrev pub is_between_words : ℕ → Bool
is_between_words b = b == byte "." || b == byte "-" || is_ascii_digit b

-- behind a word at the front and the dots, hyphens and digits behind it
unfoldable pub behind_word : List ℕ → List ℕ → List ℕ
behind_word word bs =
    let rest = drop (length word) bs in
    if starts_with nat_eq bs word then drop (prefix_len is_between_words rest) rest else bs

-- jQuery itself: `jquery`, a version, `slim` and `min`, each of which may be left out, and `.js`
unfoldable pub is_jquery : List ℕ → Bool
is_jquery file =
    starts_with nat_eq file (codes "jquery")
    && ends_with nat_eq file (codes ".js")
    && bytes_eq (behind_word (codes "min") (behind_word (codes "slim") (behind_word (codes "jquery") file))) (codes "js")

-- one of the scripts has the last part of its name in common with the file
abbrev pub is_handed_in : List (List ℕ) → List ℕ → Bool
is_handed_in scripts file = list_any (λ s. bytes_eq (last_part s) file) scripts

unfoldable pub is_known : List (List ℕ) → List ℕ → Bool
is_known scripts address = let file = last_part (path_of address) in is_jquery file || is_handed_in scripts file

abbrev pub unseen_at : List (List ℕ) → ℕ → Option (List ℕ) → List Source
unseen_at scripts at None = []
unseen_at scripts at (Some address) =
    let said = read_value address in
    if is_known scripts said.text then [] else record { kind = Unseen; text = said.text; place = at; is_sure = said.sure } ∷ []

unfoldable pub unseen : List (List ℕ) → Tag → List Source
unseen scripts t = unseen_at scripts t.at (value (codes "src") t)
