-- What calls that give classes come to.
--     addClass toggleClass switchClass    by their names behind a dot
--     classList                           by what is asked of it
use Rattle.std.specs.Prelude.{ℕ, ◌+◌, ◌&&◌, ◌||◌, Bool, true, false, if◌then◌else◌, List, [], ◌∷◌, codes}
use Rattle.text_bytes.specs.Attributes.{is_among}
use Rattle.code_tokens.specs.declared.code.Code.{Code}
use Rattle.code_places.specs.declared.brackets.Brackets.{Brackets}
use Rattle.code_places.specs.declared.place.Place.{Place}
use Rattle.code_places.specs.declared.place.Place.TheVariants as place
use Rattle.code_places.specs.declared.place.Use.{Use}
use Rattle.code_places.specs.declared.place.Use.TheVariants as used
use Rattle.code_places.specs.Places.{place_at}
use Rattle.code_values.specs.Arguments.{arguments}
use Rattle.sheet_asks.specs.Asked.{Asked}
use Rattle.gifts.specs.declared.given.Given.{Given}
use Rattle.gifts.specs.Classes.{any_class}
use Rattle.code_gifts.specs.Values.{argument_classes, arguments_classes}
use Rattle.code_gifts.specs.Words.{tokens_at, first_words, first_place, begins_name}

-- ---- calls of jQuery

-- their first argument holds classes
abbrev pub first_names : List (List ℕ)
first_names = codes "addClass" ∷ codes "toggleClass" ∷ []

-- their second argument does
abbrev pub second_names : List (List ℕ)
second_names = codes "switchClass" ∷ []

abbrev pub is_class_call : List ℕ → Bool
is_class_call name = is_among first_names name || is_among second_names name

abbrev pub argument_of : List ℕ → ℕ
argument_of name = if is_among second_names name then 1 else 0

abbrev pub called : Asked → ℕ → List ℕ → Code → ℕ → List ℕ → List Given
called asked from text code at name = argument_classes asked from text code (argument_of name) (arguments text code (at + 1))

-- a function may be written behind a key
abbrev pub functions : List (List ℕ)
functions = codes "function" ∷ codes "async" ∷ []

abbrev pub key_gifts : ℕ → List ℕ → Code → ℕ → List Given
key_gifts from text code at = if begins_name text functions (tokens_at code (at + 2)) then [] else any_class from

-- A call that is handed on may be called with anything. A function that is written under this name, or called without a dot, is another one.
abbrev pub call_gifts : Asked → ℕ → List ℕ → Code → ℕ → List ℕ → Place → List Given
call_gifts asked from text code at name (place.Member used.Called) = called asked from text code at name
call_gifts asked from text code at name (place.Member other) = any_class from
call_gifts asked from text code at name (place.Name used.Called) = []
call_gifts asked from text code at name (place.Name other) = any_class from
call_gifts asked from text code at name place.Key = key_gifts from text code at
call_gifts asked from text code at name place = []

-- ---- lists of classes

-- each argument of these is classes
abbrev pub each_names : List (List ℕ)
each_names = codes "add" ∷ codes "replace" ∷ []

-- the first argument of these is
abbrev pub toggle_names : List (List ℕ)
toggle_names = codes "toggle" ∷ []

-- what asks of a list, or takes from it
abbrev pub quiet_names : List (List ℕ)
quiet_names =
    codes "remove" ∷ codes "contains" ∷ codes "item" ∷ codes "forEach" ∷ codes "length" ∷ codes "value" ∷ codes "keys" ∷ codes "values"
    ∷ codes "entries" ∷ codes "toString" ∷ []

abbrev pub quiet_gifts : ℕ → List ℕ → List Given
quiet_gifts from name = if is_among quiet_names name then [] else any_class from

abbrev pub asked_call_gifts : Asked → ℕ → List ℕ → Code → ℕ → List ℕ → List Given
asked_call_gifts asked from text code at name =
    if is_among each_names name then arguments_classes asked from text code (arguments text code (at + 1))
    else if is_among toggle_names name then argument_classes asked from text code 0 (arguments text code (at + 1))
    else quiet_gifts from name

-- by the name behind the list's dot, and by what is done with it
abbrev pub asked_gifts : Asked → ℕ → List ℕ → Code → ℕ → List ℕ → Place → List Given
asked_gifts asked from text code at name (place.Member used.Called) = asked_call_gifts asked from text code at name
asked_gifts asked from text code at name (place.Member used.Read) = quiet_gifts from name
asked_gifts asked from text code at name place = any_class from

-- A list may be handed on, and anything may be added then.
abbrev pub list_gifts : Asked → ℕ → List ℕ → Code → Brackets → ℕ → List Given
list_gifts asked from text code b at = asked_gifts asked from text code (at + 2) (first_words text (tokens_at code (at + 2))) (place_at text code b (at + 2))

-- ---- both

abbrev pub list_names : List (List ℕ)
list_names = codes "classList" ∷ []

abbrev pub stands : Place → Bool
stands place.Declared = false
stands place.Word = false
stands place.Text = false
stands place.Other = false
stands place = true

-- What the name of a number gives, if it is one of these.
unfoldable pub class_gifts : Asked → List ℕ → Code → Brackets → ℕ → List Given
class_gifts asked text code b at =
    let name = first_words text (tokens_at code at) in
    let from = first_place (tokens_at code at) in
    if is_class_call name then call_gifts asked from text code at name (place_at text code b at)
    else if is_among list_names name && stands (place_at text code b at) then list_gifts asked from text code b at
    else []
