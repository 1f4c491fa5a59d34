-- Examples.
use Rattle.std.proofs.Common.{◌≡◌, true, false, [], ◌∷◌, codes, refl}
use Rattle.tp_base.specs.declared.atoms.AtomKind.TheVariants as kind
use Rattle.html_tokens.specs.Words.{words_from}
use Rattle.sheet_asks.specs.Asked.{Asked, asked_of, attributes_of, classes_in, data_names, values_at}
use Rattle.sheet_asks.specs.Known.{known_calls}
use Rattle.sheet_asks.specs.Names.{is_among}
use Rattle.sheet_asks.specs.Properties.{attribute_of, is_switch, brings_code}

-- what `.a.on{} #k{} tr.a{} [title=v]{} [title]{} [data-x=b][title=w]{} [title=v]{}` asks for
asked : Asked
asked = asked_of (
    (kind.Class, codes "a")
    ∷ (kind.Class, codes "on")
    ∷ (kind.Ident, codes "k")
    ∷ (kind.Element, codes "tr")
    ∷ (kind.Class, codes "a")
    ∷ (kind.Attr, codes "title=v")
    ∷ (kind.Attr, codes "title")
    ∷ (kind.Attr, codes "data-x=b")
    ∷ (kind.Attr, codes "title=w")
    ∷ (kind.Attr, codes "title=v")
    ∷ []
    )

each_once : asked ≡ record {
  classes = codes "a" ∷ codes "on" ∷ [];
  ids = codes "k" ∷ [];
  elements = codes "tr" ∷ [];
  attributes = (codes "title", codes "v" ∷ codes "w" ∷ []) ∷ (codes "data-x", codes "b" ∷ []) ∷ [];
}
unfolding asked asked_of attributes_of
each_once = refl

their_values : values_at asked.attributes (codes "title") ≡ codes "v" ∷ codes "w" ∷ []
unfolding asked asked_of attributes_of
their_values = refl

data_alone : data_names asked ≡ codes "data-x" ∷ []
unfolding asked asked_of attributes_of
data_alone = refl

words_asked : classes_in asked (codes " on q on  a") ≡ codes "on" ∷ codes "a" ∷ []
unfolding asked asked_of attributes_of words_from
words_asked = refl

fades : is_among known_calls (codes "fadeIn") ≡ true
unfolding known_calls words_from
fades = refl

renders : is_among known_calls (codes "render") ≡ false
unfolding known_calls words_from
renders = refl

adds : is_among known_calls (codes "addClass") ≡ false
unfolding known_calls words_from
adds = refl

class_name : attribute_of (codes "className") ≡ codes "class"
unfolding attribute_of
class_name = refl

label : attribute_of (codes "ariaLabel") ≡ codes "aria-label"
unfolding attribute_of
label = refl

tab_index : attribute_of (codes "tabIndex") ≡ codes "tabindex"
unfolding attribute_of
tab_index = refl

-- a name that only begins as `aria` does
small : attribute_of (codes "ariakey") ≡ codes "ariakey"
unfolding attribute_of
small = refl

ticked : is_switch (codes "checked") ≡ true
unfolding is_switch words_from
ticked = refl

clicks : brings_code (codes "onclick") ≡ true
unfolding brings_code words_from
clicks = refl

on_alone : brings_code (codes "on") ≡ false
unfolding brings_code words_from
on_alone = refl
