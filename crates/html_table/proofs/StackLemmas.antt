-- The open elements, each with what is remembered of it.
use Rattle.std.proofs.Common.{◌≡◌, Bool, true, false, if◌then◌else◌, ℕ, zero, suc, ◌+◌, ◌-◌, ◌<◌, ◌≤◌, List, [], ◌∷◌, ◌++◌, length, map, take, reverse, get_or, Option, Some, None, refl, sym, ap, ◌∙◌, arith}
use Rattle.std.specs.Str.{bytes_eq}
use Rattle.std.specs.List.{slice_get}
use Rattle.std.specs.Option.{option_map}
use Rattle.std.proofs.lemmas.Option.{slice_get-map, slice_get-get_or}
use Rattle.std.proofs.lemmas.Slice.Eq.{bytes_eq-Decides}
use Rattle.std.proofs.lemmas.List.{length-reverse, length-map, map-append, reverse-append, append_assoc, append-nil, take-map, take_more}
use Rattle.html_table.specs.declared.stack.Open.{Open}
use Rattle.html_table.specs.Elements.{Element}
use Rattle.html_table.specs.declared.name_places.NamePlaces.{NamePlaces}
use Rattle.html_table.specs.NamePlaces.{place_in, IsNumber, Fits}
use Rattle.html_table.specs.Outward.{outward, nearest, first_kind, up_to_name, opened_element, AreRemembered, AreNamed, IsStack}

-- those of a stack, from the innermost outward, and then others
abbrev onto : List Open → List Element → List Element
onto os es = reverse (map opened_element os) ++ es

onto_more : (o : Open) (os : List Open) (es : List Element) → onto (o ∷ os) es ≡ onto os (opened_element o ∷ es)
onto_more o os es =
    ap (λ xs. xs ++ es) (reverse-append (opened_element o ∷ []) (map opened_element os)) ∙ append_assoc (reverse (map opened_element os)) (opened_element o ∷ []) es

remembered_onto : (os : List Open) (es : List Element) (o : Open) → AreRemembered es os → o.nearest ≡ nearest (opened_element o ∷ onto os es) → AreRemembered es (os ++ o ∷ [])
remembered_onto [] es o are is = (is, tt)
remembered_onto (p ∷ os) es o are is =
    (are.0, remembered_onto os (opened_element p ∷ es) o are.1 (is ∙ ap (λ xs. nearest (opened_element o ∷ xs)) (onto_more p os es)))

pub remembered_more : (os : List Open) (o : Open) → AreRemembered [] os → o.nearest ≡ nearest (opened_element o ∷ reverse (map opened_element os)) → AreRemembered [] (os ++ o ∷ [])
remembered_more os o are is =
    remembered_onto os [] o are (is ∙ ap (λ xs. nearest (opened_element o ∷ xs)) (sym (append-nil (reverse (map opened_element os)))))

-- what is remembered of the last of so many
remembered_at : (os : List Open) (es : List Element) (i : ℕ) (d : Open) → AreRemembered es os → i < length os → (get_or os i d).nearest ≡ nearest (onto (take (suc i) os) es)
remembered_at [] es i d are less = absurd (omega arith)
remembered_at (o ∷ os) es zero d are less = are.0
remembered_at (o ∷ os) es (suc i) d are less =
    remembered_at os (opened_element o ∷ es) i d are.1 (omega arith) ∙ ap nearest (sym (onto_more o (take (suc i) os) es))

pub nearest_at : (os : List Open) (n : ℕ) (d : Open) → AreRemembered [] os → 0 < n → n ≤ length os → (get_or os (n - 1) d).nearest ≡ nearest (outward n (map opened_element os))
nearest_at os zero d are some le = absurd (omega arith)
nearest_at os (suc n) d are some le =
    let before : suc n - 1 ≡ n = omega arith in
    ap (λ i. (get_or os i d).nearest) before ∙ remembered_at os [] n d are (omega arith) ∙ ap nearest (append-nil (reverse (map opened_element (take (suc n) os))) ∙ ap reverse (sym (take-map opened_element (suc n) os)))

pub kind_at : (os : List Open) (n : ℕ) (d : Open) → 0 < n → n ≤ length os → Some (get_or os (n - 1) d).element.kind ≡ first_kind (outward n (map opened_element os))
kind_at os zero d some le = absurd (omega arith)
kind_at os (suc n) d some le =
    let one : suc n ≡ n + 1 = omega arith in
    let before : suc n - 1 ≡ n = omega arith in
    let last : take (suc n) (map opened_element os) ≡ map opened_element (take n os) ++ opened_element (get_or os n d) ∷ [] =
    take-map opened_element (suc n) os ∙ ap (λ m. map opened_element (take m os)) one ∙ ap (map opened_element) (take_more os n d (omega arith))
    ∙ map-append opened_element (take n os) (get_or os n d ∷ []) in
    ap (λ i. Some (get_or os i d).element.kind) before
    ∙ sym (ap (λ xs. first_kind (reverse xs)) last ∙ ap first_kind (reverse-append (map opened_element (take n os)) (opened_element (get_or os n d) ∷ [])))

pub kind_first : (os : List Open) (d : Open) → 0 < length os → Some (get_or os 0 d).element.kind ≡ first_kind (map opened_element os)
kind_first [] d some = absurd (omega arith)
kind_first (o ∷ os) d some = refl

pub one_more : (os : List Open) (o : Open) → map opened_element (os ++ o ∷ []) ≡ map opened_element os ++ opened_element o ∷ []
one_more os o = map-append opened_element os (o ∷ [])

-- ---- their names

named_kept : (t u : NamePlaces) → ((n : ℕ) (q : List ℕ) → IsNumber t n q → IsNumber u n q) → (es : List Element) (os : List Open) → AreNamed t es os → AreNamed u es os
named_kept t u kept es [] are = tt
named_kept t u kept es (o ∷ os) are = (kept o.name (opened_element o).name are.0, are.1, named_kept t u kept (opened_element o ∷ es) os are.2)

named_onto : (t : NamePlaces) (os : List Open) (es : List Element) (o : Open) → AreNamed t es os → IsNumber t o.name (opened_element o).name
    → o.hides ≡ up_to_name (opened_element o).name (onto os es) → AreNamed t es (os ++ o ∷ [])
named_onto t [] es o are number is = (number, is, tt)
named_onto t (p ∷ os) es o are number is =
    (are.0, are.1, named_onto t os (opened_element p ∷ es) o are.2 number (is ∙ ap (up_to_name (opened_element o).name) (onto_more p os es)))

named_before : (t : NamePlaces) (os : List Open) (es : List Element) (o : Open) → AreNamed t es (os ++ o ∷ []) → AreNamed t es os
named_before t [] es o are = tt
named_before t (p ∷ os) es o are = (are.0, are.1, named_before t os (opened_element p ∷ es) o are.2)

named_last : (t : NamePlaces) (os : List Open) (es : List Element) (o : Open) → AreNamed t es (os ++ o ∷ [])
    → IsNumber t o.name (opened_element o).name × (o.hides ≡ up_to_name (opened_element o).name (onto os es))
named_last t [] es o are = (are.0, are.1)
named_last t (p ∷ os) es o are =
    let last = named_last t os (opened_element p ∷ es) o are.2 in
    (last.0, last.1 ∙ sym (ap (up_to_name (opened_element o).name) (onto_more p os es)))

remembered_before : (os : List Open) (es : List Element) (o : Open) → AreRemembered es (os ++ o ∷ []) → AreRemembered es os
remembered_before [] es o are = tt
remembered_before (p ∷ os) es o are = (are.0, remembered_before os (opened_element p ∷ es) o are.1)

inward : (os : List Open) (o : Open) → reverse (map opened_element (os ++ o ∷ [])) ≡ opened_element o ∷ reverse (map opened_element os)
inward os o = ap reverse (one_more os o) ∙ reverse-append (map opened_element os) (opened_element o ∷ [])

length_outward : (os : List Open) → length (reverse (map opened_element os)) ≡ length os
length_outward os = length-reverse (map opened_element os) ∙ length-map os opened_element

-- names are entered
pub stack_renamed : (t u : NamePlaces) (os : List Open) → IsStack t os → ((q : List ℕ) → place_in u q ≡ place_in t q) → ((n : ℕ) (q : List ℕ) → IsNumber t n q → IsNumber u n q) → Fits u → IsStack u os
stack_renamed t u os is same kept fits = record {
  remembered = is.remembered;
  named = named_kept t u kept [] os is.named;
  fits = fits;
  places = λ q. same q ∙ is.places q;
}

-- an element more
pub stack_more : (t u v : NamePlaces) (os : List Open) (o : Open) → IsStack t os → o.nearest ≡ nearest (opened_element o ∷ reverse (map opened_element os))
    → ((q : List ℕ) → place_in u q ≡ place_in t q) → ((n : ℕ) (q : List ℕ) → IsNumber t n q → IsNumber u n q)
    → IsNumber u o.name (opened_element o).name → o.hides ≡ get_or u.places.items o.name 0
    → ((n : List ℕ) → IsNumber u o.name n → (q : List ℕ) → place_in v q ≡ (if bytes_eq n q then length os + 1 else place_in u q))
    → ((n : ℕ) (q : List ℕ) → IsNumber u n q → IsNumber v n q) → Fits v → IsStack v (os ++ o ∷ [])
stack_more t u v os o is near same kept number hides put kept' fits =
    let name = (opened_element o).name in
    let es = reverse (map opened_element os) in
    let here : o.hides ≡ up_to_name name (onto os []) = hides ∙ ap (λ i. get_or u.places.items i 0) (sym number.is) ∙ same name ∙ is.places name ∙ ap (up_to_name name) (sym (append-nil es)) in
    let count : length os + 1 ≡ length es + 1 = omega (arith, length_outward os) in
    record {
      remembered = remembered_more os o is.remembered near;
      named = named_kept u v kept' [] (os ++ o ∷ []) (named_onto u os [] o (named_kept t u kept [] os is.named) number here);
      fits = fits;
      places = λ q. put name number q
          ∙ ap (λ n. if bytes_eq name q then n else place_in u q) count
          ∙ ap (λ n. if bytes_eq name q then length es + 1 else n) (same q ∙ is.places q)
          ∙ sym (ap (up_to_name q) (inward os o));
    }

pub last_number : (t : NamePlaces) (os : List Open) (o : Open) → IsStack t (os ++ o ∷ []) → IsNumber t o.name (opened_element o).name
last_number t os o is = (named_last t os [] o is.named).0

either : (name q : List ℕ) (hides outer len : ℕ) (b : Bool) → (b ≡ true → hides ≡ outer) → (if b then hides else (if b then len else outer)) ≡ outer
either name q hides outer len true same = same refl
either name q hides outer len false same = refl

-- an element less
pub stack_less : (t v : NamePlaces) (os : List Open) (o : Open) → IsStack t (os ++ o ∷ [])
    → ((n : List ℕ) → IsNumber t o.name n → (q : List ℕ) → place_in v q ≡ (if bytes_eq n q then o.hides else place_in t q))
    → ((n : ℕ) (q : List ℕ) → IsNumber t n q → IsNumber v n q) → Fits v → IsStack v os
stack_less t v os o is put kept fits =
    let name = (opened_element o).name in
    let es = reverse (map opened_element os) in
    let last = named_last t os [] o is.named in
    let here : o.hides ≡ up_to_name name es = last.1 ∙ ap (up_to_name name) (append-nil es) in
    record {
      remembered = remembered_before os [] o is.remembered;
      named = named_kept t v kept [] os (named_before t os [] o is.named);
      fits = fits;
      places = λ q. put name last.0 q
          ∙ ap (λ n. if bytes_eq name q then o.hides else n) (is.places q ∙ ap (up_to_name q) (inward os o))
          ∙ either name q o.hides (up_to_name q es) (length es + 1) (bytes_eq name q) (λ same. here ∙ ap (λ n. up_to_name n es) ((bytes_eq-Decides name q).0 same));
    }

pub opened_at : (os : List Open) (i : ℕ) (d : Open) → i < length os → Some (opened_element (get_or os i d)) ≡ slice_get (map opened_element os) i
opened_at os i d less = sym (slice_get-map opened_element os i ∙ ap (λ (o : Option Open). option_map opened_element o) (slice_get-get_or os i d less))

pub none_at : (os : List Open) (i : ℕ) → length os ≤ i → None ≡ slice_get (map opened_element os) i
none_at [] i past = refl
none_at (o ∷ os) zero past = absurd (omega arith)
none_at (o ∷ os) (suc i) past = none_at os i (omega arith)
