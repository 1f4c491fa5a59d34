-- Declarations, and where each name stands last among them.
use Rattle.std.proofs.Common.{◌≡◌, ℕ, zero, suc, ◌+◌, ◌-◌, ◌<◌, ◌≤◌, Bool, true, false, if◌then◌else◌, List, [], ◌∷◌, ◌++◌, length, map, take, get_or, bytes_eq, Option, Some, None, IsSome, refl, sym, ap, ◌∙◌, arith, append_assoc, append-nil, length-append}
use Rattle.std.proofs.lemmas.List.{map-append, length-map, take_all}
use Rattle.std.proofs.lemmas.Slice.Eq.{bytes_eq-Decides}
use Rattle.std.specs.List.{take-map}
use Rattle.std.specs.Option.{option_or}
use Rattle.jq_parts.specs.declared.entries.Entry.{Entry}
use Rattle.jq_parts.specs.declared.values.Declaration as code
use Rattle.jq_parts.specs.Bindings.{Declaration, latest}
use Rattle.jq_parts.specs.Views.{declaration_of, declarations_of}
use Rattle.jq_parts.specs.Places.{last_in, name_of, names_in, HideThose, IsIndexed}

abbrev listed : List Entry → List code.Declaration
listed es = map (λ (e : Entry). e.declaration) es

abbrev declared_by : Entry → Declaration
declared_by e = declaration_of e.declaration

abbrev declarations_in : List Entry → List Declaration
declarations_in es = declarations_of (listed es)

pub as_many : (es : List Entry) → length (listed es) ≡ length es
as_many es = length-map es (λ (e : Entry). e.declaration)

pub pushed : (es : List Entry) (e : Entry) → listed (es ++ e ∷ []) ≡ listed es ++ e.declaration ∷ []
pushed es e = map-append (λ (x : Entry). x.declaration) es (e ∷ [])

-- ---- the place of a name

first_or : (b : Bool) (q : List ℕ) (n : ℕ) → option_or None (if b then Some n else None) ≡ (if b then Some (n + 0) else None)
first_or true q n = ap Some (omega arith)
first_or false q n = refl

later_or : (b : Bool) (n m k : ℕ) (r x : Option ℕ) → m ≡ k → option_or (if b then Some m else r) x ≡ (if b then Some k else option_or r x)
later_or true n m k r x is = ap Some is
later_or false n m k r x is = refl

last_more : (n : ℕ) (q m : List ℕ) (ms : List (List ℕ)) → last_in n q (ms ++ m ∷ []) ≡ (if bytes_eq m q then Some (n + length ms) else last_in n q ms)
last_more n q m [] = first_or (bytes_eq m q) q n
last_more n q m (k ∷ ms) =
    ap (λ r. option_or r (if bytes_eq k q then Some n else None)) (last_more (suc n) q m ms)
    ∙ later_or (bytes_eq m q) n (suc n + length ms) (n + suc (length ms)) (last_in (suc n) q ms) (if bytes_eq k q then Some n else None) (omega arith)

or_none : (x y : Option ℕ) → option_or x y ≡ None → (x ≡ None) × (y ≡ None)
or_none (Some a) y is = cc
or_none None y is = (refl, is)

not_here : {A : Type 0} (b : Bool) (n : ℕ) (x : A) → (if b then Some n else None) ≡ None → (if b then Some x else None) ≡ None
not_here true n x is = cc
not_here false n x is = refl

none_from : (n : ℕ) (q : List ℕ) (es : List Entry) → last_in n q (names_in es) ≡ None → latest q (declarations_in es) ≡ None
unfolding latest
none_from n q [] is = refl
none_from n q (e ∷ es) is =
    let parts = or_none (last_in (suc n) q (names_in es)) (if bytes_eq (name_of e) q then Some n else None) is in
    rw (none_from (suc n) q es parts.0) (not_here (bytes_eq (name_of e) q) n (declared_by e) parts.1)

record Stands (q : List ℕ) (es : List Entry) (n k : ℕ) (x : Entry) : Type 0 where
  behind : n ≤ k
  before : k < n + length es
  is : latest q (declarations_in es) ≡ Some (declared_by (get_or es (k - n) x))

here : (b : Bool) (q : List ℕ) (e : Entry) (es : List Entry) (n k : ℕ) (x : Entry) → bytes_eq (name_of e) q ≡ b → latest q (declarations_in es) ≡ None
    → (if b then Some n else None) ≡ Some k → Stands q (e ∷ es) n k x
unfolding latest
here false q e es n k x same none found = cc
here true q e es n k x same none found =
    let at : n ≡ k = cc in
    let first : k - n ≡ 0 = omega (arith, at) in
    record { behind = omega (arith, at); before = omega (arith, at); is = rw (none, same, first) refl }

chosen : (r : Option ℕ) (q : List ℕ) (e : Entry) (es : List Entry) (n k : ℕ) (x : Entry) → last_in (suc n) q (names_in es) ≡ r
    → ((j : ℕ) → last_in (suc n) q (names_in es) ≡ Some j → Stands q es (suc n) j x)
    → option_or r (if bytes_eq (name_of e) q then Some n else None) ≡ Some k → Stands q (e ∷ es) n k x
unfolding latest
chosen None q e es n k x is further found = here (bytes_eq (name_of e) q) q e es n k x refl (none_from (suc n) q es is) found
chosen (Some j) q e es n k x is further found =
    let same : j ≡ k = cc in
    let at = further k (is ∙ ap Some same) in
    let next : k - n ≡ suc (k - suc n) = omega (arith, at.behind) in
    record { behind = omega (arith, at.behind); before = omega (arith, at.before); is = rw (at.is, next) refl }

stands : (q : List ℕ) (es : List Entry) (n k : ℕ) (x : Entry) → last_in n q (names_in es) ≡ Some k → Stands q es n k x
stands q [] n k x found = cc
stands q (e ∷ es) n k x found = chosen (last_in (suc n) q (names_in es)) q e es n k x refl (λ j is. stands q es (suc n) j x is) found

-- ---- looked up

pub none_last : (q : List ℕ) (es : List Entry) (places : List ℕ → Option ℕ) → IsIndexed es places → places q ≡ None → latest q (declarations_in es) ≡ None
none_last q es places indexed none = none_from 0 q es (sym (indexed.last q) ∙ none)

pub within : (q : List ℕ) (es : List Entry) (places : List ℕ → Option ℕ) (k : ℕ) → IsIndexed es places → places q ≡ Some k → k < length es
within q [] places k indexed found = let never : None ≡ Some k = sym (indexed.last q) ∙ found in cc
within q (e ∷ es) places k indexed found = let at = stands q (e ∷ es) 0 k e (sym (indexed.last q) ∙ found) in omega (arith, at.before)

pub is_last : (q : List ℕ) (es : List Entry) (places : List ℕ → Option ℕ) (k : ℕ) (e : Entry) → IsIndexed es places → places q ≡ Some k → e ≡ get_or es k e
    → latest q (declarations_in es) ≡ Some (declared_by e)
is_last q es places k e indexed found is =
    let whole : k - 0 ≡ k = omega arith in
    (stands q es 0 k e (sym (indexed.last q) ∙ found)).is ∙ ap (λ n. Some (declared_by (get_or es n e))) whole ∙ ap (λ x. Some (declared_by x)) (sym is)

-- ---- one more

pub none_indexed : (es : List Entry) (places : List ℕ → Option ℕ) → es ≡ [] → ((q : List ℕ) → places q ≡ None) → IsIndexed es places
none_indexed es places none nowhere = rw none (record { last = nowhere; hidden = tt })

hidden_more : (before : List (List ℕ)) (es : List Entry) (e : Entry) → HideThose before es → e.hides ≡ last_in 0 (name_of e) (before ++ names_in es)
    → HideThose before (es ++ e ∷ [])
hidden_more before [] e those is = (is ∙ ap (last_in 0 (name_of e)) (append-nil before), tt)
hidden_more before (d ∷ es) e those is =
    (those.0, hidden_more (before ++ name_of d ∷ []) es e those.1 (is ∙ ap (last_in 0 (name_of e)) (sym (append_assoc before (name_of d ∷ []) (names_in es)))))

-- the last one hides the last of those before it
record IsLast (before : List (List ℕ)) (es : List Entry) (e : Entry) : Type 0 where
  those : HideThose before es
  hides : e.hides ≡ last_in 0 (name_of e) (before ++ names_in es)

hidden_less : (before : List (List ℕ)) (es : List Entry) (e : Entry) → HideThose before (es ++ e ∷ []) → IsLast before es e
hidden_less before [] e those = record { those = tt; hides = those.0 ∙ ap (last_in 0 (name_of e)) (sym (append-nil before)) }
hidden_less before (d ∷ es) e those =
    let further = hidden_less (before ++ name_of d ∷ []) es e those.1 in
    record { those = (those.0, further.those); hides = further.hides ∙ ap (last_in 0 (name_of e)) (append_assoc before (name_of d ∷ []) (names_in es)) }

names_more : (es : List Entry) (e : Entry) → names_in (es ++ e ∷ []) ≡ names_in es ++ name_of e ∷ []
names_more es e = map-append name_of es (e ∷ [])

last_one : (es : List Entry) (e : Entry) (q : List ℕ) → last_in 0 q (names_in (es ++ e ∷ [])) ≡ (if bytes_eq (name_of e) q then Some (length es) else last_in 0 q (names_in es))
last_one es e q =
    let many : 0 + length (names_in es) ≡ length es = omega (arith, length-map es name_of) in
    ap (last_in 0 q) (names_more es e) ∙ last_more 0 q (name_of e) (names_in es)
    ∙ ap (λ n. if bytes_eq (name_of e) q then Some n else last_in 0 q (names_in es)) many

pub one_indexed : (es : List Entry) (old new : List ℕ → Option ℕ) (d : code.Declaration) (k : ℕ) (h : Option ℕ) → IsIndexed es old → k ≡ length es → h ≡ old d.name.now
    → ((q : List ℕ) → new q ≡ (if bytes_eq d.name.now q then Some k else old q)) → IsIndexed (es ++ record { declaration = d; hides = h } ∷ []) new
one_indexed es old new d k h indexed is hides changed =
    let e : Entry = record { declaration = d; hides = h } in
    record {
      last = λ q. changed q ∙ ap (λ n. if bytes_eq (name_of e) q then Some n else old q) is
          ∙ ap (λ r. if bytes_eq (name_of e) q then Some (length es) else r) (indexed.last q) ∙ sym (last_one es e q);
      hidden = hidden_more [] es e indexed.hidden (hides ∙ indexed.last (name_of e));
    }

pub same_indexed : (es : List Entry) (old new : List ℕ → Option ℕ) → IsIndexed es old → ((q : List ℕ) → new q ≡ old q) → IsIndexed es new
same_indexed es old new indexed same = record { last = λ q. same q ∙ indexed.last q; hidden = indexed.hidden }

-- ---- one less

either : (es : List Entry) (e : Entry) (b : Bool) (q : List ℕ) → bytes_eq (name_of e) q ≡ b → e.hides ≡ last_in 0 (name_of e) (names_in es)
    → (if b then e.hides else (if b then Some (length es) else last_in 0 q (names_in es))) ≡ last_in 0 q (names_in es)
either es e true q same hides = hides ∙ ap (λ n. last_in 0 n (names_in es)) ((bytes_eq-Decides (name_of e) q).0 same)
either es e false q other hides = refl

less_indexed : (es : List Entry) (e : Entry) (old new : List ℕ → Option ℕ) → IsIndexed (es ++ e ∷ []) old
    → ((q : List ℕ) → new q ≡ (if bytes_eq (name_of e) q then e.hides else old q)) → IsIndexed es new
less_indexed es e old new indexed changed =
    let less = hidden_less [] es e indexed.hidden in
    record {
      last = λ q. changed q ∙ ap (λ r. if bytes_eq (name_of e) q then e.hides else r) (indexed.last q ∙ last_one es e q) ∙ either es e (bytes_eq (name_of e) q) q refl less.hides;
      hidden = less.those;
    }

cut_of : (n : ℕ) (es : List Entry) → listed (take n es) ≡ take n (listed es)
cut_of n es = sym (take-map (λ (e : Entry). e.declaration) n es)

front : (xs ys : List Entry) → take (length xs) (xs ++ ys) ≡ xs
front [] ys = refl
front (x ∷ xs) ys = ap (λ zs. x ∷ zs) (front xs ys)

pub last_less : (all es : List Entry) (e : Entry) → all ≡ es ++ e ∷ [] → listed es ≡ take (length (listed all) - 1) (listed all)
last_less all es e is =
    let less : length (listed all) - 1 ≡ length es = omega (arith, as_many all, ap length is ∙ length-append es (e ∷ [])) in
    sym (ap (λ n. take n (listed all)) less ∙ sym (cut_of (length es) all) ∙ ap listed (ap (take (length es)) is ∙ front es (e ∷ [])))

pub none_less : (all es : List Entry) → length all ≡ 0 → all ≡ es ++ [] → listed es ≡ take (length (listed all) - 1) (listed all)
none_less [] es none is = ap listed (sym (is ∙ append-nil es))
none_less (e ∷ all) es none is = let never : ⊥ = omega (arith, none) in absurd never

pub last_known : (all es : List Entry) (e : Entry) (places : List ℕ → Option ℕ) → IsIndexed all places → all ≡ es ++ e ∷ [] → IsSome (places (name_of e))
last_known all es e places indexed is =
    let same = (bytes_eq-Decides (name_of e) (name_of e)).1 refl in
    rw (indexed.last (name_of e) ∙ ap (λ xs. last_in 0 (name_of e) (names_in xs)) is ∙ last_one es e (name_of e), same) refl

pub last_gone : (all es : List Entry) (e : Entry) (old new : List ℕ → Option ℕ) → IsIndexed all old → all ≡ es ++ e ∷ []
    → ((q : List ℕ) → new q ≡ (if bytes_eq (name_of e) q then e.hides else old q)) → IsIndexed es new
last_gone all es e old new indexed is changed = less_indexed es e old new (rw is at indexed) changed

pub none_gone : (all es : List Entry) (places : List ℕ → Option ℕ) → IsIndexed all places → all ≡ es ++ [] → IsIndexed es places
none_gone all es places indexed is = rw (is ∙ append-nil es) at indexed

-- what was pushed is gone again
pub popped : (es all rest : List Entry) (e x : Entry) → all ≡ es ++ e ∷ [] → all ≡ rest ++ x ∷ [] → listed rest ≡ listed es
popped es all rest e x is cut =
    let same : length rest ≡ length es = omega (arith, ap length (sym cut ∙ is), length-append rest (x ∷ []), length-append es (e ∷ [])) in
    ap listed (sym (front rest (x ∷ [])) ∙ ap (take (length rest)) (sym cut ∙ is) ∙ ap (λ n. take n (es ++ e ∷ [])) same ∙ front es (e ∷ []))

pub not_popped : (es all rest : List Entry) (e : Entry) → all ≡ es ++ e ∷ [] → length all ≡ 0 → listed rest ≡ listed es
not_popped es all rest e is none = let never : ⊥ = omega (arith, none, ap length is ∙ length-append es (e ∷ [])) in absurd never

pub restored : (es all rest : List Entry) (e x : Entry) (old new : List ℕ → Option ℕ) → all ≡ es ++ e ∷ [] → all ≡ rest ++ x ∷ [] → IsIndexed es old
    → ((q : List ℕ) → new q ≡ old q) → IsIndexed rest new
restored es all rest e x old new is cut indexed same =
    let many : length rest ≡ length es = omega (arith, ap length (sym cut ∙ is), length-append rest (x ∷ []), length-append es (e ∷ [])) in
    let back : es ≡ rest = sym (sym (front rest (x ∷ [])) ∙ ap (take (length rest)) (sym cut ∙ is) ∙ ap (λ n. take n (es ++ e ∷ [])) many ∙ front es (e ∷ [])) in
    same_indexed rest old new (rw back at indexed) same

pub not_restored : (es all rest : List Entry) (e : Entry) (new : List ℕ → Option ℕ) → all ≡ es ++ e ∷ [] → length all ≡ 0 → IsIndexed rest new
not_restored es all rest e new is none = let never : ⊥ = omega (arith, none, ap length is ∙ length-append es (e ∷ [])) in absurd never

take_less : (n m : ℕ) (ds : List code.Declaration) → n ≤ m → take n (take m ds) ≡ take n ds
take_less zero m ds less = refl
take_less (suc n) zero ds less = let never : ⊥ = omega (arith, less) in absurd never
take_less (suc n) (suc m) [] less = refl
take_less (suc n) (suc m) (d ∷ ds) less = ap (λ xs. d ∷ xs) (take_less n m ds (omega (arith, less)))

pub one_cut : (n : ℕ) (ds next all : List code.Declaration) → n < length ds → next ≡ take (length ds - 1) ds → take n ds ≡ all → take n next ≡ all
one_cut n ds next all more is same = ap (take n) is ∙ take_less n (length ds - 1) ds (omega (arith, more)) ∙ same

pub few_cut : (n : ℕ) (ds all : List code.Declaration) → length ds ≤ n → take n ds ≡ all → ds ≡ all
few_cut n ds all few same = sym (take_all n ds few) ∙ same

pub fewer : (n : ℕ) (ds next : List code.Declaration) → n < length ds → next ≡ take (length ds - 1) ds → length next < length ds
fewer n ds next more is = let less : length next ≡ length (take (length ds - 1) ds) = ap length is in let at_most = length_take (length ds - 1) ds in omega (arith, more, less, at_most)
  where
    length_take : (k : ℕ) (xs : List code.Declaration) → length (take k xs) ≤ k
    length_take zero xs = omega arith
    length_take (suc k) [] = omega arith
    length_take (suc k) (x ∷ xs) = omega (arith, length_take k xs)
