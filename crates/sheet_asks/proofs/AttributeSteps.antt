-- Attributes with their values, as a map keeps them and as callers see them.
use Rattle.std.proofs.Common.{◌≡◌, ℕ, Bool, true, false, cond, if◌then◌else◌, List, [], ◌∷◌, map, Option, None, Some, is_some, refl, sym, ap, ◌∙◌}
use Rattle.std.proofs.lemmas.Slice.Eq.{bytes_eq-Decides}
use Rattle.std.specs.Map.{lookup, keys_of}
use Rattle.std.specs.Str.{bytes_eq}
use Rattle.indexmap.specs.IndexMap.{insert_entry}
use Rattle.tp_base.proofs.Lists.{bytes_eq-sym}
use Rattle.sheet_asks.specs.Asked.{Valued, name_in, value_in, values_at}
use Rattle.sheet_asks.specs.Names.{is_among, with_all}
use Rattle.sheet_asks.specs.Putting.{with_attribute}

-- keys that show the bytes of a name
module _ {K : Type 0} (shown : K → List ℕ) where
  abbrev pub seen : List (K × List (List ℕ)) → List Valued
  seen es = map (λ e. (shown e.0, e.1)) es

  pub seen_at : (es : List (K × List (List ℕ))) (q : List ℕ) → lookup (λ k. bytes_eq q (shown k)) es ≡ lookup (bytes_eq q) (seen es)
  seen_at [] q = refl
  seen_at (e ∷ es) q = ap (cond (bytes_eq q (shown e.0)) (Some e.1)) (seen_at es q)

  pub seen_keys : (es : List (K × List (List ℕ))) → map shown (keys_of es) ≡ map (λ a. a.0) (seen es)
  seen_keys [] = refl
  seen_keys (e ∷ es) = ap (λ ns. shown e.0 ∷ ns) (seen_keys es)

  seen_if : (b : Bool) (e : K × List (List ℕ)) (es more : List (K × List (List ℕ))) (v : List (List ℕ))
      → seen (if b then (e.0, v) ∷ es else e ∷ more) ≡ (if b then (shown e.0, v) ∷ seen es else (shown e.0, e.1) ∷ seen more)
  seen_if true e es more v = refl
  seen_if false e es more v = refl

  pub seen_inserted : (es : List (K × List (List ℕ))) (k : K) (v : List (List ℕ))
      → seen (insert_entry (λ x y. bytes_eq (shown x) (shown y)) es k v) ≡ insert_entry bytes_eq (seen es) (shown k) v
  seen_inserted [] k v = refl
  seen_inserted (e ∷ es) k v =
      seen_if (bytes_eq (shown k) (shown e.0)) e es (insert_entry (λ x y. bytes_eq (shown x) (shown y)) es k v) v
      ∙ ap (λ more. if bytes_eq (shown k) (shown e.0) then (shown e.0, v) ∷ seen es else (shown e.0, e.1) ∷ more) (seen_inserted es k v)

-- ---- as callers see them

pub same_itself : (n : List ℕ) → bytes_eq n n ≡ true
same_itself n = (bytes_eq-Decides n n).1 refl

-- what is inserted again takes the place of what was
pub inserted_twice : (all : List Valued) (n : List ℕ) (v w : List (List ℕ)) → insert_entry bytes_eq (insert_entry bytes_eq all n v) n w ≡ insert_entry bytes_eq all n w
inserted_twice [] n v w = rw (same_itself n) refl
inserted_twice (a ∷ all) n v w =
    elim (bytes_eq n a.0) as (λ b. bytes_eq n a.0 ≡ b → insert_entry bytes_eq (if b then (a.0, v) ∷ all else a ∷ insert_entry bytes_eq all n v) n w ≡ (if b then (a.0, w) ∷ all else a ∷ insert_entry bytes_eq all n w)) [
      | true ↦ λ is. rw is refl
      | false ↦ λ is. rw is (ap (λ es. a ∷ es) (inserted_twice all n v w))
    ] refl

found_if : (b : Bool) (v : List (List ℕ)) (o : Option (List (List ℕ))) (c : Bool) → is_some o ≡ c → is_some (cond b (Some v) o) ≡ (if b then true else c)
found_if true v o c is = refl
found_if false v o c is = is

found : (all : List Valued) (q : List ℕ) → is_some (lookup (bytes_eq q) all) ≡ is_among (map (λ a. a.0) all) q
found [] q = refl
found (a ∷ all) q = found_if (bytes_eq q a.0) a.1 (lookup (bytes_eq q) all) (is_among (map (λ a. a.0) all) q) (found all q) ∙ ap (λ b. if b then true else is_among (map (λ a. a.0) all) q) (bytes_eq-sym q a.0)

pub not_there : (all : List Valued) (q : List ℕ) → lookup (bytes_eq q) all ≡ None → is_among (map (λ a. a.0) all) q ≡ false
not_there all q is = sym (found all q) ∙ ap is_some is

pub there : (all : List Valued) (q : List ℕ) (v : List (List ℕ)) → lookup (bytes_eq q) all ≡ Some v → is_among (map (λ a. a.0) all) q ≡ true
there all q v is = sym (found all q) ∙ ap is_some is

-- an attribute's values are taken, and put back with one more
pub put_back : (old between inside new : List Valued) (text n : List ℕ) (before after given : List (List ℕ)) → between ≡ insert_entry bytes_eq old n [] → before ≡ values_at old n → after ≡ with_all before given
    → n ≡ name_in text → given ≡ value_in text → inside ≡ between → new ≡ insert_entry bytes_eq inside n after → new ≡ with_attribute old text
put_back old between inside new text n before after given left taken put name value same inserted =
    inserted ∙ ap (λ es. insert_entry bytes_eq es n after) (same ∙ left) ∙ inserted_twice old n [] after
    ∙ ap (insert_entry bytes_eq old n) (put ∙ ap (λ b. with_all b given) taken ∙ ap (with_all (values_at old n)) value)
    ∙ ap (λ m. insert_entry bytes_eq old m (with_all (values_at old m) (value_in text))) name
