-- So many open elements, from the innermost outward, and what is left of them where some are closed.
use Rattle.std.proofs.Common.{◌≡◌, ℕ, ◌+◌, ◌-◌, ◌≤◌, Bool, true, false, ◌&&◌, List, [], ◌∷◌, ◌++◌, length, take, drop, reverse, Option, Some, None, IfSome, option_map, unwrap_or, refl, sym, ap, ◌∙◌, subst, arith, length-drop}
use Rattle.std.specs.Prelude.{if◌then◌else◌}
use Rattle.std.proofs.lemmas.List.{length-reverse, length-take-le, reverse-append, take-append-drop, take_all, take-take, drop_at}
use Rattle.text_bytes.specs.Rests.{IsRest}
use Rattle.text_bytes.proofs.Rests.{of_rest, behind_first, itself}
use Rattle.html_table.specs.declared.elements.Kind.{Kind}
use Rattle.html_table.specs.declared.scopes.Scope.{Scope}
use Rattle.html_table.specs.Elements.{is, is_table_part, Element}
use Rattle.html_table.specs.TreeTable.{stops, behind, has_kind, without, without_current, is_held_by, holder, implied, is_bare, in_table}
use Rattle.html_table.specs.Views.{counted}
use Rattle.html_table.specs.Outward.{outward, left_behind, first_kind}

pub whole : (os : List Element) (n : ℕ) → n ≡ length os → outward n os ≡ reverse os
whole os n e = ap reverse (take_all n os (omega (arith, e)))

pub length_outward : (n : ℕ) (os : List Element) → n ≤ length os → length (outward n os) ≡ n
length_outward n os le = length-reverse (take n os) ∙ length-take-le n os le

drop-reverse : (m : ℕ) (xs : List Element) → m ≤ length xs → drop m (reverse xs) ≡ reverse (take (length xs - m) xs)
drop-reverse m xs le =
    let p = length xs - m in
    let count : length (reverse (drop p xs)) ≡ m = omega (arith, length-reverse (drop p xs), length-drop p xs, le) in
    ap (λ ys. drop m (reverse ys)) (sym (take-append-drop p xs)) ∙ ap (drop m) (reverse-append (take p xs) (drop p xs)) ∙ drop_at (reverse (drop p xs)) (reverse (take p xs)) m count

-- what is left of so many is so many less
pub rest_outward : (n : ℕ) (os rest : List Element) → n ≤ length os → IsRest (outward n os) rest → outward (length rest) os ≡ rest
rest_outward n os rest le is =
    let t = take n os in
    let m = length (outward n os) - length rest in
    let count : length (outward n os) ≡ n = length_outward n os le in
    let all : length t ≡ n = length-take-le n os le in
    let more : length rest ≡ length t - m = omega (arith, count, all, is.shorter) in
    ap reverse (sym (take-take (length rest) n os (omega (arith, count, is.shorter)))) ∙ ap (λ k. reverse (take k t)) more
    ∙ sym (drop-reverse m t (omega (arith, count, all))) ∙ is.last

-- ---- what is left

abbrev OneLeft : List Element → Option (List Element) → Type 0
OneLeft es o = IfSome o (λ r. IsRest es r)

further : (e : Element) (es : List Element) (o : Option (List Element)) → OneLeft es o → OneLeft (e ∷ es) o
further e es None is = tt
further e es (Some rest) is = of_rest (e ∷ es) es rest (behind_first e es) is

pub behind_rest : (x : Element → Bool) (scope : Scope) (es : List Element) → OneLeft es (behind x scope es)
unfolding behind
behind_rest x scope [] = tt
behind_rest x scope (e ∷ es) = by (x e) (stops scope e.kind) (further e es (behind x scope es) (behind_rest x scope es))
  where
    by : (a b : Bool) → OneLeft (e ∷ es) (behind x scope es) → OneLeft (e ∷ es) (if a then Some es else (if b then None else behind x scope es))
    by true b inner = behind_first e es
    by false true inner = tt
    by false false inner = inner

unwrapped : (o : Option (List Element)) (es : List Element) → OneLeft es o → IsRest es (unwrap_or o es)
unwrapped None es is = itself es
unwrapped (Some rest) es is = is

pub without_rest : (x : Element → Bool) (scope : Scope) (es : List Element) → IsRest es (without x scope es)
without_rest x scope es = unwrapped (behind x scope es) es (behind_rest x scope es)

pub holder_rest : (t : Kind) (es : List Element) → IsRest es (holder t es)
unfolding holder
holder_rest t [] = itself []
holder_rest t (e ∷ es) = by (is_held_by t e.kind) (of_rest (e ∷ es) es (holder t es) (behind_first e es) (holder_rest t es))
  where
    by : (b : Bool) → IsRest (e ∷ es) (holder t es) → IsRest (e ∷ es) (if b then e ∷ es else holder t es)
    by true inner = itself (e ∷ es)
    by false inner = inner

-- ---- closed by their kind

counted_left : (o : Option (List Element)) (es : List Element) (n : ℕ) → length es ≡ n → unwrap_or (option_map length o) n ≡ length (unwrap_or o es)
counted_left None es n is = sym is
counted_left (Some rest) es n is = refl

pub record IsLeft (n : ℕ) (os rest : List Element) (left : ℕ) : Type 0 where
  pub gives : outward left os ≡ rest
  pub within : left ≤ n

pub left_without : (t : Kind) (scope : Scope) (n : ℕ) (os : List Element) (o : Option ℕ) → n ≤ length os → o ≡ left_behind t scope (outward n os)
    → IsLeft n os (without (has_kind t) scope (outward n os)) (unwrap_or o n)
left_without t scope n os o le is =
    let es = outward n os in
    let rest = without (has_kind t) scope es in
    let last = without_rest (has_kind t) scope es in
    let many : length es ≡ n = length_outward n os le in
    let count : unwrap_or o n ≡ length rest = ap (λ p. unwrap_or p n) is ∙ counted_left (behind (has_kind t) scope es) es n many in
    record {
      gives = ap (λ k. outward k os) count ∙ rest_outward n os rest le last;
      within = omega (arith, count, last.shorter, many);
    }

pub left_holder : (t : Kind) (os : List Element) (n : ℕ) → n ≡ length (holder t (reverse os)) → IsLeft (length os) os (holder t (reverse os)) n
left_holder t os n is =
    let es = reverse os in
    let last = holder_rest t es in
    let all : outward (length os) os ≡ es = whole os (length os) refl in
    record {
      gives = ap (λ k. outward k os) is ∙ rest_outward (length os) os (holder t es) (omega arith) (subst (λ z. IsRest z (holder t es)) (sym all) last);
      within = omega (arith, is, last.shorter, length-reverse os);
    }

-- ---- the current element

closed : (t c : Kind) (es : List Element) → first_kind es ≡ Some c → is c t ≡ true → IsRest es (without_current t es) × (length (without_current t es) + 1 ≡ length es)
closed t c [] first same = cc
closed t c (e ∷ es) first same = let this : c ≡ e.kind = cc in by (is e.kind t) (ap (λ x. is x t) (sym this) ∙ same)
  where
    by : (b : Bool) → b ≡ true → IsRest (e ∷ es) (if b then es else e ∷ es) × (length (if b then es else e ∷ es) + 1 ≡ length (e ∷ es))
    by true is = (behind_first e es, omega arith)
    by false is = cc

pub current_closed : (t c : Kind) (n : ℕ) (os : List Element) → n ≤ length os → first_kind (outward n os) ≡ Some c → is c t ≡ true
    → IsLeft n os (without_current t (outward n os)) (n - 1)
current_closed t c n os le first same =
    let es = outward n os in
    let many : length es ≡ n = length_outward n os le in
    let last = closed t c es first same in
    let count : n - 1 ≡ length (without_current t es) = omega (arith, last.1, many) in
    record {
      gives = ap (λ k. outward k os) count ∙ rest_outward n os (without_current t es) le last.0;
      within = omega arith;
    }

pub current_stays : (t c : Kind) (n : ℕ) (os : List Element) → first_kind (outward n os) ≡ Some c → is c t ≡ false → outward n os ≡ without_current t (outward n os)
current_stays t c n os first other = by (outward n os) first
  where
    by : (es : List Element) → first_kind es ≡ Some c → es ≡ without_current t es
    by [] is = refl
    by (e ∷ es) is = let this : e.kind ≡ c = cc in rw (this, other) refl

pub no_current : (t : Kind) (es : List Element) → first_kind es ≡ None → es ≡ without_current t es
no_current t [] none = refl
no_current t (e ∷ es) none = cc

-- ---- in a table

bare_last : (es : List Element) (e : Element) → is_bare (es ++ e ∷ []) ≡ is_table_part e.kind
unfolding is_bare
bare_last [] e = refl
bare_last (f ∷ []) e = refl
bare_last (f ∷ g ∷ es) e = bare_last (g ∷ es) e

pub bare_first : (t : Kind) (os : List Element) → first_kind os ≡ Some t → is_table_part t ≡ is_bare (reverse os)
bare_first t [] first = cc
bare_first t (e ∷ os) first =
    let this : t ≡ e.kind = cc in
    ap is_table_part this ∙ sym (ap is_bare (reverse-append (e ∷ []) os) ∙ bare_last (reverse os) e)

pub bare_nothing : (os : List Element) → first_kind os ≡ None → true ≡ is_bare (reverse os)
unfolding is_bare
bare_nothing [] none = refl
bare_nothing (e ∷ os) none = cc

pub held : (f : Bool) (t inner : Kind) (es hs : List Element) → first_kind hs ≡ Some inner → option_map counted (in_table f t es hs) ≡ Some (length hs, implied t inner)
held f t inner es [] first = cc
held f t inner es (h ∷ hs) first = let this : h.kind ≡ inner = cc in rw this refl

pub held_by_none : (f : Bool) (t : Kind) (es hs : List Element) → first_kind hs ≡ None → option_map counted (in_table f t es hs) ≡ (if f && is_bare es then Some (0, []) else None)
held_by_none f t es [] none = by (f && is_bare es)
  where
    by : (b : Bool) → option_map counted (if b then Some ([], []) else None) ≡ (if b then Some (0, []) else None)
    by true = refl
    by false = refl
held_by_none f t es (h ∷ hs) none = cc
