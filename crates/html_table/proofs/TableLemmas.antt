-- What stays open is no more than was open.
use Rattle.std.proofs.Common.{ℕ, ◌≤◌, Bool, true, false, List, [], ◌∷◌, length, Option, Some, None, arith}
use Rattle.std.specs.Prelude.{if◌then◌else◌, ◌&&◌, IfSome}
use Rattle.text_bytes.specs.Rests.{IsRest}
use Rattle.html_table.specs.declared.elements.Kind.{Kind}
use Rattle.html_table.specs.declared.elements.Kind.TheVariants as k
use Rattle.html_table.specs.declared.scopes.Scope.{Scope}
use Rattle.html_table.specs.declared.scopes.Scope.TheVariants as within
use Rattle.html_table.specs.Elements.{is, ends_paragraph, Element}
use Rattle.html_table.specs.TreeTable.{behind, has_kind, without, without_current, without_paragraph, closed_by, holder, is_bare, is_in_table, in_table, Place, place, has_name, end_scope, closed_at_end}
use Rattle.html_table.proofs.OutwardLemmas.{behind_rest, without_rest, holder_rest}

abbrev pub NoMore : ℕ → Option (List Element) → Type 0
NoMore n o = IfSome o (λ es. length es ≤ n)

pub behind_no_more : (x : Element → Bool) (scope : Scope) (es : List Element) → NoMore (length es) (behind x scope es)
behind_no_more x scope es = by (behind x scope es) (behind_rest x scope es)
  where
    by : (o : Option (List Element)) → IfSome o (λ r. IsRest es r) → NoMore (length es) o
    by None is = tt
    by (Some rest) is = is.shorter

pub without_no_more : (x : Element → Bool) (scope : Scope) (es : List Element) → length (without x scope es) ≤ length es
without_no_more x scope es = (without_rest x scope es).shorter

current_no_more : (t : Kind) (es : List Element) → length (without_current t es) ≤ length es
current_no_more t [] = omega arith
current_no_more t (e ∷ es) = by (is e.kind t)
  where
    by : (b : Bool) → length (if b then es else e ∷ es) ≤ length (e ∷ es)
    by true = omega arith
    by false = omega arith

paragraph_if : (b : Bool) (es : List Element) → length (if b then without_paragraph es else es) ≤ length es
paragraph_if true es = without_no_more (has_kind k.Paragraph) within.Walls es
paragraph_if false es = omega arith

closed_no_more : (t : Kind) (es : List Element) → length (closed_by t es) ≤ length es
unfolding closed_by
closed_no_more k.Item es =
    let inner = without (has_kind k.Item) within.Items es in
    omega (arith, without_no_more (has_kind k.Paragraph) within.Walls inner, without_no_more (has_kind k.Item) within.Items es)
closed_no_more k.Term es =
    let inner = without (has_kind k.Term) within.Terms es in
    omega (arith, without_no_more (has_kind k.Paragraph) within.Walls inner, without_no_more (has_kind k.Term) within.Terms es)
closed_no_more k.Choice es = current_no_more k.Choice es
closed_no_more k.Choices es = omega (arith, current_no_more k.Choices (without_current k.Choice es), current_no_more k.Choice es)
closed_no_more t es = paragraph_if (ends_paragraph t) es

holder_no_more : (t : Kind) (es : List Element) → length (holder t es) ≤ length es
holder_no_more t es = (holder_rest t es).shorter

abbrev pub IsWithin : ℕ → Option Place → Type 0
IsWithin n o = IfSome o (λ p. length p.0 ≤ n)

in_table_within : (f : Bool) (t : Kind) (es hs : List Element) → length hs ≤ length es → IsWithin (length es) (in_table f t es hs)
in_table_within f t es [] le = by (f && is_bare es)
  where
    by : (b : Bool) → IsWithin (length es) (if b then Some ([], []) else None)
    by true = omega arith
    by false = tt
in_table_within f t es (h ∷ hs) le = le

pub place_within : (f : Bool) (t : Kind) (es : List Element) → IsWithin (length es) (place f t es)
unfolding place
place_within f t es = by (is_in_table t)
  where
    by : (b : Bool) → IsWithin (length es) (if b then in_table f t es (holder t es) else Some (closed_by t es, []))
    by true = in_table_within f t es (holder t es) (holder_no_more t es)
    by false = closed_no_more t es

pub end_no_more : (e : Element) (es : List Element) → length (closed_at_end e es) ≤ length es
unfolding closed_at_end
end_no_more e es = without_no_more (has_name e.name) (end_scope e.kind) es
