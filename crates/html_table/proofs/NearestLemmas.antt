-- What is nearest to an element that is opened, from what is nearest to the one outside of it.
use Rattle.std.proofs.Common.{◌≡◌, ℕ, ◌+◌, Bool, true, false, ◌||◌, List, [], ◌∷◌, length, Option, Some, None, option_map, refl, ap, arith}
use Rattle.std.specs.Prelude.{if◌then◌else◌}
use Rattle.html_table.specs.declared.elements.Kind.{Kind}
use Rattle.html_table.specs.declared.elements.Kind.TheVariants as k
use Rattle.html_table.specs.declared.scopes.Scope.{Scope}
use Rattle.html_table.specs.declared.scopes.Scope.TheVariants as within
use Rattle.html_table.specs.Elements.{is, Element}
use Rattle.html_table.specs.TreeTable.{stops, behind, has_kind, is_held_by, holder}
use Rattle.html_table.specs.Outward.{left_behind, nearest, holding}

left_more : (t : Kind) (scope : Scope) (e : Element) (es : List Element)
    → left_behind t scope (e ∷ es) ≡ (if is e.kind t then Some (length es) else (if stops scope e.kind then None else left_behind t scope es))
unfolding behind
left_more t scope e es = by (is e.kind t) (stops scope e.kind) (behind (has_kind t) scope es)
  where
    by : (a b : Bool) (o : Option (List Element)) → option_map length (if a then Some es else (if b then None else o)) ≡ (if a then Some (length es) else (if b then None else option_map length o))
    by true b o = refl
    by false true o = refl
    by false false o = refl

holder_more : (t : Kind) (e : Element) (es : List Element) → length (holder t (e ∷ es)) ≡ (if is_held_by t e.kind then length es + 1 else length (holder t es))
unfolding holder
holder_more t e es = by (is_held_by t e.kind)
  where
    by : (b : Bool) → length (if b then e ∷ es else holder t es) ≡ (if b then length es + 1 else length (holder t es))
    by true = omega arith
    by false = refl

abbrev pub step : Kind → Scope → Kind → ℕ → Option ℕ → Option ℕ
step sought scope kind outside before = if is kind sought then Some outside else (if stops scope kind then None else before)

abbrev pub hold : Kind → Kind → ℕ → ℕ → ℕ
hold sought kind outside before = if is_held_by sought kind then outside + 1 else before

pub nearest_more : (e : Element) (es : List Element) → let n = nearest es in let d = length es in nearest (e ∷ es) ≡ record {
  paragraph = step k.Paragraph within.Walls e.kind d n.paragraph;
  item = step k.Item within.Items e.kind d n.item;
  term = step k.Term within.Terms e.kind d n.term;
  table = hold k.Caption e.kind d n.table;
  columns = hold k.Column e.kind d n.columns;
  rows = hold k.Row e.kind d n.rows;
  cells = hold k.Cell e.kind d n.cells;
  cells_end = if stops within.Cells e.kind then d + 1 else n.cells_end;
  «foreign» = is e.kind k.Foreign || n.«foreign»;
}
unfolding nearest
nearest_more e es = rw (
  left_more k.Paragraph within.Walls e es,
  left_more k.Item within.Items e es,
  left_more k.Term within.Terms e es,
  holder_more k.Caption e es,
  holder_more k.Column e es,
  holder_more k.Row e es,
  holder_more k.Cell e es,
) refl

-- which number counts up to what holds a kind
holder_same : (t s : Kind) → ((e : Kind) → is_held_by t e ≡ is_held_by s e) → (es : List Element) → holder t es ≡ holder s es
unfolding holder
holder_same t s same [] = refl
holder_same t s same (e ∷ es) = rw (same e.kind, holder_same t s same es) refl

pub holding_is : (t : Kind) (es : List Element) → holding t (nearest es) ≡ length (holder t es)
unfolding nearest
holding_is k.Column es = refl
holding_is k.Row es = refl
holding_is k.Cell es = refl
holding_is t es = ap length (holder_same k.Caption t (λ e. refl) es)
