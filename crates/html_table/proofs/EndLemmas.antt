-- What an end tag closes, by the place of the innermost element of its name and the place where the search for it stops.
use Rattle.std.proofs.Common.{◌≡◌, ◌≢◌, ℕ, ◌+◌, ◌-◌, ◌==◌, ◌||◌, ◌≤◌, Bool, true, false, if◌then◌else◌, List, [], ◌∷◌, length, Option, Some, None, option_map, refl, arith}
use Rattle.std.specs.Prelude.{nat_lt}
use Rattle.std.proofs.lemmas.Bool.{ne_eqb, le-ltb, lt-ltb}
use Rattle.html_table.specs.declared.elements.Kind.{Kind}
use Rattle.html_table.specs.declared.elements.Kind.TheVariants as k
use Rattle.html_table.specs.declared.scopes.Scope.{Scope}
use Rattle.html_table.specs.declared.scopes.Scope.TheVariants as within
use Rattle.html_table.specs.Elements.{is, is_table_part, Element}
use Rattle.html_table.specs.TreeTable.{stops, behind, has_name, holder, end_scope}
use Rattle.html_table.specs.Outward.{up_to_name, up_to_stop, behind_place}

few_names : (q : List ℕ) (es : List Element) → up_to_name q es ≤ length es
few_names q [] = omega arith
few_names q (e ∷ es) = by (has_name q e) (few_names q es)
  where
    by : (b : Bool) → up_to_name q es ≤ length es → (if b then length es + 1 else up_to_name q es) ≤ length (e ∷ es)
    by true few = omega arith
    by false few = omega (arith, few)

few_stops : (scope : Scope) (es : List Element) → up_to_stop scope es ≤ length es
few_stops scope [] = omega arith
few_stops scope (e ∷ es) = by (stops scope e.kind) (few_stops scope es)
  where
    by : (b : Bool) → up_to_stop scope es ≤ length es → (if b then length es + 1 else up_to_stop scope es) ≤ length (e ∷ es)
    by true few = omega arith
    by false few = omega (arith, few)

found : (n stop : ℕ) → stop ≤ n + 1 → Some n ≡ behind_place (n + 1) stop
found n stop le =
    let some : (n + 1 == 0) ≡ false = ne_eqb (n + 1) 0 (λ e. omega (arith, e)) in
    let inside : nat_lt (n + 1) stop ≡ false = le-ltb (n + 1) stop le in
    let before : n + 1 - 1 ≡ n = omega arith in
    rw (some, inside, before) refl

stopped : (place n : ℕ) → place ≤ n → None ≡ behind_place place (n + 1)
stopped place n le = let past : nat_lt place (n + 1) ≡ true = lt-ltb place (n + 1) (omega (arith, le)) in rw past (by (place == 0))
  where
    by : (b : Bool) → let nothing : Option ℕ = None in nothing ≡ (if b || true then None else Some (place - 1))
    by true = refl
    by false = refl

pub behind_by_place : (q : List ℕ) (scope : Scope) (es : List Element) → option_map length (behind (has_name q) scope es) ≡ behind_place (up_to_name q es) (up_to_stop scope es)
unfolding behind
behind_by_place q scope [] = refl
behind_by_place q scope (e ∷ es) = by (has_name q e) (stops scope e.kind) (behind_by_place q scope es)
  where
    by : (a b : Bool) → option_map length (behind (has_name q) scope es) ≡ behind_place (up_to_name q es) (up_to_stop scope es)
        → option_map length (if a then Some es else (if b then None else behind (has_name q) scope es))
        ≡ behind_place (if a then length es + 1 else up_to_name q es) (if b then length es + 1 else up_to_stop scope es)
    by true true inner = found (length es) (length es + 1) (omega arith)
    by true false inner = found (length es) (up_to_stop scope es) (omega (arith, few_stops scope es))
    by false true inner = stopped (up_to_name q es) (length es) (few_names q es)
    by false false inner = inner

-- ---- where the search stops

pub no_stop : (es : List Element) → up_to_stop within.Page es ≡ 0
no_stop [] = refl
no_stop (e ∷ es) = no_stop es

pub table_stop : (es : List Element) → length (holder k.Caption es) ≡ up_to_stop within.Table es
unfolding holder
table_stop [] = refl
table_stop (e ∷ es) = by (is e.kind k.Table) (table_stop es)
  where
    by : (b : Bool) → length (holder k.Caption es) ≡ up_to_stop within.Table es → length (if b then e ∷ es else holder k.Caption es) ≡ (if b then length es + 1 else up_to_stop within.Table es)
    by true inner = omega arith
    by false inner = inner

pub other_scope : (t : Kind) → end_scope t ≢ within.Page → end_scope t ≢ within.Table → end_scope t ≡ within.Cells
other_scope t = by (is t k.Table) (is_table_part t)
  where
    by : (a b : Bool) → (if a then within.Page else (if b then within.Table else within.Cells)) ≢ within.Page → (if a then within.Page else (if b then within.Table else within.Cells)) ≢ within.Table
        → (if a then within.Page else (if b then within.Table else within.Cells)) ≡ within.Cells
    by true b page table = absurd (page refl)
    by false true page table = absurd (table refl)
    by false false page table = refl
