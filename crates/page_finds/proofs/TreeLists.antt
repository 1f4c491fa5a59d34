-- Small facts on open elements, and the names that the code writes down.
use Rattle.std.proofs.Common.{◌≡◌, ℕ, suc, ◌+◌, ◌<◌, ◌≤◌, ◌||◌, nat_lt, Bool, true, false, if◌then◌else◌, List, [], ◌∷◌, length, map, drop, drop-cons, Some, refl, ap, ◌∙◌, arith, add-one}
use Rattle.std.specs.List.{list_any, slice_get}
use Rattle.std.proofs.lemmas.List.{drop_all}
use Rattle.std.proofs.lemmas.Option.{get_or_from_slice_get}
use Rattle.html_tokens.specs.Bytes.{lowered}
use Rattle.html_tokens.specs.Names.{is_among}
use Rattle.html_tokens.specs.Words.{words_from}
use Rattle.html_table.specs.Elements.{Element}
use Rattle.html_table.specs.Outward.{up_to_name}
use Rattle.html_table.specs.TreeTable.{has_name}
use Rattle.page_finds.specs.declared.tree_names.TheConstants.{BREAKING_NAMES, SINGLE_NAMES, HEADING_NAMES, FREE_NAMES, CHOICE_NAMES, PASSED_NAMES, OMITTED_NAMES}
use Rattle.page_finds.specs.Trees.{breaking_names, single_names, heading_names, free_names, choice_names, passed_names, omitted_names, has_other}

pub breaking_names_are : map (λ w. lowered w.now) BREAKING_NAMES ≡ breaking_names
unfolding words_from
breaking_names_are = refl

pub single_names_are : map (λ w. lowered w.now) SINGLE_NAMES ≡ single_names
unfolding words_from
single_names_are = refl

pub heading_names_are : map (λ w. lowered w.now) HEADING_NAMES ≡ heading_names
unfolding words_from
heading_names_are = refl

pub free_names_are : map (λ w. lowered w.now) FREE_NAMES ≡ free_names
unfolding words_from
free_names_are = refl

pub choice_names_are : map (λ w. lowered w.now) CHOICE_NAMES ≡ choice_names
unfolding words_from
choice_names_are = refl

pub passed_names_are : map (λ w. lowered w.now) PASSED_NAMES ≡ passed_names
unfolding words_from
passed_names_are = refl

pub omitted_names_are : map (λ w. lowered w.now) OMITTED_NAMES ≡ omitted_names
unfolding words_from
omitted_names_are = refl

-- ---- whether an element of a name is open

is_open_in : (q : List ℕ) (es : List Element) → nat_lt 0 (up_to_name q es) ≡ list_any (has_name q) es
is_open_in q [] = refl
is_open_in q (e ∷ es) = by (has_name q e) (is_open_in q es)
  where
    by : (is : Bool) → nat_lt 0 (up_to_name q es) ≡ list_any (has_name q) es → nat_lt 0 (if is then length es + 1 else up_to_name q es) ≡ (is || list_any (has_name q) es)
    by true others = let some : nat_lt 0 (length es + 1) ≡ true = grind (arith) in some
    by false others = others

pub is_open_by : (n : ℕ) (q : List ℕ) (es : List Element) → n ≡ up_to_name q es → nat_lt 0 n ≡ list_any (has_name q) es
is_open_by n q es is = ap (λ k. nat_lt 0 k) is ∙ is_open_in q es

-- ---- whether one has another name

here : (es : List Element) (i : ℕ) (e : Element) → slice_get es i ≡ Some e → i < length es → drop i es ≡ e ∷ drop (i + 1) es
here es i e at less = rw (add-one) (drop-cons es i e less ∙ ap (λ x. x ∷ drop (suc i) es) (get_or_from_slice_get es i e e at))

pub other_here : (names : List (List ℕ)) (es : List Element) (i : ℕ) (e : Element) → i < length es → slice_get es i ≡ Some e → is_among names e.name ≡ false → has_other names i es ≡ true
other_here names es i e less at other = rw (here es i e at less, other) refl

pub other_later : (names : List (List ℕ)) (es : List Element) (i : ℕ) (e : Element) → i < length es → slice_get es i ≡ Some e → is_among names e.name ≡ true → has_other names i es ≡ has_other names (i + 1) es
other_later names es i e less at one = rw (here es i e at less, one) refl

pub no_other : (names : List (List ℕ)) (es : List Element) (i : ℕ) → length es ≤ i → has_other names i es ≡ false
no_other names es i past = rw (drop_all i es past) refl
