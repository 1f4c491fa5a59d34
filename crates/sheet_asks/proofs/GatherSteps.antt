-- What is gathered, a name after the other, is what is asked for.
use Rattle.std.proofs.Common.{◌≡◌, ℕ, true, false, if◌then◌else◌, List, [], ◌∷◌, ◌+◌, ◌++◌, length, refl, sym, ap, ◌∙◌, arith}
use Rattle.std.proofs.lemmas.List.{append_assoc, append-nil}
use Rattle.std.proofs.lemmas.List.Concat.{flat_map-append}
use Rattle.std.proofs.lemmas.List.Sums.{fold-append}
use denote.Enum.Bare.{sameb}
use Rattle.tp_base.specs.contracts.atoms.AtomKind.{the_type}
use Rattle.tp_base.specs.declared.atoms.AtomKind.{AtomKind}
use Rattle.tp_base.specs.declared.atoms.AtomKind.TheVariants as kind
use Rattle.tp_base.specs.Names.{Named}
use Rattle.sel_text.specs.declared.selectors.Compound.{Compound}
use Rattle.sel_text.specs.declared.selectors.Join.{Join}
use Rattle.sel_text.specs.declared.selectors.Selector as code
use Rattle.sel_text.specs.Views.{selector_of}
use Rattle.sel_text.specs.Parts.{and_then, with_parts, selector_from}
use Rattle.sel_text.specs.Selectors.{Selector, simple}
use Rattle.css_read.specs.Sheets.{Item}
use Rattle.sheet_asks.specs.Asked.{atoms_of, judged_atoms, asked_names, named, name_at, of_kind, attributes_of, Valued, Asked, asked_of}
use Rattle.sheet_asks.specs.Names.{with_name, with_all, once}
use Rattle.sheet_asks.specs.Putting.{parts_atoms, with_named, with_all_named, nothing}
use Rattle.sheet_asks.proofs.TableSteps.{one_more}

-- ---- the atoms of a selector, part by part

behind_parts : (s : Selector) (joins : List Join) (parts : List Compound) → length parts ≡ length joins → atoms_of (with_parts s joins parts) ≡ atoms_of s ++ parts_atoms parts
behind_parts s [] [] same = sym (append-nil (atoms_of s))
behind_parts s [] (c ∷ parts) same = absurd (omega arith)
behind_parts s (j ∷ joins) [] same = absurd (omega arith)
behind_parts s (j ∷ joins) (c ∷ parts) same =
    behind_parts (and_then s j c) joins parts (omega arith) ∙ append_assoc (atoms_of s) c.atoms (parts_atoms parts)

all_parts : (parts : List Compound) (joins : List Join) → length parts ≡ length joins + 1 → atoms_of (selector_from parts joins) ≡ parts_atoms parts
all_parts [] joins same = refl
all_parts (c ∷ parts) joins same = behind_parts (simple c.atoms) joins parts (omega arith)

pub of_selector : (s : code.Selector) → parts_atoms s.parts ≡ atoms_of (selector_of s)
of_selector s = sym (all_parts s.parts s.joins s.between)

-- ---- the names of one kind

of_kind-append : (k : AtomKind) (ms ns : List Named) → of_kind k (ms ++ ns) ≡ of_kind k ms ++ of_kind k ns
of_kind-append k [] ns = refl
of_kind-append k (m ∷ ms) ns = elim (sameb the_type k m.0) as (λ b. (if b then m.1 ∷ of_kind k (ms ++ ns) else of_kind k (ms ++ ns)) ≡ (if b then m.1 ∷ of_kind k ms else of_kind k ms) ++ of_kind k ns) [
  | true ↦ ap (λ ts. m.1 ∷ ts) (of_kind-append k ms ns)
  | false ↦ of_kind-append k ms ns
]

-- ---- one name more

made : List (List ℕ) → List (List ℕ) → List (List ℕ) → List Valued → Asked
made classes ids elements attributes = record { classes = classes; ids = ids; elements = elements; attributes = attributes }

once_more : (k : AtomKind) (ns : List Named) (n : Named) → once (of_kind k (ns ++ n ∷ [])) ≡ with_all (once (of_kind k ns)) (of_kind k (n ∷ []))
once_more k ns n = ap once (of_kind-append k ns (n ∷ [])) ∙ fold-append with_name [] (of_kind k ns) (of_kind k (n ∷ []))

attributes_more : (ns : List Named) (n : Named) → attributes_of (of_kind kind.Attr (ns ++ n ∷ [])) ≡ attributes_of (of_kind kind.Attr ns ++ of_kind kind.Attr (n ∷ []))
attributes_more ns n = ap attributes_of (of_kind-append kind.Attr ns (n ∷ []))

same_attributes : (ns : List Named) (n : Named) → of_kind kind.Attr (n ∷ []) ≡ [] → attributes_of (of_kind kind.Attr (ns ++ n ∷ [])) ≡ attributes_of (of_kind kind.Attr ns)
same_attributes ns n none = attributes_more ns n ∙ ap (λ ts. attributes_of (of_kind kind.Attr ns ++ ts)) none ∙ ap attributes_of (append-nil (of_kind kind.Attr ns))

by_kinds : (ns : List Named) (n : Named) (attributes : List Valued) → attributes_of (of_kind kind.Attr (ns ++ n ∷ [])) ≡ attributes
    → asked_of (ns ++ n ∷ []) ≡ made (with_all (once (of_kind kind.Class ns)) (of_kind kind.Class (n ∷ []))) (with_all (once (of_kind kind.Ident ns)) (of_kind kind.Ident (n ∷ []))) (with_all (once (of_kind kind.Element ns)) (of_kind kind.Element (n ∷ []))) attributes
unfolding asked_of made
by_kinds ns n attributes is = λ j. made (once_more kind.Class ns n j) (once_more kind.Ident ns n j) (once_more kind.Element ns n j) (is j)

with_one : (ns : List Named) (n : Named) → asked_of (ns ++ n ∷ []) ≡ with_named (asked_of ns) n
unfolding asked_of made
with_one ns (kind.Class, t) = by_kinds ns (kind.Class, t) _ (same_attributes ns (kind.Class, t) refl)
with_one ns (kind.Ident, t) = by_kinds ns (kind.Ident, t) _ (same_attributes ns (kind.Ident, t) refl)
with_one ns (kind.Element, t) = by_kinds ns (kind.Element, t) _ (same_attributes ns (kind.Element, t) refl)
with_one ns (kind.Attr, t) = by_kinds ns (kind.Attr, t) _ (attributes_more ns (kind.Attr, t) ∙ sym (one_more (of_kind kind.Attr ns) t))
with_one ns (kind.Aux, t) = by_kinds ns (kind.Aux, t) _ (same_attributes ns (kind.Aux, t) refl)

-- ---- all names

gathered : (done ns : List Named) → with_all_named (asked_of done) ns ≡ asked_of (done ++ ns)
gathered done [] = ap asked_of (sym (append-nil done))
gathered done (n ∷ ns) = ap (λ a. with_all_named a ns) (sym (with_one done n)) ∙ gathered (done ++ n ∷ []) ns ∙ ap asked_of (append_assoc done (n ∷ []) ns)

pub all_of : (ns : List Named) → with_all_named nothing ns ≡ asked_of ns
unfolding asked_of attributes_of
all_of ns = gathered [] ns

-- ---- name after name

pub named_first : (names : List Named) (asked : Asked) (a : ℕ) (atoms : List ℕ) → with_all_named (with_all_named asked (name_at names a)) (named names atoms) ≡ with_all_named asked (named names (a ∷ atoms))
named_first names asked a atoms = sym (fold-append with_named asked (name_at names a) (named names atoms))

pub part_first : (names : List Named) (asked : Asked) (c : Compound) (parts : List Compound)
    → with_all_named (with_all_named asked (named names c.atoms)) (named names (parts_atoms parts)) ≡ with_all_named asked (named names (parts_atoms (c ∷ parts)))
part_first names asked c parts =
    sym (fold-append with_named asked (named names c.atoms) (named names (parts_atoms parts))) ∙ ap (with_all_named asked) (sym (flat_map-append (name_at names) c.atoms (parts_atoms parts)))

pub item_first : (names : List Named) (asked : Asked) (i : Item) (items : List Item)
    → with_all_named (with_all_named asked (named names (judged_atoms i.outcome))) (asked_names names items) ≡ with_all_named asked (asked_names names (i ∷ items))
item_first names asked i items = sym (fold-append with_named asked (named names (judged_atoms i.outcome)) (asked_names names items))
