-- What is read of the letters of an argument has its atoms in the table of names then, and the table only grows.
use Rattle.std.proofs.Common.{◌≡◌, ℕ, ◌<◌, ◌≤◌, Bool, true, false, if◌then◌else◌, List, [], ◌∷◌, length, map, Option, Some, None, Ok, Err, IfOk, refl, inl, inr, arith}
use Rattle.std.specs.List.{list_all}
use Rattle.std.specs.Str.{str_to_ascii_lowercase}
use Rattle.std.proofs.lemmas.List.Elements.{All-nil, All-contains}
use Rattle.tp_base.specs.Names.{Named, with_name}
use Rattle.tp_base.specs.Classes.{with_class}
use Rattle.tp_base.specs.declared.atoms.AtomKind.TheVariants as kind
use Rattle.tp_base.proofs.ClassLemmas.{Contains-with_class}
use Rattle.tp_base.proofs.NamesLemmas.{with_name-below, with_name-longer}
use Rattle.tp_base.proofs.Rising.{All-from_Contains}
use Rattle.sel_text.specs.Lists.{read_strict_list}
use Rattle.sel_text.specs.Reading.{Ending}
use Rattle.sel_text.specs.Selectors.{Selector}
use Rattle.html_tokens.specs.Words as tags
use Rattle.jq_words.specs.declared.faults.ScriptFault.TheVariants.{ComplexArgument}
use Rattle.jq_words.specs.Words.{Outcome, ◌>>=◌}
use Rattle.jq_words.specs.Brackets.{is_empty}
use Rattle.jq_cursor.specs.Selections.{with_selectors, selectors, compounds, and_class, with_classes, class_set, with_attribute}
use Rattle.jq_stmts.specs.Tables.{AreAtoms, AreCompoundsOver, AreSelectorsOver}
use Rattle.jq_parts.proofs.SelectorLaws.{IsListOver, list_over, AreAtoms-more}

-- ---- letters of an argument

with_over : (at m : ℕ) (e : Ending (List Selector)) → IsListOver m e → IfOk (with_selectors at e) (λ r. (m ≤ length r.1) × AreSelectorsOver (length r.1) r.0)
with_over at m (later, Ok ss) is = is
with_over at m (later, Err e) is = tt

pub selectors_over : (at : ℕ) (letters : List ℕ) (names : List Named) → IfOk (selectors at letters names) (λ r. (length names ≤ length r.1) × AreSelectorsOver (length r.1) r.0)
unfolding selectors
selectors_over at letters names = with_over at (length names) (read_strict_list letters names) (list_over letters names)

subjects_over : (n : ℕ) (ss : List Selector) → AreSelectorsOver n ss → AreCompoundsOver n (map (λ (t : Selector). t.subject) ss)
subjects_over n [] over = tt
subjects_over n (s ∷ ss) over = (over.0.0, subjects_over n ss over.1)

pub and_then : {A B : Type 0} (P : A → Type 0) (Q : B → Type 0) (r : Outcome A) (f : A → Outcome B) → IfOk r P → ((x : A) → P x → IfOk (f x) Q) → IfOk (r >>= f) Q
and_then P Q (Ok x) f is h = h x is
and_then P Q (Err e) f is h = tt

abbrev found : List (List ℕ) → List Named → Outcome (List (List ℕ) × List Named)
found cs names = Ok (cs, names)

alone_over : (alone : Bool) (n at : ℕ) (cs : List (List ℕ)) (names : List Named) → (n ≤ length names) × AreCompoundsOver (length names) cs
    → IfOk (if alone then found cs names else Err (ComplexArgument at)) (λ r. (n ≤ length r.1) × AreCompoundsOver (length r.1) r.0)
alone_over true n at cs names is = is
alone_over false n at cs names is = tt

pub compounds_over : (at : ℕ) (letters : List ℕ) (names : List Named) → IfOk (compounds at letters names) (λ r. (length names ≤ length r.1) × AreCompoundsOver (length r.1) r.0)
unfolding compounds
compounds_over at letters names =
    and_then (λ r. (length names ≤ length r.1) × AreSelectorsOver (length r.1) r.0) (λ r. (length names ≤ length r.1) × AreCompoundsOver (length r.1) r.0)
    (selectors at letters names) (λ ss. if list_all (λ (t : Selector). is_empty t.outer) ss.0 then Ok (map (λ (t : Selector). t.subject) ss.0, ss.1) else Err (ComplexArgument at))
    (selectors_over at letters names)
    (λ ss is. alone_over (list_all (λ (t : Selector). is_empty t.outer) ss.0) (length names) at (map (λ (t : Selector). t.subject) ss.0) ss.1 (is.0, subjects_over (length ss.1) ss.0 is.1))

-- ---- classes

class_over : (n a : ℕ) (set : List ℕ) → a < n → AreAtoms n set → AreAtoms n (with_class a set)
class_over n a set within are = All-from_Contains (λ b. b < n) (with_class a set) (λ b of. elim ((Contains-with_class a set b).0 of) [
  | inl is ↦ omega (arith, is, within)
  | inr there ↦ All-contains (λ b. b < n) set b are there
])

-- a set of classes that is over the table, which is at least so long
abbrev IsSetOver : ℕ → List ℕ × List Named → Type 0
IsSetOver m r = (m ≤ length r.1) × AreAtoms (length r.1) r.0

and_class_over : (m at : ℕ) (set : List ℕ) (n : Named) (names : List Named) (o : Option (ℕ × List Named)) → with_name names n ≡ o → m ≤ length names → AreAtoms (length names) set
    → IfOk (and_class at set o) (IsSetOver m)
and_class_over m at set n names None is longer are = tt
and_class_over m at set n names (Some e) is longer are =
    let grown : length names ≤ length e.1 = with_name-longer names n e.0 e.1 is in
    let within : e.0 < length e.1 = with_name-below names n e.0 e.1 is in
    (omega (arith, longer, grown), class_over (length e.1) e.0 set within (AreAtoms-more (length names) (length e.1) grown set are))

with_classes_over : (m at : ℕ) (classes : List (List ℕ)) (set : List ℕ) (names : List Named) → m ≤ length names → AreAtoms (length names) set → IfOk (with_classes at classes set names) (IsSetOver m)
unfolding with_classes
with_classes_over m at [] set names longer are = (longer, are)
with_classes_over m at (name ∷ others) set names longer are =
    and_then (IsSetOver m) (IsSetOver m) (and_class at set (with_name names (kind.Class, name))) (λ c. with_classes at others c.0 c.1)
    (and_class_over m at set (kind.Class, name) names (with_name names (kind.Class, name)) refl longer are)
    (λ c is. with_classes_over m at others c.0 c.1 is.0 is.1)

pub classes_over : (at : ℕ) (letters : List ℕ) (names : List Named) → IfOk (class_set at letters names) (λ r. (length names ≤ length r.1) × AreAtoms (length r.1) r.0)
classes_over at letters names = with_classes_over (length names) at (tags.words letters) [] names (omega arith) (All-nil (λ a. a < length names))

-- ---- attributes

pub attribute_over : (at : ℕ) (text set : List ℕ) (names : List Named) → AreAtoms (length names) set → IfOk (with_attribute at text set names) (λ r. (length names ≤ length r.1) × AreAtoms (length r.1) r.0)
unfolding with_attribute
attribute_over at text set names are =
    and_class_over (length names) at set (kind.Attr, str_to_ascii_lowercase text) names (with_name names (kind.Attr, str_to_ascii_lowercase text)) refl (omega arith) are
