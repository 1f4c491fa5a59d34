-- The markup of one box, as a script reads it.
use Rattle.std.proofs.Common.{◌≡◌, ℕ, ◌+◌, ◌-◌, ◌≤◌, ◌<◌, ◌^◌, ◌==◌, Bool, true, false, if◌then◌else◌, List, [], ◌∷◌, ◌++◌, length, codes, Some, None, Ok, Err, IsUtf8, refl, ap, arith, eq-eqb, length-append, append_assoc}
use Rattle.std.specs.Str.Lossy.{utf8_valid_len}
use Rattle.std.specs.Fmt.{decimal}
use Rattle.std.specs.Str.{IsAscii}
use Rattle.std.proofs.lemmas.Fmt.{length-decimal-le, IsAscii-decimal}
use Rattle.std.proofs.lemmas.Str.{utf8_valid_len-IsUtf8, IsUtf8-from_ascii, IsAscii-append}
use Rattle.std.proofs.lemmas.List.{length-map}
use Rattle.tp_base.specs.Names.{Named}
use Rattle.tp_base.specs.declared.atoms.TheConstants.{MOST_ATOMS}
use Rattle.tree_sem.specs.Trees.{trees}
use Rattle.html_tokens.specs.Bytes.{is_not}
use Rattle.html_tokens.specs.Attributes.{attributes_from, value_of, firsts_besides, others_in}
use Rattle.html_tokens.specs.Names.{is_raw}
use Rattle.html_tokens.specs.Markup.{begins_markup}
use Rattle.html_tokens.specs.Tokens.{Token, start, stop, StartTag, tag, behind_start, start_tag, markup, front, tokens_from}
use Rattle.html_tokens.specs.Words.{words_from, words}
use Rattle.html_table.specs.Elements.{named_kinds, kind_of, element}
use Rattle.html_table.specs.TreeTable.{behind, closed_by, place, opens, closed_at_end}
use Rattle.html_subset.specs.Growth.{nothing, more, row_of}
use Rattle.html_subset.specs.Labels.{class_named, class_names}
use Rattle.html_subset.specs.Building as building
use Rattle.html_subset.specs.Building.{forest, State, node_names, with_node, opened, with_implied}
use Rattle.html_subset.specs.Pages.{no_trees, ending, forest_of}
use Rattle.html_subset.specs.Reading.{read_forest}
use Rattle.ring_reads.specs.RingWords.{classes_of, box_of}
use Rattle.ring_reads.specs.RingScripts.{IsOneNode, ReadsRingMarkup}
use Rattle.ring_reads.proofs.Digits.{Each, each_append, each_digit, ascii_of}
use Rattle.ring_reads.proofs.PageTokens.{closing, one_class, one_token, then_token, box_stop}
use Rattle.ring_reads.proofs.PageTrees.{Gives, gives_then, words_count, IsGrown, one_node}

abbrev tag_of : List ℕ → Bool → ℕ → StartTag
tag_of class closes_itself at = record { name = codes "div"; id = None; class = Some class; others = []; closes_itself = closes_itself; at = at }

tag_front : (at : ℕ) (class rest : List ℕ) → Each (is_not 34) class
    → front at (codes "<div class=\"" ++ (class ++ 34 ∷ 62 ∷ rest)) ≡ (Some (start (tag_of class (closing (codes "div class=\"" ++ (class ++ 34 ∷ 62 ∷ rest)) rest) at)), rest)
unfolding front begins_markup markup start_tag tag behind_start is_raw value_of others_in firsts_besides attributes_from
tag_front at class rest each = rw (one_class class (62 ∷ rest) each) refl

record IsMarkup (class : List ℕ) (all : List Token) : Type 0 where
  closes : Bool
  one : ℕ
  two : ℕ
  is : all ≡ start (tag_of class closes one) ∷ stop (codes "div") two ∷ []

markup_tokens : (size : ℕ) (class : List ℕ) → Each (is_not 34) class → IsMarkup class (tokens_from size 0 (box_of class))
unfolding tokens_from
markup_tokens size class each =
    let b = codes "</div>" in
    let a = codes "div class=\"" ++ (class ++ 34 ∷ 62 ∷ b) in
    record {
      closes = closing a b;
      one = size - length (60 ∷ a);
      two = size - length b;
      is =
          then_token size 60 a (start (tag_of class (closing a b) (size - length (60 ∷ a)))) b _ (tag_front (size - length (60 ∷ a)) class b each) (record { before = codes "div class=\"" ++ (class ++ 34 ∷ 62 ∷ []); is = simp append_assoc })
          (one_token size 60 (codes "/div>") (stop (codes "div") (size - length b)) [] (box_stop (size - length b) []) (record { before = codes "/div>"; is = refl }));
    }

-- one tree, which is open or not
abbrev one_tree : List ℕ → ℕ → List Named → State
one_tree label depth table = record { document = forest; trees = more nothing (codes "div") label nothing; depth = depth; begun = true; table = table }

record IsOne (m depth : ℕ) (q : State) : Type 0 where
  label : List ℕ
  table : List Named
  is : q ≡ one_tree label depth table
  few : length table ≤ m

tag_names : (class : List ℕ) (closes : Bool) (at : ℕ) → length (node_names (tag_of class closes at)) ≤ 1 + length class
tag_names class closes at =
    let some = words_count 0 class in
    omega (arith, length-append ([] ++ class_names (Some class)) [], length-map (words class) class_named)

tree_opened : (m : ℕ) (names : List Named) (class : List ℕ) (closes : Bool) (at : ℕ) (q : State) → IsGrown (tag_of class closes at) (no_trees names) m q
    → Gives (IsOne m 1) (Ok (if opens (element (codes "div")) closes [] then opened q else q))
unfolding opens is_raw kind_of named_kinds words_from
tree_opened m names class true at q grown = record { label = grown.label; table = grown.table; is = ap opened grown.is; few = grown.few }
tree_opened m names class false at q grown = record { label = grown.label; table = grown.table; is = ap opened grown.is; few = grown.few }

tree_start : (m : ℕ) (names : List Named) (class : List ℕ) (closes : Bool) (at : ℕ) → length names + (1 + length class) ≤ m → m ≤ MOST_ATOMS → Gives (IsOne m 1) (building.token (start (tag_of class closes at)) (no_trees names))
unfolding building.token building.start_tag kind_of named_kinds words_from place behind closed_by with_implied
tree_start m names class closes at room most =
    let t = tag_of class closes at in
    let few = tag_names class closes at in
    gives_then (IsGrown t (no_trees names) m) (IsOne m 1) (with_node t (no_trees names)) (λ q. Ok (if opens (element (codes "div")) closes [] then opened q else q))
    (one_node t (no_trees names) m (omega arith) (omega arith) (omega (arith, room, few)) most)
    (λ q grown. tree_opened m names class closes at q grown)

tree_end : (label : List ℕ) (table : List Named) (at : ℕ) → building.run (stop (codes "div") at ∷ []) (one_tree label 1 table) ≡ Ok (one_tree label 0 table)
unfolding building.run building.token building.end_tag kind_of named_kinds words_from behind closed_at_end
tree_end label table at = refl

tree_run : (m : ℕ) (names : List Named) (class : List ℕ) (all : List Token) → IsMarkup class all → length names + (1 + length class) ≤ m → m ≤ MOST_ATOMS → Gives (IsOne m 0) (building.run all (no_trees names))
unfolding building.run
tree_run m names class all is room most =
    rw (is.is)
    (gives_then (IsOne m 1) (IsOne m 0) (building.token (start (tag_of class is.closes is.one)) (no_trees names)) _ (tree_start m names class is.closes is.one room most)
    (λ q first. rw (first.is, tree_end first.label first.table is.two) (record { label = first.label; table = first.table; is = refl; few = first.few })))

as_box : (m : ℕ) (o : _) → Gives (IsOne m 0) o → IsOneNode m (ending (λ (s : State). s.table) (λ s. trees (row_of s.trees)) o)
as_box m (Ok s) is = rw (is.is) (is.few, refl)
as_box m (Err e) is = absurd is

box_read : (m : ℕ) (class : List ℕ) (names : List Named) → IsUtf8 (box_of class) → Each (is_not 34) class → length names + (1 + length class) ≤ m → m ≤ MOST_ATOMS → IsOneNode m (read_forest (box_of class) names)
unfolding read_forest forest_of
box_read m class names utf8 each room most =
    let text = box_of class in
    let whole : (utf8_valid_len text == length text) ≡ true = eq-eqb (utf8_valid_len text) (length text) (utf8_valid_len-IsUtf8 text utf8) in
    rw whole (as_box m (building.run (tokens_from (length text) 0 text) (no_trees names)) (tree_run m names class (tokens_from (length text) 0 text) (markup_tokens (length text) class each) room most))

box_ascii : (i j : ℕ) → i < 2 ^ 64 → j < 2 ^ 64 → IsAscii (box_of (classes_of i j))
box_ascii i j small other =
    IsAscii-append (codes "<div class=\"") (classes_of i j ++ codes "\"></div>") (ascii_of (codes "<div class=\"") refl)
    (IsAscii-append (classes_of i j) (codes "\"></div>")
    (IsAscii-append (codes "k" ++ decimal j) (codes " g" ++ decimal i) (IsAscii-append (codes "k") (decimal j) (ascii_of (codes "k") refl) (IsAscii-decimal j other)) (IsAscii-append (codes " g") (decimal i) (ascii_of (codes " g") refl) (IsAscii-decimal i small)))
    (ascii_of (codes "\"></div>") refl))

pub reads_markup : ReadsRingMarkup
reads_markup i j names few also room =
    let one = length-decimal-le 3 i (omega arith) (omega (arith, few)) (omega (arith, few)) in
    let two = length-decimal-le 3 j (omega arith) (omega (arith, also)) (omega (arith, also)) in
    box_read (length names + 10) (classes_of i j) names (IsUtf8-from_ascii (box_of (classes_of i j)) (box_ascii i j (omega (arith, few)) (omega (arith, also))))
    (each_append (is_not 34) (107 ∷ decimal j) (32 ∷ 103 ∷ decimal i) (refl, each_digit (is_not 34) refl j (omega (arith, also))) (refl, (refl, each_digit (is_not 34) refl i (omega (arith, few)))))
    (omega (arith, one, two, length-append (107 ∷ decimal j) (32 ∷ 103 ∷ decimal i))) room
