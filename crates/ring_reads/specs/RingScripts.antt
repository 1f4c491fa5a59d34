-- What stands in the brackets of a ring's script is read.
--     IsOneNode n e          markup is read as one node, and the table then has at most n names
--     ReadsClasses           a list of one class
--     ReadsRingRoots         the selector of each box
--     ReadsRingMarkup        the markup of each child
use Rattle.std.specs.Prelude.{◌≡◌, ℕ, ◌+◌, ◌≤◌, ◌<◌, List, ◌∷◌, length, map, sum, Result, Ok, Err}
use Rattle.tp_base.specs.Names.{Named}
use Rattle.tp_base.specs.declared.atoms.TheConstants.{MOST_ATOMS}
use Rattle.tree_sem.specs.Trees.{LabelTree, count_of}
use Rattle.sel_text.specs.Lists.{read_strict_list}
use Rattle.sel_text.specs.Readable.{IsName}
use Rattle.html_subset.specs.Reading.{read_forest}
use Rattle.triple_gen.specs.declared.triple.TheConstants.{MOST_BOXES}
use Rattle.ring_reads.specs.Readings.{IsRead}
use Rattle.ring_reads.specs.RingWords.{root_of, classes_of, box_of}

abbrev pub IsOneNode : {E : Type 0} → ℕ → List Named × Result (List LabelTree) E → Type 0
IsOneNode n (names, Ok ts) = (length names ≤ n) × (sum (map count_of ts) ≡ 1)
IsOneNode n (names, Err e) = ⊥

abbrev pub ReadsClasses : Type 0
ReadsClasses = (name : List ℕ) (names : List Named) → IsName name → length names < MOST_ATOMS → IsRead (length names + 1) (read_strict_list (46 ∷ name) names)

abbrev pub ReadsRingRoots : Type 0
ReadsRingRoots = (i : ℕ) (names : List Named) → i < MOST_BOXES → length names < MOST_ATOMS → IsRead (length names + 1) (read_strict_list (root_of i) names)

-- the name of its element, and no more classes than bytes
abbrev pub ReadsRingMarkup : Type 0
ReadsRingMarkup = (i j : ℕ) (names : List Named) → i < MOST_BOXES → j < MOST_BOXES → length names + 10 ≤ MOST_ATOMS → IsOneNode (length names + 10) (read_forest (box_of (classes_of i j)) names)
