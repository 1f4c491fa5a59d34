-- What statements on all nodes give, up to the atoms that are asked for.
--     AsksOnly asked s          the selector asks for no other atoms
--     SelectsAll s              the statement selects each node of each tree
--     IsStar s                  its chain is `$('*')`, outside all handlers
--     IsGiven stmts a           one of the statements is on all nodes and adds the atom
--     IsPut stmts m             one of them is on all nodes and puts a node with the label m, and no other node, last below
--     IsOutput stmts            each is on all nodes, and adds atoms or puts one node
--     IsAllowed asked stmts l   a new node may have the label l: they put a node, and each asked atom of l is one of its or is given
--     HoldMoves                 so may one with the label of any node of the page below the root's children
use Rattle.std.specs.Prelude.{◌≡◌, ◌⊎◌, ℕ, ◌≤◌, List, [], ◌∷◌, length, Some, All, Contains}
use Rattle.tree_sem.specs.Trees.{LabelTree, leaf, label_at}
use Rattle.tree_sem.specs.Nodes.{IsNode}
use Rattle.tree_sem.specs.declared.actions.Action.{Action}
use Rattle.tree_sem.specs.declared.actions.Action.TheVariants.{Classes, Inside, Beside}
use Rattle.sel_text.specs.Selectors.{Outer, Selector, simple}
use Rattle.jq_stmts.specs.Statements.{matched, Chain, Statement}
use Rattle.jq_sem.specs.Statements.{Selected}

abbrev pub AskOnly : List ℕ → List Outer → Type 0
AskOnly asked [] = Unit {0}
AskOnly asked (o ∷ outer) = All (Contains asked) o.atoms × AskOnly asked outer

abbrev pub AsksOnly : List ℕ → Selector → Type 0
AsksOnly asked s = All (Contains asked) s.subject × AskOnly asked s.outer

abbrev pub SelectsAll : Statement → Type 0
SelectsAll s = (t : LabelTree) (v : List ℕ) → IsNode t v → Selected t s v

abbrev pub star : Chain
star = record { root = matched (simple [] ∷ []); calls = [] }

abbrev pub IsStar : Statement → Type 0
IsStar s = (s.handlers ≡ []) × (s.chain ≡ star)

abbrev pub Adds : Action → ℕ → Type 0
Adds (Classes classes) a = Contains classes a
Adds (Inside forest) a = ⊥
Adds (Beside forest) a = ⊥

abbrev pub Puts : Action → List ℕ → Type 0
Puts (Classes classes) m = ⊥
Puts (Inside forest) m = forest.tops ≡ leaf m ∷ []
Puts (Beside forest) m = ⊥

abbrev pub IsGiven : List Statement → ℕ → Type 0
IsGiven stmts a = (s : Statement) × Contains stmts s × SelectsAll s × Adds s.action a

abbrev pub IsPut : List Statement → List ℕ → Type 0
IsPut stmts m = (s : Statement) × Contains stmts s × SelectsAll s × Puts s.action m

abbrev pub AddsOrPuts : Action → Type 0
AddsOrPuts (Classes classes) = Unit {0}
AddsOrPuts (Inside forest) = (m : List ℕ) × Puts (Inside forest) m
AddsOrPuts (Beside forest) = ⊥

abbrev pub IsOutput : List Statement → Type 0
IsOutput stmts = (s : Statement) → Contains stmts s → SelectsAll s × AddsOrPuts s.action

abbrev pub IsAllowed : List ℕ → List Statement → List ℕ → Type 0
IsAllowed asked stmts l = (m : List ℕ) × IsPut stmts m × ((a : ℕ) → Contains asked a → Contains l a → Contains m a ⊎ IsGiven stmts a)

abbrev pub HoldMoves : List ℕ → List Statement → LabelTree → Type 0
HoldMoves asked stmts page = (v l : List ℕ) → 2 ≤ length v → label_at v page ≡ Some l → IsAllowed asked stmts l
