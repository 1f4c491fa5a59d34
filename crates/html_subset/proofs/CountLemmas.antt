-- A page that is read has few enough nodes.
use Rattle.std.proofs.Common.{◌≡◌, ℕ, zero, suc, ◌+◌, ◌≤◌, not, nat_le, nat_lt, Bool, true, false, ◌&&◌, ◌||◌, if◌then◌else◌, List, [], ◌∷◌, length, codes, Option, Some, None, Ok, Err, refl, subst, arith}
use Rattle.std.proofs.lemmas.Bool.{leb-false}
use Rattle.tp_base.specs.Names.{Named}
use Rattle.tree_sem.specs.Trees.{Row, no_nodes, node, LabelTree, nodes_of, count_of}
use Rattle.html_tokens.specs.Tokens.{Token, text, start, stop, StartTag, tokens}
use Rattle.text_bytes.specs.OrderMark.{behind_order_mark}
use Rattle.html_table.specs.declared.elements.Kind.{Kind}
use Rattle.html_table.specs.declared.elements.Kind.TheVariants as k
use Rattle.html_table.specs.declared.scopes.Scope.TheVariants as within
use Rattle.html_subset.specs.declared.faults.PageFault.TheVariants.{TooDeep, TooManyNodes}
use Rattle.html_subset.specs.declared.faults.TheConstants.{MOST_DEPTH, MOST_PAGE_NODES}
use Rattle.html_subset.specs.Building.{Document, forest, page, State, is_forest, level, others, open_elements, node_names, bare, with_node, opened, with_implied, with_element, put, start_tag, with_given, root_tag, head_tag, any_start, paragraph_end, end_tag, token, run}
use Rattle.html_table.specs.Elements as of_element
use Rattle.html_table.specs.Elements.{kind_of, is_root, is_in_head, is_void, Element, element}
use Rattle.html_subset.specs.Growth.{Growth, nothing, more, add, size, row_before}
use Rattle.html_subset.specs.Labels.{Outcome, ◌>>=◌, labelled}
use Rattle.html_subset.specs.Pages.{root_label, bare_page, page_tree, page_of}
use Rattle.html_subset.specs.Reading.{read_page}
use Rattle.html_table.specs.TreeTable.{behind, has_kind, Place, place, opens}
use Rattle.html_subset.proofs.AtomLemmas.{Brings, brings_more, brings_then, brings_either, ended_over, if_read}

-- ---- how many nodes trees have that grow

size_add : (d : ℕ) (name label : List ℕ) (ts : Growth) → size (add d name label ts) ≡ size ts + 1
size_add zero name label ts = omega arith
size_add (suc d) name label nothing = refl
size_add (suc d) name label (more before n l below) = omega (arith, size_add d name label below)

nodes_before : (ts : Growth) (next : Row) → nodes_of (row_before ts next) ≡ size ts + nodes_of next
nodes_before nothing next = omega arith
nodes_before (more before name label below) next = omega (arith, nodes_before before (node label (row_before below no_nodes) next), nodes_before below no_nodes)

count_page : (d : Document) (ts : Growth) → count_of (page_tree d ts) ≤ others d + size ts + 1
count_page forest ts = omega (arith, nodes_before ts no_nodes)
count_page (page r) ts = omega (arith, nodes_before r.in_head no_nodes, nodes_before ts no_nodes)

-- ---- what is read stays within the limit

abbrev count_in : State → ℕ
count_in s = others s.document + size s.trees

abbrev IsFew : State → Type 0
IsFew s = count_in s ≤ MOST_PAGE_NODES

all_any : {X : Type 0} (r : Outcome X) → Brings (λ (x : X). Unit {0}) r
all_any (Ok x) = tt
all_any (Err e) = tt

-- below a limit that was tested
brings_below : {X : Type 0} (P : X → Type 0) (most n : ℕ) (r s : Outcome X) → Brings P r → (suc n ≤ most → Brings P s) → Brings P (if nat_le most n then r else s)
brings_below P most n r s first second = go (nat_le most n) refl
  where
    go : (b : Bool) → nat_le most n ≡ b → Brings P (if b then r else s)
    go true is = first
    go false is = second (let less = leb-false most n is in omega (arith, less))

one_node : (t : StartTag) (s : State) → IsFew s → Brings IsFew (with_node t s)
unfolding with_node
one_node t s few =
    brings_either IsFew (nat_lt MOST_DEPTH (level s.document + s.depth + 1)) (Err (TooDeep t.at, s.table)) _ tt
    (brings_below IsFew MOST_PAGE_NODES (count_in s) (Err (TooManyNodes t.at, s.table)) _ tt (λ less.
    brings_then (λ l. Unit {0}) IsFew (labelled t.at (node_names t) [] s.table) (λ l. Ok (record s { trees = add s.depth t.name l.0 s.trees; table = l.1 })) (all_any (labelled t.at (node_names t) [] s.table))
    (λ l first. omega (arith, less, size_add s.depth t.name l.0 s.trees))))

implied : (all : List (List ℕ)) (at : ℕ) (s : State) → IsFew s → Brings IsFew (with_implied all at s)
unfolding with_implied
implied [] at s few = few
implied (name ∷ all) at s few =
    brings_then IsFew IsFew (with_node (bare name at) s) (λ q. with_implied all at (opened q)) (one_node (bare name at) s few) (λ q more. implied all at (opened q) more)

if_opened : (b : Bool) (q : State) → IsFew q → IsFew (if b then opened q else q)
if_opened true q few = few
if_opened false q few = few

one_element : (t : StartTag) (s : State) → IsFew s → Brings IsFew (with_element t s)
one_element t s few =
    brings_then IsFew IsFew (with_node t s) (λ q. Ok (if opens (element t.name) t.closes_itself (open_elements s) then opened q else q)) (one_node t s few)
    (λ q more. if_opened (opens (element t.name) t.closes_itself (open_elements s)) q more)

put_there : (t : StartTag) (o : Option Place) (s : State) → IsFew s → Brings IsFew (put t o s)
put_there t None s few = few
put_there t (Some p) s few =
    brings_then IsFew IsFew (with_implied p.1 t.at (record s { depth = length p.0 })) (with_element t) (implied p.1 t.at (record s { depth = length p.0 }) few) (λ q more. one_element t q more)

start_there : (t : StartTag) (s : State) → IsFew s → Brings IsFew (start_tag t s)
unfolding start_tag
start_there t s few = put_there t (place (is_forest s.document) (kind_of t.name) (open_elements s)) s few

root_there : (e : Kind) (t : StartTag) (s : State) (d : Document) → s.document ≡ d → IsFew s → Brings IsFew (root_tag e t s d)
unfolding root_tag
root_there k.Html t s forest same few = few
root_there k.Head t s forest same few = few
root_there k.Body t s forest same few = few
root_there k.Html t s (page r) same few = brings_then (λ l. Unit {0}) IsFew (with_given t r.html s.table) _ (all_any (with_given t r.html s.table)) (λ g first. subst (λ (d : Document). others d + size s.trees ≤ MOST_PAGE_NODES) same few)
root_there k.Head t s (page r) same few = brings_then (λ l. Unit {0}) IsFew (with_given t r.head s.table) _ (all_any (with_given t r.head s.table)) (λ g first. subst (λ (d : Document). others d + size s.trees ≤ MOST_PAGE_NODES) same few)
root_there k.Body t s (page r) same few = brings_then (λ l. Unit {0}) IsFew (with_given t r.body s.table) _ (all_any (with_given t r.body s.table)) (λ g first. subst (λ (d : Document). others d + size s.trees ≤ MOST_PAGE_NODES) same few)
root_there e t s d same few = few

head_there : (t : StartTag) (s : State) (d : Document) → s.document ≡ d → IsFew s → Brings IsFew (head_tag t s d)
unfolding head_tag
head_there t s forest same few = few
head_there t s (page r) same few =
    brings_below IsFew MOST_PAGE_NODES (count_in s) (Err (TooManyNodes t.at, s.table)) _ tt (λ less.
    brings_then (λ l. Unit {0}) IsFew (labelled t.at (node_names t) [] s.table) _ (all_any (labelled t.at (node_names t) [] s.table))
    (λ l first. let now = subst (λ (d : Document). suc (others d + size s.trees) ≤ MOST_PAGE_NODES) same less in omega (arith, now, size_add 0 t.name l.0 r.in_head)))

any_there : (e : Kind) (t : StartTag) (s : State) → IsFew s → Brings IsFew (any_start e t s)
any_there e t s few =
    brings_either IsFew (is_root e) (root_tag e t s s.document) _ (root_there e t s s.document refl few)
    (brings_either IsFew (is_in_head e && not s.begun) (head_tag t s s.document) _ (head_there t s s.document refl few) (start_there t (record s { begun = true }) few))

paragraph_there : (o : Option (List Element)) (at : ℕ) (s : State) → IsFew s → Brings IsFew (paragraph_end o at s)
paragraph_there None at s few = brings_either IsFew s.begun (with_node (bare (codes "p") at) s) (Ok s) (one_node (bare (codes "p") at) s few) few
paragraph_there (Some elements) at s few = few

end_there : (e : Element) (at : ℕ) (s : State) → IsFew s → Brings IsFew (end_tag e at s)
unfolding end_tag
end_there e at s few =
    brings_either IsFew (is_root e.kind || is_void e.kind) (Ok s) _ few
    (brings_either IsFew (of_element.is e.kind k.Paragraph) _ _ (paragraph_there (behind (has_kind k.Paragraph) within.Walls (open_elements s)) at s few) few)

token_there : (t : Token) (s : State) → IsFew s → Brings IsFew (token t s)
unfolding token
token_there (text bytes) s few = few
token_there (start t) s few = any_there (kind_of t.name) t s few
token_there (stop name at) s few = end_there (element name) at s few

run_there : (ts : List Token) (s : State) → IsFew s → Brings IsFew (run ts s)
unfolding run
run_there [] s few = few
run_there (t ∷ ts) s few = brings_then IsFew IsFew (token t s) (run ts) (token_there t s few) (λ q more. run_there ts q more)

bare_few : (table : List Named) → Brings IsFew (bare_page table)
unfolding bare_page
bare_few table =
    brings_then (λ l. Unit {0}) IsFew (root_label (codes "html") table) _ (all_any (root_label (codes "html") table)) (λ html first.
    brings_then (λ l. Unit {0}) IsFew (root_label (codes "head") html.1) _ (all_any (root_label (codes "head") html.1)) (λ head second.
    brings_then (λ l. Unit {0}) IsFew (root_label (codes "body") head.1) _ (all_any (root_label (codes "body") head.1)) (λ body third. omega arith)))

page_of_few : (of_page : List Token) (table names : List Named) (t : LabelTree) → page_of of_page table ≡ (names, Ok t) → count_of t ≤ MOST_PAGE_NODES + 1
unfolding page_of
page_of_few of_page table names t is =
    ended_over (λ m (x : LabelTree). count_of x ≤ MOST_PAGE_NODES + 1) (λ s. page_tree s.document s.trees) (bare_page table >>= run of_page) names t
    (brings_more IsFew (λ s. count_of (page_tree s.document s.trees) ≤ MOST_PAGE_NODES + 1) (bare_page table >>= run of_page) counted all)
    is
  where
    all : Brings IsFew (bare_page table >>= run of_page)
    all = brings_then IsFew IsFew (bare_page table) (run of_page) (bare_few table) (λ s few. run_there of_page s few)

    counted : (s : State) → IsFew s → count_of (page_tree s.document s.trees) ≤ MOST_PAGE_NODES + 1
    counted s few = omega (arith, few, count_page s.document s.trees)

pub read_page_few : (bytes : List ℕ) (table names : List Named) (t : LabelTree) → read_page bytes table ≡ (names, Ok t) → count_of t ≤ MOST_PAGE_NODES + 1
unfolding read_page
read_page_few bytes table names t is = page_of_few (tokens (length bytes) (behind_order_mark bytes)) table names t (if_read _ _ table names _ t is)
