-- What the tokens of a page's line add to its tree.
use Rattle.std.proofs.Common.{◌≡◌, ℕ, zero, suc, ◌+◌, ◌-◌, ◌≤◌, ◌<◌, Bool, true, false, if◌then◌else◌, List, [], ◌∷◌, ◌++◌, length, take, codes, Option, Some, None, Ok, Err, refl, ap, arith, length-append}
use Rattle.std.proofs.lemmas.Bool.{lt-ltb, le-ltb, lt-leb}
use Rattle.std.proofs.lemmas.List.{length-map}
use Rattle.tp_base.specs.Names.{Named, place_in, placed, with_name}
use Rattle.tp_base.specs.declared.atoms.TheConstants.{MOST_ATOMS}
use Rattle.html_tokens.specs.Names.{is_raw}
use Rattle.html_tokens.specs.Tokens.{Token, text, start, stop, StartTag}
use Rattle.html_tokens.specs.Words.{words_from, words, word_len}
use Rattle.text_bytes.specs.Blanks.{is_blank}
use Rattle.html_table.specs.Elements.{named_kinds, kind_of, element}
use Rattle.html_table.specs.TreeTable.{behind, closed_by, place, opens, closed_at_end}
use Rattle.html_subset.specs.declared.faults.TheConstants.{MOST_DEPTH, MOST_PAGE_NODES}
use Rattle.html_subset.specs.Growth.{Growth, nothing, more, add, size}
use Rattle.html_subset.specs.Labels.{Outcome, ◌>>=◌, class_named, id_names, class_names, and_one, labelled}
use Rattle.html_subset.specs.Building.{Roots, page, State, level, others, node_names, with_node, opened, with_implied, start_tag, end_tag, token, run}
use Rattle.ring_reads.proofs.PageTokens.{box_tag, paragraph_tag, IsBox}

-- ---- what a step gives, which gives something

abbrev pub Gives : {X : Type 0} → (X → Type 0) → Outcome X → Type 0
Gives P (Ok x) = P x
Gives P (Err e) = ⊥

pub gives_then : {X Y : Type 0} (P : X → Type 0) (Q : Y → Type 0) (r : Outcome X) (f : X → Outcome Y) → Gives P r → ((x : X) → P x → Gives Q (f x)) → Gives Q (r >>= f)
gives_then P Q (Ok x) f first next = next x first
gives_then P Q (Err e) f first next = absurd first

-- ---- labels

pub words_count : (skip : ℕ) (bs : List ℕ) → length (words_from skip bs) ≤ length bs
unfolding words_from
words_count skip [] = omega arith
words_count (suc skip) (b ∷ bs) = let others = words_count skip bs in omega arith
words_count zero (b ∷ bs) = by (is_blank b) (words_count 0 bs) (words_count (word_len (b ∷ bs) - 1) bs)
  where
    by : (blank : Bool) → length (words_from 0 bs) ≤ length bs → length (words_from (word_len (b ∷ bs) - 1) bs) ≤ length bs → length (if blank then words_from 0 bs else take (word_len (b ∷ bs)) (b ∷ bs) ∷ words_from (word_len (b ∷ bs) - 1) bs) ≤ suc (length bs)
    by true one other = omega (arith, one)
    by false one other = omega (arith, other)

one_name : (at : ℕ) (name : Named) (label : List ℕ) (table : List Named) → length table + 1 ≤ MOST_ATOMS → Gives (λ l. length l.1 ≤ length table + 1) (and_one at label table (with_name table name))
unfolding with_name
one_name at name label table room = go (place_in table name)
  where
    go : (o : Option ℕ) → Gives (λ l. length l.1 ≤ length table + 1) (and_one at label table (placed o table name))
    go (Some place) = omega arith
    go None = rw (lt-ltb (length table) MOST_ATOMS (omega (arith, room))) (omega (arith, length-append table (name ∷ [])))

pub all_names : (at m : ℕ) (names : List Named) (label : List ℕ) (table : List Named) → length table + length names ≤ m → m ≤ MOST_ATOMS → Gives (λ l. length l.1 ≤ m) (labelled at names label table)
unfolding labelled
all_names at m [] label table room most = omega (arith, room)
all_names at m (name ∷ names) label table room most =
    gives_then (λ l. length l.1 ≤ length table + 1) (λ l. length l.1 ≤ m) (and_one at label table (with_name table name)) (λ l. labelled at names l.0 l.1)
    (one_name at name label table (omega (arith, room, most)))
    (λ l first. all_names at m names l.0 l.1 (omega (arith, room, first)) most)

-- ---- nodes

-- a state with a node more, whose label is new, as the names are
pub record IsGrown (t : StartTag) (s : State) (m : ℕ) (q : State) : Type 0 where
  pub label : List ℕ
  pub table : List Named
  pub is : q ≡ record s { trees = add s.depth t.name label s.trees; table = table }
  pub few : length table ≤ m

pub one_node : (t : StartTag) (s : State) (m : ℕ) → level s.document + s.depth + 1 ≤ MOST_DEPTH → others s.document + size s.trees < MOST_PAGE_NODES → length s.table + length (node_names t) ≤ m → m ≤ MOST_ATOMS
    → Gives (IsGrown t s m) (with_node t s)
unfolding with_node
one_node t s m shallow few room most =
    rw (le-ltb MOST_DEPTH (level s.document + s.depth + 1) shallow, lt-leb MOST_PAGE_NODES (others s.document + size s.trees) few)
    (gives_then (λ l. length l.1 ≤ m) (IsGrown t s m) (labelled t.at (node_names t) [] s.table) (λ l. Ok (record s { trees = add s.depth t.name l.0 s.trees; table = l.1 }))
    (all_names t.at m (node_names t) [] s.table room most)
    (λ l first. record { label = l.0; table = l.1; is = refl; few = first }))

-- ---- the tokens of a box

-- on a page, whose body may have begun
abbrev pub state : Roots → Growth → ℕ → Bool → List Named → State
state r ts depth begun table = record { document = page r; trees = ts; depth = depth; begun = begun; table = table }

-- a state with a tree that has some label, where the body has begun
pub record IsAt (m : ℕ) (r : Roots) (depth : ℕ) (f : List ℕ → Growth) (q : State) : Type 0 where
  pub label : List ℕ
  pub table : List Named
  pub is : q ≡ state r (f label) depth true table
  pub few : length table ≤ m

box_names : (class id : List ℕ) (closes : Bool) (at : ℕ) → length (node_names (box_tag class id closes at)) ≤ 2 + length class
box_names class id closes at =
    let some = words_count 0 class in
    let ids = one_id id in
    omega (arith, length-append (id_names (Some id) ++ class_names (Some class)) [], length-append (id_names (Some id)) (class_names (Some class)), length-map (words class) class_named)
  where
    one_id : (id : List ℕ) → length (id_names (Some id)) ≤ 1
    one_id [] = omega arith
    one_id (b ∷ bs) = omega arith

box_opened : (m : ℕ) (r : Roots) (ts : Growth) (table : List Named) (class id : List ℕ) (closes : Bool) (at : ℕ) (q : State) → IsGrown (box_tag class id closes at) (state r ts 0 true table) m q
    → Gives (IsAt m r 1 (λ label. more ts (codes "div") label nothing)) (Ok (if opens (element (codes "div")) closes [] then opened q else q))
unfolding opens is_raw kind_of named_kinds words_from
box_opened m r ts table class id true at q grown = record { label = grown.label; table = grown.table; is = ap opened grown.is; few = grown.few }
box_opened m r ts table class id false at q grown = record { label = grown.label; table = grown.table; is = ap opened grown.is; few = grown.few }

box_start : (m : ℕ) (r : Roots) (ts : Growth) (begun : Bool) (table : List Named) (class id : List ℕ) (closes : Bool) (at : ℕ) → 3 + size r.in_head + size ts < MOST_PAGE_NODES → length table + (2 + length class) ≤ m → m ≤ MOST_ATOMS
    → Gives (IsAt m r 1 (λ label. more ts (codes "div") label nothing)) (token (start (box_tag class id closes at)) (state r ts 0 begun table))
unfolding token start_tag kind_of named_kinds words_from place behind closed_by with_implied
box_start m r ts begun table class id closes at few room most =
    let t = box_tag class id closes at in
    let s = state r ts 0 true table in
    let names = box_names class id closes at in
    gives_then (IsGrown t s m) (IsAt m r 1 (λ label. more ts (codes "div") label nothing)) (with_node t s) (λ q. Ok (if opens (element (codes "div")) closes [] then opened q else q))
    (one_node t s m (omega arith) few (omega (arith, room, names)) most)
    (λ q grown. box_opened m r ts table class id closes at q grown)

paragraph_opened : (m : ℕ) (r : Roots) (ts : Growth) (l : List ℕ) (table : List Named) (closes : Bool) (at : ℕ) (q : State) → IsGrown (paragraph_tag closes at) (state r (more ts (codes "div") l nothing) 1 true table) m q
    → Gives (IsAt m r 2 (λ label. more ts (codes "div") l (more nothing (codes "p") label nothing))) (Ok (if opens (element (codes "p")) closes (element (codes "div") ∷ []) then opened q else q))
unfolding opens is_raw kind_of named_kinds words_from
paragraph_opened m r ts l table true at q grown = record { label = grown.label; table = grown.table; is = ap opened grown.is; few = grown.few }
paragraph_opened m r ts l table false at q grown = record { label = grown.label; table = grown.table; is = ap opened grown.is; few = grown.few }

paragraph_start : (m : ℕ) (r : Roots) (ts : Growth) (l : List ℕ) (table : List Named) (closes : Bool) (at : ℕ) → 3 + size r.in_head + (size ts + 1) < MOST_PAGE_NODES → length table + 2 ≤ m → m ≤ MOST_ATOMS
    → Gives (IsAt m r 2 (λ label. more ts (codes "div") l (more nothing (codes "p") label nothing))) (token (start (paragraph_tag closes at)) (state r (more ts (codes "div") l nothing) 1 true table))
unfolding token start_tag kind_of named_kinds words_from place behind closed_by with_implied
paragraph_start m r ts l table closes at few room most =
    let t = paragraph_tag closes at in
    let s = state r (more ts (codes "div") l nothing) 1 true table in
    gives_then (IsGrown t s m) (IsAt m r 2 (λ label. more ts (codes "div") l (more nothing (codes "p") label nothing))) (with_node t s) (λ q. Ok (if opens (element (codes "p")) closes (element (codes "div") ∷ []) then opened q else q))
    (one_node t s m (omega arith) few room most)
    (λ q grown. paragraph_opened m r ts l table closes at q grown)

box_end : (r : Roots) (ts : Growth) (l k : List ℕ) (table : List Named) (three four : ℕ) (bytes : List ℕ) (behind_it : List Token)
    → run (stop (codes "p") three ∷ stop (codes "div") four ∷ text bytes ∷ behind_it) (state r (more ts (codes "div") l (more nothing (codes "p") k nothing)) 2 true table)
    ≡ run behind_it (state r (more ts (codes "div") l (more nothing (codes "p") k nothing)) 0 true table)
unfolding run token end_tag kind_of named_kinds words_from behind closed_at_end
box_end r ts l k table three four bytes behind_it = refl

-- a box adds two nodes, and no more names than so many
pub box_run : (Q : State → Type 0) (m : ℕ) (r : Roots) (ts : Growth) (begun : Bool) (table : List Named) (class id : List ℕ) (all behind_it : List Token) → IsBox class id all behind_it
    → 3 + size r.in_head + (size ts + 1) < MOST_PAGE_NODES → length table + (4 + length class) ≤ m → m ≤ MOST_ATOMS
    → ((us : Growth) (later : List Named) → size us ≡ size ts + 2 → length later ≤ m → Gives Q (run behind_it (state r us 0 true later)))
    → Gives Q (run all (state r ts 0 begun table))
unfolding run
box_run Q m r ts begun table class id all behind_it box few room most next =
    let half = length table + (2 + length class) in
    rw (box.is)
    (gives_then (IsAt half r 1 (λ label. more ts (codes "div") label nothing)) Q (token (start (box_tag class id box.closes box.one)) (state r ts 0 begun table)) _
    (box_start half r ts begun table class id box.closes box.one (omega (arith, few)) (omega arith) (omega (arith, room, most)))
    (λ q first. rw (first.is)
    (gives_then (IsAt m r 2 (λ label. more ts (codes "div") first.label (more nothing (codes "p") label nothing))) Q (token (start (paragraph_tag box.also box.two)) (state r (more ts (codes "div") first.label nothing) 1 true first.table)) _
    (paragraph_start m r ts first.label first.table box.also box.two few (omega (arith, first.few, room)) most)
    (λ p second. rw (second.is, box_end r ts first.label second.label second.table box.three box.four box.bytes behind_it)
    (next (more ts (codes "div") first.label (more nothing (codes "p") second.label nothing)) second.table (omega arith) second.few)))))
