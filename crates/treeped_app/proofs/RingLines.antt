-- The script of a ring is read, line by line.
use Rattle.std.proofs.Common.{◌≡◌, ℕ, zero, suc, ◌+◌, ◌-◌, ◌*◌, ◌%◌, ◌≤◌, ◌<◌, Bool, false, List, [], ◌∷◌, ◌++◌, length, map, codes, Result, Ok, Err, refl, sym, subst, arith}
use Rattle.std.specs.List.{flat_map, range_with_len}
use Rattle.std.specs.Fmt.{decimal}
use Rattle.std.proofs.Math.Nat.{mod-lt}
use Rattle.tp_base.specs.Names.{Named}
use Rattle.tp_base.specs.declared.atoms.TheConstants.{MOST_ATOMS}
use Rattle.sel_text.specs.Selectors.{Selector}
use Rattle.tree_sem.specs.Trees.{LabelTree}
use Rattle.sel_text.specs.Lists.{read_strict_list}
use Rattle.sel_text.specs.Bytes.{name_len, begins_name}
use Rattle.sel_text.specs.Readable.{IsName}
use Rattle.html_subset.specs.Reading.{read_forest}
use Rattle.triple_gen.specs.declared.triple.TheConstants.{MOST_BOXES}
use Rattle.triple_gen.specs.Ring.{script}
use Rattle.js_scan.specs.declared.token.TokenKind.TheVariants.{Name, Text, Mark}
use Rattle.jq_stmts.specs.Sharp.{ExactChain, ExactStatement}
use Rattle.jq_words.specs.declared.faults.TheConstants.{MOST_OPEN, MOST_STATEMENTS, MOST_FOREST_NODES}
use Rattle.jq_words.specs.Words.{Word, words, Outcome, is_mark, is_name, is_any_name, is_among, is_mark_among, is_name_among, fits, first_is, spelled, end}
use Rattle.jq_words.specs.Functions.{declared_in}
use Rattle.jq_parts.specs.Bindings.{Value, elements, bound, latest}
use Rattle.jq_parts.specs.Scopes.{matched_chain}
use Rattle.jq_parts.specs.Markup.{Grown, grown}
use Rattle.jq_parts.specs.Calls.{ended}
use Rattle.jq_parts.specs.Roots.{root}
use Rattle.jq_forms.specs.Openings.{form_of}
use Rattle.jq_read.specs.States.{Context, State, size, scope_in}
use Rattle.jq_read.specs.Functions.{Block}
use Rattle.jq_read.specs.Chains.{call, calls, chain}
use Rattle.jq_read.specs.Statements.{Blocks, chain_statement, statement_as, statement, sequence, block}
use Rattle.jq_read.specs.Script.{at_top, nothing_read, script_of, script_with}
use Rattle.ring_reads.specs.Readings.{IsRead}
use Rattle.ring_reads.specs.RingScripts.{IsOneNode, ReadsClasses, ReadsRingRoots, ReadsRingMarkup}
use Rattle.ring_reads.specs.RingWords.{Look, look, quoted_text, box_of, classes_of, box_words, last_words, ScansRings}
use Rattle.ring_reads.proofs.ScriptWords.{word}
use Rattle.treeped_app.proofs.RingScript.{Place, Gives, gives_then, context, state, IsCalled, IsBehindRoot, root_read, append_call, class_call}

gives_more : {X : Type 0} (P Q : X → Type 0) (r : Outcome X) → ((x : X) → P x → Q x) → Gives P r → Gives Q r
gives_more P Q (Ok x) more first = more x first
gives_more P Q (Err e) more first = absurd first

-- ---- a line

-- what is read of a call and of all up to the `;`
record IsChained (m nodes count : ℕ) (rest : List Word) (r : Value × State × List Word) : Type 0 where
  value : Value
  names : List Named
  statements : List ExactStatement
  is : r ≡ (value, state names nodes statements, rest)
  few : length names ≤ m
  one : length statements ≡ suc count

behind_call : (m nodes count : ℕ) (block : Block) (c : Context) (v : ExactChain) (p q : Place) (a b d e : Word) (rest : List Word) (r : Value × State × List Word) → IsCalled m nodes count v (word Mark (codes ";") q ∷ rest) r
    → Gives (IsChained m nodes count (word Mark (codes ";") q ∷ rest)) (calls block MOST_OPEN c r.0 r.1 (length (a ∷ b ∷ d ∷ e ∷ word Mark (codes ";") q ∷ rest) - length r.2) (a ∷ b ∷ d ∷ e ∷ word Mark (codes ";") q ∷ rest))
unfolding calls is_mark ended
behind_call m nodes count block c v p q a b d e rest r is =
    let tail = word Mark (codes ";") q ∷ rest in
    let four : length (a ∷ b ∷ d ∷ e ∷ tail) - length tail ≡ 4 = omega arith in
    subst (λ (x : Value × State × List Word). Gives (IsChained m nodes count tail) (calls block MOST_OPEN c x.0 x.1 (length (a ∷ b ∷ d ∷ e ∷ tail) - length x.2) (a ∷ b ∷ d ∷ e ∷ tail))) (sym is.is)
    (subst (λ (n : ℕ). Gives (IsChained m nodes count tail) (calls block MOST_OPEN c (elements v) (state is.names nodes is.statements) n (a ∷ b ∷ d ∷ e ∷ tail))) (sym four)
    (record { value = elements v; names = is.names; statements = is.statements; is = refl; few = is.few; one = is.one }))

calls_read : (m nodes count : ℕ) (block : Block) (c : Context) (v : ExactChain) (s : State) (p q : Place) (a b d e : Word) (rest : List Word)
    → Gives (IsCalled m nodes count v (word Mark (codes ";") q ∷ rest)) (call block MOST_OPEN c (elements v) s (word Mark (codes ".") p ∷ a ∷ b ∷ d ∷ e ∷ word Mark (codes ";") q ∷ rest))
    → Gives (IsChained m nodes count (word Mark (codes ";") q ∷ rest)) (calls block MOST_OPEN c (elements v) s 0 (word Mark (codes ".") p ∷ a ∷ b ∷ d ∷ e ∷ word Mark (codes ";") q ∷ rest))
unfolding calls is_mark
calls_read m nodes count block c v s p q a b d e rest called =
    gives_then (IsCalled m nodes count v (word Mark (codes ";") q ∷ rest)) (IsChained m nodes count (word Mark (codes ";") q ∷ rest)) (call block MOST_OPEN c (elements v) s (word Mark (codes ".") p ∷ a ∷ b ∷ d ∷ e ∷ word Mark (codes ";") q ∷ rest)) _
    called (λ r is. behind_call m nodes count block c v p q a b d e rest r is)

-- a call that is read on every chain, with no more than so many names before it
abbrev IsReadCall : (m m' nodes nodes' : ℕ) → List ExactStatement → Block → Context → List Word → List Word → Type 0
IsReadCall m m' nodes nodes' ss block c ws rest =
    (sels : List Selector) (names : List Named) → length names ≤ m → Gives (IsCalled m' nodes' (length ss) (matched_chain sels) rest) (call block MOST_OPEN c (elements (matched_chain sels)) (state names nodes ss) ws)

chain_read : (m m' nodes nodes' : ℕ) (block : Block) (c : Context) (names : List Named) (ss : List ExactStatement) (bs : List ℕ) (f g h i p q : Place) (a b d e : Word) (rest : List Word) → IsRead m (read_strict_list (46 ∷ bs) names)
    → IsReadCall m m' nodes nodes' ss block c (word Mark (codes ".") p ∷ a ∷ b ∷ d ∷ e ∷ word Mark (codes ";") q ∷ rest) (word Mark (codes ";") q ∷ rest)
    → Gives (IsChained m' nodes' (length ss) (word Mark (codes ";") q ∷ rest))
    (chain block MOST_OPEN c (state names nodes ss) (word Name (codes "$") f ∷ word Mark (codes "(") g ∷ word (Text (46 ∷ bs)) (quoted_text (46 ∷ bs)) h ∷ word Mark (codes ")") i ∷ word Mark (codes ".") p ∷ a ∷ b ∷ d ∷ e ∷ word Mark (codes ";") q ∷ rest))
unfolding chain
chain_read m m' nodes nodes' block c names ss bs f g h i p q a b d e rest read called =
    let tail = word Mark (codes ";") q ∷ rest in
    let behind = word Mark (codes ".") p ∷ a ∷ b ∷ d ∷ e ∷ tail in
    gives_then (IsBehindRoot m nodes behind) (IsChained m' nodes' (length ss) tail)
    (root (size c) MOST_OPEN (scope_in c (state names nodes ss)) (grown names nodes) (word Name (codes "$") f ∷ word Mark (codes "(") g ∷ word (Text (46 ∷ bs)) (quoted_text (46 ∷ bs)) h ∷ word Mark (codes ")") i ∷ behind)) _
    (root_read m (size c) nodes (scope_in c (state names nodes ss)) names bs f g h i behind read)
    (λ r is. subst (λ (x : Value × Grown × List Word). Gives (IsChained m' nodes' (length ss) tail) (calls block MOST_OPEN c x.0 (record (state names nodes ss) { grown = x.1 }) 0 x.2)) (sym is.is)
    (calls_read m' nodes' (length ss) block c (matched_chain is.selectors) (state is.names nodes ss) p q a b d e rest (called is.selectors is.names is.few)))

-- the state behind a statement
record IsStated (m nodes count : ℕ) (rest : List Word) (r : State × List Word) : Type 0 where
  names : List Named
  statements : List ExactStatement
  is : r ≡ (state names nodes statements, rest)
  few : length names ≤ m
  one : length statements ≡ suc count

statement_read : (m nodes count : ℕ) (blocks : Blocks) (c : Context) (s : State) (ws : List Word) (q : Place) (rest : List Word) → Gives (IsChained m nodes count (word Mark (codes ";") q ∷ rest)) (chain (blocks 1) MOST_OPEN c s ws)
    → Gives (IsStated m nodes count rest) (chain_statement blocks MOST_OPEN c s ws)
unfolding chain_statement end first_is is_mark
statement_read m nodes count blocks c s ws q rest chained =
    gives_then (IsChained m nodes count (word Mark (codes ";") q ∷ rest)) (IsStated m nodes count rest) (chain (blocks 1) MOST_OPEN c s ws) _ chained
    (λ r is. rw (is.is) (record { names = is.names; statements = is.statements; is = refl; few = is.few; one = is.one }))

whole_read : (m nodes' count nodes : ℕ) (blocks : Blocks) (c : Context) (names : List Named) (ss : List ExactStatement) (f g h : Place) (letters : List ℕ) (ws rest : List Word)
    → Gives (IsStated m nodes' count rest) (chain_statement blocks MOST_OPEN c (state names nodes ss) (word Name (codes "$") f ∷ word Mark (codes "(") g ∷ word (Text letters) (quoted_text letters) h ∷ ws))
    → Gives (IsStated m nodes' count rest) (statement blocks MOST_OPEN c (state names nodes ss) 0 (word Name (codes "$") f ∷ word Mark (codes "(") g ∷ word (Text letters) (quoted_text letters) h ∷ ws))
unfolding statement statement_as form_of is_mark is_name is_any_name is_among is_mark_among is_name_among fits first_is spelled bound latest
whole_read m nodes' count nodes blocks c names ss f g h letters ws rest stated =
    gives_then (IsStated m nodes' count rest) (IsStated m nodes' count rest) (chain_statement blocks MOST_OPEN c (state names nodes ss) (word Name (codes "$") f ∷ word Mark (codes "(") g ∷ word (Text letters) (quoted_text letters) h ∷ ws)) _ stated
    (λ r is. is)

-- ---- lines

abbrev pub IsOk : {X : Type 0} → Outcome X → Type 0
IsOk r = Gives (λ x. Unit {0}) r

abbrev Rest : Blocks → Context → List Named → ℕ → List ExactStatement → List Word → Type 0
Rest blocks c names nodes ss ws = IsOk (sequence false blocks MOST_OPEN c (state names nodes ss) 0 ws)

behind_line : (m nodes count : ℕ) (blocks : Blocks) (c : Context) (w1 w2 w3 w4 w5 w6 w7 w8 w9 : Word) (rest : List Word) (t : State × List Word) → IsStated m nodes count rest t
    → ((names : List Named) (ss : List ExactStatement) → length names ≤ m → length ss ≡ suc count → Rest blocks c names nodes ss rest)
    → IsOk (sequence false blocks MOST_OPEN c t.0 (length (w1 ∷ w2 ∷ w3 ∷ w4 ∷ w5 ∷ w6 ∷ w7 ∷ w8 ∷ w9 ∷ rest) - length t.1) (w1 ∷ w2 ∷ w3 ∷ w4 ∷ w5 ∷ w6 ∷ w7 ∷ w8 ∷ w9 ∷ rest))
unfolding sequence
behind_line m nodes count blocks c w1 w2 w3 w4 w5 w6 w7 w8 w9 rest t is next =
    let ws = w1 ∷ w2 ∷ w3 ∷ w4 ∷ w5 ∷ w6 ∷ w7 ∷ w8 ∷ w9 ∷ rest in
    let nine : length ws - length rest ≡ 9 = omega arith in
    subst (λ (x : State × List Word). IsOk (sequence false blocks MOST_OPEN c x.0 (length ws - length x.1) ws)) (sym is.is)
    (subst (λ (n : ℕ). IsOk (sequence false blocks MOST_OPEN c (state is.names nodes is.statements) n ws)) (sym nine)
    (next is.names is.statements is.few is.one))

line_read : (m nodes' nodes : ℕ) (blocks : Blocks) (c : Context) (names : List Named) (ss : List ExactStatement) (w0 w1 w2 w3 w4 w5 w6 w7 w8 w9 : Word) (rest : List Word)
    → Gives (IsStated m nodes' (length ss) rest) (statement blocks MOST_OPEN c (state names nodes ss) 0 (w0 ∷ w1 ∷ w2 ∷ w3 ∷ w4 ∷ w5 ∷ w6 ∷ w7 ∷ w8 ∷ w9 ∷ rest))
    → ((names' : List Named) (ss' : List ExactStatement) → length names' ≤ m → length ss' ≡ suc (length ss) → Rest blocks c names' nodes' ss' rest)
    → Rest blocks c names nodes ss (w0 ∷ w1 ∷ w2 ∷ w3 ∷ w4 ∷ w5 ∷ w6 ∷ w7 ∷ w8 ∷ w9 ∷ rest)
unfolding sequence
line_read m nodes' nodes blocks c names ss w0 w1 w2 w3 w4 w5 w6 w7 w8 w9 rest whole next =
    gives_then (IsStated m nodes' (length ss) rest) (λ x. Unit {0}) (statement blocks MOST_OPEN c (state names nodes ss) 0 (w0 ∷ w1 ∷ w2 ∷ w3 ∷ w4 ∷ w5 ∷ w6 ∷ w7 ∷ w8 ∷ w9 ∷ rest)) _ whole
    (λ t is. behind_line m nodes' (length ss) blocks c w1 w2 w3 w4 w5 w6 w7 w8 w9 rest t is next)

-- a line of a root, a call and its argument
any_line : (m m' nodes nodes' : ℕ) (blocks : Blocks) (c : Context) (names : List Named) (ss : List ExactStatement) (bs : List ℕ) (f g h i p q : Place) (a b d e : Word) (rest : List Word) → IsRead m (read_strict_list (46 ∷ bs) names)
    → IsReadCall m m' nodes nodes' ss (blocks 1) c (word Mark (codes ".") p ∷ a ∷ b ∷ d ∷ e ∷ word Mark (codes ";") q ∷ rest) (word Mark (codes ";") q ∷ rest)
    → ((names' : List Named) (ss' : List ExactStatement) → length names' ≤ m' → length ss' ≡ suc (length ss) → Rest blocks c names' nodes' ss' rest)
    → Rest blocks c names nodes ss (word Name (codes "$") f ∷ word Mark (codes "(") g ∷ word (Text (46 ∷ bs)) (quoted_text (46 ∷ bs)) h ∷ word Mark (codes ")") i ∷ word Mark (codes ".") p ∷ a ∷ b ∷ d ∷ e ∷ word Mark (codes ";") q ∷ rest)
any_line m m' nodes nodes' blocks c names ss bs f g h i p q a b d e rest read called next =
    let behind = word Mark (codes ")") i ∷ word Mark (codes ".") p ∷ a ∷ b ∷ d ∷ e ∷ word Mark (codes ";") q ∷ rest in
    let ws = word Name (codes "$") f ∷ word Mark (codes "(") g ∷ word (Text (46 ∷ bs)) (quoted_text (46 ∷ bs)) h ∷ behind in
    let chained = chain_read m m' nodes nodes' (blocks 1) c names ss bs f g h i p q a b d e rest read called in
    let stated = statement_read m' nodes' (length ss) blocks c (state names nodes ss) ws q rest chained in
    let whole = whole_read m' nodes' (length ss) nodes blocks c names ss f g h (46 ∷ bs) behind rest stated in
    line_read m' nodes' nodes blocks c names ss (word Name (codes "$") f) (word Mark (codes "(") g) (word (Text (46 ∷ bs)) (quoted_text (46 ∷ bs)) h) (word Mark (codes ")") i) (word Mark (codes ".") p) a b d e (word Mark (codes ";") q) rest whole next

one_node_more : {E : Type 0} (n m : ℕ) (e : List Named × Result (List LabelTree) E) → n ≤ m → IsOneNode n e → IsOneNode m e
one_node_more n m (names, Ok ts) more is = let few = is.0 in (omega (arith, few, more), is.1)
one_node_more n m (names, Err e) more is = is

-- ---- the words of a line, at any places

-- whatever the places of these words are
abbrev ForPlaces : List Look → (List Word → Type 0) → (List Word → Type 0) → Type 0
ForPlaces [] P Q = (rest : List Word) → P rest → Q rest
ForPlaces (l ∷ looks) P Q = (p : Place) → ForPlaces looks P (λ rest. Q (word l.0 l.1 p ∷ rest))

by_words : (looks more : List Look) (Q : List Word → Type 0) (ws : List Word) → map look ws ≡ looks ++ more → ForPlaces looks (λ rest. map look rest ≡ more) Q → Q ws
by_words [] more Q ws is all = all ws is
by_words (l ∷ looks) more Q [] is all = absurd cc
by_words (l ∷ looks) more Q (w ∷ ws) is all =
    let head : look w ≡ l = cc in
    let tail : map look ws ≡ looks ++ more = cc in
    by_words looks more (λ rest. Q (w ∷ rest)) ws tail (subst (λ (k : Look). ForPlaces looks (λ rest. map look rest ≡ more) (λ rest. Q (word k.0 k.1 (w.at, w.later) ∷ rest))) (sym head) (all (w.at, w.later)))

name_t : IsName (codes "t")
unfolding name_len begins_name
name_t = record { some = omega arith; whole = refl }

called_more : (n m nodes count : ℕ) (chain : ExactChain) (rest : List Word) (r : Outcome (Value × State × List Word)) → n ≤ m → Gives (IsCalled n nodes count chain rest) r → Gives (IsCalled m nodes count chain rest) r
called_more n m nodes count chain rest r less given =
    gives_more (IsCalled n nodes count chain rest) (IsCalled m nodes count chain rest) r (λ x is. let few = is.few in record { names = is.names; statements = is.statements; is = is.is; few = omega (arith, few, less); one = is.one }) given

module _ (blocks : Blocks) (exact : Bool) (text : List ℕ) (declared : List (List ℕ)) where
  abbrev top : Context
  top = context exact text declared

  box_line : ReadsRingRoots → ReadsRingMarkup → (i j nodes : ℕ) (names : List Named) (ss : List ExactStatement) (more : List Look) (ws : List Word) → i < MOST_BOXES → j < MOST_BOXES
      → length names + 11 ≤ MOST_ATOMS → nodes + 1 ≤ MOST_FOREST_NODES → length ss < MOST_STATEMENTS
      → ((names' : List Named) (ss' : List ExactStatement) (rest : List Word) → length names' ≤ length names + 11 → length ss' ≡ suc (length ss) → map look rest ≡ more → Rest blocks top names' (nodes + 1) ss' rest)
      → map look ws ≡ box_words i j ++ more → Rest blocks top names nodes ss ws
  box_line roots markup i j nodes names ss more ws few_i few_j room few_nodes few next is =
      by_words (box_words i j) more (λ vs. Rest blocks top names nodes ss vs) ws is
      (λ f g h k p a b d e q rest others.
      any_line (length names + 1) (length names + 11) nodes (nodes + 1) blocks top names ss (107 ∷ decimal i) f g h k p q (word Name (codes "append") a) (word Mark (codes "(") b)
      (word (Text (box_of (classes_of i j))) (quoted_text (box_of (classes_of i j))) d) (word Mark (codes ")") e) rest (roots i names few_i (omega (arith, room)))
      (λ sels names' less.
      append_call (length names + 11) nodes (blocks 1) exact text declared sels ss names' (box_of (classes_of i j)) p a b d e (word Mark (codes ";") q ∷ rest)
      (one_node_more (length names' + 10) (length names + 11) (read_forest (box_of (classes_of i j)) names') (omega (arith, less)) (markup i j names' few_i few_j (omega (arith, less, room)))) few_nodes few)
      (λ names' ss' less one. next names' ss' rest less one others))

  last_line : ReadsClasses → (nodes : ℕ) (names : List Named) (ss : List ExactStatement) (ws : List Word) → length names + 2 ≤ MOST_ATOMS → length ss < MOST_STATEMENTS → map look ws ≡ last_words → Rest blocks top names nodes ss ws
  unfolding sequence
  last_line reads nodes names ss ws room few is =
      by_words last_words [] (λ vs. Rest blocks top names nodes ss vs) ws is
      (λ f g h k p a b d e q rest others.
      any_line (length names + 1) (length names + 2) nodes nodes blocks top names ss (codes "t") f g h k p q (word Name (codes "addClass") a) (word Mark (codes "(") b)
      (word (Text (codes "on")) (quoted_text (codes "on")) d) (word Mark (codes ")") e) rest (reads (codes "t") names name_t (omega (arith, room)))
      (λ sels names' less. called_more (length names' + 1) (length names + 2) nodes (length ss) (matched_chain sels) (word Mark (codes ";") q ∷ rest) _ (omega (arith, less)) (class_call nodes (blocks 1) exact text declared sels ss names' p a b d e (word Mark (codes ";") q ∷ rest) (omega (arith, less, room)) few))
      (λ names' ss' less one. subst (λ (vs : List Word). Rest blocks top names' nodes ss' vs) (sym (none rest others)) tt))
    where
      none : (rest : List Word) → map look rest ≡ [] → rest ≡ []
      none [] is = refl
      none (w ∷ rest) is = absurd cc

  boxes_read : ReadsClasses → ReadsRingRoots → ReadsRingMarkup → (next : ℕ → ℕ) (n : ℕ) → n ≤ MOST_BOXES → ((i : ℕ) → i < n → next i < MOST_BOXES) → (count a nodes : ℕ) (names : List Named) (ss : List ExactStatement) (ws : List Word) → a + count ≤ n
      → length names + count * 11 + 2 ≤ MOST_ATOMS → nodes + count ≤ MOST_FOREST_NODES → length ss + count < MOST_STATEMENTS
      → map look ws ≡ flat_map (λ i. box_words i (next i)) (range_with_len a count) ++ last_words → Rest blocks top names nodes ss ws
  boxes_read reads roots markup next n most small zero a nodes names ss ws there room few_nodes few is = last_line reads nodes names ss ws (omega (arith, room)) (omega (arith, few)) is
  boxes_read reads roots markup next n most small (suc count) a nodes names ss ws there room few_nodes few is =
      box_line roots markup a (next a) nodes names ss (flat_map (λ i. box_words i (next i)) (range_with_len (a + 1) count) ++ last_words) ws (omega (arith, there, most)) (small a (omega (arith, there))) (omega (arith, room)) (omega (arith, few_nodes)) (omega (arith, few))
      (λ names' ss' rest less one others.
      boxes_read reads roots markup next n most small count (a + 1) (nodes + 1) names' ss' rest (omega (arith, there)) (omega (arith, less, room)) (omega (arith, few_nodes)) (omega (arith, few, one)) others)
      is

-- ---- the whole script

next_small : (n : ℕ) → n ≤ MOST_BOXES → (i : ℕ) → i < n → (i + 1) % n < MOST_BOXES
next_small zero most i less = absurd (omega (arith, less))
next_small (suc n) most i less = let under : (i + 1) % suc n < suc n = mod-lt (i + 1) (omega arith) in omega (arith, under, most)

pub script_read : ReadsClasses → ReadsRingRoots → ReadsRingMarkup → ScansRings → (exact : Bool) (n : ℕ) (names : List Named) → n ≤ MOST_BOXES → length names + 2202 ≤ MOST_ATOMS → IsOk (script_with exact (script n) names)
unfolding script_with script_of
script_read reads roots markup scans exact n names few room =
    let s = scans n few in
    let ws = words (script n) s.0 in
    rw (s.1)
    (gives_then (λ x. Unit {0}) (λ x. Unit {0}) (sequence false (block MOST_OPEN) MOST_OPEN (at_top exact (script n) ws) (nothing_read names) 0 ws) _
    (boxes_read (block MOST_OPEN) exact (script n) (declared_in ws) reads roots markup (λ i. (i + 1) % n) n few (next_small n few) n 0 0 names [] ws (omega arith) (omega (arith, few, room)) (omega (arith, few)) (omega (arith, few)) s.2)
    (λ x is. tt))
