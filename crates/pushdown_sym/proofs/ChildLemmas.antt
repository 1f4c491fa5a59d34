-- The children that links look at, and their terms.
use Rattle.std.proofs.Common.{◌≡◌, ◌≢◌, ℕ, ◌+◌, ◌<◌, ltb, ◌==◌, true, false, not, List, [], ◌∷◌, ◌++◌, map, fold, take, length, get_or, All, Contains, Result, refl, sym, ap, subst, ◌∙◌, inl, inr, append-nil, arith}
use Rattle.std.specs.List.{filter, flat_map}
use Rattle.std.specs.List.Sorted.{IsStrictlyIncreasing}
use Rattle.std.proofs.lemmas.Bool.{cases_Bool, ltb-false}
use Rattle.std.proofs.lemmas.List.{take_more, map-append}
use Rattle.std.proofs.lemmas.List.Elements.{All-contains, Contains-get_or}
use Rattle.std.proofs.lemmas.List.Concat.{flat_map-append}
use Rattle.std.proofs.lemmas.List.Sums.{fold-append}
use Rattle.tree_sem.proofs.NodeLemmas.{map-Contains}
use Rattle.tp_base.proofs.Rising.{All-from_Contains}
use Rattle.tp_base.proofs.Lists.{flat_map-Contains}
use Rattle.simple_core.proofs.Members.{filter-Contains, Contains-filter}
use Rattle.class_diagrams.specs.References.{Reference, leaf_reference}
use Rattle.class_diagrams.specs.declared.faults.DiagramFault.{DiagramFault}
use Rattle.class_diagrams.specs.Trees.{Tree, tand}
use Rattle.class_diagrams.specs.Arena.{StartsWith, IsIn, Arena, IsArena}
use Rattle.class_diagrams.proofs.ArenaLemmas.{tree_at-further}
use Rattle.diagram_ops.specs.Compositions.{tcompose, inner_results}
use Rattle.simple_core.specs.declared.rules.Link.{Link}
use Rattle.simple_core.specs.declared.rules.Spawn.{Spawn}
use Rattle.simple_core.specs.declared.system.System.{System}
use Rattle.pushdown_sym.specs.declared.gathering.Child.{Child}
use Rattle.pushdown_sym.specs.CellMap.{Entries, place_in, trees_in, is_false, may_have}
use Rattle.pushdown_sym.specs.Terms.{Term, down_term}
use Rattle.pushdown_sym.specs.Adding.{AreIn, Adds, of_down}
use Rattle.simple_core.specs.Givers.{places_from}
use Rattle.row_index.specs.Rows.{row_of}
use Rattle.pushdown_sym.specs.Givers.{of_place, AreMakers}
use Rattle.pushdown_sym.specs.Children.{child_by, children_by, children_of, stands, standing_by, standing_each, standing_of, with_child, different, beneath, DoServe, term_of, terms_by}
use Rattle.pushdown_sym.proofs.AddLemmas.{cells_same}
use Rattle.pushdown_sym.proofs.GiverLemmas.{filtered_places}
use Rattle.pushdown_sym.proofs.LinkLemmas.{filtered_one, filtered_flat}
use Rattle.pushdown_sym.proofs.DifferentLemmas.{fold_is, firsts_among, different_add}
use Rattle.pushdown_sym.proofs.PlaceLemmas.{enough_places}
use Rattle.pushdown_sym.proofs.StandingLemmas.{standing_add, beneath_add, standing_are, none_standing}

-- ### one more, in a loop

taken : {X : Type 0} (xs : List X) (i : ℕ) (x : X) → i < length xs → x ≡ get_or xs i x → take (i + 1) xs ≡ take i xs ++ x ∷ []
taken xs i x less item = take_more xs i x less ∙ (λ n. take i xs ++ sym item n ∷ [])

pub with_more : {X : Type 0} (f : X → List Child) (start : List Child) (xs : List X) (i : ℕ) (x : X) (now new : List Child) → i < length xs → x ≡ get_or xs i x
    → now ≡ fold with_child start (flat_map f (take i xs)) → new ≡ fold with_child now (f x) → new ≡ fold with_child start (flat_map f (take (i + 1) xs))
with_more f start xs i x now new less item before more =
    more
    ∙ ap (λ (cs : List Child). fold with_child cs (f x)) before
    ∙ sym (ap (λ ys. fold with_child start (flat_map f ys)) (taken xs i x less item)
    ∙ ap (fold with_child start) (flat_map-append f (take i xs) (x ∷ []) ∙ ap (λ ys. flat_map f (take i xs) ++ ys) (append-nil (f x)))
    ∙ fold-append with_child start (flat_map f (take i xs)) (f x))

-- ### each is of the arena

child_in : (ts : List Tree) (s : System) (cells : Entries) (a : ℕ) → AreIn ts cells → (c : Child) → Contains (children_of s cells a) c → IsIn ts c.diagram
child_in ts s cells a inside c there =
    let of = flat_map-Contains (children_by cells s.child) (filter (λ (l : Link). l.to == a) s.down) c there in
    let spawn = map-Contains (child_by cells of.0) s.child c of.2 in
    subst (λ (d : Child). IsIn ts d.diagram) (sym spawn.2) (inside spawn.0.kind of.0.from)

pub serving_in : (ts : List Tree) (s : System) (cells : Entries) (j a : ℕ) (children : List Child) → AreIn ts cells → DoServe s cells j a children
    → All (λ c. IsIn ts c.diagram) (beneath cells j children)
serving_in ts s cells j a children inside serve =
    All-from_Contains (λ (c : Child). IsIn ts c.diagram) (beneath cells j children) (λ c there.
    let listed : Contains (different (standing_of s cells a)) c =
    (filter-Contains (λ (d : Child). may_have cells j d.needs) (different (standing_of s cells a)) c (subst (λ (cs : List Child). Contains cs c) serve there)).0 in
    child_in ts s cells a inside c (filter-Contains stands (children_of s cells a) c
    (firsts_among [] (standing_of s cells a) c (subst (λ (cs : List Child). Contains cs c) (fold_is [] (standing_of s cells a)) listed))).0)

-- those that a node of the kind may have
pub each_in : (ts : List Tree) (cells : Entries) (j : ℕ) (children : List Child) (i : ℕ) (c : Child) → All (λ (d : Child). IsIn ts d.diagram) (beneath cells j children)
    → i < length children → c ≡ get_or children i c → may_have cells j c.needs ≡ true → IsIn ts c.diagram
each_in ts cells j children i c all less item may =
    let listed : Contains children c = subst (λ (d : Child). Contains children d) (sym item) (Contains-get_or children i c less) in
    All-contains (λ (d : Child). IsIn ts d.diagram) (beneath cells j children) c all (Contains-filter (λ (d : Child). may_have cells j d.needs) children c listed may)

-- ### the terms of a child that there may be

pub none_by : (ts : List Tree) (cells : Entries) (j : ℕ) (c : Child) → is_false (place_in cells j c.needs) ≡ true → terms_by ts cells j c ≡ []
none_by ts cells j c none = rw none refl

pub one_by : (ts : List Tree) (cells : Entries) (j : ℕ) (c : Child) → is_false (place_in cells j c.needs) ≡ false → terms_by ts cells j c ≡ term_of ts cells j c ∷ []
one_by ts cells j c some = rw some refl

-- ### the terms of a child stay

pub term_stays : (ts : List Tree) (cells : Entries) (j : ℕ) (children : List Child) → AreIn ts cells → All (λ c. IsIn ts c.diagram) (beneath cells j children)
    → (us : List Tree) (i : ℕ) (c : Child) → i < length children → c ≡ get_or children i c → StartsWith ts us → terms_by us cells j c ≡ terms_by ts cells j c
term_stays ts cells j children inside all us i c less item stays = elim (cases_Bool (may_have cells j c.needs)) [
  | inl may ↦ rw may (
      let now = cells_same ts us cells stays inside in
      let diagram = tree_at-further ts us c.diagram stays (each_in ts cells j children i c all less item may) in
      λ n. record {
        tree = tand (now n j c.needs) (tcompose (diagram n) (now n j));
        before = now n j c.needs ∷ inner_results (diagram n) (now n j);
      } ∷ [])
  | inr none ↦ rw none refl
]

-- ### the terms of the different children are those of all links

map-flat_map : {X Y Z : Type 0} (f : Y → Z) (g : X → List Y) (xs : List X) → map f (flat_map g xs) ≡ flat_map (λ x. map f (g x)) xs
map-flat_map f g [] = refl
map-flat_map f g (x ∷ xs) = map-append f (g x) (flat_map g xs) ∙ ap (λ zs. map f (g x) ++ zs) (map-flat_map f g xs)

map-map : {X Y Z : Type 0} (f : Y → Z) (g : X → Y) (xs : List X) → map f (map g xs) ≡ map (λ x. f (g x)) xs
map-map f g [] = refl
map-map f g (x ∷ xs) = ap (λ zs. f (g x) ∷ zs) (map-map f g xs)

flat_map-same : {X Y : Type 0} (f g : X → List Y) → ((x : X) → f x ≡ g x) → (xs : List X) → flat_map f xs ≡ flat_map g xs
flat_map-same f g same [] = refl
flat_map-same f g same (x ∷ xs) = λ n. same x n ++ flat_map-same f g same xs n

terms_are : (ts : List Tree) (s : System) (cells : Entries) (j a : ℕ) → map (term_of ts cells j) (children_of s cells a) ≡ flat_map (of_down s.child (trees_in ts cells) j a) s.down
terms_are ts s cells j a =
    map-flat_map (term_of ts cells j) (children_by cells s.child) (filter (λ (l : Link). l.to == a) s.down)
    ∙ flat_map-same (λ l. map (term_of ts cells j) (children_by cells s.child l)) (λ l. map (down_term (trees_in ts cells) j l) s.child)
    (λ l. map-map (term_of ts cells j) (child_by cells l) s.child) (filter (λ (l : Link). l.to == a) s.down)
    ∙ sym (filtered_flat (λ (l : Link). l.to == a) (λ l. map (down_term (trees_in ts cells) j l) s.child) s.down)

pub children_add : (s : System) (cells : Entries) (j a : ℕ) (c d : Arena) (g : Reference) (r : Result Reference DiagramFault) (children : List Child)
    → IsArena c → AreIn c.branches cells → IsIn c.branches g → DoServe s cells j a children
    → Adds c d g (flat_map (terms_by c.branches cells j) children) r
    → Adds c d g (flat_map (of_down s.child (trees_in c.branches cells) j a) s.down) r
children_add s cells j a c d g r children arena inside within serve adds =
    subst (λ (ts : List Term). Adds c d g ts r) (terms_are c.branches s cells j a)
    (standing_add c d cells j g arena (children_of s cells a) r
    (different_add c d cells j arena inside g within (standing_of s cells a) r
    (beneath_add c d cells j g arena (different (standing_of s cells a)) r
    (subst (λ (ts : List Term). Adds c d g ts r)
    (filtered_one (λ (x : Child). may_have cells j x.needs) (term_of c.branches cells j) children ∙ ap (map (term_of c.branches cells j)) serve) adds))))

-- ### those that stand

pub stands_no : (p : Reference) → p ≡ leaf_reference false → not (is_false p) ≡ true → ⊥
stands_no p none passes = let wrong : false ≡ true = ap (λ q. not (is_false q)) (sym none) ∙ passes in cc

-- what the links at the places look at is what those that give the atom look at
pub gathered : (s : System) (cells : Entries) (a : ℕ) (links : List Link) (spawns : List Spawn) (places : List ℕ) → links ≡ s.down → spawns ≡ s.child
    → places ≡ places_from (λ (l : Link). l.to == a) 0 s.down → fold with_child [] (flat_map (of_place (standing_each cells spawns) links) places) ≡ different (standing_of s cells a)
gathered s cells a links spawns places links_are spawns_are places_are =
    (λ n. fold with_child [] (flat_map (of_place (standing_each cells (spawns_are n)) (links_are n)) (places_are n)))
    ∙ ap (fold with_child []) (filtered_places (standing_each cells s.child) (λ (l : Link). l.to == a) s.down ∙ standing_are s cells a)

-- where no link gives the atom, no child is looked at
pub no_place : (places : List ℕ) → ltb 0 (length places) ≡ false → places ≡ []
no_place [] none = refl
no_place (place ∷ places) none = let few = ltb-false 0 (length (place ∷ places)) none in absurd (omega (arith, few))

pub none_serve : (s : System) (cells : Entries) (j a : ℕ) → places_from (λ (l : Link). l.to == a) 0 s.down ≡ [] → DoServe s cells j a []
none_serve s cells j a none = ap (beneath cells j) (gathered s cells a s.down s.child [] refl refl (sym none))

-- what a link looks at, where these places are all those of the rules that make a kind which may have its left side
pub link_added : (cells : Entries) (l : Link) (spawns : List Spawn) (makers : List (List ℕ)) (kinds places : List ℕ) → AreMakers spawns makers
    → ((j : ℕ) → place_in cells j l.from ≢ leaf_reference false → Contains kinds j) → IsStrictlyIncreasing places
    → ((j : ℕ) → Contains kinds j → (i : ℕ) → Contains (row_of makers j) i → Contains places i)
    → flat_map (of_place (standing_by cells l) spawns) places ≡ flat_map (standing_by cells l) spawns
link_added cells l spawns makers kinds places are whole rises listed =
    enough_places (standing_by cells l) (λ (c : Spawn). stands (child_by cells l c)) (none_standing cells l) spawns places rises (λ i c at passes.
    listed c.kind (whole c.kind (λ none. stands_no (place_in cells c.kind l.from) none passes)) i (are i c at))
