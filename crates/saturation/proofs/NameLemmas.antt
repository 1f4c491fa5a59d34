-- Lists of atoms and of cells, one element more.
use Rattle.std.proofs.Common.{◌≡◌, ℕ, suc, ◌+◌, List, [], ◌∷◌, ◌++◌, map, take, slice_get, Some, refl, sym, ap, ◌∙◌, arith, append_assoc, append-nil}
use Rattle.std.specs.List.{flat_map, range_with_len}
use Rattle.std.proofs.lemmas.List.Concat.{flat_map-append}
use Rattle.std.proofs.lemmas.List.{map-append}
use Rattle.tp_base.specs.Classes.{with_class, union_of}
use Rattle.tp_base.proofs.Lists.{take_next, range_more}
use Rattle.simple_core.specs.Labels.{set_of}
use Rattle.simple_core.specs.declared.rules.Kind.{Kind}
use Rattle.simple_core.specs.declared.rules.Link.{Link}
use Rattle.simple_core.specs.declared.rules.Local.{Local}
use Rattle.simple_core.specs.declared.system.System.{System}
use Rattle.pushdown_sym.specs.Rounds.{given_atoms}
use Rattle.saturation.specs.Waking.{CellName, named}

pub union_append : (xs ys zs : List ℕ) → union_of xs (ys ++ zs) ≡ union_of (union_of xs ys) zs
union_append xs [] zs = refl
union_append xs (y ∷ ys) zs = union_append (with_class y xs) ys zs

pub union_four : (a b c d : List ℕ) → union_of (union_of (union_of (union_of [] a) b) c) d ≡ set_of (a ++ b ++ c ++ d)
union_four a b c d =
    sym (union_append [] (a ++ b ++ c) d ∙ ap (λ xs. union_of xs d) (union_append [] (a ++ b) c ∙ ap (λ xs. union_of xs c) (union_append [] a b)))

-- the atoms that are given, from the lists that they were taken from
pub given_is : (s : System) (kinds : List Kind) (locals : List Local) (ups downs : List Link) (none a b c d : List ℕ)
    → kinds ≡ s.kinds → locals ≡ s.local → ups ≡ s.up → downs ≡ s.down → none ≡ []
    → a ≡ union_of none (flat_map (λ (k : Kind). k.label) kinds) → b ≡ union_of a (map (λ (r : Local). r.gives) locals)
    → c ≡ union_of b (map (λ (l : Link). l.to) ups) → d ≡ union_of c (map (λ (l : Link). l.to) downs) → d ≡ given_atoms s
given_is s kinds locals ups downs none a b c d kinds_are locals_are ups_are downs_are nothing first second third last =
    let all = union_four (flat_map (λ (k : Kind). k.label) s.kinds) (map (λ (r : Local). r.gives) s.local) (map (λ (l : Link). l.to) s.up) (map (λ (l : Link). l.to) s.down) in
    let labels : a ≡ union_of [] (flat_map (λ (k : Kind). k.label) s.kinds) =
    first ∙ ap (λ (xs : List ℕ). union_of xs (flat_map (λ (k : Kind). k.label) kinds)) nothing ∙ ap (λ (ks : List Kind). union_of [] (flat_map (λ (k : Kind). k.label) ks)) kinds_are in
    let gives : b ≡ union_of a (map (λ (r : Local). r.gives) s.local) = second ∙ ap (λ (rs : List Local). union_of a (map (λ (r : Local). r.gives) rs)) locals_are in
    let up_ends : c ≡ union_of b (map (λ (l : Link). l.to) s.up) = third ∙ ap (λ (ls : List Link). union_of b (map (λ (l : Link). l.to) ls)) ups_are in
    let down_ends : d ≡ union_of c (map (λ (l : Link). l.to) s.down) = last ∙ ap (λ (ls : List Link). union_of c (map (λ (l : Link). l.to) ls)) downs_are in
    down_ends
    ∙ ap (λ (xs : List ℕ). union_of xs (map (λ (l : Link). l.to) s.down))
    (up_ends ∙ ap (λ (xs : List ℕ). union_of xs (map (λ (l : Link). l.to) s.up)) (gives ∙ ap (λ (xs : List ℕ). union_of xs (map (λ (r : Local). r.gives) s.local)) labels))
    ∙ all

-- one element more of a mapped list
pub maps_more : {X : Type 0} (f : ℕ → X) (old now new : List X) (atoms : List ℕ) (i a : ℕ) → slice_get atoms i ≡ Some a → now ≡ old ++ map f (take i atoms) → new ≡ now ++ f a ∷ []
    → new ≡ old ++ map f (take (i + 1) atoms)
maps_more {X} f old now new atoms i a at before more =
    more
    ∙ ap (λ (cs : List X). cs ++ f a ∷ []) before
    ∙ append_assoc old (map f (take i atoms)) (f a ∷ [])
    ∙ ap (λ (cs : List X). old ++ cs) (sym (ap (map f) (take_next atoms i a at) ∙ map-append {A = ℕ} {B = X} f (take i atoms) (a ∷ [])))

-- one cell more of a kind
pub named_more : (old now new : List CellName) (kind : ℕ) (atoms : List ℕ) (i a : ℕ) → slice_get atoms i ≡ Some a → now ≡ old ++ named kind (take i atoms) → new ≡ now ++ (kind, a) ∷ []
    → new ≡ old ++ named kind (take (i + 1) atoms)
named_more old now new kind atoms i a at before more = maps_more {X = CellName} (λ b. (kind, b)) old now new atoms i a at before more

-- one key more
pub mapped_more : (f : ℕ → List CellName) (old now new : List CellName) (keys : List ℕ) (i key : ℕ) → slice_get keys i ≡ Some key → now ≡ old ++ flat_map f (take i keys) → new ≡ now ++ f key
    → new ≡ old ++ flat_map f (take (i + 1) keys)
mapped_more f old now new keys i key at before more =
    more
    ∙ ap (λ (cs : List CellName). cs ++ f key) before
    ∙ append_assoc old (flat_map f (take i keys)) (f key)
    ∙ ap (λ (cs : List CellName). old ++ cs)
    (sym (ap (flat_map f) (take_next keys i key at) ∙ flat_map-append {X = ℕ} {A = CellName} f (take i keys) (key ∷ []) ∙ ap (λ (cs : List CellName). flat_map f (take i keys) ++ cs) (append-nil (f key))))

-- one kind more of the first n
pub kinds_more : {X : Type 0} (f : ℕ → List X) (i : ℕ) → flat_map f (range_with_len 0 (i + 1)) ≡ flat_map f (range_with_len 0 i) ++ f i
kinds_more {X} f i =
    let next : i + 1 ≡ suc i = omega arith in
    let same : 0 + i ≡ i = omega arith in
    ap (flat_map f) (ap (range_with_len 0) next ∙ range_more 0 i ∙ ap (λ b. range_with_len 0 i ++ b ∷ []) same)
    ∙ flat_map-append {X = ℕ} {A = X} f (range_with_len 0 i) (i ∷ [])
    ∙ ap (λ (cs : List X). flat_map f (range_with_len 0 i) ++ cs) (append-nil (f i))
