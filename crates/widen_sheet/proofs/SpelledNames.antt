-- What a selector with its marks is read as: what is left of the selector.
use Rattle.std.proofs.Common.{◌≡◌, ℕ, ◌≤◌, Bool, true, false, if◌then◌else◌, List, [], ◌∷◌, ◌++◌, length, map, reverse, Option, Some, None, Ok, Err, refl, sym, ap, ◌∙◌, subst, arith, append_assoc, append-nil}
use Rattle.std.proofs.lemmas.List.{take_all, length-take, reverse-append}
use Rattle.tp_base.specs.Names.{Named, with_name, IsFront}
use Rattle.tp_base.proofs.Fronts.{front_itself, front_grown, front_of_front}
use Rattle.sel_text.specs.declared.faults.SelFault.TheVariants.{TooManyAtoms}
use Rattle.sel_text.specs.declared.selectors.Compound.{Compound}
use Rattle.sel_text.specs.declared.selectors.Join.{Join}
use Rattle.sel_text.specs.declared.selectors.Join.TheVariants as code
use Rattle.sel_text.specs.Grammar.{Outcome, Word}
use Rattle.sel_text.specs.Parts.{join_of, with_parts, selector_from}
use Rattle.sel_text.specs.Reading.{Ending, then_read, table_name, placed, atom_of, atoms_of, compounds_of, read_syntax}
use Rattle.sel_text.specs.Selectors.{Selector, simple}
use Rattle.sel_text.specs.Syntax.{part, joined, Syntax, with_item, nothing}
use Rattle.widen_sheet.specs.declared.tokens.Kind.{Kind}
use Rattle.widen_sheet.specs.declared.tokens.Kind.TheVariants.{Judged, Other, Inside, Child, Next, Later}
use Rattle.widen_sheet.specs.Wide.{Wide, Token, is_combinator, goes, kinds, with_atoms, behind_join, dropped_at, dropped_back, dropped}
use Rattle.widen_sheet.proofs.JoinReads.{IsToken, AreTokens}
use Rattle.widen_sheet.proofs.SpelledReads.{kept_token, kept}
use Rattle.widen_sheet.proofs.SpelledSyntax.{whole_kept}

-- ---- names that a table has

abbrev number_by : Option (ℕ × List Named) → ℕ
number_by None = 0
number_by (Some e) = e.0

-- the atom of a word
abbrev pub number : List Named → Word → ℕ
number names w = number_by (with_name names (table_name w))

abbrev pub IsKnown : List Named → Word → Type 0
IsKnown names w = atom_of names w ≡ (names, Ok (number names w))

abbrev pub AreKnown : List Named → List Word → Type 0
AreKnown names [] = Unit {0}
AreKnown names (w ∷ ws) = IsKnown names w × AreKnown names ws

abbrev pub AllKnown : List Named → List (List Word) → Type 0
AllKnown names [] = Unit {0}
AllKnown names (c ∷ cs) = AreKnown names c × AllKnown names cs

same_front : (a b : List Named) → IsFront a b → IsFront b a → a ≡ b
same_front a b first second =
    let one = ap length first ∙ refl in
    let long : length a ≤ length b = omega (arith, sym (length-take (length a) b) ∙ ap length first) in
    let other : length b ≤ length a = omega (arith, sym (length-take (length b) a) ∙ ap length second) in
    sym first ∙ take_all (length a) b other

-- what each reader of names keeps
abbrev Grows : {A : Type 0} → List Named → Ending A → Type 0
Grows names (later, Ok x) = IsFront names later
Grows names (later, Err e) = Unit {0}

grows_then : {A B : Type 0} (names : List Named) (e : Ending A) (f : List Named → A → Ending B) → Grows names e → ((later : List Named) (x : A) → Grows later (f later x)) → Grows names (then_read e f)
grows_then names (later, Ok x) f here more = by (f later x) (more later x)
  where
    by : {B : Type 0} (r : Ending B) → Grows later r → Grows names r
    by (last, Ok y) is = front_of_front names later last here is
    by (last, Err e) is = tt
grows_then names (later, Err e) f here more = tt

atom_grows : (names : List Named) (w : Word) → Grows names (atom_of names w)
atom_grows names w = by (with_name names (table_name w)) refl
  where
    by : (o : Option (ℕ × List Named)) → with_name names (table_name w) ≡ o → Grows names (placed names o)
    by None is = tt
    by (Some e) is = front_grown names e.1 (table_name w) e.0 is

atoms_grow : (names : List Named) (ws : List Word) → Grows names (atoms_of names ws)
unfolding atoms_of
atoms_grow names [] = front_itself names names refl
atoms_grow names (w ∷ ws) =
    grows_then names (atom_of names w) (λ later a. then_read (atoms_of later ws) (λ last atoms. (last, Ok (a ∷ atoms)))) (atom_grows names w)
    (λ later a. grows_then later (atoms_of later ws) (λ last atoms. (last, Ok (a ∷ atoms))) (atoms_grow later ws) (λ last atoms. front_itself last last refl))

compounds_grow : (names : List Named) (cs : List (List Word)) → Grows names (compounds_of names cs)
unfolding compounds_of
compounds_grow names [] = front_itself names names refl
compounds_grow names (c ∷ cs) =
    grows_then names (atoms_of names c) (λ later atoms. then_read (compounds_of later cs) (λ last compounds. (last, Ok ((record { atoms = atoms }) ∷ compounds)))) (atoms_grow names c)
    (λ later atoms. grows_then later (compounds_of later cs) (λ last compounds. (last, Ok ((record { atoms = atoms }) ∷ compounds))) (compounds_grow later cs) (λ last compounds. front_itself last last refl))

-- a reader that ends with the table that it began with didn't enter anything
abbrev pub Ends : {A : Type 0} → List Named → Ending A → Type 0
Ends names (later, Ok x) = later ≡ names
Ends names (later, Err e) = ⊥

-- the first of two readers
first_ends : {A B : Type 0} (names : List Named) (e : Ending A) (f : List Named → A → Ending B) → Grows names e → ((later : List Named) (x : A) → Grows later (f later x)) → Ends names (then_read e f)
    → (x : A) × (e ≡ (names, Ok x)) × Ends names (f names x)
first_ends {A = A} {B = B} names (later, Ok x) f here more ends = by (f later x) refl (more later x) ends
  where
    by : (r : Ending B) → f later x ≡ r → Grows later r → Ends names r → (y : A) × (◌≡◌ {A = Ending A} (later, Ok x) (names, Ok y)) × Ends names (f names y)
    by (last, Ok y) is grows ends =
        let same : later ≡ names = same_front later names (subst (IsFront later) ends grows) here in
        (x, ap (λ (ns : List Named). (ns, Ok x)) same, subst (λ (ns : List Named). Ends names (f ns x)) same (subst (Ends names) (sym is) ends))
    by (last, Err e) is grows ends = absurd ends
first_ends names (later, Err e) f here more ends = absurd ends

atom_number : (names : List Named) (w : Word) (a : ℕ) → atom_of names w ≡ (names, Ok a) → IsKnown names w
atom_number names w a is = by (with_name names (table_name w)) refl is
  where
    by : (o : Option (ℕ × List Named)) → with_name names (table_name w) ≡ o → ◌≡◌ {A = Ending ℕ} (placed names o) (names, Ok a) → IsKnown names w
    by None e is = absurd (wrong (ap (λ (r : Ending ℕ). r.1) is))
      where
        wrong : ◌≡◌ {A = Outcome ℕ} (Err TooManyAtoms) (Ok a) → ⊥
        wrong is = cc
    by (Some p) e is = let same : p.1 ≡ names = ap (λ (r : Ending ℕ). r.0) is in rw e (ap (λ (ns : List Named). (ns, Ok p.0)) same)

atoms_known : (names : List Named) (ws : List Word) (atoms : List ℕ) → atoms_of names ws ≡ (names, Ok atoms) → AreKnown names ws
unfolding atoms_of
atoms_known names [] atoms is = tt
atoms_known names (w ∷ ws) atoms is =
    let ends : Ends names (atoms_of names (w ∷ ws)) = subst (Ends names) (sym is) refl in
    let first = first_ends names (atom_of names w) (λ later a. then_read (atoms_of later ws) (λ last atoms. (last, Ok (a ∷ atoms)))) (atom_grows names w)
    (λ later a. grows_then later (atoms_of later ws) (λ last atoms. (last, Ok (a ∷ atoms))) (atoms_grow later ws) (λ last atoms. front_itself last last refl)) ends
    in
    let second = first_ends names (atoms_of names ws) (λ last atoms. (last, Ok (first.0 ∷ atoms))) (atoms_grow names ws) (λ last atoms. front_itself last last refl) first.2 in
    (atom_number names w first.0 first.1, atoms_known names ws second.0 second.1)

pub compounds_known : (names : List Named) (cs : List (List Word)) → Ends names (compounds_of names cs) → AllKnown names cs
unfolding compounds_of
compounds_known names [] ends = tt
compounds_known names (c ∷ cs) ends =
    let first = first_ends names (atoms_of names c) (λ later atoms. then_read (compounds_of later cs) (λ last compounds. (last, Ok ((record { atoms = atoms }) ∷ compounds)))) (atoms_grow names c)
    (λ later atoms. grows_then later (compounds_of later cs) (λ last compounds. (last, Ok ((record { atoms = atoms }) ∷ compounds))) (compounds_grow later cs) (λ last compounds. front_itself last last refl)) ends
    in
    let second = first_ends names (compounds_of names cs) (λ last compounds. (last, Ok ((record { atoms = first.0 }) ∷ compounds))) (compounds_grow names cs) (λ last compounds. front_itself last last refl) first.2 in
    (atoms_known names c first.0 first.1, compounds_known names cs (subst (Ends names) (sym second.1) refl))

-- ---- reading with known names

abbrev pub compound_in : List Named → List Word → Compound
compound_in names ws = record { atoms = map (number names) ws }

atoms_read : (names : List Named) (ws : List Word) → AreKnown names ws → atoms_of names ws ≡ (names, Ok (map (number names) ws))
unfolding atoms_of
atoms_read names [] known = refl
atoms_read names (w ∷ ws) known = rw (known.0, atoms_read names ws known.1) refl

compounds_read : (names : List Named) (cs : List (List Word)) → AllKnown names cs → compounds_of names cs ≡ (names, Ok (map (compound_in names) cs))
unfolding compounds_of
compounds_read names [] known = refl
compounds_read names (c ∷ cs) known = rw (atoms_read names c known.0, compounds_read names cs known.1) refl

pub syntax_read : (names : List Named) (s : Syntax) → s.fault ≡ None → AllKnown names (s.names ∷ s.others) → read_syntax s names ≡ (names, Ok (selector_from (map (compound_in names) (s.names ∷ s.others)) s.joins))
unfolding read_syntax
syntax_read names s fault known = rw (compounds_read names (s.names ∷ s.others) known, fault) refl

-- ---- from left to right

-- behind a selector, whose last compound goes on
abbrev pub continued : List Named → Selector → Syntax → Selector
continued names s x = with_parts (with_atoms s (map (number names) x.names)) x.joins (map (compound_in names) x.others)

abbrev pub words_in : List Named → Option Word → List ℕ
words_in names None = []
words_in names (Some w) = number names w ∷ []

continued_part : (names : List Named) (s : Selector) (w : Option Word) (x : Syntax) → continued names s (with_item (part w) x) ≡ continued names (with_atoms s (words_in names w)) x
continued_part names s None x =
    ap (λ (as' : List ℕ). with_parts (record { subject = as' ++ map (number names) x.names; outer = s.outer }) x.joins (map (compound_in names) x.others)) (sym (append-nil s.subject))
continued_part names s (Some w) x =
    ap (λ (as' : List ℕ). with_parts (record { subject = as'; outer = s.outer }) x.joins (map (compound_in names) x.others)) (sym (append_assoc s.subject (number names w ∷ []) (map (number names) x.names)))

continued_join : (names : List Named) (s : Selector) (j : Join) (x : Syntax) → continued names s (with_item (joined j) x) ≡ continued names (behind_join (join_of j) s) x
continued_join names s j x =
    ap (λ (as' : List ℕ). with_parts (record { subject = map (number names) x.names; outer = record { join = join_of j; atoms = as' } ∷ s.outer }) x.joins (map (compound_in names) x.others)) (append-nil s.subject)

continued_end : (names : List Named) (s : Selector) → continued names s (nothing None) ≡ s
continued_end names s = ap (λ (as' : List ℕ). record { subject = as'; outer = s.outer }) (append-nil s.subject)

-- ---- what is left

-- of each part that is judged these are the atoms
abbrev pub HasWord : (List ℕ → List ℕ) → List Named → (wanted : Bool) → (k : Kind) → (text : List ℕ) → IsToken wanted k text → Bool → Type 0
HasWord atoms names true Judged text is true = Unit {0}
HasWord atoms names true Judged text is false = atoms text ≡ words_in names is.0
HasWord atoms names false Judged text is true = Unit {0}
HasWord atoms names false Judged text is false = atoms text ≡ words_in names is.0
HasWord atoms names wanted k text is gone = Unit {0}

abbrev pub HaveWords : (List ℕ → List ℕ) → List Named → (wanted : Bool) → (w : Wide) → AreTokens wanted w → Type 0
HaveWords atoms names true [] are = Unit {0}
HaveWords atoms names false [] are = Unit {0}
HaveWords atoms names true (t ∷ ts) are = HasWord atoms names true t.kind t.text are.0 (goes (kinds ts)) × HaveWords atoms names (is_combinator t.kind) ts are.1
HaveWords atoms names false (t ∷ ts) are = HasWord atoms names false t.kind t.text are.0 (goes (kinds ts)) × HaveWords atoms names (is_combinator t.kind) ts are.1

token_left : (atoms : List ℕ → List ℕ) (names : List Named) (wanted : Bool) (k : Kind) (text : List ℕ) (is : IsToken wanted k text) (g : Bool) (pre : Wide) (x : Syntax) → HasWord atoms names wanted k text is g
    → continued names (dropped_back atoms (if is_combinator k then Rattle.widen_sheet.specs.Wide.is_sibling k else g) pre) (kept_token wanted k text is g x) ≡ continued names (dropped_back atoms g ((record { kind = k; text = text }) ∷ pre)) x
token_left atoms names true Judged text is true pre x has = refl
token_left atoms names false Judged text is true pre x has = refl
token_left atoms names true Judged text is false pre x has = continued_part names (dropped_back atoms false pre) is.0 x ∙ ap (λ (as' : List ℕ). continued names (with_atoms (dropped_back atoms false pre) as') x) (sym has)
token_left atoms names false Judged text is false pre x has = continued_part names (dropped_back atoms false pre) is.0 x ∙ ap (λ (as' : List ℕ). continued names (with_atoms (dropped_back atoms false pre) as') x) (sym has)
token_left atoms names true Other text is g pre x has = refl
token_left atoms names false Other text is g pre x has = refl
token_left atoms names true Inside text is g pre x has = absurd is
token_left atoms names true Child text is g pre x has = absurd is
token_left atoms names true Next text is g pre x has = absurd is
token_left atoms names true Later text is g pre x has = absurd is
token_left atoms names false Inside text is g pre x has = continued_join names (dropped_back atoms false pre) code.Inside x
token_left atoms names false Child text is g pre x has = continued_join names (dropped_back atoms false pre) code.Child x
token_left atoms names false Next text is g pre x has = refl
token_left atoms names false Later text is g pre x has = refl

reverse_step : (t : Token) (ts pre : Wide) → reverse (t ∷ ts) ++ pre ≡ reverse ts ++ (t ∷ pre)
reverse_step t ts pre = ap (λ (r : Wide). r ++ pre) (reverse-append (t ∷ []) ts) ∙ append_assoc (reverse ts) (t ∷ []) pre

left_from : (atoms : List ℕ → List ℕ) (names : List Named) (ts pre : Wide) (wanted : Bool) (are : AreTokens wanted ts) → HaveWords atoms names wanted ts are
    → continued names (dropped_back atoms (goes (kinds ts)) pre) (kept wanted ts are) ≡ dropped_back atoms false (reverse ts ++ pre)
left_from atoms names [] pre true are have = continued_end names (dropped_back atoms false pre)
left_from atoms names [] pre false are have = continued_end names (dropped_back atoms false pre)
left_from atoms names (t ∷ ts) pre true are have =
    token_left atoms names true t.kind t.text are.0 (goes (kinds ts)) pre (kept (is_combinator t.kind) ts are.1) have.0 ∙ left_from atoms names ts (t ∷ pre) (is_combinator t.kind) are.1 have.1 ∙ ap (dropped_back atoms false) (sym (reverse_step t ts pre))
left_from atoms names (t ∷ ts) pre false are have =
    token_left atoms names false t.kind t.text are.0 (goes (kinds ts)) pre (kept (is_combinator t.kind) ts are.1) have.0 ∙ left_from atoms names ts (t ∷ pre) (is_combinator t.kind) are.1 have.1 ∙ ap (dropped_back atoms false) (sym (reverse_step t ts pre))

whole_left : (names : List Named) (x : Syntax) (atoms : List ℕ → List ℕ) (g : Bool) → continued names (simple []) (whole_kept g x) ≡ continued names (dropped_back atoms g []) x
whole_left names x atoms true = continued_join names (simple []) code.Inside x
whole_left names x atoms false = refl

pub kept_left : (atoms : List ℕ → List ℕ) (names : List Named) (w : Wide) (are : AreTokens true w) → HaveWords atoms names true w are → continued names (simple []) (whole_kept (goes (kinds w)) (kept true w are)) ≡ dropped atoms w
kept_left atoms names w are have =
    whole_left names (kept true w are) atoms (goes (kinds w)) ∙ left_from atoms names w [] true are have ∙ ap (dropped_back atoms false) (append-nil (reverse w))
