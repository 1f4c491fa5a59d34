-- A selector that is skipped says so at a byte of its text, or at its end.
use Rattle.std.proofs.Common.{◌≡◌, ℕ, zero, suc, ◌-◌, ◌≤◌, Bool, true, false, if◌then◌else◌, List, [], ◌∷◌, length, Option, None, Some, Ok, Err, sym, subst, ◌∙◌, arith}
use Rattle.std.specs.Prelude.{◌≢◌}
use Rattle.std.specs.Option.{ok_or}
use Rattle.tp_base.specs.Names.{Named}
use Rattle.tp_base.specs.declared.atoms.AtomKind.{AtomKind}
use Rattle.sel_text.specs.declared.faults.Skip.{Skip}
use Rattle.sel_text.specs.declared.faults.Skip.TheVariants.{Bad}
use Rattle.sel_text.specs.declared.faults.SelFault.{SelFault}
use Rattle.sel_text.specs.declared.faults.SelFault.TheVariants.{Skipped, TooManyAtoms, Memory}
use Rattle.sel_text.specs.declared.selectors.Compound.{Compound}
use Rattle.sel_text.specs.declared.selectors.Join.{Join}
use Rattle.sel_text.specs.Grammar.{Outcome, ◌>>=◌, left_at, Begun, whole, wanting, any_part, first_part, Word, name_at, part_of, behind_child, behind_space, behind_near, join_at}
use Rattle.sel_text.specs.Syntax.{Item, part, joined, ended, whole_part, first_item, behind_join, later_item, item_at, finished_after, begun_after, Syntax, with_item, then_syntax, syntax_from, syntax_of}
use Rattle.sel_text.specs.Reading.{Ending, then_read, placed, atom_of, atoms_of, compounds_of, selector_or, read_syntax, read_piece, read_selector}
use Rattle.sel_text.specs.Selectors.{Selector}

-- the place of a cause is at most `to`
unfoldable IsBy : {A : Type 0} → ℕ → Outcome A → Type 0
IsBy to (Ok x) = Unit {0}
IsBy to (Err (Skipped why at)) = at ≤ to
IsBy to (Err TooManyAtoms) = Unit {0}
IsBy to (Err Memory) = Unit {0}

read_by : {A : Type 0} (to : ℕ) (x : A) → IsBy to (Ok x)
unfolding IsBy
read_by to x = tt

cause_by : (A : Type 0) (to : ℕ) (why : Skip) (at : ℕ) → at ≤ to → IsBy {A = A} to (Err (Skipped why at))
unfolding IsBy
cause_by A to why at within = within

chained : {A B : Type 0} (to : ℕ) (r : Outcome A) (f : A → Outcome B) → IsBy to r → ((x : A) → IsBy to (f x)) → IsBy to (r >>= f)
unfolding IsBy
chained to (Ok x) f here later = later x
chained to (Err (Skipped why at)) f here later = here
chained to (Err TooManyAtoms) f here later = tt
chained to (Err Memory) f here later = tt

chosen : {A : Type 0} (to : ℕ) (test : Bool) (r s : Outcome A) → IsBy to r → IsBy to s → IsBy to (if test then r else s)
chosen to true r s first second = first
chosen to false r s first second = second

left_by : (A : Type 0) (to : ℕ) (before at : List ℕ) → IsBy {A = A} to (Err (left_at to before at))
unfolding left_at
left_by A to before at = cause_by A to _ _ (omega arith)

some_by : {A : Type 0} (to : ℕ) (o : Option A) (before at : List ℕ) → IsBy to (ok_or o (left_at to before at))
some_by {A = A} to None before at = left_by A to before at
some_by to (Some x) before at = read_by to x

name_by : (to : ℕ) (k : AtomKind) (bs : List ℕ) → IsBy to (name_at to k bs)
unfolding name_at
name_by to k bs = chosen to _ _ _ (read_by to _) (left_by _ to bs _)

part_by : (to : ℕ) (b : Begun) → IsBy to (part_of to b)
part_by to (whole w rest) = read_by to _
part_by to (wanting k bs) = name_by to k bs

whole_by : (to : ℕ) (b : Begun) → IsBy to (whole_part to b)
unfolding whole_part
whole_by to b = chained to (part_of to b) _ (part_by to b) (λ p. read_by to _)

first_by : (drops : Bool) (to n : ℕ) (bs : List ℕ) → IsBy to (first_item drops to n bs)
unfolding first_item
first_by drops to n bs = chained to (ok_or (first_part drops bs) _) _ (some_by to (first_part drops bs) bs bs) (λ b. chosen to _ _ _ (whole_by to b) (cause_by _ to _ _ (omega arith)))

child_by : (to : ℕ) (bs : List ℕ) → IsBy to (behind_child to bs)
unfolding behind_child
child_by to bs = chosen to _ _ _ (left_by _ to bs _) (read_by to _)

space_by : (to : ℕ) (bs : List ℕ) → IsBy to (behind_space to bs)
unfolding behind_space
space_by to [] = read_by to _
space_by to (b ∷ bs) = chosen to _ _ _ (child_by to bs) (read_by to _)

near_by : (to : ℕ) (bs : List ℕ) → IsBy to (behind_near to bs)
unfolding behind_near
near_by to [] = read_by to _
near_by to (b ∷ bs) = chosen to _ _ _ (space_by to _) (chosen to _ _ _ (child_by to bs) (read_by to _))

join_by : (to : ℕ) (bs : List ℕ) → IsBy to (join_at to bs)
unfolding join_at
join_by to bs = near_by to _

behind_by : (drops : Bool) (to : ℕ) (j : Option Join × List ℕ) → IsBy to (behind_join drops to j)
behind_by drops to (Some j, bs) = read_by to _
behind_by drops to (None, []) = read_by to _
behind_by drops to (None, b ∷ bs) = chained to (ok_or (any_part drops (b ∷ bs)) _) _ (some_by to (any_part drops (b ∷ bs)) (b ∷ bs) (b ∷ bs)) (whole_by to)

later_by : (drops : Bool) (to : ℕ) (bs : List ℕ) → IsBy to (later_item drops to bs)
unfolding later_item
later_by drops to bs = chained to (join_at to bs) _ (join_by to bs) (behind_by drops to)

item_by : (drops : Bool) (to n : ℕ) (begun : Bool) (bs : List ℕ) → IsBy to (item_at drops to n begun bs)
unfolding item_at
item_by drops to n begun bs = chosen to begun _ _ (later_by drops to bs) (first_by drops to n bs)

-- ---- a text

IsFaultBy : ℕ → Option SelFault → Type 0
IsFaultBy to None = Unit {0}
IsFaultBy to (Some e) = IsBy {A = Selector} to (Err e)

with_item_by : (to : ℕ) (i : Item) (s : Syntax) → IsFaultBy to s.fault → IsFaultBy to (with_item i s).fault
with_item_by to (part None) s is = is
with_item_by to (part (Some w)) s is = is
with_item_by to (joined j) s is = is
with_item_by to ended s is = is

then_by : (to : ℕ) (o : Outcome (Item × List ℕ)) (f : Item → List ℕ → Syntax) → IsBy to o → ((i : Item) (rest : List ℕ) → IsFaultBy to (f i rest).fault) → IsFaultBy to (then_syntax o f).fault
unfolding IsBy IsFaultBy
then_by to (Ok (i, rest)) f here later = with_item_by to i (f i rest) (later i rest)
then_by to (Err (Skipped why at)) f here later = here
then_by to (Err TooManyAtoms) f here later = tt
then_by to (Err Memory) f here later = tt

end_by : (begun : Bool) (to : ℕ) → IsFaultBy to (if begun then None else Some (Skipped Bad to))
unfolding IsFaultBy
end_by true to = tt
end_by false to = cause_by Selector to Bad to (omega arith)

syntax_by : (drops : Bool) (to n : ℕ) (begun : Bool) (skip : ℕ) (bs : List ℕ) → IsFaultBy to (syntax_from drops to n begun skip bs).fault
unfolding syntax_from
syntax_by drops to n begun skip [] = end_by begun to
syntax_by drops to n begun (suc skip) (b ∷ bs) = syntax_by drops to n begun skip bs
syntax_by drops to n begun zero (b ∷ bs) =
    then_by to (item_at drops to n begun (b ∷ bs)) _ (item_by drops to n begun (b ∷ bs)) (λ i rest. syntax_by drops to (finished_after n i) (begun_after begun i) (length bs - length rest) bs)

-- ---- its names

then_read_by : {A B : Type 0} (to : ℕ) (e : Ending A) (f : List Named → A → Ending B) → IsBy to e.1 → ((later : List Named) (x : A) → IsBy to (f later x).1) → IsBy to (then_read e f).1
unfolding IsBy
then_read_by to (names, Ok x) f here later = later names x
then_read_by to (names, Err (Skipped why at)) f here later = here
then_read_by to (names, Err TooManyAtoms) f here later = tt
then_read_by to (names, Err Memory) f here later = tt

placed_by : (to : ℕ) (names : List Named) (o : Option (ℕ × List Named)) → IsBy to (placed names o).1
unfolding IsBy
placed_by to names None = tt
placed_by to names (Some e) = tt

atoms_by : (to : ℕ) (names : List Named) (words : List Word) → IsBy to (atoms_of names words).1
unfolding atoms_of
atoms_by to names [] = read_by to _
atoms_by to names (w ∷ words) = then_read_by to (atom_of names w) _ (placed_by to names _) (λ later a. then_read_by to (atoms_of later words) _ (atoms_by to later words) (λ last atoms. read_by to _))

compounds_by : (to : ℕ) (names : List Named) (cs : List (List Word)) → IsBy to (compounds_of names cs).1
unfolding compounds_of
compounds_by to names [] = read_by to _
compounds_by to names (c ∷ cs) =
    then_read_by to (atoms_of names c) _ (atoms_by to names c) (λ later atoms. then_read_by to (compounds_of later cs) _ (compounds_by to later cs) (λ last compounds. read_by to _))

-- ---- a selector

selector_by : (to : ℕ) (fault : Option SelFault) (compounds : List Compound) (joins : List Join) → IsFaultBy to fault → IsBy to (selector_or fault compounds joins)
unfolding IsFaultBy
selector_by to None compounds joins is = read_by to _
selector_by to (Some e) compounds joins is = is

read_syntax_by : (to : ℕ) (s : Syntax) (names : List Named) → IsFaultBy to s.fault → IsBy to (read_syntax s names).1
unfolding read_syntax
read_syntax_by to s names is =
    then_read_by to (compounds_of names (s.names ∷ s.others)) _ (compounds_by to names (s.names ∷ s.others)) (λ later compounds. selector_by to s.fault compounds s.joins is)

piece_by : (text : List ℕ) (from to : ℕ) (names : List Named) → IsBy to (read_selector text from to names).1
unfolding read_selector read_piece syntax_of
piece_by text from to names = read_syntax_by to _ names (syntax_by true to 0 false 0 _)

skipped_by : (text : List ℕ) (from to : ℕ) (names later : List Named) (why : Skip) (at : ℕ) → read_selector text from to names ≡ (later, Err (Skipped why at)) → at ≤ to
unfolding IsBy
skipped_by text from to names later why at read = subst (λ (e : Ending Selector). IsBy to e.1) read (piece_by text from to names)

-- the same of a call that may find no memory
pub skipped_at : (e : SelFault) (why : Skip) (at : ℕ) (text : List ℕ) (from to : ℕ) (names later : List Named)
    → e ≡ Skipped why at → (e ≢ Memory → read_selector text from to names ≡ (later, Err e)) → at ≤ to
skipped_at e why at text from to names later is reads =
    let known : e ≢ Memory = λ (m : e ≡ Memory). let both : Skipped why at ≡ Memory = sym is ∙ m in cc in
    skipped_by text from to names later why at (rw is at (reads known))
