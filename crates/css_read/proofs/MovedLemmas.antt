-- The same text at another place reads the same, with its causes as far from its end.
use Rattle.std.proofs.Common.{◌≡◌, ℕ, zero, suc, ◌+◌, ◌-◌, ◌≤◌, ◌==◌, ◌&&◌, Bool, true, false, if◌then◌else◌, nat_lt, List, [], ◌∷◌, length, slice_range, Option, None, Some, option_map, Ok, Err, refl, ap, subst, arith}
use Rattle.std.specs.Option.{ok_or}
use Rattle.tp_base.specs.Names.{Named}
use Rattle.tp_base.specs.declared.atoms.AtomKind.{AtomKind}
use Rattle.sel_text.specs.declared.faults.Skip.TheVariants.{Bad, Long}
use Rattle.sel_text.specs.declared.faults.SelFault.{SelFault}
use Rattle.sel_text.specs.declared.faults.SelFault.TheVariants.{Skipped, TooManyAtoms, Memory}
use Rattle.sel_text.specs.declared.faults.TheConstants.{MOST_PARTS}
use Rattle.sel_text.specs.declared.selectors.Compound.{Compound}
use Rattle.sel_text.specs.declared.selectors.Join.{Join}
use Rattle.text_bytes.specs.Blanks.{is_blank}
use Rattle.sel_text.specs.Bytes.{behind_gap, name_len, begins_name}
use Rattle.sel_text.specs.Grammar.{Outcome, ◌>>=◌, is_empty, left_at, Front, attribute_part, Begun, whole, wanting, given, behind_dropped, any_part, first_part, Word, name_at, part_of, behind_child, behind_space, behind_near, join_at}
use Rattle.sel_text.specs.Syntax.{Item, part, joined, ended, whole_part, first_item, behind_join, later_item, item_at, finished_after, begun_after, Syntax, with_item, then_syntax, syntax_from, syntax_of}
use Rattle.sel_text.specs.Reading.{Ending, then_read, placed, atom_of, atoms_of, compounds_of, selector_or, read_syntax, read_piece, read_selector}
use Rattle.sel_text.specs.Selectors.{Selector}
use Rattle.css_read.proofs.Lengths.{gap_no_longer}

-- ---- outcomes

-- the same fault, as far from one end as from the other
abbrev pub IsSameFault : ℕ → ℕ → SelFault → SelFault → Type 0
IsSameFault to later (Skipped why at) (Skipped other other_at) = (why ≡ other) × (at + later ≡ other_at + to)
IsSameFault to later TooManyAtoms TooManyAtoms = Unit {0}
IsSameFault to later Memory Memory = Unit {0}
IsSameFault to later e f = ⊥

abbrev pub IsSame : {A : Type 0} → ℕ → ℕ → Outcome A → Outcome A → Type 0
IsSame to later (Ok x) (Ok y) = x ≡ y
IsSame to later (Err e) (Err f) = IsSameFault to later e f
IsSame to later r s = ⊥

fault_same : (A : Type 0) (to later : ℕ) (e f : SelFault) → IsSameFault to later e f → IsSame {A = A} to later (Err e) (Err f)
fault_same A to later e f same = same

chained : {A B : Type 0} (to later : ℕ) (r s : Outcome A) (f g : A → Outcome B) → IsSame to later r s → ((x : A) → IsSame to later (f x) (g x)) → IsSame to later (r >>= f) (s >>= g)
chained to later (Ok x) (Ok y) f g same more = subst (λ y. IsSame to later (f x) (g y)) same (more x)
chained to later (Ok x) (Err e) f g same more = absurd same
chained to later (Err e) (Ok y) f g same more = absurd same
chained to later (Err (Skipped why at)) (Err (Skipped other other_at)) f g same more = same
chained to later (Err (Skipped why at)) (Err TooManyAtoms) f g same more = absurd same
chained to later (Err (Skipped why at)) (Err Memory) f g same more = absurd same
chained to later (Err TooManyAtoms) (Err (Skipped why at)) f g same more = absurd same
chained to later (Err TooManyAtoms) (Err TooManyAtoms) f g same more = tt
chained to later (Err TooManyAtoms) (Err Memory) f g same more = absurd same
chained to later (Err Memory) (Err (Skipped why at)) f g same more = absurd same
chained to later (Err Memory) (Err TooManyAtoms) f g same more = absurd same
chained to later (Err Memory) (Err Memory) f g same more = tt

chosen : {A : Type 0} (to later : ℕ) (test : Bool) (r s r2 s2 : Outcome A) → IsSame to later r r2 → IsSame to later s s2 → IsSame to later (if test then r else s) (if test then r2 else s2)
chosen to later true r s r2 s2 first second = first
chosen to later false r s r2 s2 first second = second

-- ---- places

-- so many bytes are left, of no more than there are before either end
record IsWithin (to later n : ℕ) : Type 0 where
  first : n ≤ to
  second : n ≤ later

fewer : (to later m n : ℕ) → m ≤ n → IsWithin to later n → IsWithin to later m
fewer to later m n less within = record { first = omega (arith, within.first); second = omega (arith, within.second) }

place_same : (to later n : ℕ) → IsWithin to later n → to - n + later ≡ later - n + to
place_same to later n within = omega (arith, within.first, within.second)

left_same : (to later : ℕ) (before at : List ℕ) → IsWithin to later (length before) → length at ≤ length before → IsSameFault to later (left_at to before at) (left_at later before at)
unfolding left_at
left_same to later before at within few = (refl, place_same to later _ (fewer to later _ (length before) (pick (is_empty at) before at few) within))
  where
    pick : (test : Bool) (before at : List ℕ) → length at ≤ length before → length (if test then before else at) ≤ length before
    pick true before at few = omega arith
    pick false before at few = few

or_same : {A : Type 0} (to later : ℕ) (o : Option A) (before at : List ℕ) → IsWithin to later (length before) → length at ≤ length before → IsSame to later (ok_or o (left_at to before at)) (ok_or o (left_at later before at))
or_same {A = A} to later None before at within few = fault_same A to later (left_at to before at) (left_at later before at) (left_same to later before at within few)
or_same to later (Some x) before at within few = refl

-- ---- parts

name_same : (to later : ℕ) (k : AtomKind) (bs : List ℕ) → IsWithin to later (length bs) → IsSame to later (name_at to k bs) (name_at later k bs)
unfolding name_at
name_same to later k bs within =
    let at = behind_gap false 0 bs in
    chosen to later (nat_lt 0 (name_len at)) _ _ _ _ refl (fault_same (Option Word × List ℕ) to later (left_at to bs at) (left_at later bs at) (left_same to later bs at within (gap_no_longer false 0 bs)))

abbrev BegunWithin : ℕ → ℕ → Begun → Type 0
BegunWithin to later (whole w rest) = Unit {0}
BegunWithin to later (wanting k bs) = IsWithin to later (length bs)

abbrev IfBegun : ℕ → ℕ → Option Begun → Type 0
IfBegun to later None = Unit {0}
IfBegun to later (Some b) = BegunWithin to later b

begun_either : (to later : ℕ) (test : Bool) (o p : Option Begun) → IfBegun to later o → IfBegun to later p → IfBegun to later (if test then o else p)
begun_either to later true o p first second = first
begun_either to later false o p first second = second

dropped_within : (to later : ℕ) (o : Option (List ℕ)) → IfBegun to later (option_map (λ rest. whole None rest) o)
dropped_within to later None = tt
dropped_within to later (Some rest) = tt

given_within : (to later : ℕ) (p : Front Word) → IfBegun to later (given p)
given_within to later None = tt
given_within to later (Some w) = tt

any_within : (drops : Bool) (to later : ℕ) (bs : List ℕ) → IsWithin to later (length bs) → IfBegun to later (any_part drops bs)
unfolding any_part
any_within drops to later [] within = tt
any_within drops to later (b ∷ bs) within =
    let less = fewer to later (length bs) (length (b ∷ bs)) (omega arith) within in
    begun_either to later (b == 46) _ _ less (begun_either to later (b == 35) _ _ less (begun_either to later (b == 91) _ _ (given_within to later (attribute_part bs))
    (begun_either to later (drops && b == 58) _ None (dropped_within to later (behind_dropped bs)) tt)))

first_within : (drops : Bool) (to later : ℕ) (bs : List ℕ) → IsWithin to later (length bs) → IfBegun to later (first_part drops bs)
unfolding first_part
first_within drops to later [] within = tt
first_within drops to later (b ∷ bs) within = begun_either to later (b == 42) _ _ tt (begun_either to later (begins_name (b ∷ bs)) _ _ within (any_within drops to later (b ∷ bs) within))

part_same : (to later : ℕ) (b : Begun) → BegunWithin to later b → IsSame to later (part_of to b) (part_of later b)
part_same to later (whole w rest) within = refl
part_same to later (wanting k bs) within = name_same to later k bs within

whole_same : (to later : ℕ) (b : Begun) → BegunWithin to later b → IsSame to later (whole_part to b) (whole_part later b)
unfolding whole_part
whole_same to later b within = chained to later (part_of to b) (part_of later b) _ _ (part_same to later b within) (λ p. refl)

-- a part, where one begins
then_part : (to later : ℕ) (o : Option Begun) (before at : List ℕ) (f g : Begun → Outcome (Item × List ℕ)) → IsWithin to later (length before) → length at ≤ length before → IfBegun to later o
    → ((b : Begun) → BegunWithin to later b → IsSame to later (f b) (g b)) → IsSame to later (ok_or o (left_at to before at) >>= f) (ok_or o (left_at later before at) >>= g)
then_part to later None before at f g within few begun more = fault_same (Item × List ℕ) to later (left_at to before at) (left_at later before at) (left_same to later before at within few)
then_part to later (Some b) before at f g within few begun more = more b begun

first_same : (drops : Bool) (to later n : ℕ) (bs : List ℕ) → IsWithin to later (length bs) → IsSame to later (first_item drops to n bs) (first_item drops later n bs)
unfolding first_item
first_same drops to later n bs within =
    then_part to later (first_part drops bs) bs bs _ _ within (omega arith) (first_within drops to later bs within)
    (λ b is. chosen to later (nat_lt n MOST_PARTS) _ _ _ _ (whole_same to later b is) (fault_same (Item × List ℕ) to later (Skipped Long (to - length bs)) (Skipped Long (later - length bs)) (refl, place_same to later (length bs) within)))

-- ---- between compounds

child_same : (to later : ℕ) (bs : List ℕ) → IsWithin to later (length bs) → IsSame to later (behind_child to bs) (behind_child later bs)
unfolding behind_child
child_same to later bs within =
    let at = behind_gap true 0 bs in
    chosen to later (is_empty at) _ _ _ _ (fault_same (Option Join × List ℕ) to later (left_at to bs at) (left_at later bs at) (left_same to later bs at within (gap_no_longer true 0 bs))) refl

space_same : (to later : ℕ) (bs : List ℕ) → IsWithin to later (length bs) → IsSame to later (behind_space to bs) (behind_space later bs)
unfolding behind_space
space_same to later [] within = refl
space_same to later (b ∷ bs) within = chosen to later (b == 62) _ _ _ _ (child_same to later bs (fewer to later (length bs) (length (b ∷ bs)) (omega arith) within)) refl

near_same : (to later : ℕ) (bs : List ℕ) → IsWithin to later (length bs) → IsSame to later (behind_near to bs) (behind_near later bs)
unfolding behind_near
near_same to later [] within = refl
near_same to later (b ∷ bs) within =
    chosen to later (is_blank b) _ _ _ _ (space_same to later (behind_gap true 0 bs) (fewer to later _ (length (b ∷ bs)) (omega (arith, gap_no_longer true 0 bs)) within))
    (chosen to later (b == 62) _ _ _ _ (child_same to later bs (fewer to later (length bs) (length (b ∷ bs)) (omega arith) within)) refl)

-- what stands behind a join is no longer
abbrev IfWithin : ℕ → ℕ → Outcome (Option Join × List ℕ) → Type 0
IfWithin to later (Ok j) = IsWithin to later (length j.1)
IfWithin to later (Err e) = Unit {0}

if_either : (to later : ℕ) (test : Bool) (r s : Outcome (Option Join × List ℕ)) → IfWithin to later r → IfWithin to later s → IfWithin to later (if test then r else s)
if_either to later true r s first second = first
if_either to later false r s first second = second

child_within : (to later end : ℕ) (bs : List ℕ) → IsWithin to later (length bs) → IfWithin to later (behind_child end bs)
unfolding behind_child
child_within to later end bs within = if_either to later (is_empty (behind_gap true 0 bs)) _ _ tt (fewer to later _ (length bs) (gap_no_longer true 0 bs) within)

space_within : (to later end : ℕ) (bs : List ℕ) → IsWithin to later (length bs) → IfWithin to later (behind_space end bs)
unfolding behind_space
space_within to later end [] within = within
space_within to later end (b ∷ bs) within = if_either to later (b == 62) _ _ (child_within to later end bs (fewer to later (length bs) (length (b ∷ bs)) (omega arith) within)) within

near_within : (to later end : ℕ) (bs : List ℕ) → IsWithin to later (length bs) → IfWithin to later (behind_near end bs)
unfolding behind_near
near_within to later end [] within = within
near_within to later end (b ∷ bs) within =
    if_either to later (is_blank b) _ _ (space_within to later end (behind_gap true 0 bs) (fewer to later _ (length (b ∷ bs)) (omega (arith, gap_no_longer true 0 bs)) within))
    (if_either to later (b == 62) _ _ (child_within to later end bs (fewer to later (length bs) (length (b ∷ bs)) (omega arith) within)) within)

behind_same : (drops : Bool) (to later : ℕ) (j : Option Join × List ℕ) → IsWithin to later (length j.1) → IsSame to later (behind_join drops to j) (behind_join drops later j)
behind_same drops to later (Some j, bs) within = refl
behind_same drops to later (None, []) within = refl
behind_same drops to later (None, b ∷ bs) within = then_part to later (any_part drops (b ∷ bs)) (b ∷ bs) (b ∷ bs) _ _ within (omega arith) (any_within drops to later (b ∷ bs) within) (whole_same to later)

joined_same : (drops : Bool) (to later : ℕ) (r s : Outcome (Option Join × List ℕ)) → IsSame to later r s → IfWithin to later r → IsSame to later (r >>= λ j. behind_join drops to j) (s >>= λ j. behind_join drops later j)
joined_same drops to later (Ok x) (Ok y) same within = subst (λ (j : Option Join × List ℕ). IsSame to later (behind_join drops to x) (behind_join drops later j)) same (behind_same drops to later x within)
joined_same drops to later (Ok x) (Err e) same within = absurd same
joined_same drops to later (Err e) (Ok y) same within = absurd same
joined_same drops to later (Err e) (Err f) same within = same

later_same : (drops : Bool) (to later : ℕ) (bs : List ℕ) → IsWithin to later (length bs) → IsSame to later (later_item drops to bs) (later_item drops later bs)
unfolding later_item join_at
later_same drops to later bs within =
    let at = behind_gap false 0 bs in
    let few = fewer to later (length at) (length bs) (gap_no_longer false 0 bs) within in
    joined_same drops to later (behind_near to at) (behind_near later at) (near_same to later at few) (near_within to later to at few)

item_same : (drops : Bool) (to later n : ℕ) (begun : Bool) (bs : List ℕ) → IsWithin to later (length bs) → IsSame to later (item_at drops to n begun bs) (item_at drops later n begun bs)
unfolding item_at
item_same drops to later n begun bs within = chosen to later begun _ _ _ _ (later_same drops to later bs within) (first_same drops to later n bs within)

-- ---- a text

abbrev IsSameEnd : ℕ → ℕ → Option SelFault → Option SelFault → Type 0
IsSameEnd to later None None = Unit {0}
IsSameEnd to later (Some e) (Some f) = IsSameFault to later e f
IsSameEnd to later e f = ⊥

record IsSameSyntax (to later : ℕ) (s t : Syntax) : Type 0 where
  names : s.names ≡ t.names
  joins : s.joins ≡ t.joins
  others : s.others ≡ t.others
  fault : IsSameEnd to later s.fault t.fault

with_same : (to later : ℕ) (i : Item) (s t : Syntax) → IsSameSyntax to later s t → IsSameSyntax to later (with_item i s) (with_item i t)
with_same to later (part None) s t same = same
with_same to later (part (Some w)) s t same = record { names = ap (λ (ws : List Word). w ∷ ws) same.names; joins = same.joins; others = same.others; fault = same.fault }
with_same to later (joined j) s t same = record { names = refl; joins = ap (λ (js : List Join). j ∷ js) same.joins; others = cons_same s.names t.names s.others t.others same.names same.others; fault = same.fault }
  where
    cons_same : (a b : List Word) (xs ys : List (List Word)) → a ≡ b → xs ≡ ys → a ∷ xs ≡ b ∷ ys
    cons_same a b xs ys first others = cc
with_same to later ended s t same = same

then_same : (to later : ℕ) (r s : Outcome (Item × List ℕ)) (f g : Item → List ℕ → Syntax) → IsSame to later r s → ((i : Item) (rest : List ℕ) → IsSameSyntax to later (f i rest) (g i rest)) → IsSameSyntax to later (then_syntax r f) (then_syntax s g)
then_same to later (Ok (i, rest)) (Ok y) f g same more = subst (λ (p : Item × List ℕ). IsSameSyntax to later (with_item i (f i rest)) (then_syntax (Ok p) g)) same (with_same to later i (f i rest) (g i rest) (more i rest))
then_same to later (Ok x) (Err e) f g same more = absurd same
then_same to later (Err e) (Ok y) f g same more = absurd same
then_same to later (Err e) (Err f2) f g same more = record { names = refl; joins = refl; others = refl; fault = same }

end_same : (to later : ℕ) (begun : Bool) → IsSameEnd to later (if begun then None else Some (Skipped Bad to)) (if begun then None else Some (Skipped Bad later))
end_same to later true = tt
end_same to later false = (refl, omega arith)

syntax_same : (drops : Bool) (to later n : ℕ) (begun : Bool) (skip : ℕ) (bs : List ℕ) → IsWithin to later (length bs) → IsSameSyntax to later (syntax_from drops to n begun skip bs) (syntax_from drops later n begun skip bs)
unfolding syntax_from
syntax_same drops to later n begun skip [] within = record { names = refl; joins = refl; others = refl; fault = end_same to later begun }
syntax_same drops to later n begun (suc skip) (b ∷ bs) within = syntax_same drops to later n begun skip bs (fewer to later (length bs) (length (b ∷ bs)) (omega arith) within)
syntax_same drops to later n begun zero (b ∷ bs) within =
    then_same to later (item_at drops to n begun (b ∷ bs)) (item_at drops later n begun (b ∷ bs)) _ _ (item_same drops to later n begun (b ∷ bs) within)
    (λ i rest. syntax_same drops to later (finished_after n i) (begun_after begun i) (length bs - length rest) bs (fewer to later (length bs) (length (b ∷ bs)) (omega arith) within))

-- ---- a selector

pub record IsSameEnding (to later : ℕ) (e f : Ending Selector) : Type 0 where
  pub names : e.0 ≡ f.0
  pub outcome : IsSame to later e.1 f.1

or_fault : (to later : ℕ) (e f : Option SelFault) (compounds : List Compound) (joins js : List Join) → joins ≡ js → IsSameEnd to later e f → IsSame to later (selector_or e compounds joins) (selector_or f compounds js)
or_fault to later None None compounds joins js same end = rw same refl
or_fault to later None (Some f) compounds joins js same end = absurd end
or_fault to later (Some e) None compounds joins js same end = absurd end
or_fault to later (Some e) (Some f) compounds joins js same end = end

-- names are entered, or find no room
abbrev pub OfNames : {A : Type 0} → Ending A → Type 0
OfNames (names, Ok x) = Unit {0}
OfNames (names, Err TooManyAtoms) = Unit {0}
OfNames (names, Err (Skipped why at)) = ⊥
OfNames (names, Err Memory) = ⊥

then_names : {A B : Type 0} (e : Ending A) (f : List Named → A → Ending B) → OfNames e → ((names : List Named) (x : A) → OfNames (f names x)) → OfNames (then_read e f)
then_names (names, Ok x) f here later = later names x
then_names (names, Err TooManyAtoms) f here later = tt
then_names (names, Err (Skipped why at)) f here later = absurd here
then_names (names, Err Memory) f here later = absurd here

placed_names : (names : List Named) (o : Option (ℕ × List Named)) → OfNames (placed names o)
placed_names names None = tt
placed_names names (Some e) = tt

atoms_names : (names : List Named) (words : List Word) → OfNames (atoms_of names words)
unfolding atoms_of
atoms_names names [] = tt
atoms_names names (w ∷ words) = then_names (atom_of names w) _ (placed_names names _) (λ later a. then_names (atoms_of later words) _ (atoms_names later words) (λ last atoms. tt))

pub compounds_names : (names : List Named) (cs : List (List Word)) → OfNames (compounds_of names cs)
unfolding compounds_of
compounds_names names [] = tt
compounds_names names (c ∷ cs) = then_names (atoms_of names c) _ (atoms_names names c) (λ later atoms. then_names (compounds_of later cs) _ (compounds_names later cs) (λ last compounds. tt))

compounds_then : (to later : ℕ) (e : Ending (List Compound)) (a b : Option SelFault) (joins js : List Join) → OfNames e → joins ≡ js → IsSameEnd to later a b
    → IsSameEnding to later (then_read e (λ names compounds. (names, selector_or a compounds joins))) (then_read e (λ names compounds. (names, selector_or b compounds js)))
compounds_then to later (names, Ok compounds) a b joins js of same end = record { names = refl; outcome = or_fault to later a b compounds joins js same end }
compounds_then to later (names, Err (Skipped why at)) a b joins js of same end = absurd of
compounds_then to later (names, Err TooManyAtoms) a b joins js of same end = record { names = refl; outcome = tt }
compounds_then to later (names, Err Memory) a b joins js of same end = absurd of

read_same : (to later : ℕ) (s t : Syntax) (names : List Named) → IsSameSyntax to later s t → IsSameEnding to later (read_syntax s names) (read_syntax t names)
unfolding read_syntax
read_same to later s t names same =
    let words : s.names ∷ s.others ≡ t.names ∷ t.others = cons_same s.names t.names s.others t.others same.names same.others in
    subst (λ (ws : List (List Word)). IsSameEnding to later (then_read (compounds_of names (s.names ∷ s.others)) (λ names compounds. (names, selector_or s.fault compounds s.joins))) (then_read (compounds_of names ws) (λ names compounds. (names, selector_or t.fault compounds t.joins)))) words
    (compounds_then to later (compounds_of names (s.names ∷ s.others)) s.fault t.fault s.joins t.joins (compounds_names names (s.names ∷ s.others)) same.joins same.fault)
  where
    cons_same : (a b : List Word) (xs ys : List (List Word)) → a ≡ b → xs ≡ ys → a ∷ xs ≡ b ∷ ys
    cons_same a b xs ys first others = cc

piece_same : (drops : Bool) (to later : ℕ) (bs : List ℕ) (names : List Named) → IsWithin to later (length bs) → IsSameEnding to later (read_piece drops to bs names) (read_piece drops later bs names)
unfolding read_piece syntax_of
piece_same drops to later bs names within = read_same to later _ _ names (syntax_same drops to later 0 false 0 (behind_gap true 0 bs) (fewer to later _ (length bs) (gap_no_longer true 0 bs) within))

-- The same bytes between two other offsets, maybe of another text, read as the same selector, or leave the grammar for the same cause as far from the end.
pub moved : (text other : List ℕ) (from to first later : ℕ) (names : List Named) → slice_range text from to ≡ slice_range other first later → length (slice_range text from to) ≤ to → length (slice_range text from to) ≤ later
    → IsSameEnding to later (read_selector text from to names) (read_selector other first later names)
unfolding read_selector
moved text other from to first later names same within within_later =
    subst (λ (bs : List ℕ). IsSameEnding to later (read_piece true to (slice_range text from to) names) (read_piece true later bs names)) same
    (piece_same true to later (slice_range text from to) names (record { first = within; second = within_later }))
