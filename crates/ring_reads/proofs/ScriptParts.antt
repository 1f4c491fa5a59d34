-- The selector of one class, and the markup of one box, as a script reads them.
use Rattle.std.proofs.Common.{◌≡◌, ℕ, zero, suc, ◌+◌, ◌-◌, ◌≤◌, ◌<◌, ◌^◌, ◌==◌, ◌||◌, not, Bool, true, false, nat_eq, List, [], ◌∷◌, length, codes, Option, Some, None, Ok, Err, refl, ap, subst, arith, length-append, append-nil}
use Rattle.std.specs.List.{starts_with}
use Rattle.std.specs.Fmt.{decimal}
use Rattle.std.proofs.lemmas.Bool.{lt-ltb}
use Rattle.std.proofs.lemmas.List.{take_all}
use Rattle.tp_base.specs.Names.{Named, place_in, placed, with_name}
use Rattle.tp_base.specs.declared.atoms.TheConstants.{MOST_ATOMS}
use Rattle.tp_base.specs.declared.atoms.AtomKind.TheVariants as kind
use Rattle.sel_text.specs.Bytes.{in_name, begins_name, name_len, behind_gap}
use Rattle.sel_text.specs.Grammar.{Word, any_part, first_part, name_at}
use Rattle.sel_text.specs.Lists.{behind_unit, from_comma, first_piece, more_pieces, pieces, read_pieces, read_strict_list}
use Rattle.sel_text.specs.Readable.{IsName}
use Rattle.sel_text.specs.Reading.{Ending, then_read, table_name, atom_of, atoms_of, compounds_of, read_syntax, read_piece}
use Rattle.sel_text.specs.Reading as one
use Rattle.sel_text.specs.Syntax.{Syntax, part, whole_part, first_item, item_at, nothing, with_item, syntax_from, syntax_of}
use Rattle.sel_text.specs.declared.selectors.Compound.{Compound}
use Rattle.sel_text.proofs.NameLemmas.{reads_name, no_comment, not_byte, name_begins}
use Rattle.sel_text.proofs.ByteRuns.{all_by, all_of_run}
use Rattle.ring_reads.specs.Readings.{IsRead}
use Rattle.ring_reads.specs.RingScripts.{ReadsClasses, ReadsRingRoots}
use Rattle.ring_reads.proofs.Digits.{Each, each_of, each_digit, each_prefix, not_parts}

-- ---- a selector

read_then : {A B : Type 0} (n m : ℕ) (e : Ending A) (f : List Named → A → Ending B) → IsRead n e → ((names : List Named) (x : A) → length names ≤ n → IsRead m (f names x)) → IsRead m (then_read e f)
read_then n m (names, Ok x) f here later = later names x here
read_then n m (names, Err e) f here later = absurd here

atom_read : (names : List Named) (w : Word) → length names < MOST_ATOMS → IsRead (length names + 1) (atom_of names w)
unfolding with_name
atom_read names w room = go (place_in names (table_name w))
  where
    go : (o : Option ℕ) → IsRead (length names + 1) (one.placed names (placed o names (table_name w)))
    go (Some place) = omega arith
    go None = rw (lt-ltb (length names) MOST_ATOMS room) (omega (arith, length-append names (table_name w ∷ [])))

-- a byte that neither parts a list nor begins a bracket or a comment
abbrev pub is_quiet : ℕ → Bool
is_quiet b = not (b == 44 || b == 91 || b == 47)

no_comma : (bs : List ℕ) → Each is_quiet bs → from_comma 0 bs ≡ []
unfolding from_comma behind_unit
no_comma [] each = refl
no_comma (b ∷ bs) each =
    let parts = not_parts (b == 44) (b == 91) (b == 47) each.0 in
    let none : starts_with nat_eq (b ∷ bs) (codes "/*") ≡ false = no_comment b bs parts.2 in
    let zero_left : length bs - length bs ≡ 0 = omega arith in
    rw (parts.0, parts.1, none, zero_left) (no_comma bs each.1)

syntax_ends : (to n skip : ℕ) (bs : List ℕ) → length bs ≤ skip → syntax_from false to n true skip bs ≡ nothing None
unfolding syntax_from
syntax_ends to n skip [] most = refl
syntax_ends to n zero (b ∷ bs) most = absurd (omega arith)
syntax_ends to n (suc skip) (b ∷ bs) most = syntax_ends to n skip bs (omega arith)

abbrev class_syntax : List ℕ → Syntax
class_syntax name = record { names = (kind.Class, name) ∷ []; joins = []; others = []; fault = None }

class_name : (to : ℕ) (name : List ℕ) → IsName name → name_at to kind.Class name ≡ Ok (Some (kind.Class, name), [])
class_name to name is = subst (λ (bs : List ℕ). name_at to kind.Class bs ≡ Ok (Some (kind.Class, name), [])) (append-nil name) (reads_name to kind.Class name [] is refl)

syntax_is : (to b : ℕ) (bs : List ℕ) → IsName (b ∷ bs) → syntax_of false to (46 ∷ b ∷ bs) ≡ class_syntax (b ∷ bs)
unfolding syntax_of syntax_from behind_gap item_at first_item first_part begins_name any_part whole_part
syntax_is to b bs is = rw (class_name to (b ∷ bs) is) (ap (λ s. with_item (part (Some (kind.Class, b ∷ bs))) s) (syntax_ends to 0 (length (b ∷ bs) - 0) (b ∷ bs) (omega arith)))

one_class : (to b : ℕ) (bs : List ℕ) (names : List Named) → IsName (b ∷ bs) → length names < MOST_ATOMS → IsRead (length names + 1) (read_piece false to (46 ∷ b ∷ bs) names)
unfolding read_piece read_syntax compounds_of atoms_of
one_class to b bs names is room =
    let more = length names + 1 in
    rw (syntax_is to b bs is)
    (read_then more more (then_read (then_read (atom_of names (kind.Class, b ∷ bs)) (λ later a. (later, Ok (a ∷ [])))) (λ later (atoms : List ℕ). let all : List Compound = (record { atoms = atoms }) ∷ [] in (later, Ok all))) _
    (read_then more more (then_read (atom_of names (kind.Class, b ∷ bs)) (λ later a. (later, Ok (a ∷ [])))) _
    (read_then more more (atom_of names (kind.Class, b ∷ bs)) (λ later a. (later, Ok (a ∷ []))) (atom_read names (kind.Class, b ∷ bs) room) (λ later a few. few))
    (λ later atoms few. few))
    (λ later compounds few. few))

one_piece : (text : List ℕ) → from_comma 0 text ≡ [] → pieces text ≡ (record { to = length text - 0; text = text }) ∷ []
unfolding pieces first_piece more_pieces
one_piece text none = rw none (ap (λ (bs : List ℕ). (record { to = length text - 0; text = bs }) ∷ []) (take_all (length text - 0) text (omega arith)))

class_list : (b : ℕ) (bs : List ℕ) (names : List Named) → IsName (b ∷ bs) → Each is_quiet (b ∷ bs) → length names < MOST_ATOMS → IsRead (length names + 1) (read_strict_list (46 ∷ b ∷ bs) names)
unfolding read_strict_list read_pieces
class_list b bs names is each room =
    let more = length names + 1 in
    let none = no_comma (46 ∷ b ∷ bs) (refl, each) in
    rw (one_piece (46 ∷ b ∷ bs) none)
    (read_then more more (read_piece false (length (46 ∷ b ∷ bs) - 0) (46 ∷ b ∷ bs) names) _ (one_class (length (46 ∷ b ∷ bs) - 0) b bs names is room) (λ later s few. few))

quiet_name : (b : ℕ) → in_name b ≡ true → is_quiet b ≡ true
quiet_name b is = rw (not_byte in_name 44 b refl is, not_byte in_name 91 b refl is, not_byte in_name 47 b refl is) refl

pub reads_classes : ReadsClasses
reads_classes [] names is room = absurd (let some = is.some in omega (arith, some))
reads_classes (b ∷ bs) names is room =
    class_list b bs names is (each_of is_quiet (b ∷ bs) (all_by in_name is_quiet quiet_name (b ∷ bs) (all_of_run in_name (b ∷ bs) (name_begins (b ∷ bs) is).1))) room

begins : (bs : List ℕ) → begins_name (107 ∷ bs) ≡ true
unfolding begins_name
begins [] = refl
begins (b ∷ bs) = refl

box_name : (i : ℕ) → i < 2 ^ 64 → IsName (107 ∷ decimal i)
unfolding name_len
box_name i small =
    let all = each_prefix in_name (107 ∷ decimal i) (refl, each_digit in_name refl i small) in
    record { some = omega arith; whole = rw (begins (decimal i)) all }

pub reads_roots : ReadsRingRoots
reads_roots i names few room = reads_classes (107 ∷ decimal i) names (box_name i (omega (arith, few))) room
