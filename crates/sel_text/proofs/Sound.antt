-- What is read is readable: its text reads as itself.
use Rattle.std.proofs.Common.{◌≡◌, ◌⊎◌, inl, inr, ℕ, zero, suc, ◌+◌, ◌-◌, ◌<◌, ◌≤◌, Bool, true, false, ◌==◌, ◌&&◌, nat_lt, if◌then◌else◌, List, [], ◌∷◌, ◌++◌, length, take, drop, map, Option, None, Some, Result, Ok, Err, IfOk, All, slice_get, option_map, refl, sym, ap, subst, ◌∙◌, arith, length-append}
use Rattle.std.proofs.lemmas.Bool.{cases_lt, lt-ltb, le-ltb}
use Rattle.std.specs.Char.{to_ascii_lowercase}
use Rattle.tp_base.specs.Names.{Named, with_name}
use Rattle.tp_base.specs.declared.atoms.AtomKind.{AtomKind}
use Rattle.tp_base.specs.declared.atoms.AtomKind.TheVariants as kind
use Rattle.tp_base.proofs.NamesLemmas.{with_name-keeps, with_name-at}
use Rattle.tp_base.proofs.Lists.{slice_get-append_left}
use Rattle.sel_text.specs.declared.faults.SelFault.{SelFault}
use Rattle.sel_text.specs.declared.faults.TheConstants.{MOST_PARTS}
use Rattle.sel_text.specs.declared.selectors.Compound.{Compound}
use Rattle.sel_text.specs.declared.selectors.Join.{Join}
use Rattle.sel_text.specs.Selectors as spec
use Rattle.sel_text.specs.Parts.{and_then, with_parts, selector_from}
use Rattle.sel_text.specs.Readable.{IsName, IsMarked, IsAttribute, IsPart, ArePartsOf, IsCompound, AreCompounds, IsReadable}
use Rattle.sel_text.specs.Bytes.{begins_name, name_len, behind_gap}
use Rattle.sel_text.specs.declared.faults.SelFault.TheVariants.{Skipped}
use Rattle.sel_text.specs.declared.faults.Skip.TheVariants.{Long, Bad}
use Rattle.std.specs.Option.{ok_or}
use Rattle.sel_text.specs.Grammar.{Outcome, ◌>>=◌, Begun, whole, wanting, given, Word, Front, any_part, attribute_part, first_part, behind_dropped, left_at, name_at, part_of, join_at}
use Rattle.sel_text.specs.Machine.{Draft, empty_draft, entered, with_word, with_join, with_part, first_step, later_step, behind_part, step, finished, run, then_run}
use Rattle.sel_text.specs.Reading.{spelled, table_name, Ending, read_piece}
use Rattle.sel_text.proofs.SameReading.{same_reading}
use Rattle.std.proofs.lemmas.List.{take-append-drop}
use Rattle.std.proofs.lemmas.List.Elements.{All-weaker, All-append, All-cons, All-nil}
use Rattle.std.proofs.lemmas.Option.{slice_get_within, same_Some}
use Rattle.sel_text.specs.Results.{IsFront, Reads}
use Rattle.sel_text.specs.Views.{selector_of}
use Rattle.sel_text.specs.declared.selectors.Selector.{Selector}
use Rattle.sel_text.specs.Readable.{asked_name}
use Rattle.sel_text.proofs.AskedLemmas.{IsAskedWord, attribute_asked, lowered_value, quoted_lowered, asked_in_lower, name_in_lower, lower_twice}
use Rattle.sel_text.proofs.Lowered.{name_lowered, name_front}

-- ---- outcomes

ok_same : {X : Type 0} (x y : X) → ◌≡◌ {A = Outcome X} (Ok x) (Ok y) → x ≡ y
ok_same x y e = cc

-- ---- names that came keep their numbers

Keeps : List Named → List Named → Type 0
Keeps names later = (i : ℕ) (n : Named) → slice_get names i ≡ Some n → slice_get later i ≡ Some n

marked_kept : (names later : List Named) → Keeps names later → (a : ℕ) → IsMarked names a → IsMarked later a
unfolding Keeps
marked_kept names later keeps a m = record { sort = m.sort; name = m.name; at = keeps a (m.sort, m.name) m.at; marked = m.marked; is_name = m.is_name }

part_kept : (names later : List Named) → Keeps names later → (a : ℕ) → IsPart names a → IsPart later a
unfolding Keeps
part_kept names later keeps a m = elim m [
  | inl x ↦ inl (marked_kept names later keeps a x)
  | inr x ↦ inr (record { name = x.name; value = x.value; at = keeps a (kind.Attr, asked_name x.name x.value) x.at; asked = x.asked; quoted = x.quoted })
]

all_parts_kept : (names later : List Named) → Keeps names later → (atoms : List ℕ) → ArePartsOf names atoms → ArePartsOf later atoms
all_parts_kept names later keeps [] m = tt
all_parts_kept names later keeps (a ∷ atoms) m = (part_kept names later keeps a m.0, all_parts_kept names later keeps atoms m.1)

compound_kept : (names later : List Named) → Keeps names later → (atoms : List ℕ) → IsCompound names atoms → IsCompound later atoms
unfolding Keeps
compound_kept names later keeps [] m = tt
compound_kept names later keeps (a ∷ atoms) m = (
  elim m.0 [
    | inl y ↦ inl (record { name = y.name; at = keeps a (kind.Element, y.name) y.at; is_name = y.is_name; lowered = y.lowered })
    | inr x ↦ inr (part_kept names later keeps a x)
  ],
  all_parts_kept names later keeps atoms m.1,
)

AreParts : List Named → List Compound → Type 0
AreParts names [] = Unit {0}
AreParts names (c ∷ parts) = IsCompound names c.atoms × AreParts names parts

parts_kept : (names later : List Named) → Keeps names later → (parts : List Compound) → AreParts names parts → AreParts later parts
unfolding AreParts
parts_kept names later keeps [] m = tt
parts_kept names later keeps (c ∷ parts) m = (compound_kept names later keeps c.atoms m.0, parts_kept names later keeps parts m.1)

-- ---- one more at the end

later_more : (names : List Named) (atoms : List ℕ) (a : ℕ) → ArePartsOf names atoms → IsPart names a → ArePartsOf names (atoms ++ a ∷ [])
later_more names [] a m x = (x, tt)
later_more names (b ∷ atoms) a m x = (m.0, later_more names atoms a m.1 x)

compound_more : (names : List Named) (atoms : List ℕ) (a : ℕ) → IsCompound names atoms → IsPart names a → IsCompound names (atoms ++ a ∷ [])
compound_more names [] a m x = (inr x, tt)
compound_more names (b ∷ atoms) a m x = (m.0, later_more names atoms a m.1 x)

parts_more : (names : List Named) (parts : List Compound) (c : Compound) → AreParts names parts → IsCompound names c.atoms → AreParts names (parts ++ c ∷ [])
unfolding AreParts
parts_more names [] c m x = (x, tt)
parts_more names (d ∷ parts) c m x = (m.0, parts_more names parts c m.1 x)

-- ---- parts as a selector

with_parts_readable : (names : List Named) (s : spec.Selector) (joins : List Join) (parts : List Compound) → IsCompound names s.subject → AreCompounds names s.outer → AreParts names parts
    → IsCompound names (with_parts s joins parts).subject × AreCompounds names (with_parts s joins parts).outer
unfolding AreParts
with_parts_readable names s [] parts subject outer m = (subject, outer)
with_parts_readable names s (j ∷ joins) [] subject outer m = (subject, outer)
with_parts_readable names s (j ∷ joins) (c ∷ parts) subject outer m = with_parts_readable names (and_then s j c) joins parts m.0 (subject, outer) m.1

with_parts_count : (s : spec.Selector) (joins : List Join) (parts : List Compound) → length (with_parts s joins parts).outer ≤ length s.outer + length joins
with_parts_count s [] parts = omega arith
with_parts_count s (j ∷ joins) [] = omega arith
with_parts_count s (j ∷ joins) (c ∷ parts) = omega (arith, with_parts_count (and_then s j c) joins parts)

from_readable : (names : List Named) (parts : List Compound) (joins : List Join) → AreParts names parts → length joins < MOST_PARTS → IsReadable names (selector_from parts joins)
unfolding AreParts
from_readable names [] joins m few = record { subject = tt; outer = tt; few = omega arith }
from_readable names (c ∷ parts) joins m few =
    let both = with_parts_readable names (spec.simple c.atoms) joins parts m.0 tt m.1 in
    record { subject = both.0; outer = both.1; few = omega (arith, with_parts_count (spec.simple c.atoms) joins parts) }

-- ---- drafts

record IsSound (d : Draft) : Type 0 where
  pub finished : AreParts d.names d.parts
  pub last : IsCompound d.names d.atoms
  pub paired : length d.parts ≡ length d.joins
  pub fresh : d.started ≡ false → d.atoms ≡ []
  pub few : d.started ≡ true → length d.parts < MOST_PARTS

-- a name of this kind may come behind these atoms
MayCome : List ℕ → AtomKind → Type 0
MayCome atoms kind.Class = Unit {0}
MayCome atoms kind.Ident = Unit {0}
MayCome atoms kind.Element = atoms ≡ []
MayCome atoms kind.Attr = ⊥
MayCome atoms kind.Aux = ⊥

MayBegin : List ℕ → Begun → Type 0
MayBegin atoms (whole None rest) = Unit {0}
MayBegin atoms (whole (Some w) rest) = IsAskedWord w
MayBegin atoms (wanting k bs) = MayCome atoms k

dropped_if : (z : Bool) (o : Option (List ℕ)) (atoms : List ℕ) (b : Begun) → ◌≡◌ {A = Option Begun} (if z then option_map (λ rest. whole None rest) o else None) (Some b) → MayBegin atoms b
unfolding MayBegin
dropped_if true (Some rest) atoms b is = subst (λ (c : Begun). MayBegin atoms c) (same_Some (whole None rest) b is) tt
dropped_if true None atoms b is = absurd cc
dropped_if false o atoms b is = absurd cc

given_may : (bs : List ℕ) (o : Front Word) (atoms : List ℕ) (b : Begun) → attribute_part bs ≡ o → given o ≡ Some b → MayBegin atoms b
unfolding MayBegin
given_may bs None atoms b read is = absurd cc
given_may bs (Some w) atoms b read is = subst (λ (c : Begun). MayBegin atoms c) (same_Some (whole (Some w.0) w.1) b is) (attribute_asked bs w read)

any_if : (x y v z : Bool) (bs : List ℕ) (o : Option (List ℕ)) (atoms : List ℕ) (b : Begun)
    → ◌≡◌ {A = Option Begun} (if x then Some (wanting kind.Class bs) else (if y then Some (wanting kind.Ident bs) else (if v then given (attribute_part bs) else (if z then option_map (λ rest. whole None rest) o else None)))) (Some b)
    → MayBegin atoms b
unfolding MayBegin MayCome
any_if true y v z bs o atoms b is = subst (λ (c : Begun). MayBegin atoms c) (same_Some (wanting kind.Class bs) b is) tt
any_if false true v z bs o atoms b is = subst (λ (c : Begun). MayBegin atoms c) (same_Some (wanting kind.Ident bs) b is) tt
any_if false false true z bs o atoms b is = given_may bs (attribute_part bs) atoms b refl is
any_if false false false z bs o atoms b is = dropped_if z o atoms b is

any_may : (drops : Bool) (bs atoms : List ℕ) (b : Begun) → any_part drops bs ≡ Some b → MayBegin atoms b
unfolding any_part
any_may drops [] atoms b is = absurd cc
any_may drops (c ∷ bs) atoms b is = any_if (c == 46) (c == 35) (c == 91) (drops && c == 58) bs (behind_dropped bs) atoms b is

first_if : (x y : Bool) (bs cs : List ℕ) (o : Option Begun) (b : Begun)
    → ◌≡◌ {A = Option Begun} (if x then Some (whole None bs) else (if y then Some (wanting kind.Element cs) else o)) (Some b)
    → (o ≡ Some b → MayBegin [] b) → MayBegin [] b
unfolding MayBegin MayCome
first_if true y bs cs o b is any = subst (λ (c : Begun). MayBegin [] c) (same_Some (whole None bs) b is) tt
first_if false true bs cs o b is any = subst (λ (c : Begun). MayBegin [] c) (same_Some (wanting kind.Element cs) b is) refl
first_if false false bs cs o b is any = any is

first_may : (drops : Bool) (bs : List ℕ) (b : Begun) → first_part drops bs ≡ Some b → MayBegin [] b
unfolding first_part
first_may drops [] b is = absurd cc
first_may drops (c ∷ bs) b is = first_if (c == 42) (begins_name (c ∷ bs)) bs (c ∷ bs) (any_part drops (c ∷ bs)) b is (any_may drops (c ∷ bs) [] b)

-- ---- words

abbrev part : Option Word → List ℕ → Option Word × List ℕ
part w bs = (w, bs)

abbrev word : AtomKind → List ℕ → Word
word k name = (k, name)

MayWord : List ℕ → Option Word → Type 0
MayWord atoms None = Unit {0}
MayWord atoms (Some w) = (MayCome atoms w.0 × IsName w.1) ⊎ IsAskedWord w

name_if : (n to : ℕ) (k : AtomKind) (at : List ℕ) (e : SelFault) (atoms : List ℕ) (p : Option Word × List ℕ) → (0 < n → IsName (take n at)) → MayCome atoms k
    → ◌≡◌ {A = Outcome (Option Word × List ℕ)} (if nat_lt 0 n then Ok (part (Some (word k (take n at))) (drop n at)) else Err e) (Ok p) → MayWord atoms p.0
unfolding MayWord
name_if n to k at e atoms p named may is = elim (cases_lt 0 n) [
  | inl some ↦
      let ok = rw (lt-ltb 0 n some) at is in
      subst (λ (q : Option Word × List ℕ). MayWord atoms q.0) (ok_same (part (Some (word k (take n at))) (drop n at)) p ok) (inl (may, named some))
  | inr none ↦ absurd (let err = rw (le-ltb 0 n none) at is in cc)
]

name_may : (to : ℕ) (k : AtomKind) (bs atoms : List ℕ) (p : Option Word × List ℕ) → MayCome atoms k → name_at to k bs ≡ Ok p → MayWord atoms p.0
unfolding name_at
name_may to k bs atoms p may is =
    let at = behind_gap false 0 bs in
    name_if (name_len at) to k at (left_at to bs at) atoms p (name_front at) may is

part_may : (to : ℕ) (b : Begun) (atoms : List ℕ) (p : Option Word × List ℕ) → MayBegin atoms b → part_of to b ≡ Ok p → MayWord atoms p.0
unfolding MayBegin MayWord
part_may to (whole None rest) atoms p may is = subst (λ (q : Option Word × List ℕ). MayWord atoms q.0) (ok_same (part None rest) p is) tt
part_may to (whole (Some w) rest) atoms p may is = subst (λ (q : Option Word × List ℕ). MayWord atoms q.0) (ok_same (part (Some w) rest) p is) (inr may)
part_may to (wanting k bs) atoms p may is = name_may to k bs atoms p may is

-- the compound with an atom that was entered
asked_compound : (names later : List Named) (atoms : List ℕ) (w : Word) (a : ℕ) → Keeps names later → slice_get later a ≡ Some (table_name w) → IsAskedWord w → IsCompound names atoms
    → IsCompound later (atoms ++ a ∷ [])
asked_compound names later atoms w a keeps there x m =
    let in_table : slice_get later a ≡ Some (kind.Attr, asked_name (map to_ascii_lowercase x.name) (lowered_value x.value)) =
    there ∙ ap (λ (v : Word). Some (table_name v)) x.is ∙ ap (λ n. Some (kind.Attr, n)) (name_in_lower x.name x.value) in
    compound_more later atoms a (compound_kept names later keeps atoms m)
    (inr (record {
      name = map to_ascii_lowercase x.name;
      value = lowered_value x.value;
      at = in_table;
      asked = asked_in_lower x.name x.is_name x.apart;
      quoted = quoted_lowered x.value x.plain;
    }))

entered_compound : (names later : List Named) (atoms : List ℕ) (k : AtomKind) (name : List ℕ) (a : ℕ) → Keeps names later → slice_get later a ≡ Some (k, spelled k name)
    → MayCome atoms k → IsName name → IsCompound names atoms → IsCompound later (atoms ++ a ∷ [])
unfolding MayCome
entered_compound names later atoms kind.Class name a keeps there may n m =
    compound_more later atoms a (compound_kept names later keeps atoms m) (inl (record { sort = kind.Class; name = name; at = there; marked = inl refl; is_name = n }))
entered_compound names later atoms kind.Ident name a keeps there may n m =
    compound_more later atoms a (compound_kept names later keeps atoms m) (inl (record { sort = kind.Ident; name = name; at = there; marked = inr refl; is_name = n }))
entered_compound names later atoms kind.Element name a keeps there may n m =
    subst (λ all. IsCompound later (all ++ a ∷ [])) (sym may)
    (inl (record { name = map to_ascii_lowercase name; at = there; is_name = name_lowered name n; lowered = lower_twice name }), tt)
entered_compound names later atoms kind.Attr name a keeps there may n m = absurd may
entered_compound names later atoms kind.Aux name a keeps there may n m = absurd may

abbrev with_entry : Draft → ℕ → List Named → Draft
with_entry d a later = record d { names = later; atoms = d.atoms ++ a ∷ []; started = true }

word_compound : (names later : List Named) (atoms : List ℕ) (w : Word) (a : ℕ) → Keeps names later → slice_get later a ≡ Some (table_name w)
    → (MayCome atoms w.0 × IsName w.1) ⊎ IsAskedWord w → IsCompound names atoms → IsCompound later (atoms ++ a ∷ [])
word_compound names later atoms w a keeps there may m = elim may [
  | inl x ↦ entered_compound names later atoms w.0 w.1 a keeps there x.0 x.1 m
  | inr x ↦ asked_compound names later atoms w a keeps there x m
]

entry_sound : (d : Draft) (w : Word) (a : ℕ) (later : List Named) → IsSound d → length d.parts < MOST_PARTS → (MayCome d.atoms w.0 × IsName w.1) ⊎ IsAskedWord w
    → with_name d.names (table_name w) ≡ Some (a, later) → IsSound (with_entry d a later)
unfolding Keeps
entry_sound d w a later sound few may is =
    let keeps : Keeps d.names later = λ i m at. with_name-keeps d.names (table_name w) a later is i m at in
    record {
      finished = parts_kept d.names later keeps d.parts sound.finished;
      last = word_compound d.names later d.atoms w a keeps (with_name-at d.names (table_name w) a later is) may sound.last;
      paired = sound.paired;
      fresh = λ no. absurd cc;
      few = λ yes. few;
    }

word_sound : (d e : Draft) (w : Option Word) → IsSound d → length d.parts < MOST_PARTS → MayWord d.atoms w → with_word d w ≡ Ok e → IsSound e
unfolding with_word MayWord
word_sound d e None sound few may is =
    subst IsSound (ok_same (record d { started = true }) e is)
    (record { finished = sound.finished; last = sound.last; paired = sound.paired; fresh = λ no. absurd cc; few = λ yes. few })
word_sound d e (Some w) sound few may is =
    elim (with_name d.names (table_name w)) as (λ o. with_name d.names (table_name w) ≡ o → (entered o >>= λ x. Ok (with_entry d x.0 x.1)) ≡ Ok e → IsSound e) [
      | None ↦ λ no bad. absurd cc
      | Some x ↦ λ there ok. subst IsSound (ok_same (with_entry d x.0 x.1) e ok) (entry_sound d w x.0 x.1 sound few may there)
    ] refl is

-- ---- steps

abbrev next : Draft → List ℕ → Draft × List ℕ
next d bs = (d, bs)

after_word : (w : Outcome Draft) (rest : List ℕ) (r : Draft × List ℕ) → (w >>= λ e. Ok (next e rest)) ≡ Ok r → w ≡ Ok r.0
after_word (Ok e) rest r is = ap (λ (x : Draft × List ℕ). ok_draft x.0) (ok_same (next e rest) r is)
  where
    ok_draft : Draft → Outcome Draft
    ok_draft d = Ok d
after_word (Err f) rest r is = absurd cc

part_sound : (to : ℕ) (d : Draft) (b : Option Begun) (bs : List ℕ) (r : Draft × List ℕ) → IsSound d → length d.parts < MOST_PARTS
    → ((c : Begun) → b ≡ Some c → MayBegin d.atoms c) → with_part to d b bs ≡ Ok r → IsSound r.0
unfolding with_part
part_sound to d None bs r sound few may is = absurd cc
part_sound to d (Some c) bs r sound few may is =
    elim (part_of to c) as (λ o. part_of to c ≡ o → (o >>= λ p. with_word d p.0 >>= λ e. Ok (next e p.1)) ≡ Ok r → IsSound r.0) [
      | Ok p ↦ λ read ok. word_sound d r.0 p.0 sound few (part_may to c d.atoms p (may c refl) read) (after_word (with_word d p.0) p.1 r ok)
      | Err f ↦ λ read bad. absurd cc
    ] refl is

first_sound : (drops : Bool) (to : ℕ) (d : Draft) (bs : List ℕ) (r : Draft × List ℕ) → IsSound d → d.atoms ≡ [] → first_step drops to d bs ≡ Ok r → IsSound r.0
unfolding first_step
first_sound drops to d bs r sound empty is =
    elim (first_part drops bs) as (λ o. first_part drops bs ≡ o
    → (ok_or o (left_at to bs bs) >>= λ b. if nat_lt (length d.parts) MOST_PARTS then with_part to d (Some b) bs else Err (Skipped Long (to - length bs))) ≡ Ok r → IsSound r.0) [
      | None ↦ λ no bad. absurd cc
      | Some b ↦ λ there ok. elim (cases_lt (length d.parts) MOST_PARTS) [
        | inl few ↦
            let may : (c : Begun) → Some b ≡ Some c → MayBegin d.atoms c =
            λ c same. subst (λ atoms. MayBegin atoms c) (sym empty) (first_may drops bs c (there ∙ same)) in
            part_sound to d (Some b) bs r sound few may (rw (lt-ltb (length d.parts) MOST_PARTS few) at ok)
        | inr full ↦ absurd (let bad = rw (le-ltb (length d.parts) MOST_PARTS full) at ok in cc)
      ]
    ] refl is

join_sound : (d : Draft) (j : Join) → IsSound d → IsSound (with_join d j)
unfolding with_join
join_sound d j sound = record {
  finished = parts_more d.names d.parts (record { atoms = d.atoms }) sound.finished sound.last;
  last = tt;
  paired = length-append d.parts ((record { atoms = d.atoms }) ∷ []) ∙ omega (arith, sound.paired) ∙ sym (length-append d.joins (j ∷ []));
  fresh = λ no. refl;
  few = λ yes. absurd cc;
}

behind_sound : (drops : Bool) (to : ℕ) (d : Draft) (p : Option Join × List ℕ) (r : Draft × List ℕ) → IsSound d → length d.parts < MOST_PARTS → behind_part drops to d p ≡ Ok r → IsSound r.0
behind_sound drops to d (Some j, bs) r sound few is = subst (λ (x : Draft × List ℕ). IsSound x.0) (ok_same (next (with_join d j) bs) r is) (join_sound d j sound)
behind_sound drops to d (None, []) r sound few is = subst (λ (x : Draft × List ℕ). IsSound x.0) (ok_same (next d []) r is) sound
behind_sound drops to d (None, b ∷ bs) r sound few is = part_sound to d (any_part drops (b ∷ bs)) (b ∷ bs) r sound few (λ c there. any_may drops (b ∷ bs) d.atoms c there) is

later_sound : (drops : Bool) (to : ℕ) (d : Draft) (bs : List ℕ) (r : Draft × List ℕ) → IsSound d → length d.parts < MOST_PARTS → later_step drops to d bs ≡ Ok r → IsSound r.0
unfolding later_step
later_sound drops to d bs r sound few is =
    elim (join_at to bs) as (λ o. (o >>= λ j. behind_part drops to d j) ≡ Ok r → IsSound r.0) [
      | Ok p ↦ λ ok. behind_sound drops to d p r sound few ok
      | Err f ↦ λ bad. absurd cc
    ] is

step_if : (started drops : Bool) (to : ℕ) (d : Draft) (bs : List ℕ) (r : Draft × List ℕ) → IsSound d → d.started ≡ started
    → (if started then later_step drops to d bs else first_step drops to d bs) ≡ Ok r → IsSound r.0
step_if true drops to d bs r sound is ok = later_sound drops to d bs r sound (sound.few is) ok
step_if false drops to d bs r sound is ok = first_sound drops to d bs r sound (sound.fresh is) ok

step_sound : (drops : Bool) (to : ℕ) (d : Draft) (bs : List ℕ) (r : Draft × List ℕ) → IsSound d → step drops to d bs ≡ Ok r → IsSound r.0
unfolding step
step_sound drops to d bs r sound ok = step_if d.started drops to d bs r sound refl ok

-- ---- the end

abbrev ending : List Named → Outcome spec.Selector → Ending spec.Selector
ending names r = (names, r)

finish_if : (started : Bool) (to : ℕ) (d : Draft) (s : spec.Selector) → IsSound d → d.started ≡ started
    → (if started then Ok (selector_from (d.parts ++ (record { atoms = d.atoms }) ∷ []) d.joins) else Err (Skipped Bad to)) ≡ Ok s → IsReadable d.names s
finish_if true to d s sound is ok =
    subst (IsReadable d.names) (ok_same (selector_from (d.parts ++ (record { atoms = d.atoms }) ∷ []) d.joins) s ok)
    (from_readable d.names (d.parts ++ (record { atoms = d.atoms }) ∷ []) d.joins (parts_more d.names d.parts (record { atoms = d.atoms }) sound.finished sound.last) (omega (arith, sound.few is, sound.paired)))
finish_if false to d s sound is bad = absurd cc

finish_readable : (to : ℕ) (d : Draft) (names : List Named) (s : spec.Selector) → IsSound d → ending d.names (finished to d) ≡ ending names (Ok s) → IsReadable names s
unfolding finished
finish_readable to d names s sound is =
    let same : d.names ≡ names = ap (λ (e : Ending spec.Selector). e.0) is in
    let ok : finished to d ≡ Ok s = ap (λ (e : Ending spec.Selector). e.1) is in
    subst (λ n. IsReadable n s) same (finish_if d.started to d s sound refl ok)

run_readable : (drops : Bool) (to : ℕ) (d : Draft) (skip : ℕ) (bs : List ℕ) (names : List Named) (s : spec.Selector) → IsSound d → run drops to d skip bs ≡ ending names (Ok s) → IsReadable names s
unfolding run
run_readable drops to d skip [] names s sound is = finish_readable to d names s sound is
run_readable drops to d (suc skip) (b ∷ bs) names s sound is = run_readable drops to d skip bs names s sound is
run_readable drops to d zero (b ∷ bs) names s sound is =
    elim (step drops to d (b ∷ bs)) as (λ o. step drops to d (b ∷ bs) ≡ o → then_run d.names o (λ r. run drops to r.0 (length bs - length r.1) bs) ≡ ending names (Ok s) → IsReadable names s) [
      | Ok r ↦ λ ok more. run_readable drops to r.0 (length bs - length r.1) bs names s (step_sound drops to d (b ∷ bs) r sound ok) more
      | Err f ↦ λ ok bad. absurd (let no : Err f ≡ Ok s = ap (λ (e : Ending spec.Selector). e.1) bad in cc)
    ] refl is

pub piece_readable : (drops : Bool) (to : ℕ) (text : List ℕ) (before names : List Named) (s : spec.Selector) → read_piece drops to text before ≡ (names, Ok s) → IsReadable names s
unfolding AreParts
piece_readable drops to text before names s is =
    run_readable drops to (empty_draft before) 0 (behind_gap true 0 text) names s
    (record { finished = tt; last = tt; paired = refl; fresh = λ no. refl; few = λ yes. absurd cc }) (same_reading drops to text before ∙ is)

pub read_readable : (r : Result Selector SelFault) (names : List Named) (drops : Bool) (to : ℕ) (text : List ℕ) (before : List Named)
    → Reads selector_of r names (read_piece drops to text before) → IfOk r (λ s. IsReadable names (selector_of s))
read_readable (Ok s) names drops to text before reads = piece_readable drops to text before names (selector_of s) reads
read_readable (Err e) names drops to text before reads = tt

-- ---- in a longer table

front_keeps : (old new : List Named) → IsFront old new → Keeps old new
unfolding Keeps
front_keeps old new front i n at =
    let split = take-append-drop (length old) new in
    let there : slice_get (take (length old) new ++ drop (length old) new) i ≡ Some n =
    slice_get-append_left (take (length old) new) (drop (length old) new) i (rw front (slice_get_within old i n at)) ∙ rw front at in
    rw split at there

outer_kept : (old new : List Named) → Keeps old new → (outer : List spec.Outer) → AreCompounds old outer → AreCompounds new outer
outer_kept old new keeps [] m = tt
outer_kept old new keeps (o ∷ outer) m = (compound_kept old new keeps o.atoms m.0, outer_kept old new keeps outer m.1)

pub readable_kept : (old new : List Named) → IsFront old new → (s : spec.Selector) → IsReadable old s → IsReadable new s
readable_kept old new front s r =
    let keeps = front_keeps old new front in
    record { subject = compound_kept old new keeps s.subject r.subject; outer = outer_kept old new keeps s.outer r.outer; few = r.few }

pub all_kept : (old new : List Named) → IsFront old new → (found : List Selector) → All (λ s. IsReadable old (selector_of s)) found → All (λ s. IsReadable new (selector_of s)) found
all_kept old new front found all =
    All-weaker (λ s. IsReadable old (selector_of s)) (λ s. IsReadable new (selector_of s)) (λ s r. readable_kept old new front (selector_of s) r) found all

pub all_more : (names : List Named) (found later : List Selector) (s : Selector) → later ≡ found ++ s ∷ [] → All (λ x. IsReadable names (selector_of x)) found
    → IsReadable names (selector_of s) → All (λ x. IsReadable names (selector_of x)) later
all_more names found later s is all one =
    let P : Selector → Type 0 = λ x. IsReadable names (selector_of x) in
    subst (All P) (sym is) (All-append P found (s ∷ []) all (All-cons P s [] one (All-nil P)))
