-- How the parts of a wide selector read that are judged, before what may stand behind them.
use Rattle.std.proofs.Common.{◌≡◌, ℕ, ◌-◌, ◌<◌, ◌≤◌, ◌==◌, ◌&&◌, ◌||◌, not, Bool, true, false, nat_lt, if◌then◌else◌, List, [], ◌∷◌, ◌++◌, length, take, drop, slice_range, codes, Option, Some, None, IfSome, Ok, option_map, option_and_then, refl, sym, ap, ◌∙◌, subst, arith, append_assoc, append-nil, take-append-drop, inl, inr}
use Rattle.std.specs.List.{list_all}
use Rattle.std.proofs.lemmas.Bool.{cases_Bool, and_parts, or_parts, eqb-true}
use Rattle.std.proofs.lemmas.Bool.Decides.{nat_tests}
use Rattle.std.proofs.lemmas.List.{append_cancel_right}
use Rattle.std.proofs.lemmas.Option.{same_Some}
use Rattle.std.proofs.Math.Seq.{take-append_seam, drop-append_seam}
use Rattle.text_bytes.specs.Blanks.{is_blank}
use Rattle.text_bytes.specs.Rests.{IsRest}
use Rattle.tp_base.specs.declared.atoms.AtomKind.TheVariants as kind
use Rattle.sel_text.specs.Bytes.{begins_with, in_name, begins_name, name_len, behind_gap}
use Rattle.sel_text.specs.Readable.{IsName}
use Rattle.sel_text.specs.Grammar.{Word, Begun, whole, wanting, given, is_dropped_element, is_dropped_class, behind_word, behind_dropped, attribute_part, any_part, first_part, part_of}
use Rattle.sel_text.specs.Syntax.{first_item, item_at, syntax_from, syntax_of}
use Rattle.sel_text.specs.Reading.{atoms_of, compounds_of, read_syntax, read_piece, read_selector}
use Rattle.sel_text.proofs.ByteRuns.{all_by}
use Rattle.sel_text.proofs.Lowered as lowered
use Rattle.sel_text.proofs.NameLemmas.{not_byte, is_start, IsStart, no_gap, name_begins, begins_more, first_of_name, IsEnd, name_len-append, reads_name}
use Rattle.css_read.specs.Units.{begins_comment, begins_gap}
use Rattle.css_read.proofs.UnitLemmas.{Chunk, split_end, with_solid, solids}
use Rattle.widen_sheet.specs.Wide as spec
use Rattle.widen_sheet.specs.Wide.{has, before, is_ok, is_judged, behind_brackets, behind_call, behind_pseudo, behind_part}
use Rattle.widen_sheet.proofs.AttributeReads.{attribute_body, IsBody, name_quiet, name_all, len_ends}
use Rattle.widen_sheet.proofs.QuietTexts.{is_quiet, mild_bytes, mild_quiet, FrontText, EndsSolid, solids_some, in_brackets}
use Rattle.widen_sheet.proofs.WholeLemmas.{brackets_rests}

-- ---- texts without gaps at their ends

pub record Solid (bs : List ℕ) : Type 0 where
  pub front : FrontText bs
  pub ends : EndsSolid front.quiet

-- no blank
abbrev is_dense : ℕ → Bool
is_dense b = not (is_blank b)

no_gap_byte : (b : ℕ) → is_dense b ≡ true → begins_gap (b ∷ []) ≡ false
no_gap_byte b dense = by (is_blank b) dense
  where
    alone : (b : ℕ) → begins_comment (b ∷ []) ≡ false
    alone b = grind (arith, nat_tests)

    by : (t : Bool) → not t ≡ true → (t || begins_comment (b ∷ [])) ≡ false
    by true dense = cc
    by false dense = alone b

dense_solids : (bs : List ℕ) (all : list_all is_quiet bs ≡ true) → list_all is_dense bs ≡ true → solids (mild_bytes bs all).chunks ≡ (mild_bytes bs all).chunks
dense_solids [] all dense = refl
dense_solids (b ∷ bs) all dense =
    let both = and_parts (is_quiet b) (list_all is_quiet bs) all in
    let parts = and_parts (is_dense b) (list_all is_dense bs) dense in
    let c : Chunk = record { first = b; more = [] } in
    ap (λ (t : Bool). with_solid t c (solids (mild_bytes bs both.1).chunks)) (no_gap_byte b parts.0) ∙ ap (λ (cs : List Chunk). c ∷ cs) (dense_solids bs both.1 parts.1)

pub solid_bytes : (b : ℕ) (bs : List ℕ) → list_all is_quiet (b ∷ bs) ≡ true → list_all is_dense (b ∷ bs) ≡ true → (b == 64) ≡ false → Solid (b ∷ bs)
solid_bytes b bs all dense at = record {
  front = record { quiet = mild_quiet (b ∷ bs) (mild_bytes (b ∷ bs) all); some = omega arith; begins = (no_gap_byte b (and_parts (is_dense b) (list_all is_dense bs) dense).0, at) };
  ends = dense_solids (b ∷ bs) all dense;
}

name_dense : (b : ℕ) → in_name b ≡ true → is_dense b ≡ true
name_dense b is = rw (not_byte in_name 32 b refl is, not_byte in_name 9 b refl is, not_byte in_name 10 b refl is, not_byte in_name 12 b refl is, not_byte in_name 13 b refl is) refl

quiet_name : (name : List ℕ) → IsName name → list_all is_quiet name ≡ true
quiet_name name is = all_by in_name is_quiet name_quiet name (name_all name is)

dense_name : (name : List ℕ) → IsName name → list_all is_dense name ≡ true
dense_name name is = all_by in_name is_dense name_dense name (name_all name is)

-- ---- parts, as they are read

-- what may follow a part
abbrev pub IsGood : List ℕ → Type 0
IsGood rest = IsEnd rest × (begins_with 40 (behind_gap false 0 rest) ≡ false)

pub good_none : IsGood []
unfolding behind_gap
good_none = (refl, refl)

abbrev pub is_sign : ℕ → Bool
is_sign b = b == 46 || b == 35 || b == 58 || b == 91

pub sign_is : (P : ℕ → Type 0) → P 46 → P 35 → P 58 → P 91 → (b : ℕ) → is_sign b ≡ true → P b
sign_is P dot hash colon square b is = elim (cases_Bool (b == 46)) [
  | inl x ↦ subst P (sym (eqb-true b 46 x)) dot
  | inr x ↦ elim (cases_Bool (b == 35)) [
    | inl y ↦ subst P (sym (eqb-true b 35 y)) hash
    | inr y ↦ elim (cases_Bool (b == 58)) [
      | inl z ↦ subst P (sym (eqb-true b 58 z)) colon
      | inr z ↦ subst P (sym (eqb-true b 91 (last (b == 46) (b == 35) (b == 58) (b == 91) x y z is))) square
    ]
  ]
]
  where
    last : (p q r s : Bool) → p ≡ false → q ≡ false → r ≡ false → (p || q || r || s) ≡ true → s ≡ true
    last p q r s x y z is = rw (x, y, z) at is

-- the part that a text is, before all that may follow
abbrev pub Reads : (List ℕ → Option Begun) → List ℕ → Option Word → Type 0
Reads front text w = (to : ℕ) (rest : List ℕ) → IsGood rest → (b : Begun) × (front (text ++ rest) ≡ Some b) × (part_of to b ≡ Ok (w, rest))

-- a part at the beginning of a compound
pub record IsFirst (text : List ℕ) (w : Option Word) : Type 0 where
  pub reads : Reads (first_part true) text w
  pub start : (rest : List ℕ) → IsStart (text ++ rest)
  pub solid : Solid text

-- a part that may stand anywhere
pub record IsLater (text : List ℕ) (w : Option Word) : Type 0 where
  pub sign : ℕ
  pub more : List ℕ
  pub whole : text ≡ sign ∷ more
  pub is : is_sign sign ≡ true
  pub reads : Reads (any_part true) text w
  pub solid : Solid text

not_name : (b : ℕ) (bs : List ℕ) → is_start b ≡ false → begins_name (b ∷ bs) ≡ false
unfolding begins_name
not_name b [] none = (or_parts _ (b == 45) none).0
not_name b (c ∷ bs) none = let both = or_parts _ (b == 45) none in rw both.0 (rw both.1 refl)

first_any : (b : ℕ) (bs : List ℕ) → (b == 42) ≡ false → is_start b ≡ false → first_part true (b ∷ bs) ≡ any_part true (b ∷ bs)
unfolding first_part
first_any b bs star start = rw (star, not_name b bs start) refl

pub sign_first : (b : ℕ) (bs : List ℕ) → is_sign b ≡ true → first_part true (b ∷ bs) ≡ any_part true (b ∷ bs)
sign_first b bs is = sign_is (λ (c : ℕ). first_part true (c ∷ bs) ≡ any_part true (c ∷ bs)) (first_any 46 bs refl refl) (first_any 35 bs refl refl) (first_any 58 bs refl refl) (first_any 91 bs refl refl) b is

pub sign_start : (b : ℕ) (bs : List ℕ) → is_sign b ≡ true → IsStart (b ∷ bs)
sign_start b bs is = sign_is (λ (c : ℕ). IsStart (c ∷ bs)) (refl, refl, refl) (refl, refl, refl) (refl, refl, refl) (refl, refl, refl) b is

pub later_first : (text : List ℕ) (w : Option Word) → IsLater text w → IsFirst text w
later_first text w l =
    let same : (rest : List ℕ) → text ++ rest ≡ l.sign ∷ (l.more ++ rest) = λ rest. ap (λ (x : List ℕ). x ++ rest) l.whole in
    record {
      reads = λ to rest good. let is = l.reads to rest good in (is.0, ap (first_part true) (same rest) ∙ sign_first l.sign (l.more ++ rest) l.is ∙ sym (ap (any_part true) (same rest)) ∙ is.1, is.2);
      start = λ rest. subst IsStart (sym (same rest)) (sign_start l.sign (l.more ++ rest) l.is);
      solid = l.solid;
    }

-- ---- names

dot_is : (name : List ℕ) → IsName name → IsLater (46 ∷ name) (Some (kind.Class, name))
unfolding any_part
dot_is name is = record {
  sign = 46;
  more = name;
  whole = refl;
  is = refl;
  reads = λ to rest good. (wanting kind.Class (name ++ rest), refl, reads_name to kind.Class name rest is good.0);
  solid = solid_bytes 46 name (quiet_name name is) (dense_name name is) refl;
}

hash_is : (name : List ℕ) → IsName name → IsLater (35 ∷ name) (Some (kind.Ident, name))
unfolding any_part
hash_is name is = record {
  sign = 35;
  more = name;
  whole = refl;
  is = refl;
  reads = λ to rest good. (wanting kind.Ident (name ++ rest), refl, reads_name to kind.Ident name rest is good.0);
  solid = solid_bytes 35 name (quiet_name name is) (dense_name name is) refl;
}

star_is : IsFirst (42 ∷ []) None
unfolding first_part
star_is = record {
  reads = λ to rest good. (whole None rest, refl, refl);
  start = λ rest. (refl, refl, refl);
  solid = solid_bytes 42 [] refl refl refl;
}

type_front : (name rest : List ℕ) → IsName name → first_part true (name ++ rest) ≡ Some (wanting kind.Element (name ++ rest))
unfolding first_part
type_front [] rest is = absurd (omega (arith, is.some))
type_front (b ∷ name) rest is =
    let both = and_parts (in_name b) (list_all in_name name) (name_all (b ∷ name) is) in
    rw (not_byte in_name 42 b refl both.0, begins_more (b ∷ name) rest (name_begins (b ∷ name) is).0) refl

type_solid : (name : List ℕ) → IsName name → Solid name
type_solid [] is = absurd (omega (arith, is.some))
type_solid (b ∷ name) is = solid_bytes b name (quiet_name (b ∷ name) is) (dense_name (b ∷ name) is) (not_byte in_name 64 b refl (and_parts (in_name b) (list_all in_name name) (name_all (b ∷ name) is)).0)

type_is : (name : List ℕ) → IsName name → IsFirst name (Some (kind.Element, name))
type_is name is = record {
  reads = λ to rest good. (wanting kind.Element (name ++ rest), type_front name rest is, reads_name to kind.Element name rest is good.0);
  start = λ rest. first_of_name name rest (name_begins name is).0;
  solid = type_solid name is;
}

-- ---- a text that is judged begins with a part

slice_whole : (bs : List ℕ) → slice_range bs 0 (length bs) ≡ bs
slice_whole bs = let all : length bs - 0 ≡ length bs = omega arith in ap (λ n. take n bs) all ∙ whole_of bs
  where
    whole_of : (bs : List ℕ) → take (length bs) bs ≡ bs
    whole_of [] = refl
    whole_of (b ∷ bs) = ap (λ (r : List ℕ). b ∷ r) (whole_of bs)

not_read : (to b : ℕ) (bs : List ℕ) → behind_gap true 0 (b ∷ bs) ≡ b ∷ bs → first_part true (b ∷ bs) ≡ None → is_ok (read_piece true to (b ∷ bs) []).1 ≡ false
unfolding read_piece syntax_of syntax_from item_at first_item read_syntax compounds_of atoms_of
not_read to b bs gap none = rw (gap, none) refl

judged_first : (b : ℕ) (bs : List ℕ) → IsStart (b ∷ bs) → is_judged (b ∷ bs) ≡ true → first_part true (b ∷ bs) ≡ None → ⊥
unfolding is_judged read_selector
judged_first b bs start is none =
    let whole : is_ok (read_piece true (length (b ∷ bs)) (b ∷ bs) []).1 ≡ true = subst (λ (x : List ℕ). is_ok (read_piece true (length (b ∷ bs)) x []).1 ≡ true) (slice_whole (b ∷ bs)) is in
    wrong (sym whole ∙ not_read (length (b ∷ bs)) b bs (no_gap true (b ∷ bs) start) none)
  where
    wrong : true ≡ false → ⊥
    wrong e = cc

-- ---- pseudo parts

abbrev pub colons : Bool → List ℕ
colons true = 58 ∷ []
colons false = []

abbrev pub is_dropped : Bool → List ℕ → Bool
is_dropped two name = is_dropped_element name || not two && is_dropped_class name

word_read : (two : Bool) (name x : List ℕ) → IsName name → IsEnd x → behind_word two (name ++ x) ≡ (if is_dropped two name && not (begins_with 40 (behind_gap false 0 x)) then Some x else None)
unfolding behind_word
word_read two name x is end = rw (name_len-append name x is end, take-append_seam name x, drop-append_seam name x) refl

no_colon : (name x : List ℕ) → IsName name → begins_with 58 (name ++ x) ≡ false
no_colon [] x is = absurd (omega (arith, is.some))
no_colon (b ∷ name) x is = not_byte in_name 58 b refl (and_parts (in_name b) (list_all in_name name) (name_all (b ∷ name) is)).0

dropped_read : (two : Bool) (name x : List ℕ) → IsName name → IsEnd x → behind_dropped (colons two ++ (name ++ x)) ≡ (if is_dropped two name && not (begins_with 40 (behind_gap false 0 x)) then Some x else None)
unfolding behind_dropped
dropped_read true name x is end =
    let start = first_of_name name x (name_begins name is).0 in
    rw (no_gap false (58 ∷ (name ++ x)) (refl, refl, refl), no_gap false (name ++ x) start) (word_read true name x is end)
dropped_read false name x is end =
    let start = first_of_name name x (name_begins name is).0 in
    rw (no_gap false (name ++ x) start, no_colon name x is) (word_read false name x is end)

colon_any : (bs : List ℕ) → any_part true (58 ∷ bs) ≡ option_map (λ (rest : List ℕ). whole None rest) (behind_dropped bs)
unfolding any_part
colon_any bs = refl

pseudo_solid : (two : Bool) (name : List ℕ) → IsName name → Solid (58 ∷ (colons two ++ name))
pseudo_solid true name is = solid_bytes 58 (58 ∷ name) (quiet_name name is) (dense_name name is) refl
pseudo_solid false name is = solid_bytes 58 name (quiet_name name is) (dense_name name is) refl

pub pseudo_is : (two : Bool) (name : List ℕ) → IsName name → is_dropped two name ≡ true → IsLater (58 ∷ (colons two ++ name)) None
pseudo_is two name is dropped = record {
  sign = 58;
  more = colons two ++ name;
  whole = refl;
  is = refl;
  reads = λ to rest good.
      let read : behind_dropped ((colons two ++ name) ++ rest) ≡ Some rest = ap behind_dropped (append_assoc (colons two) name rest) ∙ dropped_read two name rest is good.0 ∙ rw (dropped, good.1) refl in
      (whole None rest, colon_any ((colons two ++ name) ++ rest) ∙ ap (option_map (λ (r : List ℕ). whole None r)) read, refl);
  solid = pseudo_solid two name is;
}

-- with nothing behind the name but what a call begins with
pseudo_judged : (two : Bool) (name x : List ℕ) → IsName name → IsEnd x → is_judged (58 ∷ (colons two ++ (name ++ x))) ≡ true → (is_dropped two name ≡ true) × (begins_with 40 (behind_gap false 0 x) ≡ false)
pseudo_judged two name x is end judged = by (is_dropped two name) (begins_with 40 (behind_gap false 0 x)) refl refl
  where
    none_if : (t : Bool) → (is_dropped two name && not (begins_with 40 (behind_gap false 0 x))) ≡ false → ⊥
    none_if t none =
        let read : behind_dropped (colons two ++ (name ++ x)) ≡ None = dropped_read two name x is end ∙ ap (λ (b : Bool). if b then Some x else None) none in
        judged_first 58 (colons two ++ (name ++ x)) (refl, refl, refl) judged
        (sign_first 58 (colons two ++ (name ++ x)) refl ∙ colon_any (colons two ++ (name ++ x)) ∙ ap (option_map (λ (r : List ℕ). whole None r)) read)

    by : (d c : Bool) → is_dropped two name ≡ d → begins_with 40 (behind_gap false 0 x) ≡ c → (is_dropped two name ≡ true) × (begins_with 40 (behind_gap false 0 x) ≡ false)
    by true false first second = (first, second)
    by true true first second = absurd (none_if true (rw (first, second) refl))
    by false c first second = absurd (none_if true (rw first refl))

-- ---- parts of a text

pub record IsNamed (bs rest : List ℕ) : Type 0 where
  pub name : List ℕ
  pub is : IsName name
  pub whole : bs ≡ name ++ rest
  pub end : IsEnd rest

name_of : (bs rest : List ℕ) → spec.behind_name bs ≡ Some rest → IsNamed bs rest
unfolding spec.behind_name
name_of bs rest is = by (nat_lt 0 (name_len bs)) refl is
  where
    less : (n : ℕ) → nat_lt 0 n ≡ true → 0 < n
    less n e = grind (arith, nat_tests)

    by : (t : Bool) → nat_lt 0 (name_len bs) ≡ t → (if t then Some (drop (name_len bs) bs) else None) ≡ Some rest → IsNamed bs rest
    by true e is =
        let same : drop (name_len bs) bs ≡ rest = same_Some _ _ is in
        record {
          name = take (name_len bs) bs;
          is = lowered.name_front bs (less (name_len bs) e);
          whole = sym (take-append-drop (name_len bs) bs) ∙ ap (λ (r : List ℕ). take (name_len bs) bs ++ r) same;
          end = subst IsEnd same (len_ends bs (less (name_len bs) e));
        }
    by false e is = cc

abbrev pub Some_later : List ℕ → Type 0
Some_later text = (w : Option Word) × IsLater text w

abbrev pub Some_first : List ℕ → Type 0
Some_first text = (w : Option Word) × IsFirst text w

dot_part : (b : ℕ) (bs rest text : List ℕ) → (b == 46 || b == 35) ≡ true → spec.behind_name bs ≡ Some rest → text ++ rest ≡ b ∷ bs → Some_later text
dot_part b bs rest text sign is all_is =
    let n = name_of bs rest is in
    let same : text ≡ b ∷ n.name = append_cancel_right text (b ∷ n.name) rest (all_is ∙ ap (λ (r : List ℕ). b ∷ r) n.whole) in
    elim (cases_Bool (b == 46)) [
      | inl x ↦ (Some (kind.Class, n.name), subst (λ (y : List ℕ). IsLater y (Some (kind.Class, n.name))) (sym (same ∙ ap (λ (c : ℕ). c ∷ n.name) (eqb-true b 46 x))) (dot_is n.name n.is))
      | inr x ↦ (Some (kind.Ident, n.name), subst (λ (y : List ℕ). IsLater y (Some (kind.Ident, n.name))) (sym (same ∙ ap (λ (c : ℕ). c ∷ n.name) (eqb-true b 35 (rw x at sign)))) (hash_is n.name n.is))
    ]

-- behind the name of a pseudo part
pseudo_named : (two : Bool) (at r rest text : List ℕ) → IsNamed at r → behind_call r ≡ Some rest → text ++ rest ≡ 58 ∷ (colons two ++ at) → is_judged text ≡ true → Some_later text
unfolding behind_call
pseudo_named two at [] rest text n call all_is judged =
    let none : [] ≡ rest = same_Some _ _ call in
    let same : text ≡ 58 ∷ (colons two ++ (n.name ++ [])) = sym (append-nil text) ∙ ap (λ (x : List ℕ). text ++ x) none ∙ all_is ∙ ap (λ (x : List ℕ). 58 ∷ (colons two ++ x)) n.whole in
    let is = pseudo_judged two n.name [] n.is refl (subst (λ (x : List ℕ). is_judged x ≡ true) same judged) in
    (None, subst (λ (x : List ℕ). IsLater x None) (sym (same ∙ ap (λ (x : List ℕ). 58 ∷ (colons two ++ x)) (append-nil n.name))) (pseudo_is two n.name n.is is.0))
pseudo_named two at (c ∷ cs) rest text n call all_is judged = by (c == 40) refl call
  where
    front : List ℕ
    front = 58 ∷ (colons two ++ n.name)

    all : text ++ rest ≡ front ++ c ∷ cs
    all = all_is ∙ ap (λ (x : List ℕ). 58 ∷ (colons two ++ x)) n.whole ∙ ap (λ (x : List ℕ). 58 ∷ x) (sym (append_assoc (colons two) n.name (c ∷ cs)))

    apart : (x : List ℕ) → length cs < length (x ++ rest) → length rest ≤ length cs → c ∷ cs ≡ x ++ rest → c ≡ 40 → text ≡ front ++ x → ⊥
    apart [] long few is byte same = omega (arith, long, few)
    apart (d ∷ x) long few is byte same =
        let first : d ≡ 40 = let e : c ≡ d = cc in sym e ∙ byte in
        let text_is : text ≡ 58 ∷ (colons two ++ (n.name ++ 40 ∷ x)) = same ∙ ap (λ (y : ℕ). front ++ y ∷ x) first ∙ ap (λ (y : List ℕ). 58 ∷ y) (append_assoc (colons two) n.name (40 ∷ x)) in
        let is = pseudo_judged two n.name (40 ∷ x) n.is refl (subst (λ (y : List ℕ). is_judged y ≡ true) text_is judged) in
        wrong (sym (ap (begins_with 40) (no_gap false (40 ∷ x) (refl, refl, refl))) ∙ is.1)
      where
        wrong : true ≡ false → ⊥
        wrong e = cc

    by : (t : Bool) → (c == 40) ≡ t → (if t then behind_brackets (41 ∷ []) 0 cs else Some (c ∷ cs)) ≡ Some rest → Some_later text
    by true e call =
        let rests : IsRest cs rest = subst (λ (o : Option (List ℕ)). IfSome o (λ r. IsRest cs r)) call (brackets_rests cs (41 ∷ []) 0) in
        let split = split_end text front (c ∷ cs) rest all (omega (arith, rests.shorter)) in
        absurd (apart split.0 (omega (arith, ap length split.2)) rests.shorter split.2 (eqb-true c 40 e) split.1)
    by false e call =
        let same_rest : c ∷ cs ≡ rest = same_Some _ _ call in
        let same : text ≡ front = append_cancel_right text front rest (all ∙ ap (λ (x : List ℕ). front ++ x) same_rest) in
        let plain : text ≡ 58 ∷ (colons two ++ (n.name ++ [])) = same ∙ sym (ap (λ (x : List ℕ). 58 ∷ (colons two ++ x)) (append-nil n.name)) in
        let is = pseudo_judged two n.name [] n.is refl (subst (λ (x : List ℕ). is_judged x ≡ true) plain judged) in
        (None, subst (λ (x : List ℕ). IsLater x None) (sym same) (pseudo_is two n.name n.is is.0))

pseudo_called : (two : Bool) (at rest text : List ℕ) → option_and_then behind_call (spec.behind_name at) ≡ Some rest → text ++ rest ≡ 58 ∷ (colons two ++ at) → is_judged text ≡ true → Some_later text
pseudo_called two at rest text is all_is judged = by (spec.behind_name at) refl is
  where
    by : (o : Option (List ℕ)) → spec.behind_name at ≡ o → option_and_then behind_call o ≡ Some rest → Some_later text
    by None named is = cc
    by (Some r) named is = pseudo_named two at r rest text (name_of at r named) is all_is judged

pseudo_part : (bs rest text : List ℕ) → behind_pseudo bs ≡ Some rest → text ++ rest ≡ 58 ∷ bs → is_judged text ≡ true → Some_later text
unfolding behind_pseudo
pseudo_part bs rest text is all_is judged = by (begins_with 58 bs) refl is
  where
    second : (bs : List ℕ) → begins_with 58 bs ≡ true → bs ≡ 58 ∷ drop 1 bs
    second [] is = cc
    second (b ∷ bs) is = ap (λ (c : ℕ). c ∷ bs) (eqb-true b 58 is)

    by : (t : Bool) → begins_with 58 bs ≡ t → option_and_then behind_call (spec.behind_name (if t then drop 1 bs else bs)) ≡ Some rest → Some_later text
    by true e is = pseudo_called true (drop 1 bs) rest text is (all_is ∙ ap (λ (x : List ℕ). 58 ∷ x) (second bs e)) judged
    by false e is = pseudo_called false bs rest text is all_is judged

-- ---- attribute parts

square_any : (bs : List ℕ) → any_part true (91 ∷ bs) ≡ given (attribute_part bs)
unfolding any_part
square_any bs = refl

square_solid : (body inner : List ℕ) (w : Word) (r : List ℕ) (is : IsBody attribute_part inner w r) → Solid (91 ∷ (is.body ++ 93 ∷ []))
square_solid body inner w r is = record {
  front = record { quiet = in_brackets is.body is.calm.mild; some = omega arith; begins = (refl, refl) };
  ends = solids_some ((record { first = 91; more = [] }) ∷ is.calm.mild.chunks) ((record { first = 93; more = [] }) ∷ []) (omega arith) refl;
}

fits : (z : List ℕ) → behind_brackets (93 ∷ []) 0 (93 ∷ z) ≡ Some z
unfolding behind_brackets spec.after_byte
fits z = refl

square_by : (inner rest text : List ℕ) (o : Option (Word × List ℕ)) → attribute_part inner ≡ o → behind_brackets (93 ∷ []) 0 (inner ++ rest) ≡ Some rest → has (codes "*/") inner ≡ false → text ≡ 91 ∷ inner → is_judged text ≡ true → Some_later text
square_by inner rest text None read fit none same judged =
    absurd (judged_first 91 inner (refl, refl, refl) (subst (λ (x : List ℕ). is_judged x ≡ true) same judged) (sign_first 91 inner refl ∙ square_any inner ∙ ap given read))
square_by inner rest text (Some v) read fit none same judged =
    let is = attribute_body inner v.0 v.1 none read in
    let past : behind_brackets (93 ∷ []) 0 (inner ++ rest) ≡ Some (v.1 ++ rest) = ap (λ (x : List ℕ). behind_brackets (93 ∷ []) 0 (x ++ rest)) is.whole ∙ ap (behind_brackets (93 ∷ []) 0) (append_assoc is.body (93 ∷ v.1) rest) ∙ is.calm.past (93 ∷ (v.1 ++ rest)) ∙ fits (v.1 ++ rest) in
    let whole_rest : v.1 ++ rest ≡ rest = same_Some _ _ (sym past ∙ fit) in
    let nothing : v.1 ≡ [] = append_cancel_right v.1 [] rest whole_rest in
    let text_is : text ≡ 91 ∷ (is.body ++ 93 ∷ []) = same ∙ ap (λ (x : List ℕ). 91 ∷ x) (is.whole ∙ ap (λ (x : List ℕ). is.body ++ 93 ∷ x) nothing) in (
      Some v.0,
      subst (λ (x : List ℕ). IsLater x (Some v.0)) (sym text_is) (record {
        sign = 91;
        more = is.body ++ 93 ∷ [];
        whole = refl;
        is = refl;
        reads = λ to z good. (whole (Some v.0) z, square_any ((is.body ++ 93 ∷ []) ++ z) ∙ ap given (ap attribute_part (append_assoc is.body (93 ∷ []) z) ∙ is.again z), refl);
        solid = square_solid is.body inner v.0 v.1 is;
      }),
    )

square_part : (bs rest text : List ℕ) → behind_brackets (93 ∷ []) 0 bs ≡ Some rest → text ++ rest ≡ 91 ∷ bs → has (codes "*/") text ≡ false → is_judged text ≡ true → Some_later text
square_part bs rest text fit all_is none judged =
    let rests : IsRest bs rest = subst (λ (o : Option (List ℕ)). IfSome o (λ r. IsRest bs r)) fit (brackets_rests bs (93 ∷ []) 0) in
    let split = split_end text (91 ∷ []) bs rest all_is rests.shorter in
    square_by split.0 rest text (attribute_part split.0) refl (ap (behind_brackets (93 ∷ []) 0) (sym split.2) ∙ fit) (Rattle.widen_sheet.proofs.PieceLemmas.has_later (codes "*/") 91 split.0 (subst (λ (x : List ℕ). has (codes "*/") x ≡ false) split.1 none)) split.1 judged

-- ---- any part

pub later_part : (bs rest text : List ℕ) → behind_part bs ≡ Some rest → text ++ rest ≡ bs → has (codes "*/") text ≡ false → is_judged text ≡ true → Some_later text
unfolding behind_part
later_part [] rest text is all_is none judged = cc
later_part (b ∷ bs) rest text is all_is none judged = by (b == 46 || b == 35) (b == 58) (b == 91) refl refl refl is
  where
    by : (d c s : Bool) → (b == 46 || b == 35) ≡ d → (b == 58) ≡ c → (b == 91) ≡ s → (if d then spec.behind_name bs else (if c then behind_pseudo bs else (if s then behind_brackets (93 ∷ []) 0 bs else None))) ≡ Some rest → Some_later text
    by true c s dot colon square is = dot_part b bs rest text dot is all_is
    by false true s dot colon square is = pseudo_part bs rest text is (all_is ∙ ap (λ (x : ℕ). x ∷ bs) (eqb-true b 58 colon)) judged
    by false false true dot colon square is = square_part bs rest text is (all_is ∙ ap (λ (x : ℕ). x ∷ bs) (eqb-true b 91 square)) none judged
    by false false false dot colon square is = cc

pub first_part_of : (bs rest text : List ℕ) → spec.behind_first bs ≡ Some rest → text ++ rest ≡ bs → has (codes "*/") text ≡ false → is_judged text ≡ true → Some_first text
unfolding spec.behind_first
first_part_of [] rest text is all_is none judged = cc
first_part_of (b ∷ bs) rest text is all_is none judged = by (b == 42) (nat_lt 0 (name_len (b ∷ bs))) refl is
  where
    by : (s n : Bool) → (b == 42) ≡ s → (if s then Some bs else (if n then spec.behind_name (b ∷ bs) else behind_part (b ∷ bs))) ≡ Some rest → Some_first text
    by true n star is =
        let same : bs ≡ rest = same_Some _ _ is in
        let text_is : text ≡ 42 ∷ [] = append_cancel_right text (42 ∷ []) rest (all_is ∙ ap (λ (x : List ℕ). b ∷ x) same ∙ ap (λ (c : ℕ). c ∷ rest) (eqb-true b 42 star)) in
        (None, subst (λ (x : List ℕ). IsFirst x None) (sym text_is) star_is)
    by false true star is =
        let n = name_of (b ∷ bs) rest is in
        let text_is : text ≡ n.name = append_cancel_right text n.name rest (all_is ∙ n.whole) in
        (Some (kind.Element, n.name), subst (λ (x : List ℕ). IsFirst x (Some (kind.Element, n.name))) (sym text_is) (type_is n.name n.is))
    by false false star is = let l = later_part (b ∷ bs) rest text is all_is none judged in (l.0, later_first text l.0 l.1)
