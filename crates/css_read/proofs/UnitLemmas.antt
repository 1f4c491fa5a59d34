-- A text as the strings, comments and bytes that it is passed over by. Such a unit is passed over by itself wherever it stands,
-- if it is no string that a line end ends, and if a `/` doesn't stand before a `*`.
use Rattle.std.proofs.Common.{◌≡◌, ℕ, zero, suc, ◌+◌, ◌-◌, ◌≤◌, ◌<◌, ◌==◌, ◌&&◌, ◌||◌, not, Bool, true, false, if◌then◌else◌, List, [], ◌∷◌, ◌++◌, length, drop, refl, sym, ap, ◌∙◌, subst, arith, length-append, append_assoc}
use Rattle.std.specs.Prelude.{◌⊎◌}
use mathlib.Core.Logic.{inl, inr}
use Rattle.std.proofs.lemmas.Bool.{and_parts, or_parts, cases_Bool, eqb-true, not-true}
use Rattle.std.proofs.lemmas.Bool.Decides.{nat_tests}
use Rattle.std.proofs.lemmas.List.{drop_at}
use Rattle.text_bytes.specs.Blanks.{is_blank}
use Rattle.sel_text.specs.Bytes.{begins_with, behind_close, behind_gap}
use Rattle.sel_text.proofs.Gaps.{gap_skip}
use Rattle.css_read.specs.Pieces.{with_unit, solid_len}
use Rattle.css_read.specs.declared.brackets.Bracket.{Bracket}
use Rattle.css_read.specs.Units.{is_quote, begins_comment, begins_gap, behind_unit, after_byte, stops_at, from_first_in, behind_string}
use Rattle.css_read.proofs.Firsts.{skips}
use Rattle.css_read.proofs.FrontLemmas.{StaysGap, comment_stays, comment_unit, blank_unit, unit_end}
use Rattle.css_read.proofs.Lengths.{no_longer, close_no_longer}
use Rattle.css_read.proofs.ScanLemmas.{no_front, within}

-- ---- chunks

pub record Chunk : Type 0 where
  pub first : ℕ
  pub more : List ℕ

abbrev pub flat : List Chunk → List ℕ
flat [] = []
flat (c ∷ cs) = c.first ∷ c.more ++ flat cs

pub flat-append : (cs ds : List Chunk) → flat (cs ++ ds) ≡ flat cs ++ flat ds
flat-append [] ds = refl
flat-append (c ∷ cs) ds = ap (λ bs. c.first ∷ bs) (ap (λ bs. c.more ++ bs) (flat-append cs ds) ∙ sym (append_assoc c.more (flat cs) (flat ds)))

-- a `/` alone begins no comment
abbrev pub IsCalm : Chunk → List ℕ → Type 0
IsCalm c rest = c.more ≡ [] → c.first ≡ 47 → begins_with 42 rest ≡ false

abbrev pub is_gap : Chunk → Bool
is_gap c = begins_gap (c.first ∷ c.more)

-- it is passed over by itself
pub record IsUnit (c : Chunk) : Type 0 where
  pub passes : (rest : List ℕ) → IsCalm c rest → behind_unit (c.first ∷ c.more ++ rest) ≡ rest
  pub gap : (rest : List ℕ) → IsCalm c rest → begins_gap (c.first ∷ c.more ++ rest) ≡ is_gap c
  -- white space, or a comment with its end
  pub gap_calm : is_gap c ≡ true → c.more ≡ [] → c.first ≡ 47 → ⊥

abbrev pub AreUnits : List Chunk → List ℕ → Type 0
AreUnits [] rest = Unit {0}
AreUnits (c ∷ cs) rest = IsUnit c × IsCalm c (flat cs ++ rest) × AreUnits cs rest

-- ---- passing over

abbrev pub brackets_after : List Bracket → List Chunk → List Bracket
brackets_after brackets [] = brackets
brackets_after brackets (c ∷ cs) = brackets_after (after_byte c.first brackets) cs

-- none of some bytes stands outside brackets
abbrev pub has_none : List ℕ → List Bracket → List Chunk → Bool
has_none bytes brackets [] = true
has_none bytes brackets (c ∷ cs) = not (stops_at bytes c.first brackets) && has_none bytes (after_byte c.first brackets) cs

scan_step : (bytes : List ℕ) (brackets : List Bracket) (b : ℕ) (p rest : List ℕ) → stops_at bytes b brackets ≡ false → behind_unit (b ∷ p ++ rest) ≡ rest
    → from_first_in bytes brackets 0 (b ∷ p ++ rest) ≡ from_first_in bytes (after_byte b brackets) 0 rest
unfolding from_first_in
scan_step bytes brackets b p rest stops behind =
    let count = length-append p rest in
    let left : length (p ++ rest) - length rest ≡ length p = omega arith in
    rw (stops, behind, left) (skips bytes (after_byte b brackets) (length p) (p ++ rest) ∙ ap (from_first_in bytes (after_byte b brackets) 0) (drop_at p rest (length p) refl))

pub scan_units : (bytes : List ℕ) (brackets : List Bracket) (cs : List Chunk) (rest : List ℕ) → AreUnits cs rest → has_none bytes brackets cs ≡ true
    → from_first_in bytes brackets 0 (flat cs ++ rest) ≡ from_first_in bytes (brackets_after brackets cs) 0 rest
scan_units bytes brackets [] rest units none = refl
scan_units bytes brackets (c ∷ cs) rest units none =
    let both = and_parts (not (stops_at bytes c.first brackets)) (has_none bytes (after_byte c.first brackets) cs) none in
    ap (λ bs. from_first_in bytes brackets 0 (c.first ∷ bs)) (append_assoc c.more (flat cs) rest)
    ∙ scan_step bytes brackets c.first c.more (flat cs ++ rest) (not-true _ both.0) (units.0.passes (flat cs ++ rest) units.1)
    ∙ scan_units bytes (after_byte c.first brackets) cs rest units.2 both.1

-- ---- the chunks of a text that is passed over

-- each is passed over where it stands
abbrev pub ArePassed : List Chunk → List ℕ → Type 0
ArePassed [] rest = Unit {0}
ArePassed (c ∷ cs) rest = (behind_unit (c.first ∷ c.more ++ (flat cs ++ rest)) ≡ flat cs ++ rest) × ArePassed cs rest

pub record AreChunks (bytes : List ℕ) (brackets : List Bracket) (x rest : List ℕ) (cs : List Chunk) : Type 0 where
  pub whole : flat cs ≡ x
  pub passed : ArePassed cs rest
  pub none : has_none bytes brackets cs ≡ true
  pub closed : brackets_after brackets cs ≡ []

abbrev pub Chunks : List ℕ → List Bracket → List ℕ → List ℕ → Type 0
Chunks bytes brackets x rest = (cs : List Chunk) × AreChunks bytes brackets x rest cs

stop_either : (bytes : List ℕ) (test : Bool) (b : ℕ) (bs rest later : List ℕ) → (if test then b ∷ bs else later) ≡ rest → length rest < length (b ∷ bs) → test ≡ false
stop_either bytes true b bs rest later at less = let long = ap length at in absurd (omega arith)
stop_either bytes false b bs rest later at less = refl

pub no_brackets : (brackets : List Bracket) → (length brackets == 0) ≡ true → brackets ≡ []
no_brackets [] none = refl
no_brackets (o ∷ os) none = absurd (omega (arith, eqb-true (length (o ∷ os)) 0 none))

stop_there : (bytes : List ℕ) (brackets : List Bracket) (test : Bool) (c : ℕ) (t later : List ℕ) → (if test then c ∷ t else later) ≡ c ∷ t → length later ≤ length t → test ≡ true
stop_there bytes brackets true c t later at few = refl
stop_there bytes brackets false c t later at few = let long = ap length at in absurd (omega arith)

stopped : (bytes : List ℕ) (brackets : List Bracket) (c : ℕ) (t : List ℕ) → from_first_in bytes brackets 0 (c ∷ t) ≡ c ∷ t → stops_at bytes c brackets ≡ true
unfolding from_first_in
stopped bytes brackets c t at = stop_there bytes brackets (stops_at bytes c brackets) c t _ at (no_longer bytes (after_byte c brackets) _ t)

goes_past : (bytes : List ℕ) (brackets : List Bracket) (b : ℕ) (p : List ℕ) (c : ℕ) (t : List ℕ) → from_first_in bytes brackets 0 (b ∷ p ++ c ∷ t) ≡ c ∷ t → stops_at bytes b brackets ≡ false
unfolding from_first_in
goes_past bytes brackets b p c t at = stop_either bytes (stops_at bytes b brackets) b (p ++ c ∷ t) (c ∷ t) _ at (omega (arith, length-append p (c ∷ t)))

-- what is behind the unit has all of the rest
unit_within : (bytes : List ℕ) (brackets : List Bracket) (b : ℕ) (p : List ℕ) (c : ℕ) (t : List ℕ) → stops_at bytes b brackets ≡ false → from_first_in bytes brackets 0 (b ∷ p ++ c ∷ t) ≡ c ∷ t
    → length (c ∷ t) ≤ length (behind_unit (b ∷ p ++ c ∷ t))
unfolding from_first_in
unit_within bytes brackets b p c t stops at =
    let left = length (p ++ c ∷ t) - length (behind_unit (b ∷ p ++ c ∷ t)) in
    let later : from_first_in bytes (after_byte b brackets) left (p ++ c ∷ t) ≡ c ∷ t = rw stops at at in
    let few = within bytes (after_byte b brackets) left (p ++ c ∷ t) in
    let long = ap length later in
    omega arith

-- a text that ends with another, both of which end with a third
pub split_end : (p q r t : List ℕ) → p ++ t ≡ q ++ r → length t ≤ length r → (x : List ℕ) × (p ≡ q ++ x) × (r ≡ x ++ t)
split_end p [] r t same few = (p, refl, sym same)
split_end [] (b ∷ q) r t same few = let long = ap length same in absurd (omega (arith, length-append q r))
split_end (a ∷ p) (b ∷ q) r t same few =
    let first : a ≡ b = cc in
    let later : p ++ t ≡ q ++ r = cc in
    let is = split_end p q r t later few in
    (is.0, ap (λ bs. a ∷ bs) is.1 ∙ ap (λ n. n ∷ q ++ is.0) first, is.2)

with_chunk : (bytes : List ℕ) (brackets : List Bracket) (b : ℕ) (q x rest : List ℕ) → stops_at bytes b brackets ≡ false → behind_unit (b ∷ q ++ (x ++ rest)) ≡ x ++ rest
    → Chunks bytes (after_byte b brackets) x rest → Chunks bytes brackets (b ∷ q ++ x) rest
with_chunk bytes brackets b q x rest stops behind later =
    let cs = later.0 in
    let is = later.1 in (
      (record { first = b; more = q }) ∷ cs,
      record {
        whole = ap (λ bs. b ∷ q ++ bs) is.whole;
        passed = (rw is.whole behind, is.passed);
        none = rw stops is.none;
        closed = is.closed;
      },
    )

-- as many bytes as `fuel` at most
chunks_within : (fuel : ℕ) (bytes : List ℕ) (brackets : List Bracket) (x : List ℕ) (c : ℕ) (t : List ℕ) → length x ≤ fuel → from_first_in bytes brackets 0 (x ++ c ∷ t) ≡ c ∷ t → Chunks bytes brackets x (c ∷ t)
chunks_within fuel bytes brackets [] c t few at =
    let stops = stopped bytes brackets c t at in
    ([], record { whole = refl; passed = tt; none = refl; closed = no_brackets brackets (and_parts _ (length brackets == 0) stops).1 })
chunks_within zero bytes brackets (b ∷ p) c t few at = absurd (omega arith)
chunks_within (suc fuel) bytes brackets (b ∷ p) c t few at =
    let stops = goes_past bytes brackets b p c t at in
    let end = unit_end b (p ++ c ∷ t) in
    let split = split_end p end.front (behind_unit (b ∷ p ++ c ∷ t)) (c ∷ t) end.whole (unit_within bytes brackets b p c t stops at) in
    let x = split.0 in
    let all : p ++ c ∷ t ≡ end.front ++ (x ++ c ∷ t) = ap (λ bs. bs ++ c ∷ t) split.1 ∙ append_assoc end.front x (c ∷ t) in
    let behind : behind_unit (b ∷ end.front ++ (x ++ c ∷ t)) ≡ x ++ c ∷ t = ap (λ bs. behind_unit (b ∷ bs)) (sym all) ∙ split.2 in
    let first : from_first_in bytes brackets 0 (b ∷ end.front ++ (x ++ c ∷ t)) ≡ c ∷ t = ap (λ bs. from_first_in bytes brackets 0 (b ∷ bs)) (sym all) ∙ at in
    let next : from_first_in bytes (after_byte b brackets) 0 (x ++ c ∷ t) ≡ c ∷ t = sym (scan_step bytes brackets b end.front (x ++ c ∷ t) stops behind) ∙ first in
    let sizes = ap length split.1 in
    let later = chunks_within fuel bytes (after_byte b brackets) x c t (omega (arith, length-append end.front x)) next in
    subst (λ (bs : List ℕ). Chunks bytes brackets (b ∷ bs) (c ∷ t)) (sym split.1) (with_chunk bytes brackets b end.front x (c ∷ t) stops behind later)

pub chunks : (bytes : List ℕ) (x : List ℕ) (c : ℕ) (t : List ℕ) → from_first_in bytes [] 0 (x ++ c ∷ t) ≡ c ∷ t → Chunks bytes [] x (c ∷ t)
chunks bytes x c t at = chunks_within (length x) bytes [] x c t (omega arith) at

-- ---- chunks are units, but for strings that are open

pub other_unit : (b : ℕ) (bs : List ℕ) → is_quote b ≡ false → begins_comment (b ∷ bs) ≡ false → behind_unit (b ∷ bs) ≡ bs
unfolding behind_unit
other_unit b bs quote comment = rw (quote, comment) refl

no_comment : (b : ℕ) (rest : List ℕ) → (b ≡ 47 → begins_with 42 rest ≡ false) → begins_comment (b ∷ rest) ≡ false
no_comment b [] calm = grind (arith, nat_tests)
no_comment b (d ∷ rest) calm = pick (cases_Bool (b == 47))
  where
    pick : ((b == 47) ≡ true) ⊎ ((b == 47) ≡ false) → begins_comment (b ∷ d ∷ rest) ≡ false
    pick (inl is) = let slash : b ≡ 47 = grind (arith, nat_tests) in let star = calm slash in grind (arith, nat_tests)
    pick (inr not) = grind (arith, nat_tests)

pub unit_byte : (b : ℕ) → is_quote b ≡ false → IsUnit (record { first = b; more = [] })
unit_byte b quote = record {
  passes = λ rest calm. other_unit b rest quote (no_comment b rest (calm refl));
  gap = λ rest calm. ap (λ (x : Bool). is_blank b || x) (no_comment b rest (calm refl) ∙ sym (no_comment b [] (λ is. refl)));
  gap_calm = λ gap none is. no_slash b is gap;
}
  where
    no_slash : (b : ℕ) → b ≡ 47 → begins_gap (b ∷ []) ≡ true → ⊥
    no_slash b is gap = let wrong : begins_gap (47 ∷ []) ≡ true = rw is at gap in cc

comment_all : (b : ℕ) (p : List ℕ) (c : ℕ) (t : List ℕ) → begins_comment (b ∷ p ++ c ∷ t) ≡ true → behind_unit (b ∷ p ++ c ∷ t) ≡ c ∷ t → (others : List ℕ) → StaysGap b p others
comment_all b p c t comment behind others = comment_stays b p c t others comment behind

unit_comment : (b e : ℕ) (p : List ℕ) (d : ℕ) (t : List ℕ) → begins_comment (b ∷ e ∷ p ++ d ∷ t) ≡ true → behind_unit (b ∷ e ∷ p ++ d ∷ t) ≡ d ∷ t → IsUnit (record { first = b; more = e ∷ p })
unit_comment b e p d t comment behind = record {
  passes = λ rest calm. (comment_all b (e ∷ p) d t comment behind rest).behind;
  gap = λ rest calm. refl;
  gap_calm = λ gap none is. absurd (not_none none);
}
  where
    not_none : e ∷ p ≡ [] → ⊥
    not_none none = cc

star_false : (b d : ℕ) (t : List ℕ) → b ≡ 47 → begins_comment (b ∷ d ∷ t) ≡ false → begins_with 42 (d ∷ t) ≡ false
star_false b d t is not = let none : begins_comment (47 ∷ d ∷ t) ≡ false = rw is at not in grind (arith, nat_tests)

pub record IsUnitBefore (c : Chunk) (rest : List ℕ) : Type 0 where
  pub unit : IsUnit c
  pub calm : IsCalm c rest

unit_by : (test : Bool) (b : ℕ) (p : List ℕ) (d : ℕ) (t : List ℕ) → is_quote b ≡ false → begins_comment (b ∷ p ++ d ∷ t) ≡ test → behind_unit (b ∷ p ++ d ∷ t) ≡ d ∷ t → IsUnitBefore (record { first = b; more = p }) (d ∷ t)
unit_by true b [] d t quote comment behind =
    let few = close_no_longer t in
    let long = ap length (sym (comment_unit b (d ∷ t) comment) ∙ behind) in
    absurd (omega arith)
unit_by true b (e ∷ p) d t quote comment behind = record { unit = unit_comment b e p d t comment behind; calm = λ none is. absurd (not_none none) }
  where
    not_none : e ∷ p ≡ [] → ⊥
    not_none none = cc
unit_by false b p d t quote comment behind =
    let none : p ≡ [] = no_front p d t (sym behind ∙ other_unit b (p ++ d ∷ t) quote comment) in
    let alone : begins_comment (b ∷ d ∷ t) ≡ false = rw none at comment in
    record {
      unit = subst (λ (q : List ℕ). IsUnit (record { first = b; more = q })) (sym none) (unit_byte b quote);
      calm = λ none is. star_false b d t is alone;
    }

-- ---- strings that are closed

abbrev pub is_end : List ℕ → Bool
is_end [] = true
is_end (b ∷ bs) = false

-- the bytes behind an opening quote are a string up to its closing quote, and no more
unfoldable pub ends_string : ℕ → Bool → List ℕ → Bool
ends_string quote escaped [] = false
ends_string quote true (b ∷ bs) = ends_string quote false bs
ends_string quote false (b ∷ bs) = if b == quote then is_end bs else (if b == 10 then false else ends_string quote (b == 92) bs)

end_none : (bs : List ℕ) → is_end bs ≡ true → bs ≡ []
end_none [] is = refl
end_none (b ∷ bs) is = absurd (not_end is)
  where
    not_end : false ≡ true → ⊥
    not_end same = cc

pub string_passed : (quote : ℕ) (escaped : Bool) (p rest : List ℕ) → ends_string quote escaped p ≡ true → behind_string quote escaped (p ++ rest) ≡ rest
unfolding behind_string ends_string
string_passed quote escaped [] rest ends = absurd (not_end ends)
  where
    not_end : false ≡ true → ⊥
    not_end same = cc
string_passed quote true (b ∷ p) rest ends = string_passed quote false p rest ends
string_passed quote false (b ∷ p) rest ends = by (b == quote) (b == 10) ends (string_passed quote (b == 92) p rest)
  where
    not_end : false ≡ true → ⊥
    not_end same = cc

    by : (closes breaks : Bool) → (if closes then is_end p else (if breaks then false else ends_string quote (b == 92) p)) ≡ true → (ends_string quote (b == 92) p ≡ true → behind_string quote (b == 92) (p ++ rest) ≡ rest)
        → (if closes then p ++ rest else (if breaks then b ∷ p ++ rest else behind_string quote (b == 92) (p ++ rest))) ≡ rest
    by true breaks ends later = ap (λ bs. bs ++ rest) (end_none p ends)
    by false true ends later = absurd (not_end ends)
    by false false ends later = later ends

pub string_unit : (b : ℕ) (bs : List ℕ) → is_quote b ≡ true → behind_unit (b ∷ bs) ≡ behind_string b false bs
unfolding behind_unit
string_unit b bs quote = rw quote refl

pub quote_no_gap : (b : ℕ) (bs : List ℕ) → is_quote b ≡ true → begins_gap (b ∷ bs) ≡ false
quote_no_gap b [] quote = grind (arith, nat_tests)
quote_no_gap b (c ∷ bs) quote = grind (arith, nat_tests)

not_slash : (b : ℕ) → is_quote b ≡ true → b ≡ 47 → ⊥
not_slash b quote is = let wrong : is_quote 47 ≡ true = rw is at quote in not_end wrong
  where
    not_end : false ≡ true → ⊥
    not_end same = cc

unit_string : (b : ℕ) (p rest : List ℕ) → is_quote b ≡ true → ends_string b false p ≡ true → IsUnitBefore (record { first = b; more = p }) rest
unit_string b p rest quote ends = record {
  unit = record {
    passes = λ rest calm. string_unit b (p ++ rest) quote ∙ string_passed b false p rest ends;
    gap = λ rest calm. quote_no_gap b (p ++ rest) quote ∙ sym (quote_no_gap b p quote);
    gap_calm = λ gap none is. not_slash b quote is;
  };
  calm = λ none is. absurd (not_slash b quote is);
}

-- no string, or a closed one
abbrev pub is_tame : Chunk → Bool
is_tame c = not (is_quote c.first) || ends_string c.first false c.more

unit_tame : (quote : Bool) (c : Chunk) (d : ℕ) (t : List ℕ) → is_quote c.first ≡ quote → (not quote || ends_string c.first false c.more) ≡ true → behind_unit (c.first ∷ c.more ++ d ∷ t) ≡ d ∷ t → IsUnitBefore c (d ∷ t)
unit_tame true c d t is ends behind = unit_string c.first c.more (d ∷ t) is ends
unit_tame false c d t is ends behind = unit_by _ c.first c.more d t is refl behind

abbrev pub strings_close : List Chunk → Bool
strings_close [] = true
strings_close (c ∷ cs) = is_tame c && strings_close cs

pub units_are : (cs : List Chunk) (d : ℕ) (t : List ℕ) → ArePassed cs (d ∷ t) → strings_close cs ≡ true → AreUnits cs (d ∷ t)
units_are [] d t passed none = tt
units_are (c ∷ []) d t passed none =
    let both = and_parts (is_tame c) true none in
    let is = unit_tame (is_quote c.first) c d t refl both.0 passed.0 in
    (is.unit, is.calm, tt)
units_are (c ∷ e ∷ cs) d t passed none =
    let both = and_parts (is_tame c) (strings_close (e ∷ cs)) none in
    let is = unit_tame (is_quote c.first) c e.first (e.more ++ flat cs ++ d ∷ t) refl both.0 passed.0 in
    (is.unit, is.calm, units_are (e ∷ cs) d t passed.1 both.1)

-- ---- units, joined and before other bytes

pub units_append : (cs ds : List Chunk) (rest : List ℕ) → AreUnits cs (flat ds ++ rest) → AreUnits ds rest → AreUnits (cs ++ ds) rest
units_append [] ds rest first second = second
units_append (c ∷ cs) ds rest first second =
    let same : flat (cs ++ ds) ++ rest ≡ flat cs ++ (flat ds ++ rest) = ap (λ bs. bs ++ rest) (flat-append cs ds) ∙ append_assoc (flat cs) (flat ds) rest in
    (first.0, rw same first.1, units_append cs ds rest first.2 second)

pub units_front : (cs ds : List Chunk) (rest : List ℕ) → AreUnits (cs ++ ds) rest → AreUnits cs (flat ds ++ rest)
units_front [] ds rest units = tt
units_front (c ∷ cs) ds rest units =
    let same : flat (cs ++ ds) ++ rest ≡ flat cs ++ (flat ds ++ rest) = ap (λ bs. bs ++ rest) (flat-append cs ds) ∙ append_assoc (flat cs) (flat ds) rest in
    (units.0, rw same at units.1, units_front cs ds rest units.2)

pub units_behind : (cs ds : List Chunk) (rest : List ℕ) → AreUnits (cs ++ ds) rest → AreUnits ds rest
units_behind [] ds rest units = units
units_behind (c ∷ cs) ds rest units = units_behind cs ds rest units.2

pub units_before : (cs : List Chunk) (rest others : List ℕ) → begins_with 42 others ≡ false → AreUnits cs rest → AreUnits cs others
units_before [] rest others calm units = tt
units_before (c ∷ []) rest others calm units = (units.0, λ none is. calm, tt)
units_before (c ∷ d ∷ cs) rest others calm units = (units.0, units.1, units_before (d ∷ cs) rest others calm units.2)

-- ---- white space and comments at both ends

gap_by : (blank : Bool) (b : ℕ) (p rest : List ℕ) → is_blank b ≡ blank → (blank || begins_comment (b ∷ p ++ rest)) ≡ true → behind_unit (b ∷ p ++ rest) ≡ rest → behind_gap true 0 (b ∷ p ++ rest) ≡ behind_gap true 0 rest
unfolding behind_gap
gap_by true b p rest is gap behind = rw is (ap (behind_gap true 0) (sym (blank_unit b (p ++ rest) is) ∙ behind))
gap_by false b p rest is comment behind =
    let close : behind_close (drop 1 (p ++ rest)) ≡ rest = sym (comment_unit b (p ++ rest) comment) ∙ behind in
    let count = length-append p rest in
    let left : length (p ++ rest) - length rest ≡ length p = omega arith in
    rw (is, comment, close, left) (gap_skip true (length p) (p ++ rest) ∙ ap (behind_gap true 0) (drop_at p rest (length p) refl))

pub gap_passed : (b : ℕ) (p rest : List ℕ) → begins_gap (b ∷ p ++ rest) ≡ true → behind_unit (b ∷ p ++ rest) ≡ rest → behind_gap true 0 (b ∷ p ++ rest) ≡ behind_gap true 0 rest
gap_passed b p rest gap behind = gap_by (is_blank b) b p rest refl gap behind

pub gap_stops : (b : ℕ) (bs : List ℕ) → begins_gap (b ∷ bs) ≡ false → behind_gap true 0 (b ∷ bs) ≡ b ∷ bs
unfolding behind_gap
gap_stops b bs none = let both = or_parts (is_blank b) (begins_comment (b ∷ bs)) none in rw (both.0, both.1) refl

abbrev pub strip : List Chunk → List Chunk
strip [] = []
strip (c ∷ cs) = if is_gap c then strip cs else c ∷ cs

strip_by : (test : Bool) (c : Chunk) (cs : List Chunk) (rest : List ℕ) → is_gap c ≡ test → behind_gap true 0 rest ≡ rest → IsUnit c → IsCalm c (flat cs ++ rest) → behind_gap true 0 (flat cs ++ rest) ≡ flat (strip cs) ++ rest
    → behind_gap true 0 (c.first ∷ (c.more ++ (flat cs ++ rest))) ≡ flat (if test then strip cs else c ∷ cs) ++ rest
strip_by true c cs rest is end unit calm later = gap_passed c.first c.more (flat cs ++ rest) (unit.gap (flat cs ++ rest) calm ∙ is) (unit.passes (flat cs ++ rest) calm) ∙ later
strip_by false c cs rest is end unit calm later =
    gap_stops c.first (c.more ++ (flat cs ++ rest)) (unit.gap (flat cs ++ rest) calm ∙ is) ∙ ap (λ bs. c.first ∷ bs) (sym (append_assoc c.more (flat cs) rest))

pub gap_strip : (cs : List Chunk) (rest : List ℕ) → AreUnits cs rest → behind_gap true 0 rest ≡ rest → behind_gap true 0 (flat cs ++ rest) ≡ flat (strip cs) ++ rest
gap_strip [] rest units end = end
gap_strip (c ∷ cs) rest units end =
    ap (λ bs. behind_gap true 0 (c.first ∷ bs)) (append_assoc c.more (flat cs) rest) ∙ strip_by (is_gap c) c cs rest refl end units.0 units.1 (gap_strip cs rest units.2 end)

-- without the gaps at its end
abbrev pub with_solid : Bool → Chunk → List Chunk → List Chunk
with_solid true c [] = []
with_solid true c (d ∷ ds) = c ∷ d ∷ ds
with_solid false c ds = c ∷ ds

abbrev pub solids : List Chunk → List Chunk
solids [] = []
solids (c ∷ cs) = with_solid (is_gap c) c (solids cs)

pub solid_skip : (n : ℕ) (bs : List ℕ) → solid_len n bs ≡ solid_len 0 (drop n bs)
unfolding solid_len
solid_skip zero bs = refl
solid_skip (suc n) [] = refl
solid_skip (suc n) (b ∷ bs) = solid_skip n bs

pub solid_step : (b : ℕ) (p rest : List ℕ) → behind_unit (b ∷ p ++ rest) ≡ rest → solid_len 0 (b ∷ p ++ rest) ≡ with_unit (begins_gap (b ∷ p ++ rest)) (1 + length p) (solid_len 0 rest)
unfolding solid_len
solid_step b p rest behind =
    let count = length-append p rest in
    let left : length (p ++ rest) - length rest ≡ length p = omega arith in
    rw (behind, left) (ap (with_unit (begins_gap (b ∷ p ++ rest)) (1 + length p)) (solid_skip (length p) (p ++ rest) ∙ ap (solid_len 0) (drop_at p rest (length p) refl)))

unit_len : (gap : Bool) (c : Chunk) (ds : List Chunk) → with_unit gap (1 + length c.more) (length (flat ds)) ≡ length (flat (with_solid gap c ds))
unit_len true c [] = refl
unit_len true c (d ∷ ds) = let count = length-append c.more (flat (d ∷ ds)) in grind (arith, nat_tests)
unit_len false c ds = let count = length-append c.more (flat ds) in omega arith

pub solid_flat : (cs : List Chunk) (rest : List ℕ) → AreUnits cs rest → solid_len 0 rest ≡ 0 → solid_len 0 (flat cs ++ rest) ≡ length (flat (solids cs))
solid_flat [] rest units end = end
solid_flat (c ∷ cs) rest units end =
    ap (λ bs. solid_len 0 (c.first ∷ bs)) (append_assoc c.more (flat cs) rest)
    ∙ solid_step c.first c.more (flat cs ++ rest) (units.0.passes (flat cs ++ rest) units.1)
    ∙ ap (λ (g : Bool). with_unit g (1 + length c.more) (solid_len 0 (flat cs ++ rest))) (units.0.gap (flat cs ++ rest) units.1)
    ∙ ap (with_unit (is_gap c) (1 + length c.more)) (solid_flat cs rest units.2 end)
    ∙ unit_len (is_gap c) c (solids cs)
