-- An attribute part that is read has a name and a value that can be written.
use Rattle.std.proofs.Common.{◌≡◌, inl, inr, ◌⊎◌, ℕ, ◌+◌, ◌<◌, Bool, true, false, ◌==◌, ◌&&◌, ◌||◌, not, if◌then◌else◌, nat_lt, List, [], ◌∷◌, ◌++◌, take, drop, map, Option, None, Some, IfSome, option_map, refl, sym, ap, subst, ◌∙◌, arith}
use Rattle.std.proofs.lemmas.Bool.{cases_lt, lt-ltb, le-ltb, eqb-true, and_parts}
use Rattle.std.proofs.lemmas.Bool.Decides.{nat_tests}
use Rattle.std.proofs.lemmas.List.{map-append}
use Rattle.std.proofs.lemmas.Str.Ascii.{lowercase-lowercase}
use Rattle.std.specs.Char.{to_ascii_lowercase}
use Rattle.std.specs.List.{prefix_len, list_all, list_any}
use Rattle.std.proofs.lemmas.Option.{same_Some}
use Rattle.text_bytes.specs.Attributes.{is_set_apart, with_value}
use Rattle.tp_base.specs.declared.atoms.AtomKind.TheVariants as kind
use Rattle.sel_text.specs.Bytes.{in_name, name_len, behind_gap}
use Rattle.sel_text.specs.Grammar.{Word, Front, in_quotes, is_quote, before_quote, quoted, name_front, value_at, behind_bracket, ended_part, valued_part, with_equals, behind_name, unless_apart, attribute_part}
use Rattle.sel_text.specs.Readable.{IsName, IsAsked, IsQuoted, asked_name}
use Rattle.sel_text.specs.SelectorText.{quote_for}
use Rattle.sel_text.proofs.ByteRuns.{run_passes, all_by, all_of_run}
use Rattle.sel_text.proofs.Lowered as low
use Rattle.sel_text.proofs.NameLemmas.{not_byte, name_begins}

-- a value that can be written in quotes
abbrev pub IsPlain : List ℕ → Type 0
IsPlain value = list_all (in_quotes (quote_for value)) value ≡ true

-- a word of an attribute part, as it is written
pub record IsAskedWord (w : Word) : Type 0 where
  pub name : List ℕ
  pub value : Option (List ℕ)
  pub is : w ≡ (kind.Attr, asked_name name value)
  pub is_name : IsName name
  pub apart : is_set_apart name ≡ false
  pub plain : IfSome value IsPlain

-- ---- values

name_plain : (quote : ℕ) → in_name quote ≡ false → (b : ℕ) → in_name b ≡ true → in_quotes quote b ≡ true
name_plain quote off b h = rw (not_byte in_name quote b off h, not_byte in_name 92 b refl h, not_byte in_name 10 b refl h) refl

quote_plain : (some : Bool) (value : List ℕ) → list_all in_name value ≡ true → list_all (in_quotes (if some then 39 else 34)) value ≡ true
quote_plain true value h = all_by in_name (in_quotes 39) (name_plain 39 refl) value h
quote_plain false value h = all_by in_name (in_quotes 34) (name_plain 34 refl) value h

named_plain : (value : List ℕ) → IsName value → IsPlain value
named_plain value n = quote_plain (list_any (λ b. b == 34) value) value (all_of_run in_name value (name_begins value n).1)

-- a string in double quotes has none in it
none_in : (value : List ℕ) → list_all (in_quotes 34) value ≡ true → list_any (λ b. b == 34) value ≡ false
none_in [] h = refl
none_in (b ∷ value) h = let parts = and_parts (in_quotes 34 b) (list_all (in_quotes 34) value) h in rw (first (b == 34) (b == 92) (b == 10) parts.0) (none_in value parts.1)
  where
    first : (x y z : Bool) → not (x || y || z) ≡ true → x ≡ false
    first true y z h = let wrong : false ≡ true = h in absurd cc
    first false y z h = refl

-- a string in single quotes, where no double ones are in it
other_quotes : (value : List ℕ) → list_all (in_quotes 39) value ≡ true → list_any (λ b. b == 34) value ≡ false → list_all (in_quotes 34) value ≡ true
other_quotes [] h none = refl
other_quotes (b ∷ value) h none =
    let parts = and_parts (in_quotes 39 b) (list_all (in_quotes 39) value) h in
    let none_here = neither (b == 34) (list_any (λ c. c == 34) value) none in
    rw (swapped (b == 34) (b == 39) (b == 92) (b == 10) parts.0 none_here.0) (other_quotes value parts.1 none_here.1)
  where
    neither : (x y : Bool) → (x || y) ≡ false → (x ≡ false) × (y ≡ false)
    neither false y h = (refl, h)
    neither true y h = let wrong : true ≡ false = h in absurd cc

    swapped : (d s y z : Bool) → not (s || y || z) ≡ true → d ≡ false → not (d || y || z) ≡ true
    swapped true s y z h off = let wrong : true ≡ false = off in absurd cc
    swapped false true y z h off = let wrong : false ≡ true = h in absurd cc
    swapped false false y z h off = h

plain_by : (some : Bool) (value : List ℕ) → list_any (λ b. b == 34) value ≡ some → list_all (in_quotes 39) value ≡ true → list_all (in_quotes (if some then 39 else 34)) value ≡ true
plain_by true value is h = h
plain_by false value is h = other_quotes value h is

double_plain : (some : Bool) (value : List ℕ) → some ≡ false → list_all (in_quotes 34) value ≡ true → list_all (in_quotes (if some then 39 else 34)) value ≡ true
double_plain true value off h = let wrong : true ≡ false = off in absurd cc
double_plain false value off h = h

quoted_plain : (quote : ℕ) (value : List ℕ) → is_quote quote ≡ true → list_all (in_quotes quote) value ≡ true → IsPlain value
quoted_plain quote value is h = by (quote == 34) (quote == 39) refl refl is
  where
    by : (d s : Bool) → quote == 34 ≡ d → quote == 39 ≡ s → (d || s) ≡ true → IsPlain value
    by true s double single q =
        let h' = subst (λ z. list_all (in_quotes z) value ≡ true) (eqb-true quote 34 double) h in
        double_plain (list_any (λ b. b == 34) value) value (none_in value h') h'
    by false true double single q =
        let h' = subst (λ z. list_all (in_quotes z) value ≡ true) (eqb-true quote 39 single) h in
        plain_by (list_any (λ b. b == 34) value) value refl h'
    by false false double single q = let wrong : false ≡ true = q in absurd cc

before_plain : (quote : ℕ) (text rest : List ℕ) (v : List ℕ × List ℕ) → is_quote quote ≡ true → list_all (in_quotes quote) text ≡ true → before_quote quote text rest ≡ Some v → IsPlain v.0
before_plain quote text [] v q h is = absurd cc
before_plain quote text (b ∷ rest) v q h is = by (b == quote) is
  where
    by : (c : Bool) → ◌≡◌ {A = Front (List ℕ)} (if c then Some (text, rest) else None) (Some v) → IsPlain v.0
    by true some = subst (λ (p : List ℕ × List ℕ). IsPlain p.0) (same_Some (text, rest) v some) (quoted_plain quote text q h)
    by false none = absurd cc

front_named : (bs : List ℕ) (v : List ℕ × List ℕ) → name_front bs ≡ Some v → IsName v.0
unfolding name_front
front_named bs v is = elim (cases_lt 0 (name_len bs)) [
  | inl some ↦
      let found : ◌≡◌ {A = Front (List ℕ)} (Some (take (name_len bs) bs, drop (name_len bs) bs)) (Some v) = rw (lt-ltb 0 (name_len bs) some) at is in
      subst (λ (p : List ℕ × List ℕ). IsName p.0) (same_Some (take (name_len bs) bs, drop (name_len bs) bs) v found) (low.name_front bs some)
  | inr none ↦ absurd (let no : ◌≡◌ {A = Front (List ℕ)} None (Some v) = rw (le-ltb 0 (name_len bs) none) at is in cc)
]

value_plain : (bs : List ℕ) (v : List ℕ × List ℕ) → value_at bs ≡ Some v → IsPlain v.0
unfolding value_at quoted
value_plain [] v is = absurd cc
value_plain (b ∷ bs) v is = by (is_quote b) refl is
  where
    by : (c : Bool) → is_quote b ≡ c → (if c then before_quote b (take (prefix_len (in_quotes b) bs) bs) (drop (prefix_len (in_quotes b) bs) bs) else name_front (b ∷ bs)) ≡ Some v → IsPlain v.0
    by true q some = before_plain b (take (prefix_len (in_quotes b) bs) bs) (drop (prefix_len (in_quotes b) bs) bs) v q (run_passes (in_quotes b) bs) some
    by false q some = named_plain v.0 (front_named (b ∷ bs) v some)

-- ---- parts

module _ (name : List ℕ) (n : IsName name) (apart : is_set_apart name ≡ false) where
  ended_asked : (value : Option (List ℕ)) (bs : List ℕ) (w : Word × List ℕ) → IfSome value IsPlain → ended_part (asked_name name value) bs ≡ Some w → IsAskedWord w.0
  ended_asked value bs w plain is = by (behind_bracket bs) is
    where
      by : (o : Option (List ℕ)) → ◌≡◌ {A = Front Word} (option_map (λ rest. ((kind.Attr, asked_name name value), rest)) o) (Some w) → IsAskedWord w.0
      by None none = absurd cc
      by (Some rest) some =
          record { name = name; value = value; is = ap (λ (p : Word × List ℕ). p.0) (sym (same_Some ((kind.Attr, asked_name name value), rest) w some)); is_name = n; apart = apart; plain = plain }

  valued_asked : (o : Front (List ℕ)) (w : Word × List ℕ) → IfSome o (λ v. IsPlain v.0) → valued_part name o ≡ Some w → IsAskedWord w.0
  valued_asked None w plain is = absurd cc
  valued_asked (Some v) w plain is = ended_asked (Some v.0) v.1 w plain is

  value_if : (bs : List ℕ) (o : Front (List ℕ)) → value_at bs ≡ o → IfSome o (λ v. IsPlain v.0)
  value_if bs None is = tt
  value_if bs (Some v) is = value_plain bs v is

  equals_asked : (bs : List ℕ) (w : Word × List ℕ) → with_equals name bs ≡ Some w → IsAskedWord w.0
  equals_asked [] w is = absurd cc
  equals_asked (b ∷ rest) w is = by (b == 61) is
    where
      by : (c : Bool) → (if c then valued_part name (value_at (behind_gap true 0 rest)) else ended_part name (b ∷ rest)) ≡ Some w → IsAskedWord w.0
      by true some = valued_asked (value_at (behind_gap true 0 rest)) w (value_if (behind_gap true 0 rest) (value_at (behind_gap true 0 rest)) refl) some
      by false some = ended_asked None (b ∷ rest) w tt some

unless_asked : (o : Front (List ℕ)) (w : Word × List ℕ) → IfSome o (λ n. IsName n.0) → unless_apart o ≡ Some w → IsAskedWord w.0
unfolding behind_name
unless_asked None w n is = absurd cc
unless_asked (Some x) w n is = by (is_set_apart x.0) refl is
  where
    by : (c : Bool) → is_set_apart x.0 ≡ c → (if c then None else with_equals x.0 (behind_gap true 0 x.1)) ≡ Some w → IsAskedWord w.0
    by true apart none = absurd cc
    by false apart some = equals_asked x.0 n apart (behind_gap true 0 x.1) w some

named_if : (bs : List ℕ) (o : Front (List ℕ)) → name_front bs ≡ o → IfSome o (λ n. IsName n.0)
named_if bs None is = tt
named_if bs (Some v) is = front_named bs v is

pub attribute_asked : (bs : List ℕ) (w : Word × List ℕ) → attribute_part bs ≡ Some w → IsAskedWord w.0
unfolding attribute_part
attribute_asked bs w is = unless_asked (name_front (behind_gap true 0 bs)) w (named_if (behind_gap true 0 bs) (name_front (behind_gap true 0 bs)) refl) is

-- ---- in lower case

same_quote : (b : ℕ) → (to_ascii_lowercase b == 34) ≡ (b == 34)
same_quote b = grind (arith, nat_tests)

same_single : (b : ℕ) → (to_ascii_lowercase b == 39) ≡ (b == 39)
same_single b = grind (arith, nat_tests)

same_slash : (b : ℕ) → (to_ascii_lowercase b == 92) ≡ (b == 92)
same_slash b = grind (arith, nat_tests)

same_end : (b : ℕ) → (to_ascii_lowercase b == 10) ≡ (b == 10)
same_end b = grind (arith, nat_tests)

any_lowered : (value : List ℕ) → list_any (λ b. b == 34) (map to_ascii_lowercase value) ≡ list_any (λ b. b == 34) value
any_lowered [] = refl
any_lowered (b ∷ value) = rw (same_quote b, any_lowered value) refl

all_lowered : (some : Bool) (value : List ℕ) → list_all (in_quotes (if some then 39 else 34)) (map to_ascii_lowercase value) ≡ list_all (in_quotes (if some then 39 else 34)) value
all_lowered some [] = refl
all_lowered true (b ∷ value) = rw (same_single b, same_slash b, same_end b, all_lowered true value) refl
all_lowered false (b ∷ value) = rw (same_quote b, same_slash b, same_end b, all_lowered false value) refl

pub lower_twice : (name : List ℕ) → map to_ascii_lowercase (map to_ascii_lowercase name) ≡ map to_ascii_lowercase name
lower_twice [] = refl
lower_twice (b ∷ name) = rw (lowercase-lowercase b, lower_twice name) refl

abbrev pub lowered_value : Option (List ℕ) → Option (List ℕ)
lowered_value value = option_map (map to_ascii_lowercase) value

pub quoted_lowered : (value : Option (List ℕ)) → IfSome value IsPlain → IfSome (lowered_value value) IsQuoted
quoted_lowered None plain = tt
quoted_lowered (Some value) plain = record {
  plain = rw (any_lowered value) (all_lowered (list_any (λ b. b == 34) value) value ∙ plain);
  lowered = lower_twice value;
}

pub asked_in_lower : (name : List ℕ) → IsName name → is_set_apart name ≡ false → IsAsked (map to_ascii_lowercase name)
unfolding is_set_apart
asked_in_lower name n apart = record { is_name = low.name_lowered name n; lowered = lower_twice name; apart = rw (lower_twice name) apart }

pub name_in_lower : (name : List ℕ) (value : Option (List ℕ)) → map to_ascii_lowercase (asked_name name value) ≡ asked_name (map to_ascii_lowercase name) (lowered_value value)
name_in_lower name None = refl
name_in_lower name (Some value) = rw (map-append to_ascii_lowercase (name ++ 61 ∷ []) value, map-append to_ascii_lowercase name (61 ∷ [])) refl
