-- An attribute part that is judged: it reads the same before any bytes, and its brackets fit.
use Rattle.std.proofs.Common.{◌≡◌, ℕ, zero, suc, ◌+◌, ◌-◌, ◌<◌, ◌==◌, ◌&&◌, ◌||◌, not, Bool, true, false, nat_eq, nat_lt, if◌then◌else◌, List, [], ◌∷◌, ◌++◌, length, take, drop, codes, Option, Some, None, option_map, refl, sym, ap, ◌∙◌, subst, arith, length-append, append_assoc, take-append-drop, inl, inr}
use Rattle.std.specs.Prelude.{◌⊎◌}
use Rattle.std.specs.List.{starts_with, list_all, prefix_len}
use Rattle.std.proofs.lemmas.Bool.{cases_Bool, and_parts, eqb-true, eq-eqb}
use Rattle.std.proofs.lemmas.Bool.Decides.{nat_tests}
use Rattle.std.proofs.lemmas.List.{drop_at}
use Rattle.std.proofs.lemmas.Option.{same_Some}
use Rattle.std.proofs.Math.Seq.{take-append_seam, drop-append_seam}
use Rattle.text_bytes.specs.Attributes.{is_set_apart, with_value}
use Rattle.text_bytes.specs.Blanks.{is_blank}
use Rattle.text_bytes.specs.Marks.{behind_mark}
use Rattle.tp_base.specs.declared.atoms.AtomKind.TheVariants as kind
use Rattle.sel_text.specs.Bytes.{in_name, name_len, behind_close, behind_gap}
use Rattle.sel_text.specs.Readable.{IsName}
use Rattle.sel_text.specs.Grammar.{Front, Word, in_quotes, before_quote, quoted, name_front, is_quote, value_at, behind_end, behind_bracket, ended_part, valued_part, with_equals, behind_name, unless_apart, attribute_part}
use Rattle.sel_text.proofs.ByteRuns.{run_up_to, run_passes, all_by, all_of_run}
use Rattle.sel_text.proofs.Gaps.{gap_skip, passes, stops}
use Rattle.sel_text.proofs.Lowered as lowered
use Rattle.sel_text.proofs.NameLemmas.{not_byte, IsStart, no_gap, name_begins, first_of_name, IsEnd}
use Rattle.sel_text.proofs.AttributeText.{name_read}
use Rattle.css_read.proofs.UnitLemmas.{ends_string, string_passed}
use Rattle.widen_sheet.specs.Wide.{has, after_byte, behind_quoted, behind_brackets}
use Rattle.widen_sheet.proofs.PieceLemmas.{has_later, has_here, has_right}
use Rattle.widen_sheet.proofs.QuietTexts.{MildText, mild_none, mild_append, mild_bytes, mild_string, is_quiet}

-- ---- texts in which no bracket opens or closes

pub record CalmText (bs : List ℕ) : Type 0 where
  pub mild : MildText bs
  pub past : (z : List ℕ) → behind_brackets (93 ∷ []) 0 (bs ++ z) ≡ behind_brackets (93 ∷ []) 0 z

pub calm_append : (xs ys : List ℕ) → CalmText xs → CalmText ys → CalmText (xs ++ ys)
calm_append xs ys a b = record {
  mild = mild_append xs ys a.mild b.mild;
  past = λ z. ap (behind_brackets (93 ∷ []) 0) (append_assoc xs ys z) ∙ a.past (ys ++ z) ∙ b.past z;
}

pub skip_brackets : (closers : List ℕ) (n : ℕ) (bs : List ℕ) → behind_brackets closers n bs ≡ behind_brackets closers 0 (drop n bs)
unfolding behind_brackets
skip_brackets closers zero bs = refl
skip_brackets closers (suc n) [] = refl
skip_brackets closers (suc n) (b ∷ bs) = skip_brackets closers n bs

still_open : (b : ℕ) → is_quiet b ≡ true → after_byte b (93 ∷ []) ≡ 93 ∷ []
unfolding after_byte
still_open b quiet = let other : (93 == b) ≡ false = turned b (not_byte is_quiet 93 b refl quiet) in rw (not_byte is_quiet 40 b refl quiet, not_byte is_quiet 91 b refl quiet, not_byte is_quiet 123 b refl quiet, other) refl
  where
    turned : (b : ℕ) → (b == 93) ≡ false → (93 == b) ≡ false
    turned b e = grind (arith, nat_tests)

unquoted : (b : ℕ) (bs : List ℕ) → is_quiet b ≡ true → behind_quoted b bs ≡ bs
unfolding behind_quoted
unquoted b bs quiet = rw (not_byte is_quiet 34 b refl quiet, not_byte is_quiet 39 b refl quiet) refl

past_step : (b : ℕ) (p z : List ℕ) → after_byte b (93 ∷ []) ≡ 93 ∷ [] → behind_quoted b (p ++ z) ≡ z → behind_brackets (93 ∷ []) 0 (b ∷ (p ++ z)) ≡ behind_brackets (93 ∷ []) 0 z
unfolding behind_brackets
past_step b p z open' behind =
    let count = length-append p z in
    let left : length (p ++ z) - length z ≡ length p = omega arith in
    rw (open', behind, left) (skip_brackets (93 ∷ []) (length p) (p ++ z) ∙ ap (behind_brackets (93 ∷ []) 0) (drop_at p z (length p) refl))

pub calm_bytes : (bs : List ℕ) → list_all is_quiet bs ≡ true → CalmText bs
calm_bytes [] all = record { mild = mild_none; past = λ z. refl }
calm_bytes (b ∷ bs) all =
    let both = and_parts (is_quiet b) (list_all is_quiet bs) all in
    record {
      mild = mild_bytes (b ∷ bs) all;
      past = λ z. past_step b [] (bs ++ z) (still_open b both.0) (unquoted b (bs ++ z) both.0) ∙ (calm_bytes bs both.1).past z;
    }

quote_open : (q : ℕ) → is_quote q ≡ true → after_byte q (93 ∷ []) ≡ 93 ∷ []
unfolding after_byte
quote_open q is = let other : (93 == q) ≡ false = turned q (not_byte is_quote 93 q refl is) in rw (not_byte is_quote 40 q refl is, not_byte is_quote 91 q refl is, not_byte is_quote 123 q refl is, other) refl
  where
    turned : (b : ℕ) → (b == 93) ≡ false → (93 == b) ≡ false
    turned b e = grind (arith, nat_tests)

quote_passed : (q : ℕ) (m z : List ℕ) → is_quote q ≡ true → ends_string q false m ≡ true → behind_quoted q (m ++ z) ≡ z
unfolding behind_quoted
quote_passed q m z is ends = rw is (string_passed q false m z ends)

pub calm_string : (q : ℕ) (m : List ℕ) → is_quote q ≡ true → ends_string q false m ≡ true → CalmText (q ∷ m)
calm_string q m is ends = record { mild = mild_string q m is ends; past = λ z. past_step q m z (quote_open q is) (quote_passed q m z is ends) }

-- ---- gaps without comments

blank_quiet : (b : ℕ) → is_blank b ≡ true → is_quiet b ≡ true
blank_quiet b is = rw (
  not_byte is_blank 34 b refl is,
  not_byte is_blank 39 b refl is,
  not_byte is_blank 40 b refl is,
  not_byte is_blank 41 b refl is,
  not_byte is_blank 44 b refl is,
  not_byte is_blank 47 b refl is,
  not_byte is_blank 91 b refl is,
  not_byte is_blank 93 b refl is,
  not_byte is_blank 123 b refl is,
  not_byte is_blank 125 b refl is,
) refl

pub name_quiet : (b : ℕ) → in_name b ≡ true → is_quiet b ≡ true
name_quiet b is = rw (
  not_byte in_name 34 b refl is,
  not_byte in_name 39 b refl is,
  not_byte in_name 40 b refl is,
  not_byte in_name 41 b refl is,
  not_byte in_name 44 b refl is,
  not_byte in_name 47 b refl is,
  not_byte in_name 91 b refl is,
  not_byte in_name 93 b refl is,
  not_byte in_name 123 b refl is,
  not_byte in_name 125 b refl is,
) refl

pub name_all : (name : List ℕ) → IsName name → list_all in_name name ≡ true
name_all name is = all_of_run in_name name (name_begins name is).1

pub calm_blanks : (g : List ℕ) → list_all is_blank g ≡ true → CalmText g
calm_blanks g all = calm_bytes g (all_by is_blank is_quiet blank_quiet g all)

pub calm_name : (name : List ℕ) → IsName name → CalmText name
calm_name name is = calm_bytes name (all_by in_name is_quiet name_quiet name (name_all name is))

pub gap_over : (g ys : List ℕ) → list_all is_blank g ≡ true → behind_gap true 0 (g ++ ys) ≡ behind_gap true 0 ys
gap_over [] ys all = refl
gap_over (b ∷ g) ys all = let both = and_parts (is_blank b) (list_all is_blank g) all in passes true b (g ++ ys) both.0 ∙ gap_over g ys both.1

none_close : (ys : List ℕ) → has (codes "*/") ys ≡ false → behind_close ys ≡ []
unfolding behind_mark
none_close [] none = refl
none_close (b ∷ ys) none = rw (has_here (codes "*/") b ys none) (none_close ys (has_later (codes "*/") b ys none))

has_drop : (ys : List ℕ) → has (codes "*/") ys ≡ false → has (codes "*/") (drop 1 ys) ≡ false
has_drop [] none = none
has_drop (b ∷ ys) none = has_later (codes "*/") b ys none

-- blanks, and what is behind them, if there is something
pub record Gap (xs : List ℕ) : Type 0 where
  pub blanks : List ℕ
  pub all : list_all is_blank blanks ≡ true
  pub is : (xs ≡ blanks ++ behind_gap true 0 xs) ⊎ (behind_gap true 0 xs ≡ [])

gap_none : Gap []
unfolding behind_gap
gap_none = record { blanks = []; all = refl; is = inr refl }

gap_more : (b : ℕ) (bs : List ℕ) → is_blank b ≡ true → Gap bs → Gap (b ∷ bs)
gap_more b bs blank is =
    let same = passes true b bs blank in
    record {
      blanks = b ∷ is.blanks;
      all = rw blank is.all;
      is = by is.is same;
    }
  where
    by : (bs ≡ is.blanks ++ behind_gap true 0 bs) ⊎ (behind_gap true 0 bs ≡ []) → behind_gap true 0 (b ∷ bs) ≡ behind_gap true 0 bs → (b ∷ bs ≡ b ∷ is.blanks ++ behind_gap true 0 (b ∷ bs)) ⊎ (behind_gap true 0 (b ∷ bs) ≡ [])
    by (inl e) same = inl (ap (λ r. b ∷ r) (e ∙ ap (λ r. is.blanks ++ r) (sym same)))
    by (inr e) same = inr (same ∙ e)

gap_comment : (b : ℕ) (bs : List ℕ) → is_blank b ≡ false → starts_with nat_eq (b ∷ bs) (codes "/*") ≡ true → has (codes "*/") bs ≡ false → behind_gap true 0 (b ∷ bs) ≡ []
unfolding behind_gap
gap_comment b bs other comment none =
    let left : length bs - length (behind_close (drop 1 bs)) ≡ length bs = ap (λ (r : List ℕ). length bs - length r) (none_close (drop 1 bs) (has_drop bs none)) ∙ omega arith in
    rw (other, comment, left) (gap_skip true (length bs) bs ∙ ap (behind_gap true 0) (drop_whole bs))
  where
    drop_whole : (bs : List ℕ) → drop (length bs) bs ≡ []
    drop_whole [] = refl
    drop_whole (b ∷ bs) = drop_whole bs

pub gap_of : (xs : List ℕ) → has (codes "*/") xs ≡ false → Gap xs
gap_of [] none = gap_none
gap_of (b ∷ bs) none = elim (cases_Bool (is_blank b)) [
  | inl blank ↦ gap_more b bs blank (gap_of bs (has_later (codes "*/") b bs none))
  | inr other ↦ elim (cases_Bool (starts_with nat_eq (b ∷ bs) (codes "/*"))) [
    | inl comment ↦ record { blanks = []; all = refl; is = inr (gap_comment b bs other comment (has_later (codes "*/") b bs none)) }
    | inr plain ↦ record { blanks = []; all = refl; is = inl (sym (stops true b bs other plain)) }
  ]
]

-- behind the gap stands this
pub gap_to : (xs ys : List ℕ) → has (codes "*/") xs ≡ false → behind_gap true 0 xs ≡ ys → 0 < length ys → (g : List ℕ) × (list_all is_blank g ≡ true) × (xs ≡ g ++ ys)
gap_to xs ys none at some = let gap = gap_of xs none in (gap.blanks, gap.all, by gap.is)
  where
    by : (xs ≡ (gap_of xs none).blanks ++ behind_gap true 0 xs) ⊎ (behind_gap true 0 xs ≡ []) → xs ≡ (gap_of xs none).blanks ++ ys
    by (inl e) = e ∙ ap (λ r. (gap_of xs none).blanks ++ r) at
    by (inr e) = absurd (omega (arith, some, ap length (sym at ∙ e)))

-- ---- the parts of an attribute part

not_none : {A : Type 0} (x : A) → None ≡ Some x → ⊥
not_none x is = cc

abbrev pub named : List ℕ → List ℕ → Word × List ℕ
named name rest = ((kind.Attr, name), rest)

abbrev word : List ℕ → Word
word name = (kind.Attr, name)

abbrev found : List ℕ → List ℕ → Front (List ℕ)
found v r = Some (v, r)

pair_same : {X : Type 0} (a b : X) (r s : List ℕ) → ◌≡◌ {A = Option (X × List ℕ)} (Some (a, r)) (Some (b, s)) → (a ≡ b) × (r ≡ s)
pair_same {X = X} a b r s is = let e = same_Some (a, r) (b, s) is in (ap (λ (p : X × List ℕ). p.0) e, ap (λ (p : X × List ℕ). p.1) e)

end_by : (b : ℕ) (rest r : List ℕ) → (if b == 93 then Some rest else None) ≡ Some r → b ∷ rest ≡ 93 ∷ r
end_by b rest r is = by (b == 93) refl is
  where
    by : (t : Bool) → (b == 93) ≡ t → (if t then Some rest else None) ≡ Some r → b ∷ rest ≡ 93 ∷ r
    by true e is = let same : rest ≡ r = cc in let byte : b ≡ 93 = eqb-true b 93 e in rw (byte, same) refl
    by false e is = absurd (none is)
      where
        none : None ≡ Some r → ⊥
        none is = cc

end_is : (at r : List ℕ) → behind_end at ≡ Some r → at ≡ 93 ∷ r
end_is [] r is = absurd (none is)
  where
    none : None ≡ Some r → ⊥
    none is = cc
end_is (b ∷ rest) r is = end_by b rest r is

-- what a reader gives of a text, which is a body and a `]`
pub record IsBody (f : List ℕ → Front Word) (xs : List ℕ) (w : Word) (r : List ℕ) : Type 0 where
  pub body : List ℕ
  pub whole : xs ≡ body ++ 93 ∷ r
  pub again : (z : List ℕ) → f (body ++ 93 ∷ z) ≡ Some (w, z)
  pub calm : CalmText body

at_bracket : (g z : List ℕ) → list_all is_blank g ≡ true → behind_bracket (g ++ 93 ∷ z) ≡ Some z
unfolding behind_bracket
at_bracket g z all = rw (gap_over g (93 ∷ z) all, no_gap true (93 ∷ z) (refl, refl, refl)) refl

some_word : (name : List ℕ) (o : Option (List ℕ)) (w : Word) (r : List ℕ) → option_map (named name) o ≡ Some (w, r) → (w ≡ word name) × (o ≡ Some r)
some_word name None w r is = absurd (not_none (w, r) is)
some_word name (Some rest) w r is = let both = pair_same (kind.Attr, name) w rest r is in (sym both.0, ap Some both.1)

bracket_body : (name xs : List ℕ) (w : Word) (r : List ℕ) → has (codes "*/") xs ≡ false → ended_part name xs ≡ Some (w, r) → IsBody (ended_part name) xs w r
unfolding behind_bracket
bracket_body name xs w r none is =
    let both = some_word name (behind_bracket xs) w r is in
    let gap = gap_to xs (93 ∷ r) none (end_is (behind_gap true 0 xs) r both.1) (omega arith) in
    record {
      body = gap.0;
      whole = gap.2;
      again = λ z. ap (option_map (named name)) (at_bracket gap.0 z gap.1) ∙ ap (λ (v : Word). Some (v, z)) (sym both.0);
      calm = calm_blanks gap.0 gap.1;
    }

-- ---- values

-- a value that is read, wherever no byte of a name follows
record IsValue (xs v r : List ℕ) : Type 0 where
  own : List ℕ
  whole : xs ≡ own ++ r
  again : (z : List ℕ) → IsEnd z → value_at (own ++ z) ≡ Some (v, z)
  start : (z : List ℕ) → behind_gap true 0 (own ++ z) ≡ own ++ z
  calm : CalmText own

front_is : (bs v r : List ℕ) → name_front bs ≡ Some (v, r) → IsName v × (bs ≡ v ++ r)
unfolding name_front
front_is bs v r is = by (nat_lt 0 (name_len bs)) refl is
  where
    less : (n : ℕ) → nat_lt 0 n ≡ true → 0 < n
    less n e = grind (arith, nat_tests)

    by : (t : Bool) → nat_lt 0 (name_len bs) ≡ t → (if t then found (take (name_len bs) bs) (drop (name_len bs) bs) else None) ≡ Some (v, r) → IsName v × (bs ≡ v ++ r)
    by true e is =
        let both = pair_same (take (name_len bs) bs) v (drop (name_len bs) bs) r is in
        let first : take (name_len bs) bs ≡ v = both.0 in
        let second : drop (name_len bs) bs ≡ r = both.1 in
        (subst IsName first (lowered.name_front bs (less (name_len bs) e)), sym (take-append-drop (name_len bs) bs) ∙ rw (first, second) refl)
    by false e is = absurd (not_none (v, r) is)

no_quote : (name rest : List ℕ) → IsName name → value_at (name ++ rest) ≡ name_front (name ++ rest)
unfolding value_at
no_quote name rest is = by (name ++ rest) (first_of_name name rest (name_begins name is).0) (quiet_front name rest is)
  where
    quiet_front : (name rest : List ℕ) → IsName name → (c : ℕ) (cs : List ℕ) → name ++ rest ≡ c ∷ cs → is_quote c ≡ false
    quiet_front [] rest is c cs e = absurd (omega (arith, is.some))
    quiet_front (b ∷ name) rest is c cs e =
        let same : b ≡ c = cc in
        let both = and_parts (in_name b) (list_all in_name name) (name_all (b ∷ name) is) in
        let inner = both.0 in
        subst (λ (x : ℕ). is_quote x ≡ false) same (rw (not_byte in_name 34 b refl inner, not_byte in_name 39 b refl inner) refl)

    by : (bs : List ℕ) → IsStart bs → ((c : ℕ) (cs : List ℕ) → bs ≡ c ∷ cs → is_quote c ≡ false) → value_at bs ≡ name_front bs
    by [] start none = absurd start
    by (c ∷ cs) start none = rw (none c cs refl) refl

name_value : (xs v r : List ℕ) → name_front xs ≡ Some (v, r) → IsValue xs v r
name_value xs v r is =
    let both = front_is xs v r is in
    record {
      own = v;
      whole = both.1;
      again = λ z end. no_quote v z both.0 ∙ name_read v z both.0 end;
      start = λ z. no_gap true (v ++ z) (first_of_name v z (name_begins v both.0).0);
      calm = calm_name v both.0;
    }

inside_ends : (q : ℕ) (v : List ℕ) → list_all (in_quotes q) v ≡ true → ends_string q false (v ++ q ∷ []) ≡ true
unfolding ends_string
inside_ends q [] all = rw (eq-eqb q q refl) refl
inside_ends q (b ∷ v) all =
    let both = and_parts (in_quotes q b) (list_all (in_quotes q) v) all in
    by (b == q) (b == 92) (b == 10) both.0 (inside_ends q v both.1)
  where
    by : (x y z : Bool) → not (x || y || z) ≡ true → ends_string q false (v ++ q ∷ []) ≡ true → (if x then Rattle.css_read.proofs.UnitLemmas.is_end (v ++ q ∷ []) else (if z then false else ends_string q y (v ++ q ∷ []))) ≡ true
    by true y z inside ends = cc
    by false true z inside ends = cc
    by false false true inside ends = cc
    by false false false inside ends = ends

quoted_again : (q : ℕ) (v z : List ℕ) → list_all (in_quotes q) v ≡ true → quoted q (v ++ q ∷ z) ≡ Some (v, z)
unfolding quoted
quoted_again q v z all =
    let same = eq-eqb q q refl in
    let last : in_quotes q q ≡ false = rw same refl in
    rw (run_up_to (in_quotes q) v q z all last, take-append_seam v (q ∷ z), drop-append_seam v (q ∷ z), same) refl

before_is : (q : ℕ) (text at v r : List ℕ) → before_quote q text at ≡ Some (v, r) → (text ≡ v) × (at ≡ q ∷ r)
before_is q text [] v r is = absurd (not_none (v, r) is)
before_is q text (b ∷ rest) v r is = by (b == q) refl is
  where
    by : (t : Bool) → (b == q) ≡ t → (if t then found text rest else None) ≡ Some (v, r) → (text ≡ v) × (b ∷ rest ≡ q ∷ r)
    by true e is = let both = pair_same text v rest r is in let first : text ≡ v = both.0 in let second : rest ≡ r = both.1 in let byte : b ≡ q = eqb-true b q e in (first, rw (byte, second) refl)
    by false e is = absurd (not_none (v, r) is)

string_value : (q : ℕ) (bs v r : List ℕ) → is_quote q ≡ true → quoted q bs ≡ Some (v, r) → IsValue (q ∷ bs) v r
unfolding quoted value_at
string_value q bs v r is reads =
    let n = prefix_len (in_quotes q) bs in
    let both = before_is q (take n bs) (drop n bs) v r reads in
    let all : list_all (in_quotes q) v ≡ true = subst (λ (x : List ℕ). list_all (in_quotes q) x ≡ true) both.0 (run_passes (in_quotes q) bs) in
    let ends = inside_ends q v all in
    record {
      own = q ∷ (v ++ q ∷ []);
      whole = ap (λ (x : List ℕ). q ∷ x) (sym (take-append-drop n bs) ∙ rw (both.0, both.1) refl ∙ sym (append_assoc v (q ∷ []) r));
      again = λ z end. rw is (ap (quoted q) (append_assoc v (q ∷ []) z) ∙ quoted_again q v z all);
      start = λ z. no_gap true (q ∷ ((v ++ q ∷ []) ++ z)) (not_blank q is, not_byte is_quote 47 q refl is, not_byte is_quote 62 q refl is);
      calm = calm_string q (v ++ q ∷ []) is ends;
    }
  where
    not_blank : (q : ℕ) → is_quote q ≡ true → is_blank q ≡ false
    not_blank q is = rw (not_byte is_quote 32 q refl is, not_byte is_quote 9 q refl is, not_byte is_quote 10 q refl is, not_byte is_quote 12 q refl is, not_byte is_quote 13 q refl is) refl

value_is : (xs v r : List ℕ) → value_at xs ≡ Some (v, r) → IsValue xs v r
unfolding value_at
value_is [] v r is = absurd (not_none (v, r) is)
value_is (b ∷ bs) v r is = by (is_quote b) refl is
  where
    by : (t : Bool) → is_quote b ≡ t → (if t then quoted b bs else name_front (b ∷ bs)) ≡ Some (v, r) → IsValue (b ∷ bs) v r
    by true e is = string_value b bs v r e is
    by false e is = name_value (b ∷ bs) v r is

-- ---- the whole part

end_of_body : (g z : List ℕ) → list_all is_blank g ≡ true → IsEnd (g ++ 93 ∷ z)
end_of_body [] z all = refl
end_of_body (b ∷ g) z all =
    let both = and_parts (is_blank b) (list_all is_blank g) all in
    let other : in_name b ≡ false = blank_no_name b both.0 in
    rw other refl
  where
    blank_no_name : (b : ℕ) → is_blank b ≡ true → in_name b ≡ false
    blank_no_name b is = elim (cases_Bool (in_name b)) [
      | inl yes' ↦ absurd (apart (sym is ∙ rw (not_byte in_name 32 b refl yes', not_byte in_name 9 b refl yes', not_byte in_name 10 b refl yes', not_byte in_name 12 b refl yes', not_byte in_name 13 b refl yes') refl))
      | inr other ↦ other
    ]
      where
        apart : true ≡ false → ⊥
        apart e = cc

bracket_at : (xs r : List ℕ) → behind_bracket xs ≡ Some r → behind_gap true 0 xs ≡ 93 ∷ r
unfolding behind_bracket
bracket_at xs r is = end_is (behind_gap true 0 xs) r is

all_both : (g h : List ℕ) → list_all is_blank g ≡ true → list_all is_blank h ≡ true → list_all is_blank (g ++ h) ≡ true
all_both [] h first second = second
all_both (b ∷ g) h first second = let both = and_parts (is_blank b) (list_all is_blank g) first in rw both.0 (all_both g h both.1 second)

-- behind a name no byte of one is next
run_ends : (xs : List ℕ) → prefix_len in_name (drop (prefix_len in_name xs) xs) ≡ 0
run_ends [] = refl
run_ends (b ∷ xs) = by (in_name b) refl (run_ends xs)
  where
    one : (n : ℕ) → 1 + n ≡ suc n
    one n = omega arith

    by : (t : Bool) → in_name b ≡ t → prefix_len in_name (drop (prefix_len in_name xs) xs) ≡ 0 → prefix_len in_name (drop (Rattle.std.proofs.Common.cond t (1 + prefix_len in_name xs) 0) (b ∷ xs)) ≡ 0
    by true e later = rw (one (prefix_len in_name xs)) later
    by false e later = rw e refl

pub len_ends : (bs : List ℕ) → 0 < name_len bs → IsEnd (drop (name_len bs) bs)
unfolding name_len
len_ends bs some = by (Rattle.sel_text.specs.Bytes.begins_name bs) some
  where
    by : (t : Bool) → 0 < (if t then prefix_len in_name bs else 0) → IsEnd (drop (if t then prefix_len in_name bs else 0) bs)
    by true some = run_ends bs
    by false some = absurd (omega arith)

ends : (bs v r : List ℕ) → name_front bs ≡ Some (v, r) → IsEnd r
unfolding name_front
ends bs v r is = by (nat_lt 0 (name_len bs)) refl is
  where
    less : (n : ℕ) → nat_lt 0 n ≡ true → 0 < n
    less n e = grind (arith, nat_tests)

    by : (t : Bool) → nat_lt 0 (name_len bs) ≡ t → (if t then found (take (name_len bs) bs) (drop (name_len bs) bs) else None) ≡ Some (v, r) → IsEnd r
    by true e is = let second : drop (name_len bs) bs ≡ r = (pair_same (take (name_len bs) bs) v (drop (name_len bs) bs) r is).1 in subst IsEnd second (len_ends bs (less (name_len bs) e))
    by false e is = absurd (not_none (v, r) is)

-- whatever is behind the bracket
end_again : (body all r z : List ℕ) → all ≡ body ++ 93 ∷ r → IsEnd all → IsEnd (body ++ 93 ∷ z)
end_again [] all r z whole end = refl
end_again (b ∷ body) all r z whole end = by (in_name b) refl (subst IsEnd whole end)
  where
    by : (t : Bool) → in_name b ≡ t → Rattle.std.proofs.Common.cond t (1 + prefix_len in_name (body ++ 93 ∷ r)) 0 ≡ 0 → Rattle.std.proofs.Common.cond t (1 + prefix_len in_name (body ++ 93 ∷ z)) 0 ≡ 0
    by true e none = absurd (omega arith)
    by false e none = refl

value_some : (at : List ℕ) (v : List ℕ × List ℕ) → value_at at ≡ Some v → 0 < length at
unfolding value_at
value_some [] v read = absurd (not_none v read)
value_some (b ∷ bs) v read = omega arith

equals_body : (name g rest : List ℕ) (w : Word) (r : List ℕ) → list_all is_blank g ≡ true → has (codes "*/") rest ≡ false → valued_part name (value_at (behind_gap true 0 rest)) ≡ Some (w, r)
    → IsBody (λ (bs : List ℕ). with_equals name (behind_gap true 0 bs)) (g ++ 61 ∷ rest) w r
equals_body name g rest w r all none is = by (value_at (behind_gap true 0 rest)) refl is
  where
    by : (o : Front (List ℕ)) → value_at (behind_gap true 0 rest) ≡ o → valued_part name o ≡ Some (w, r) → IsBody (λ (bs : List ℕ). with_equals name (behind_gap true 0 bs)) (g ++ 61 ∷ rest) w r
    by None read is = absurd (not_none (w, r) is)
    by (Some v) read is =
        let value = value_is (behind_gap true 0 rest) v.0 v.1 read in
        let long : 0 < length (behind_gap true 0 rest) = value_some (behind_gap true 0 rest) v read in
        let gap = gap_to rest (behind_gap true 0 rest) none refl long in
        let inner : rest ≡ gap.0 ++ (value.own ++ v.1) = gap.2 ∙ ap (λ (x : List ℕ). gap.0 ++ x) value.whole in
        let behind : has (codes "*/") v.1 ≡ false = has_right (codes "*/") value.own v.1 (has_right (codes "*/") gap.0 (value.own ++ v.1) (subst (λ (x : List ℕ). has (codes "*/") x ≡ false) inner none)) in
        let both = some_word (with_value name v.0) (behind_bracket v.1) w r is in
        let last = gap_to v.1 (93 ∷ r) behind (bracket_at v.1 r both.1) (omega arith) in
        let own : List ℕ = g ++ (61 ∷ (gap.0 ++ (value.own ++ last.0))) in
        record {
          body = own;
          whole = ap (λ (x : List ℕ). g ++ 61 ∷ x) (inner ∙ ap (λ (x : List ℕ). gap.0 ++ (value.own ++ x)) last.2) ∙ spread g gap.0 value.own last.0 (93 ∷ r);
          again = λ z.
              ap (λ (x : List ℕ). with_equals name (behind_gap true 0 x)) (sym (spread g gap.0 value.own last.0 (93 ∷ z)))
              ∙ ap (with_equals name) (gap_over g (61 ∷ (gap.0 ++ (value.own ++ (last.0 ++ 93 ∷ z)))) all ∙ no_gap true (61 ∷ (gap.0 ++ (value.own ++ (last.0 ++ 93 ∷ z)))) (refl, refl, refl))
              ∙ ap (λ (x : List ℕ). valued_part name (value_at x)) (gap_over gap.0 (value.own ++ (last.0 ++ 93 ∷ z)) gap.1 ∙ value.start (last.0 ++ 93 ∷ z))
              ∙ ap (valued_part name) (value.again (last.0 ++ 93 ∷ z) (end_of_body last.0 z last.1))
              ∙ ap (option_map (named (with_value name v.0))) (at_bracket last.0 z last.1)
              ∙ ap (λ (u : Word). Some (u, z)) (sym both.0);
          calm = calm_append g _ (calm_blanks g all) (calm_append (61 ∷ []) _ (calm_bytes (61 ∷ []) refl) (calm_append gap.0 _ (calm_blanks gap.0 gap.1) (calm_append value.own last.0 value.calm (calm_blanks last.0 last.1))));
        }
      where
        spread : (g h own l z : List ℕ) → g ++ 61 ∷ (h ++ (own ++ (l ++ z))) ≡ (g ++ (61 ∷ (h ++ (own ++ l)))) ++ z
        spread g h own l z =
            sym (append_assoc g (61 ∷ (h ++ (own ++ l))) z ∙ ap (λ (x : List ℕ). g ++ 61 ∷ x) (append_assoc h (own ++ l) z ∙ ap (λ (x : List ℕ). h ++ x) (append_assoc own l z)))

-- behind the name
name_body : (name xs : List ℕ) (w : Word) (r : List ℕ) → has (codes "*/") xs ≡ false → behind_name name xs ≡ Some (w, r) → IsBody (behind_name name) xs w r
unfolding behind_name
name_body name xs w r none is = by (behind_gap true 0 xs) refl is
  where
    by : (at : List ℕ) → behind_gap true 0 xs ≡ at → with_equals name at ≡ Some (w, r) → IsBody (λ (bs : List ℕ). with_equals name (behind_gap true 0 bs)) xs w r
    by [] here is = absurd (not_none (w, r) is)
    by (b ∷ rest) here is =
        let gap = gap_to xs (b ∷ rest) none here (omega arith) in
        let behind : has (codes "*/") (b ∷ rest) ≡ false = has_right (codes "*/") gap.0 (b ∷ rest) (subst (λ (x : List ℕ). has (codes "*/") x ≡ false) gap.2 none) in
        pick (b == 61) refl is gap.0 gap.1 gap.2 behind
      where
        pick : (t : Bool) → (b == 61) ≡ t → (if t then valued_part name (value_at (behind_gap true 0 rest)) else ended_part name (b ∷ rest)) ≡ Some (w, r) → (g : List ℕ) → list_all is_blank g ≡ true → xs ≡ g ++ b ∷ rest → has (codes "*/") (b ∷ rest) ≡ false
            → IsBody (λ (bs : List ℕ). with_equals name (behind_gap true 0 bs)) xs w r
        pick true e is g all whole behind =
            let byte : b ≡ 61 = eqb-true b 61 e in
            let same : xs ≡ g ++ 61 ∷ rest = whole ∙ ap (λ (c : ℕ). g ++ c ∷ rest) byte in
            subst (λ (x : List ℕ). IsBody (λ (bs : List ℕ). with_equals name (behind_gap true 0 bs)) x w r) (sym same) (equals_body name g rest w r all (has_later (codes "*/") b rest behind) is)
        pick false e is g all whole behind =
            let both = some_word name (behind_bracket (b ∷ rest)) w r is in
            let last = gap_to (b ∷ rest) (93 ∷ r) behind (bracket_at (b ∷ rest) r both.1) (omega arith) in
            let blanks : list_all is_blank (g ++ last.0) ≡ true = all_both g last.0 all last.1 in
            record {
              body = g ++ last.0;
              whole = whole ∙ ap (λ (x : List ℕ). g ++ x) last.2 ∙ sym (append_assoc g last.0 (93 ∷ r));
              again = λ z. ap (with_equals name) (gap_over (g ++ last.0) (93 ∷ z) blanks ∙ no_gap true (93 ∷ z) (refl, refl, refl)) ∙ ap (option_map (named name)) (at_bracket [] z refl) ∙ ap (λ (u : Word). Some (u, z)) (sym both.0);
              calm = calm_blanks (g ++ last.0) blanks;
            }

apart_by : (t : Bool) (f : Front Word) (w : Word) (r : List ℕ) → (if t then None else f) ≡ Some (w, r) → (t ≡ false) × (f ≡ Some (w, r))
apart_by true f w r is = absurd (not_none (w, r) is)
apart_by false f w r is = (refl, is)

not_apart : (name xs : List ℕ) (w : Word) (z : List ℕ) → is_set_apart name ≡ false → behind_name name xs ≡ Some (w, z) → unless_apart (Some (name, xs)) ≡ Some (w, z)
not_apart name xs w z apart is = rw apart is

-- no comment ends in it
pub attribute_body : (xs : List ℕ) (w : Word) (r : List ℕ) → has (codes "*/") xs ≡ false → attribute_part xs ≡ Some (w, r) → IsBody attribute_part xs w r
unfolding attribute_part
attribute_body xs w r none is = by (name_front (behind_gap true 0 xs)) refl is
  where
    some_left : (at : List ℕ) (v : List ℕ × List ℕ) → name_front at ≡ Some v → 0 < length at
    some_left at v read = let both = front_is at v.0 v.1 read in let sizes = ap length both.1 ∙ length-append v.0 v.1 in omega (arith, both.0.some)

    by : (o : Front (List ℕ)) → name_front (behind_gap true 0 xs) ≡ o → unless_apart o ≡ Some (w, r) → IsBody (λ (bs : List ℕ). unless_apart (name_front (behind_gap true 0 bs))) xs w r
    by None read is = absurd (not_none (w, r) is)
    by (Some v) read is =
        let apart = apart_by (is_set_apart v.0) (behind_name v.0 v.1) w r is in
        let both = front_is (behind_gap true 0 xs) v.0 v.1 read in
        let gap = gap_to xs (behind_gap true 0 xs) none refl (some_left (behind_gap true 0 xs) v read) in
        let inner : xs ≡ gap.0 ++ (v.0 ++ v.1) = gap.2 ∙ ap (λ (x : List ℕ). gap.0 ++ x) both.1 in
        let behind : has (codes "*/") v.1 ≡ false = has_right (codes "*/") v.0 v.1 (has_right (codes "*/") gap.0 (v.0 ++ v.1) (subst (λ (x : List ℕ). has (codes "*/") x ≡ false) inner none)) in
        let end : IsEnd v.1 = ends (behind_gap true 0 xs) v.0 v.1 read in
        let later = name_body v.0 v.1 w r behind apart.1 in
        let spread : (z : List ℕ) → gap.0 ++ (v.0 ++ (later.body ++ z)) ≡ (gap.0 ++ (v.0 ++ later.body)) ++ z =
        λ z. sym (append_assoc gap.0 (v.0 ++ later.body) z ∙ ap (λ (x : List ℕ). gap.0 ++ x) (append_assoc v.0 later.body z))
        in
        record {
          body = gap.0 ++ (v.0 ++ later.body);
          whole = inner ∙ ap (λ (x : List ℕ). gap.0 ++ (v.0 ++ x)) later.whole ∙ spread (93 ∷ r);
          again = λ z.
              ap (λ (x : List ℕ). unless_apart (name_front (behind_gap true 0 x))) (sym (spread (93 ∷ z)))
              ∙ ap (λ (x : List ℕ). unless_apart (name_front x)) (gap_over gap.0 (v.0 ++ (later.body ++ 93 ∷ z)) gap.1 ∙ no_gap true (v.0 ++ (later.body ++ 93 ∷ z)) (first_of_name v.0 (later.body ++ 93 ∷ z) (name_begins v.0 both.0).0))
              ∙ ap unless_apart (name_read v.0 (later.body ++ 93 ∷ z) both.0 (end_again later.body v.1 r z later.whole end))
              ∙ not_apart v.0 (later.body ++ 93 ∷ z) w z apart.0 (later.again z);
          calm = calm_append gap.0 _ (calm_blanks gap.0 gap.1) (calm_append v.0 later.body (calm_name v.0 both.0) later.calm);
        }
