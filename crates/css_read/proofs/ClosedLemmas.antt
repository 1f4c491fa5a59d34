-- What reads as a selector closes each string that begins in it.
use Rattle.std.proofs.Common.{◌≡◌, ℕ, zero, suc, ◌+◌, ◌-◌, ◌≤◌, ◌<◌, ◌==◌, ◌&&◌, ◌||◌, not, cond, Bool, true, false, if◌then◌else◌, nat_lt, List, [], ◌∷◌, ◌++◌, length, take, drop, slice_range, Option, None, Some, option_map, Ok, Err, refl, sym, ap, ◌∙◌, subst, arith, length-append, length-drop, append_assoc}
use Rattle.std.specs.List.{prefix_len}
use Rattle.std.specs.Option.{ok_or}
use Rattle.std.proofs.lemmas.Bool.{and_parts, or_from}
use Rattle.std.proofs.lemmas.Bool.Decides.{nat_tests}
use Rattle.std.proofs.lemmas.List.{drop_at}
use Rattle.text_bytes.specs.Attributes.{is_set_apart, with_value}
use Rattle.text_bytes.specs.Blanks.{is_blank}
use Rattle.tp_base.specs.Names.{Named}
use Rattle.tp_base.specs.declared.atoms.AtomKind.{AtomKind}
use Rattle.tp_base.specs.declared.atoms.AtomKind.TheVariants as kind
use Rattle.tp_base.proofs.Truths.{not_both}
use Rattle.sel_text.specs.declared.faults.Skip.TheVariants.{Long}
use Rattle.sel_text.specs.declared.faults.SelFault.{SelFault}
use Rattle.sel_text.specs.declared.faults.SelFault.TheVariants as sel
use Rattle.sel_text.specs.declared.faults.TheConstants.{MOST_PARTS}
use Rattle.sel_text.specs.declared.selectors.Compound.{Compound}
use Rattle.sel_text.specs.declared.selectors.Join.{Join}
use Rattle.sel_text.specs.declared.selectors.Join.TheVariants.{Inside, Child}
use Rattle.sel_text.specs.Bytes.{begins_with, in_name, begins_name, name_len, behind_close, is_passed, behind_gap}
use Rattle.sel_text.specs.Grammar.{Outcome, ◌>>=◌, is_empty, left_at, behind_word, behind_dropped, Word, Front, in_quotes, before_quote, quoted, name_front, value_at, behind_end, behind_bracket, ended_part, valued_part, with_equals, behind_name, unless_apart, attribute_part, Begun, whole, wanting, given, any_part, first_part, name_at, part_of, behind_child, behind_space, behind_near, join_at, is_dropped_element, is_dropped_class}
use Rattle.sel_text.specs.Syntax.{Item, part, joined, ended, whole_part, first_item, behind_join, later_item, item_at, finished_after, begun_after, Syntax, with_item, then_syntax, syntax_from, syntax_of}
use Rattle.sel_text.specs.Reading.{Ending, then_read, compounds_of, selector_or, read_syntax, read_piece, read_selector}
use Rattle.sel_text.specs.Selectors.{Selector}
use Rattle.sel_text.proofs.NameLemmas.{not_byte}
use Rattle.css_read.specs.Units.{is_quote, begins_comment, behind_string, behind_unit}
use Rattle.css_read.proofs.FrontLemmas.{comment_unit, unit_end}
use Rattle.css_read.proofs.TameLemmas.{IsClosed, ClosesStrings}
use Rattle.css_read.proofs.UnitLemmas.{flat, other_unit, is_end, ends_string, string_passed, string_unit}

-- ---- a unit at a time, from the end to the front

closes_none : ClosesStrings []
closes_none us b z is units quote = absurd (omega (arith, ap length is ∙ length-append (flat us) (b ∷ z)))

closed_at : (b d : ℕ) (t z : List ℕ) → b ≡ d → t ≡ z → IsClosed b t → IsClosed d z
closed_at b d t z first others closed = subst (λ (c : ℕ). IsClosed c z) first (subst (IsClosed b) others closed)

closes_unit : (b : ℕ) (t : List ℕ) → (is_quote b ≡ true → IsClosed b t) → ClosesStrings (behind_unit (b ∷ t)) → ClosesStrings (b ∷ t)
closes_unit b t closed later [] d z is units quote =
    let first : b ≡ d = cc in
    let others : t ≡ z = cc in
    closed_at b d t z first others (closed (ap is_quote first ∙ quote))
closes_unit b t closed later (c ∷ cs) d z is units quote =
    let all : b ∷ t ≡ c.first ∷ c.more ++ (flat cs ++ d ∷ z) = is ∙ ap (λ bs. c.first ∷ bs) (append_assoc c.more (flat cs) (d ∷ z)) in
    let behind : behind_unit (b ∷ t) ≡ flat cs ++ d ∷ z = ap behind_unit all ∙ units.0.passes (flat cs ++ d ∷ z) units.1 in
    later cs d z behind units.2 quote

-- ---- a text and a rest of it

-- where the rest closes its strings, the text does
record Leads (bs rest : List ℕ) : Type 0 where
  front : List ℕ
  whole : bs ≡ front ++ rest
  closes : ClosesStrings rest → ClosesStrings bs

record Passes (bs rest : List ℕ) : Type 0 where
  leads : Leads bs rest
  shorter : length rest < length bs

leads_itself : (bs : List ℕ) → Leads bs bs
leads_itself bs = record { front = []; whole = refl; closes = λ closed. closed }

leads_then : (bs cs ds : List ℕ) → Leads bs cs → Leads cs ds → Leads bs ds
leads_then bs cs ds first second = record {
  front = first.front ++ second.front;
  whole = first.whole ∙ ap (λ xs. first.front ++ xs) second.whole ∙ sym (append_assoc first.front second.front ds);
  closes = λ closed. first.closes (second.closes closed);
}

leads_few : (bs cs : List ℕ) → Leads bs cs → length cs ≤ length bs
leads_few bs cs leads = omega (arith, ap length leads.whole ∙ length-append leads.front cs)

passes_then : (bs cs ds : List ℕ) → Leads bs cs → Passes cs ds → Passes bs ds
passes_then bs cs ds first second = record { leads = leads_then bs cs ds first second.leads; shorter = omega (arith, leads_few bs cs first, second.shorter) }

then_leads : (bs cs ds : List ℕ) → Passes bs cs → Leads cs ds → Passes bs ds
then_leads bs cs ds first second = record { leads = leads_then bs cs ds first.leads second; shorter = omega (arith, first.shorter, leads_few cs ds second) }

-- ---- a byte that begins no string and no comment

begins_none : (b : ℕ) (t : List ℕ) → (b == 47) ≡ false → begins_comment (b ∷ t) ≡ false
begins_none b [] not = grind (arith, nat_tests)
begins_none b (d ∷ t) not = grind (arith, nat_tests)

byte_passes : (b : ℕ) (t : List ℕ) → is_quote b ≡ false → (b == 47) ≡ false → Passes (b ∷ t) t
byte_passes b t quote slash =
    let behind : behind_unit (b ∷ t) ≡ t = other_unit b t quote (begins_none b t slash) in
    record {
      leads = record { front = b ∷ []; whole = refl; closes = λ closed. closes_unit b t (λ is. absurd (not_both (is_quote b) is quote)) (subst ClosesStrings (sym behind) closed) };
      shorter = omega arith;
    }

-- one that is told by its value
sign_passes : (k b : ℕ) (t : List ℕ) → (b == k) ≡ true → is_quote k ≡ false → (k == 47) ≡ false → Passes (b ∷ t) t
sign_passes k b t is quote slash = let same : k ≡ b = grind (arith, nat_tests) in byte_passes b t (subst (λ (c : ℕ). is_quote c ≡ false) same quote) (subst (λ (c : ℕ). (c == 47) ≡ false) same slash)

-- such a test passes no quote and no slash
record IsPlainTest (p : ℕ → Bool) : Type 0 where
  double : p 34 ≡ false
  single : p 39 ≡ false
  slash : p 47 ≡ false

tested_passes : (p : ℕ → Bool) (b : ℕ) (t : List ℕ) → IsPlainTest p → p b ≡ true → Passes (b ∷ t) t
tested_passes p b t plain is = byte_passes b t (or_from (b == 34) (b == 39) (not_byte p 34 b plain.double is) (not_byte p 39 b plain.single is)) (not_byte p 47 b plain.slash is)

-- a run of such bytes
run_leads : (p : ℕ → Bool) → IsPlainTest p → (bs : List ℕ) → Leads bs (drop (prefix_len p bs) bs)
run_leads p plain [] = leads_itself []
run_leads p plain (b ∷ bs) = by (p b) refl (run_leads p plain bs)
  where
    one : (n : ℕ) → 1 + n ≡ suc n
    one n = omega arith

    by : (test : Bool) → p b ≡ test → Leads bs (drop (prefix_len p bs) bs) → Leads (b ∷ bs) (drop (cond test (1 + prefix_len p bs) 0) (b ∷ bs))
    by true is later = rw (one (prefix_len p bs)) (leads_then (b ∷ bs) bs (drop (prefix_len p bs) bs) (tested_passes p b bs plain is).leads later)
    by false is later = leads_itself (b ∷ bs)

-- ---- white space, comments and names

left_at_end : (front rest bs : List ℕ) → bs ≡ front ++ rest → drop (length bs - length rest) bs ≡ rest
left_at_end front rest bs is =
    let count : length front ≡ length bs - length rest = omega (arith, ap length is ∙ length-append front rest) in
    ap (drop (length bs - length rest)) is ∙ drop_at front rest (length bs - length rest) count

comment_leads : (b : ℕ) (bs : List ℕ) → begins_comment (b ∷ bs) ≡ true → Leads (b ∷ bs) (behind_unit (b ∷ bs))
comment_leads b bs comment =
    let end = unit_end b bs in
    record { front = b ∷ end.front; whole = ap (λ xs. b ∷ xs) end.whole; closes = λ closed. closes_unit b bs (λ is. absurd (no_quote b bs is comment)) closed }
  where
    no_quote : (b : ℕ) (bs : List ℕ) → is_quote b ≡ true → begins_comment (b ∷ bs) ≡ true → ⊥
    no_quote b [] is comment = grind (arith, nat_tests)
    no_quote b (d ∷ bs) is comment = grind (arith, nat_tests)

blank_plain : IsPlainTest is_blank
blank_plain = record { double = refl; single = refl; slash = refl }

-- where a comment begins, what is left of it is passed over
left_of_comment : (b : ℕ) (bs left : List ℕ) → Leads (drop (length bs - length (behind_close (drop 1 bs))) bs) left → begins_comment (b ∷ bs) ≡ true → Leads (behind_unit (b ∷ bs)) left
left_of_comment b bs left later comment =
    let end = unit_end b bs in
    let unit : behind_unit (b ∷ bs) ≡ behind_close (drop 1 bs) = comment_unit b bs comment in
    let at : drop (length bs - length (behind_close (drop 1 bs))) bs ≡ behind_unit (b ∷ bs) = ap (λ (xs : List ℕ). drop (length bs - length xs) bs) (sym unit) ∙ left_at_end end.front (behind_unit (b ∷ bs)) bs end.whole in
    subst (λ (xs : List ℕ). Leads xs left) at later

gap_by : (blanks blank comment : Bool) (b : ℕ) (bs same left : List ℕ) → is_passed blanks b ≡ blank → begins_comment (b ∷ bs) ≡ comment → Leads bs same → Leads (drop (length bs - length (behind_close (drop 1 bs))) bs) left
    → Leads (b ∷ bs) (if blank then same else (if comment then left else b ∷ bs))
gap_by blanks true comment b bs same left passed begins first second =
    leads_then (b ∷ bs) bs same (tested_passes is_blank b bs blank_plain (and_parts blanks (is_blank b) passed).1).leads first
gap_by blanks false true b bs same left passed begins first second = leads_then (b ∷ bs) (behind_unit (b ∷ bs)) left (comment_leads b bs begins) (left_of_comment b bs left second begins)
gap_by blanks false false b bs same left passed begins first second = leads_itself (b ∷ bs)

gap_skip : (blanks : Bool) (skip : ℕ) (bs : List ℕ) → Leads (drop skip bs) (behind_gap blanks skip bs)
unfolding behind_gap
gap_skip blanks zero [] = leads_itself []
gap_skip blanks (suc skip) [] = leads_itself []
gap_skip blanks (suc skip) (b ∷ bs) = gap_skip blanks skip bs
gap_skip blanks zero (b ∷ bs) =
    let left = length bs - length (behind_close (drop 1 bs)) in
    gap_by blanks (is_passed blanks b) (begins_comment (b ∷ bs)) b bs (behind_gap blanks zero bs) (behind_gap blanks left bs) refl refl (gap_skip blanks zero bs) (gap_skip blanks left bs)

gap_leads : (blanks : Bool) (bs : List ℕ) → Leads bs (behind_gap blanks 0 bs)
gap_leads blanks bs = gap_skip blanks 0 bs

name_plain : IsPlainTest in_name
name_plain = record { double = refl; single = refl; slash = refl }

name_leads : (bs : List ℕ) → Leads bs (drop (name_len bs) bs)
unfolding name_len
name_leads bs = by (begins_name bs)
  where
    by : (test : Bool) → Leads bs (drop (if test then prefix_len in_name bs else 0) bs)
    by true = run_leads in_name name_plain bs
    by false = leads_itself bs

wrong : false ≡ true → ⊥
wrong same = cc

fewer_by : (n b : ℕ) (bs : List ℕ) → nat_lt 0 n ≡ true → length (drop n (b ∷ bs)) < length (b ∷ bs)
fewer_by zero b bs some = absurd (wrong some)
fewer_by (suc n) b bs some = omega (arith, length-drop n bs)

fewer : (bs : List ℕ) → nat_lt 0 (name_len bs) ≡ true → length (drop (name_len bs) bs) < length bs
unfolding name_len begins_name
fewer [] some = absurd (wrong some)
fewer (b ∷ bs) some = fewer_by _ b bs some

some_name : (bs : List ℕ) → nat_lt 0 (name_len bs) ≡ true → Passes bs (drop (name_len bs) bs)
some_name bs some = record { leads = name_leads bs; shorter = fewer bs some }

-- ---- attribute parts

abbrev FrontLeads : {A : Type 0} → List ℕ → Front A → Type 0
FrontLeads bs None = Unit {0}
FrontLeads bs (Some v) = Leads bs v.1

front_before : {A : Type 0} (bs cs : List ℕ) (o : Front A) → Leads bs cs → FrontLeads cs o → FrontLeads bs o
front_before bs cs None first second = tt
front_before bs cs (Some v) first second = leads_then bs cs v.1 first second

front_either : {A : Type 0} (bs : List ℕ) (test : Bool) (o p : Front A) → FrontLeads bs o → FrontLeads bs p → FrontLeads bs (if test then o else p)
front_either bs true o p first second = first
front_either bs false o p first second = second

-- what a string has up to its closing quote
abbrev IsString : ℕ → List ℕ → Front (List ℕ) → Type 0
IsString quote bs None = Unit {0}
IsString quote bs (Some v) = (front : List ℕ) × (bs ≡ front ++ v.1) × (ends_string quote false front ≡ true)

inside_by : (quote : ℕ) (front : List ℕ) (x y z : Bool) → not (x || y || z) ≡ true → ends_string quote false front ≡ true → (if x then is_end front else (if z then false else ends_string quote y front)) ≡ true
inside_by quote front true y z inside ends = absurd (wrong inside)
inside_by quote front false true z inside ends = absurd (wrong inside)
inside_by quote front false false true inside ends = absurd (wrong inside)
inside_by quote front false false false inside ends = ends

inside_ends : (quote b : ℕ) (front : List ℕ) → in_quotes quote b ≡ true → ends_string quote false front ≡ true → ends_string quote false (b ∷ front) ≡ true
unfolding ends_string
inside_ends quote b front inside ends = inside_by quote front (b == quote) (b == 92) (b == 10) inside ends

longer_string : (quote b : ℕ) (bs : List ℕ) (o : Front (List ℕ)) → in_quotes quote b ≡ true → IsString quote bs o → IsString quote (b ∷ bs) o
longer_string quote b bs None inside is = tt
longer_string quote b bs (Some v) inside is = (b ∷ is.0, ap (λ xs. b ∷ xs) is.1, inside_ends quote b is.0 inside is.2)

quote_ends : (quote b : ℕ) → (b == quote) ≡ true → ends_string quote false (b ∷ []) ≡ true
unfolding ends_string
quote_ends quote b is = rw is refl

-- up to the quote that is next
string_is : (quote : ℕ) (text bs : List ℕ) → IsString quote bs (before_quote quote text (drop (prefix_len (in_quotes quote) bs) bs))
string_is quote text [] = tt
string_is quote text (b ∷ bs) = by (in_quotes quote b) refl (string_is quote text bs)
  where
    one : (n : ℕ) → 1 + n ≡ suc n
    one n = omega arith

    closes : (test : Bool) → (b == quote) ≡ test → IsString quote (b ∷ bs) (if test then Some (text, bs) else None)
    closes true is = (b ∷ [], refl, quote_ends quote b is)
    closes false is = tt

    by : (test : Bool) → in_quotes quote b ≡ test → IsString quote bs (before_quote quote text (drop (prefix_len (in_quotes quote) bs) bs))
        → IsString quote (b ∷ bs) (before_quote quote text (drop (cond test (1 + prefix_len (in_quotes quote) bs) 0) (b ∷ bs)))
    by true is later = rw (one (prefix_len (in_quotes quote) bs)) (longer_string quote b bs (before_quote quote text (drop (prefix_len (in_quotes quote) bs) bs)) is later)
    by false is later = closes (b == quote) refl

string_leads : (b : ℕ) (bs : List ℕ) (o : Front (List ℕ)) → is_quote b ≡ true → IsString b bs o → FrontLeads (b ∷ bs) o
string_leads b bs None quote is = tt
string_leads b bs (Some v) quote is =
    let behind : behind_unit (b ∷ bs) ≡ v.1 = string_unit b bs quote ∙ ap (behind_string b false) is.1 ∙ string_passed b false is.0 v.1 is.2 in
    record {
      front = b ∷ is.0;
      whole = ap (λ xs. b ∷ xs) is.1;
      closes = λ closed. closes_unit b bs (λ opens. record { front = is.0; behind = v.1; whole = is.1; ends = is.2 }) (subst ClosesStrings (sym behind) closed);
    }

quoted_leads : (b : ℕ) (bs : List ℕ) → is_quote b ≡ true → FrontLeads (b ∷ bs) (quoted b bs)
unfolding quoted
quoted_leads b bs quote = string_leads b bs _ quote (string_is b (take (prefix_len (in_quotes b) bs) bs) bs)

name_front_leads : (bs : List ℕ) → FrontLeads bs (name_front bs)
unfolding name_front
name_front_leads bs = front_either bs (nat_lt 0 (name_len bs)) (Some (take (name_len bs) bs, drop (name_len bs) bs)) None (name_leads bs) tt

value_leads : (bs : List ℕ) → FrontLeads bs (value_at bs)
unfolding value_at
value_leads [] = tt
value_leads (b ∷ bs) = by (is_quote b) refl
  where
    by : (test : Bool) → is_quote b ≡ test → FrontLeads (b ∷ bs) (if test then quoted b bs else name_front (b ∷ bs))
    by true is = quoted_leads b bs is
    by false is = name_front_leads (b ∷ bs)

abbrev RestLeads : List ℕ → Option (List ℕ) → Type 0
RestLeads bs None = Unit {0}
RestLeads bs (Some rest) = Leads bs rest

rest_before : (bs cs : List ℕ) (o : Option (List ℕ)) → Leads bs cs → RestLeads cs o → RestLeads bs o
rest_before bs cs None first second = tt
rest_before bs cs (Some rest) first second = leads_then bs cs rest first second

end_leads : (bs : List ℕ) → RestLeads bs (behind_end bs)
end_leads [] = tt
end_leads (b ∷ rest) = by (b == 93) refl
  where
    by : (test : Bool) → (b == 93) ≡ test → RestLeads (b ∷ rest) (if test then Some rest else None)
    by true is = (sign_passes 93 b rest is refl refl).leads
    by false is = tt

bracket_leads : (bs : List ℕ) → RestLeads bs (behind_bracket bs)
unfolding behind_bracket
bracket_leads bs = rest_before bs (behind_gap true 0 bs) (behind_end (behind_gap true 0 bs)) (gap_leads true bs) (end_leads (behind_gap true 0 bs))

ended_leads : (name bs : List ℕ) → FrontLeads bs (ended_part name bs)
ended_leads name bs = by (behind_bracket bs) (bracket_leads bs)
  where
    by : (o : Option (List ℕ)) → RestLeads bs o → FrontLeads {A = Word} bs (option_map (λ rest. ((kind.Attr, name), rest)) o)
    by None is = tt
    by (Some rest) is = is

valued_leads : (name bs : List ℕ) (o : Front (List ℕ)) → FrontLeads bs o → FrontLeads bs (valued_part name o)
valued_leads name bs None is = tt
valued_leads name bs (Some v) is = front_before bs v.1 (ended_part (with_value name v.0) v.1) is (ended_leads (with_value name v.0) v.1)

equals_leads : (name bs : List ℕ) → FrontLeads bs (with_equals name bs)
equals_leads name [] = tt
equals_leads name (b ∷ rest) = by (b == 61) refl
  where
    by : (test : Bool) → (b == 61) ≡ test → FrontLeads (b ∷ rest) (if test then valued_part name (value_at (behind_gap true 0 rest)) else ended_part name (b ∷ rest))
    by true is =
        let at = behind_gap true 0 rest in
        front_before (b ∷ rest) at (valued_part name (value_at at)) (leads_then (b ∷ rest) rest at (sign_passes 61 b rest is refl refl).leads (gap_leads true rest)) (valued_leads name at (value_at at) (value_leads at))
    by false is = ended_leads name (b ∷ rest)

behind_name_leads : (name bs : List ℕ) → FrontLeads bs (behind_name name bs)
unfolding behind_name
behind_name_leads name bs = let at = behind_gap true 0 bs in front_before bs at (with_equals name at) (gap_leads true bs) (equals_leads name at)

apart_leads : (bs : List ℕ) (o : Front (List ℕ)) → FrontLeads bs o → FrontLeads bs (unless_apart o)
apart_leads bs None is = tt
apart_leads bs (Some n) is = front_either bs (is_set_apart n.0) None (behind_name n.0 n.1) tt (front_before bs n.1 (behind_name n.0 n.1) is (behind_name_leads n.0 n.1))

attribute_leads : (bs : List ℕ) → FrontLeads bs (attribute_part bs)
unfolding attribute_part
attribute_leads bs =
    let at = behind_gap true 0 bs in
    front_before bs at (unless_apart (name_front at)) (gap_leads true bs) (apart_leads at (name_front at) (name_front_leads at))

-- ---- pseudo parts

word_leads : (two : Bool) (bs : List ℕ) → RestLeads bs (behind_word two bs)
unfolding behind_word
word_leads two bs = by ((is_dropped_element (take (name_len bs) bs) || not two && is_dropped_class (take (name_len bs) bs)) && not (begins_with 40 (behind_gap false 0 (drop (name_len bs) bs))))
  where
    by : (test : Bool) → RestLeads bs (if test then Some (drop (name_len bs) bs) else None)
    by true = name_leads bs
    by false = tt

colon_leads : (at : List ℕ) → begins_with 58 at ≡ true → Leads at (drop 1 at)
colon_leads [] is = absurd (wrong is)
colon_leads (b ∷ at) is = (sign_passes 58 b at is refl refl).leads

dropped_leads : (bs : List ℕ) → RestLeads bs (behind_dropped bs)
unfolding behind_dropped
dropped_leads bs = rest_before bs at _ (gap_leads false bs) (by (begins_with 58 at) refl)
  where
    at : List ℕ
    at = behind_gap false 0 bs

    by : (test : Bool) → begins_with 58 at ≡ test → RestLeads at (if test then behind_word true (behind_gap false 0 (drop 1 at)) else behind_word false at)
    by true is =
        let behind = behind_gap false 0 (drop 1 at) in
        rest_before at behind (behind_word true behind) (leads_then at (drop 1 at) behind (colon_leads at is) (gap_leads false (drop 1 at))) (word_leads true behind)
    by false is = word_leads false at

-- ---- parts

abbrev BegunLeads : List ℕ → Option Begun → Type 0
BegunLeads bs None = Unit {0}
BegunLeads bs (Some (whole w rest)) = Passes bs rest
BegunLeads bs (Some (wanting k at)) = Leads bs at

begun_if : (bs : List ℕ) (test : Bool) (o p : Option Begun) → (test ≡ true → BegunLeads bs o) → BegunLeads bs p → BegunLeads bs (if test then o else p)
begun_if bs true o p first second = first refl
begun_if bs false o p first second = second

given_leads : (bs rest : List ℕ) (p : Front Word) → Passes bs rest → FrontLeads rest p → BegunLeads bs (given p)
given_leads bs rest None first second = tt
given_leads bs rest (Some w) first second = then_leads bs rest w.1 first second

pseudo_leads : (bs rest : List ℕ) (o : Option (List ℕ)) → Passes bs rest → RestLeads rest o → BegunLeads bs (option_map (λ rest. whole None rest) o)
pseudo_leads bs rest None first second = tt
pseudo_leads bs rest (Some last) first second = then_leads bs rest last first second

any_leads : (drops : Bool) (bs : List ℕ) → BegunLeads bs (any_part drops bs)
unfolding any_part
any_leads drops [] = tt
any_leads drops (b ∷ bs) =
    begun_if (b ∷ bs) (b == 46) _ _ (λ is. (sign_passes 46 b bs is refl refl).leads) (begun_if (b ∷ bs) (b == 35) _ _ (λ is. (sign_passes 35 b bs is refl refl).leads)
    (begun_if (b ∷ bs) (b == 91) (given (attribute_part bs)) _ (λ is. given_leads (b ∷ bs) bs (attribute_part bs) (sign_passes 91 b bs is refl refl) (attribute_leads bs))
    (begun_if (b ∷ bs) (drops && b == 58) _ None (λ is. pseudo_leads (b ∷ bs) bs (behind_dropped bs) (sign_passes 58 b bs (and_parts drops (b == 58) is).1 refl refl) (dropped_leads bs)) tt)))

first_leads : (drops : Bool) (bs : List ℕ) → BegunLeads bs (first_part drops bs)
unfolding first_part
first_leads drops [] = tt
first_leads drops (b ∷ bs) =
    begun_if (b ∷ bs) (b == 42) _ _ (λ is. sign_passes 42 b bs is refl refl) (begun_if (b ∷ bs) (begins_name (b ∷ bs)) _ _ (λ is. leads_itself (b ∷ bs)) (any_leads drops (b ∷ bs)))

abbrev OkPasses : {A : Type 0} → List ℕ → Outcome (A × List ℕ) → Type 0
OkPasses bs (Ok p) = Passes bs p.1
OkPasses bs (Err e) = Unit {0}

ok_before : {A : Type 0} (bs cs : List ℕ) (r : Outcome (A × List ℕ)) → Leads bs cs → OkPasses cs r → OkPasses bs r
ok_before bs cs (Ok p) first second = passes_then bs cs p.1 first second
ok_before bs cs (Err e) first second = tt

name_passes : (to : ℕ) (k : AtomKind) (bs : List ℕ) → OkPasses bs (name_at to k bs)
unfolding name_at
name_passes to k bs = by (nat_lt 0 (name_len at)) refl
  where
    at : List ℕ
    at = behind_gap false 0 bs

    by : (test : Bool) → nat_lt 0 (name_len at) ≡ test → OkPasses {A = Option Word} bs (if test then Ok (Some (k, take (name_len at) at), drop (name_len at) at) else Err (left_at to bs at))
    by true is = passes_then bs at (drop (name_len at) at) (gap_leads false bs) (some_name at is)
    by false is = tt

part_passes : (to : ℕ) (bs : List ℕ) (b : Begun) → BegunLeads bs (Some b) → OkPasses bs (part_of to b)
part_passes to bs (whole w rest) is = is
part_passes to bs (wanting k at) is = ok_before bs at (name_at to k at) is (name_passes to k at)

whole_passes : (to : ℕ) (bs : List ℕ) (b : Begun) → BegunLeads bs (Some b) → OkPasses bs (whole_part to b)
unfolding whole_part
whole_passes to bs b is = by (part_of to b) (part_passes to bs b is)
  where
    by : (r : Outcome (Option Word × List ℕ)) → OkPasses bs r → OkPasses bs (r >>= λ p. Ok (part p.0, p.1))
    by (Ok p) is = is
    by (Err e) is = tt

then_begun : (bs : List ℕ) (o : Option Begun) (e : SelFault) (f : Begun → Outcome (Item × List ℕ)) → BegunLeads bs o → ((b : Begun) → BegunLeads bs (Some b) → OkPasses bs (f b)) → OkPasses bs (ok_or o e >>= f)
then_begun bs None e f is later = tt
then_begun bs (Some b) e f is later = later b is

first_passes : (drops : Bool) (to n : ℕ) (bs : List ℕ) → OkPasses bs (first_item drops to n bs)
unfolding first_item
first_passes drops to n bs = then_begun bs (first_part drops bs) (left_at to bs bs) _ (first_leads drops bs) (λ b is. by (nat_lt n MOST_PARTS) b is)
  where
    by : (test : Bool) (b : Begun) → BegunLeads bs (Some b) → OkPasses {A = Item} bs (if test then whole_part to b else Err (sel.Skipped Long (to - length bs)))
    by true b is = whole_passes to bs b is
    by false b is = tt

-- ---- between compounds

abbrev JoinLeads : List ℕ → Outcome (Option Join × List ℕ) → Type 0
JoinLeads bs (Ok (Some j, at)) = Passes bs at
JoinLeads bs (Ok (None, at)) = Leads bs at
JoinLeads bs (Err e) = Unit {0}

join_before : (bs cs : List ℕ) (r : Outcome (Option Join × List ℕ)) → Leads bs cs → JoinLeads cs r → JoinLeads bs r
join_before bs cs (Ok (Some j, at)) first second = passes_then bs cs at first second
join_before bs cs (Ok (None, at)) first second = leads_then bs cs at first second
join_before bs cs (Err e) first second = tt

child_leads : (to b : ℕ) (bs : List ℕ) → (b == 62) ≡ true → JoinLeads (b ∷ bs) (behind_child to bs)
unfolding behind_child
child_leads to b bs is = by (is_empty (behind_gap true 0 bs))
  where
    by : (test : Bool) → JoinLeads (b ∷ bs) (if test then Err (left_at to bs (behind_gap true 0 bs)) else Ok (Some Child, behind_gap true 0 bs))
    by true = tt
    by false = then_leads (b ∷ bs) bs (behind_gap true 0 bs) (sign_passes 62 b bs is refl refl) (gap_leads true bs)

space_leads : (to : ℕ) (bs at : List ℕ) → Passes bs at → JoinLeads bs (behind_space to at)
unfolding behind_space
space_leads to bs [] passes = passes.leads
space_leads to bs (b ∷ at) passes = by (b == 62) refl
  where
    by : (test : Bool) → (b == 62) ≡ test → JoinLeads bs (if test then behind_child to at else Ok (Some Inside, b ∷ at))
    by true is = join_before bs (b ∷ at) (behind_child to at) passes.leads (child_leads to b at is)
    by false is = passes

near_leads : (to : ℕ) (bs : List ℕ) → JoinLeads bs (behind_near to bs)
unfolding behind_near
near_leads to [] = leads_itself []
near_leads to (b ∷ bs) = by (is_blank b) (b == 62) refl refl
  where
    by : (blank child : Bool) → is_blank b ≡ blank → (b == 62) ≡ child → JoinLeads (b ∷ bs) (if blank then behind_space to (behind_gap true 0 bs) else (if child then behind_child to bs else Ok (None, b ∷ bs)))
    by true child is joins = space_leads to (b ∷ bs) (behind_gap true 0 bs) (then_leads (b ∷ bs) bs (behind_gap true 0 bs) (tested_passes is_blank b bs blank_plain is) (gap_leads true bs))
    by false true is joins = child_leads to b bs joins
    by false false is joins = leads_itself (b ∷ bs)

join_leads : (to : ℕ) (bs : List ℕ) → JoinLeads bs (join_at to bs)
unfolding join_at
join_leads to bs = let at = behind_gap false 0 bs in join_before bs at (behind_near to at) (gap_leads false bs) (near_leads to at)

behind_passes : (drops : Bool) (to : ℕ) (bs : List ℕ) (r : Outcome (Option Join × List ℕ)) → 0 < length bs → JoinLeads bs r → OkPasses bs (r >>= λ j. behind_join drops to j)
behind_passes drops to bs (Ok (Some j, at)) some is = is
behind_passes drops to bs (Ok (None, [])) some is = record { leads = is; shorter = some }
behind_passes drops to bs (Ok (None, b ∷ at)) some is =
    ok_before bs (b ∷ at) _ is (then_begun (b ∷ at) (any_part drops (b ∷ at)) (left_at to (b ∷ at) (b ∷ at)) (λ begun. whole_part to begun) (any_leads drops (b ∷ at)) (λ begun leads. whole_passes to (b ∷ at) begun leads))
behind_passes drops to bs (Err e) some is = tt

item_passes : (drops : Bool) (to n : ℕ) (begun : Bool) (bs : List ℕ) → 0 < length bs → OkPasses bs (item_at drops to n begun bs)
unfolding item_at later_item
item_passes drops to n true bs some = behind_passes drops to bs (join_at to bs) some (join_leads to bs)
item_passes drops to n false bs some = first_passes drops to n bs

-- ---- a text

same_fault : (i : Item) (s : Syntax) → (with_item i s).fault ≡ s.fault
same_fault (part None) s = refl
same_fault (part (Some w)) s = refl
same_fault (joined j) s = refl
same_fault ended s = refl

none_left : (n : ℕ) → ◌≡◌ {A = List ℕ} (drop n []) []
none_left zero = refl
none_left (suc n) = refl

drop_passed : (b : ℕ) (bs rest front : List ℕ) → b ∷ bs ≡ front ++ rest → length rest < length (b ∷ bs) → drop (length bs - length rest) bs ≡ rest
drop_passed b bs rest [] is less = absurd (omega (arith, ap length is))
drop_passed b bs rest (c ∷ front) is less = let others : bs ≡ front ++ rest = cc in left_at_end front rest bs others

then_closes : (b : ℕ) (bs : List ℕ) (r : Outcome (Item × List ℕ)) (f : Item → List ℕ → Syntax) → OkPasses (b ∷ bs) r → ((i : Item) (rest : List ℕ) → (f i rest).fault ≡ None → ClosesStrings (drop (length bs - length rest) bs))
    → (then_syntax r f).fault ≡ None → ClosesStrings (b ∷ bs)
then_closes b bs (Ok (i, rest)) f passes later none =
    passes.leads.closes (subst ClosesStrings (drop_passed b bs rest passes.leads.front passes.leads.whole passes.shorter) (later i rest (sym (same_fault i (f i rest)) ∙ none)))
then_closes b bs (Err e) f passes later none = absurd (wrong none)
  where
    wrong : ◌≡◌ {A = Option SelFault} (Some e) None → ⊥
    wrong same = cc

syntax_closes : (drops : Bool) (to n : ℕ) (begun : Bool) (skip : ℕ) (bs : List ℕ) → (syntax_from drops to n begun skip bs).fault ≡ None → ClosesStrings (drop skip bs)
unfolding syntax_from
syntax_closes drops to n begun skip [] none = subst ClosesStrings (sym (none_left skip)) closes_none
syntax_closes drops to n begun (suc skip) (b ∷ bs) none = syntax_closes drops to n begun skip bs none
syntax_closes drops to n begun zero (b ∷ bs) none =
    then_closes b bs (item_at drops to n begun (b ∷ bs)) _ (item_passes drops to n begun (b ∷ bs) (omega arith)) (λ i rest. syntax_closes drops to (finished_after n i) (begun_after begun i) (length bs - length rest) bs) none

-- ---- a selector

no_fault : (e : Ending (List Compound)) (fault : Option SelFault) (joins : List Join) (later : List Named) (s : Selector) → then_read e (λ names compounds. (names, selector_or fault compounds joins)) ≡ (later, Ok s) → fault ≡ None
no_fault (names, Ok compounds) None joins later s is = refl
no_fault (names, Ok compounds) (Some e) joins later s is = absurd (wrong (ap (λ (p : Ending Selector). p.1) is))
  where
    wrong : ◌≡◌ {A = Outcome Selector} (Err e) (Ok s) → ⊥
    wrong same = cc
no_fault (names, Err e) fault joins later s is = absurd (wrong (ap (λ (p : Ending Selector). p.1) is))
  where
    wrong : ◌≡◌ {A = Outcome Selector} (Err e) (Ok s) → ⊥
    wrong same = cc

pub selector_closes : (text : List ℕ) (from to : ℕ) (names later : List Named) (s : Selector) → read_selector text from to names ≡ (later, Ok s) → ClosesStrings (slice_range text from to)
unfolding read_selector read_piece read_syntax syntax_of
selector_closes text from to names later s read =
    let bs = slice_range text from to in
    let at = behind_gap true 0 bs in
    let syntax = syntax_from true to 0 false 0 at in
    (gap_leads true bs).closes (syntax_closes true to 0 false 0 at (no_fault (compounds_of names (syntax.names ∷ syntax.others)) syntax.fault syntax.joins later s read))
