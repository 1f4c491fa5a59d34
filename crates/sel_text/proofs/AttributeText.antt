-- The text of an attribute part reads as that part.
use Rattle.std.proofs.Common.{◌≡◌, ℕ, suc, ◌+◌, ◌<◌, Bool, true, false, ◌==◌, ◌&&◌, ◌||◌, not, if◌then◌else◌, List, [], ◌∷◌, ◌++◌, length, take, drop, map, Option, None, Some, IfSome, codes, refl, sym, ap, subst, ◌∙◌, append_assoc, append-nil, length-append, arith}
use Rattle.std.proofs.lemmas.Bool.{lt-ltb, eq-eqb}
use Rattle.std.proofs.lemmas.List.{map-append, take_all, drop_all}
use Rattle.std.proofs.Math.Seq.{take-append_seam, drop-append_seam}
use Rattle.std.specs.Char.{to_ascii_lowercase}
use Rattle.std.specs.List.{prefix_len, list_all, list_any}
use Rattle.text_bytes.specs.Attributes.{is_set_apart, with_value}
use Rattle.text_bytes.specs.Rests.{IsRest}
use Rattle.tp_base.specs.declared.atoms.AtomKind.TheVariants as kind
use Rattle.sel_text.specs.Bytes.{in_name, behind_gap}
use Rattle.sel_text.specs.Grammar.{in_quotes, is_quote, quoted, name_front, value_at, behind_bracket, behind_name, attribute_part}
use Rattle.sel_text.specs.Lists.{behind_unit, from_comma}
use Rattle.sel_text.specs.Readable.{IsName, IsAsked, IsQuoted, asked_name}
use Rattle.sel_text.specs.SelectorText.{quote_for, value_text, attribute_text}
use Rattle.sel_text.proofs.ByteRuns.{run_up_to, run_whole, all_by, all_of_run}
use Rattle.sel_text.proofs.Commas.{goes_on}
use Rattle.sel_text.proofs.NameLemmas.{IsEnd, not_byte, no_gap, name_begins, first_of_name, name_len-append, behind_front}

-- what is behind the `[` of an attribute part
abbrev pub in_text : List ℕ → List ℕ → List ℕ
in_text value rest = quote_for value ∷ (value ++ (quote_for value ∷ rest))

abbrev pub inside : List ℕ → Option (List ℕ) → List ℕ → List ℕ
inside name None rest = name ++ (93 ∷ rest)
inside name (Some value) rest = name ++ (61 ∷ in_text value (93 ∷ rest))

-- ---- the text

abbrev no_equals : ℕ → Bool
no_equals b = not (b == 61)

name_no_equals : (name : List ℕ) → IsName name → list_all no_equals name ≡ true
name_no_equals name n = all_by in_name no_equals (λ b h. rw (not_byte in_name 61 b refl h) refl) name (all_of_run in_name name (name_begins name n).1)

alone_text : (name : List ℕ) → IsName name → attribute_text name ≡ 91 ∷ ((name ++ []) ++ 93 ∷ [])
unfolding attribute_text
alone_text name n = rw (run_whole no_equals name (name_no_equals name n), take_all (length name) name (omega arith), drop_all (length name) name (omega arith)) refl

valued_text : (name value : List ℕ) → IsName name → attribute_text (with_value name value) ≡ 91 ∷ ((name ++ value_text (61 ∷ value)) ++ 93 ∷ [])
unfolding attribute_text
valued_text name value n =
    rw (append_assoc name (61 ∷ []) value, run_up_to no_equals name 61 value (name_no_equals name n) refl, take-append_seam name (61 ∷ value), drop-append_seam name (61 ∷ value)) refl

pub part_text : (name : List ℕ) (value : Option (List ℕ)) (rest : List ℕ) → IsName name → attribute_text (asked_name name value) ++ rest ≡ 91 ∷ inside name value rest
part_text name None rest n =
    ap (λ t. t ++ rest) (alone_text name n) ∙ ap (λ t. 91 ∷ t) (append_assoc (name ++ []) (93 ∷ []) rest ∙ ap (λ t. t ++ 93 ∷ rest) (append-nil name))
part_text name (Some value) rest n =
    let quote = quote_for value in
    let text = value_text (61 ∷ value) in
    ap (λ t. t ++ rest) (valued_text name value n)
    ∙ ap (λ t. 91 ∷ t) (append_assoc (name ++ text) (93 ∷ []) rest ∙ append_assoc name text (93 ∷ rest) ∙ ap (λ t. name ++ (61 ∷ quote ∷ t)) (append_assoc value (quote ∷ []) (93 ∷ rest)))

-- ---- reading it

pub name_read : (name rest : List ℕ) → IsName name → IsEnd rest → name_front (name ++ rest) ≡ Some (name, rest)
unfolding name_front
name_read name rest n end = rw (name_len-append name rest n end, lt-ltb 0 (length name) n.some, take-append_seam name rest, drop-append_seam name rest) refl

bracket_read : (rest : List ℕ) → behind_bracket (93 ∷ rest) ≡ Some rest
unfolding behind_bracket
bracket_read rest = rw (no_gap true (93 ∷ rest) (refl, refl, refl)) refl

quoted_read : (quote : ℕ) (value rest : List ℕ) → list_all (in_quotes quote) value ≡ true → quoted quote (value ++ quote ∷ rest) ≡ Some (value, rest)
unfolding quoted
quoted_read quote value rest plain =
    let same = eq-eqb quote quote refl in
    let stops : in_quotes quote quote ≡ false = rw same refl in
    rw (run_up_to (in_quotes quote) value quote rest plain stops, take-append_seam value (quote ∷ rest), drop-append_seam value (quote ∷ rest), same) refl

quote_is : (some : Bool) → is_quote (if some then 39 else 34) ≡ true
quote_is true = refl
quote_is false = refl

value_read : (value rest : List ℕ) → IsQuoted value → value_at (in_text value rest) ≡ Some (value, rest)
unfolding value_at
value_read value rest q = rw (quote_is (list_any (λ b. b == 34) value)) (quoted_read (quote_for value) value rest q.plain)

quote_start : (some : Bool) (bs : List ℕ) → behind_gap true 0 ((if some then 39 else 34) ∷ bs) ≡ (if some then 39 else 34) ∷ bs
quote_start true bs = no_gap true (39 ∷ bs) (refl, refl, refl)
quote_start false bs = no_gap true (34 ∷ bs) (refl, refl, refl)

pub reads_part : (name : List ℕ) (value : Option (List ℕ)) (rest : List ℕ) → IsAsked name → IfSome value IsQuoted → attribute_part (inside name value rest) ≡ Some ((kind.Attr, asked_name name value), rest)
unfolding attribute_part behind_name
reads_part name None rest a q =
    let start = first_of_name name (93 ∷ rest) (name_begins name a.is_name).0 in
    rw (no_gap true (name ++ 93 ∷ rest) start, name_read name (93 ∷ rest) a.is_name refl, a.apart, no_gap true (93 ∷ rest) (refl, refl, refl), bracket_read rest) refl
reads_part name (Some value) rest a q =
    let behind = in_text value (93 ∷ rest) in
    let start = first_of_name name (61 ∷ behind) (name_begins name a.is_name).0 in
    rw (
      no_gap true (name ++ (61 ∷ behind)) start,
      name_read name (61 ∷ behind) a.is_name refl,
      a.apart,
      no_gap true (61 ∷ behind) (refl, refl, refl),
      quote_start (list_any (λ b. b == 34) value) (value ++ (quote_for value ∷ 93 ∷ rest)),
      value_read value (93 ∷ rest) q,
      bracket_read rest,
    ) refl

pub part_longer : (name : List ℕ) (value : Option (List ℕ)) (rest : List ℕ) → length rest < length (91 ∷ inside name value rest)
part_longer name None rest = omega (arith, length-append name (93 ∷ rest))
part_longer name (Some value) rest =
    omega (arith, length-append name (61 ∷ in_text value (93 ∷ rest)), length-append value (quote_for value ∷ 93 ∷ rest))

-- ---- it has no comma that parts a list

pub skips_part : (name : List ℕ) (value : Option (List ℕ)) (rest : List ℕ) → IsAsked name → IfSome value IsQuoted → from_comma 0 (attribute_text (asked_name name value) ++ rest) ≡ from_comma 0 rest
unfolding behind_unit
skips_part name value rest a q =
    let text = attribute_text (asked_name name value) in
    let same = part_text name value rest a.is_name in
    let unit : behind_unit (91 ∷ inside name value rest) ≡ rest = rw (reads_part name value rest a q) refl in
    let last : IsRest (91 ∷ inside name value rest) rest = subst (λ bs. IsRest bs rest) same (behind_front text rest) in
    let less = part_longer name value rest in
    rw same (goes_on 91 (inside name value rest) refl (rw unit last) (rw unit less) ∙ ap (from_comma 0) unit)

-- ---- in lower case

pub asked_lowered : (name : List ℕ) (value : Option (List ℕ)) → IsAsked name → IfSome value IsQuoted → map to_ascii_lowercase (asked_name name value) ≡ asked_name name value
asked_lowered name None a q = a.lowered
asked_lowered name (Some value) a q =
    rw (map-append to_ascii_lowercase (name ++ 61 ∷ []) value, map-append to_ascii_lowercase name (61 ∷ []), a.lowered, q.lowered) refl
