-- The tokens of a page's line.
use Rattle.std.proofs.Common.{◌≡◌, ℕ, suc, ◌+◌, ◌-◌, ◌==◌, Bool, false, nat_eq, List, [], ◌∷◌, ◌++◌, length, take, drop, codes, Some, None, refl, ap, ◌∙◌, arith, length-append, append_assoc}
use Rattle.std.specs.List.{ends_with}
use Rattle.std.proofs.lemmas.Bool.{ne_eqb}
use Rattle.std.proofs.Math.Seq.{drop-append-add}
use Rattle.tp_base.proofs.Lists.{take_front}
use Rattle.html_subset.proofs.ReadingSteps.{tokens_skip}
use Rattle.html_tokens.specs.Bytes.{is_filler, is_not}
use Rattle.html_tokens.specs.Attributes.{Attribute, Read, ◌>>=◌, past_blank, quoted, value, behind_equals, attribute, attributes_from, attributes, value_of, firsts_besides, others_in}
use Rattle.html_tokens.specs.Names.{is_raw}
use Rattle.html_tokens.specs.Markup.{begins_markup, behind_text}
use Rattle.html_tokens.specs.Tokens.{Token, text, start, stop, StartTag, tag, behind_start, start_tag, end_tag, end_markup, markup, front, tokens_from}
use Rattle.html_tokens.proofs.AttributeSteps.{attributes_skip}
use Rattle.ring_reads.proofs.Digits.{Each, whole_prefix, IsLast, drop_before}

-- ---- attributes

quoted_is : (value rest : List ℕ) → Each (is_not 34) value → quoted 34 (value ++ 34 ∷ rest) ≡ Some (value, rest)
unfolding quoted
quoted_is value rest each =
    let len = whole_prefix (is_not 34) value 34 rest each refl in
    let other : (length value == length (value ++ 34 ∷ rest)) ≡ false = ne_eqb (length value) (length (value ++ 34 ∷ rest)) (λ same. omega (arith, length-append value (34 ∷ rest))) in
    rw (len, other, take_front value (34 ∷ rest), drop-append-add value (34 ∷ rest) 1) refl

abbrev named : List ℕ → List ℕ → Attribute
named name value = record { name = name; value = value }

class_is : (value rest : List ℕ) → Each (is_not 34) value → attribute (codes "class=\"" ++ (value ++ 34 ∷ rest)) ≡ Some (named (codes "class") value, rest)
unfolding attribute behind_equals past_blank value
class_is value rest each = ap (λ (o : Read (List ℕ)). o >>= λ v. Some (named (codes "class") v.0, v.1)) (quoted_is value rest each)

id_is : (value rest : List ℕ) → Each (is_not 34) value → attribute (codes "id=\"" ++ (value ++ 34 ∷ rest)) ≡ Some (named (codes "id") value, rest)
unfolding attribute behind_equals past_blank value
id_is value rest each = ap (λ (o : Read (List ℕ)). o >>= λ v. Some (named (codes "id") v.0, v.1)) (quoted_is value rest each)

one_attribute : (b : ℕ) (bs : List ℕ) (a : Attribute) (after : List ℕ) → (b == 62) ≡ false → is_filler b ≡ false → attribute (b ∷ bs) ≡ Some (a, after) → IsLast bs after
    → attributes_from 0 (b ∷ bs) ≡ (attributes_from 0 after >>= λ others. Some (a ∷ others.0, others.1))
unfolding attributes_from
one_attribute b bs a after other solid is last = rw (other, solid, is, attributes_skip (length bs - length after) bs, drop_before bs after last) refl

quote_last : (before value rest : List ℕ) → IsLast (before ++ (value ++ 34 ∷ rest)) rest
quote_last before value rest = record { before = before ++ (value ++ 34 ∷ []); is = simp append_assoc }

pub one_class : (value rest : List ℕ) → Each (is_not 34) value → attributes (codes " class=\"" ++ (value ++ 34 ∷ rest)) ≡ (attributes rest >>= λ others. Some (named (codes "class") value ∷ others.0, others.1))
unfolding attributes_from
one_class value rest each = one_attribute 99 (codes "lass=\"" ++ (value ++ 34 ∷ rest)) (named (codes "class") value) rest refl refl (class_is value rest each) (quote_last (codes "lass=\"") value rest)

one_id : (value rest : List ℕ) → Each (is_not 34) value → attributes (codes " id=\"" ++ (value ++ 34 ∷ rest)) ≡ (attributes rest >>= λ others. Some (named (codes "id") value ∷ others.0, others.1))
unfolding attributes_from
one_id value rest each = one_attribute 105 (codes "d=\"" ++ (value ++ 34 ∷ rest)) (named (codes "id") value) rest refl refl (id_is value rest each) (quote_last (codes "d=\"") value rest)

box_attributes : (class id rest : List ℕ) → Each (is_not 34) class → Each (is_not 34) id
    → attributes (codes " class=\"" ++ (class ++ 34 ∷ (codes " id=\"" ++ (id ++ 34 ∷ 62 ∷ rest)))) ≡ Some (named (codes "class") class ∷ named (codes "id") id ∷ [], rest)
unfolding attributes_from
box_attributes class id rest first second =
    one_class class (codes " id=\"" ++ (id ++ 34 ∷ 62 ∷ rest)) first
    ∙ ap (λ (o : Read (List Attribute)). o >>= λ others. Some (named (codes "class") class ∷ others.0, others.1)) (one_id id (62 ∷ rest) second)

paragraph_attributes : (rest : List ℕ) → attributes (codes " class=\"t\">" ++ rest) ≡ Some (named (codes "class") (codes "t") ∷ [], rest)
unfolding attributes_from
paragraph_attributes rest = one_class (codes "t") (62 ∷ rest) (refl, tt)

-- ---- tokens

abbrev pub box : List ℕ → List ℕ → List ℕ → List ℕ
box class id rest = codes "<div class=\"" ++ (class ++ 34 ∷ (codes " id=\"" ++ (id ++ 34 ∷ 62 ∷ rest)))

abbrev pub box_tag : List ℕ → List ℕ → Bool → ℕ → StartTag
box_tag class id closes_itself at = record { name = codes "div"; id = Some id; class = Some class; others = []; closes_itself = closes_itself; at = at }

abbrev pub paragraph_tag : Bool → ℕ → StartTag
paragraph_tag closes_itself at = record { name = codes "p"; id = None; class = Some (codes "t"); others = []; closes_itself = closes_itself; at = at }

abbrev pub closing : List ℕ → List ℕ → Bool
closing bs rest = ends_with nat_eq (take (length bs - length rest) bs) (codes "/>")

box_front : (at : ℕ) (class id rest : List ℕ) → Each (is_not 34) class → Each (is_not 34) id
    → front at (box class id rest) ≡ (Some (start (box_tag class id (closing (drop 1 (box class id rest)) rest) at)), rest)
unfolding front begins_markup markup start_tag tag behind_start is_raw value_of others_in firsts_besides
box_front at class id rest first second = rw (box_attributes class id rest first second) refl

paragraph_front : (at : ℕ) (rest : List ℕ) → front at (codes "<p class=\"t\">" ++ rest) ≡ (Some (start (paragraph_tag (closing (codes "p class=\"t\">" ++ rest) rest) at)), rest)
unfolding front begins_markup markup start_tag tag behind_start is_raw value_of others_in firsts_besides
paragraph_front at rest = rw (paragraph_attributes rest) refl

paragraph_stop : (at : ℕ) (rest : List ℕ) → front at (codes "</p>" ++ rest) ≡ (Some (stop (codes "p") at), rest)
unfolding front begins_markup markup end_markup end_tag tag attributes_from value_of others_in firsts_besides
paragraph_stop at rest = refl

pub box_stop : (at : ℕ) (rest : List ℕ) → front at (codes "</div>" ++ rest) ≡ (Some (stop (codes "div") at), rest)
unfolding front begins_markup markup end_markup end_tag tag attributes_from value_of others_in firsts_besides
box_stop at rest = refl

-- nothing, or a tag that begins with such a letter
abbrev pub IsFresh : List ℕ → Type 0
IsFresh [] = Unit {0}
IsFresh (a ∷ []) = ⊥
IsFresh (a ∷ b ∷ bs) = (a ≡ 60) × (b ≡ 100)

line_end : (at : ℕ) (rest : List ℕ) → IsFresh rest → (bytes : List ℕ) × (front at (10 ∷ rest) ≡ (Some (text bytes), rest))
unfolding front begins_markup behind_text
line_end at [] fresh = (10 ∷ [], refl)
line_end at (a ∷ []) fresh = absurd fresh
line_end at (a ∷ b ∷ bs) fresh = (take (1 + suc (suc (length bs)) - suc (suc (length bs))) (10 ∷ a ∷ b ∷ bs), rw (fresh.0, fresh.1) refl)

pub one_token : (size b : ℕ) (bs : List ℕ) (t : Token) (rest : List ℕ) → front (size - length (b ∷ bs)) (b ∷ bs) ≡ (Some t, rest) → IsLast bs rest → tokens_from size 0 (b ∷ bs) ≡ t ∷ tokens_from size 0 rest
unfolding tokens_from
one_token size b bs t rest is last = rw (is, tokens_skip size (length bs - length rest) bs, drop_before bs rest last) refl

pub then_token : (size b : ℕ) (bs : List ℕ) (t : Token) (rest : List ℕ) (ts : List Token) → front (size - length (b ∷ bs)) (b ∷ bs) ≡ (Some t, rest) → IsLast bs rest → tokens_from size 0 rest ≡ ts → tokens_from size 0 (b ∷ bs) ≡ t ∷ ts
then_token size b bs t rest ts is last more = one_token size b bs t rest is last ∙ ap (λ (us : List Token). t ∷ us) more

-- the tokens of a box, and of what is behind it
pub record IsBox (class id : List ℕ) (all behind : List Token) : Type 0 where
  pub closes : Bool
  pub also : Bool
  pub one : ℕ
  pub two : ℕ
  pub three : ℕ
  pub four : ℕ
  pub bytes : List ℕ
  pub is : all ≡ start (box_tag class id closes one) ∷ start (paragraph_tag also two) ∷ stop (codes "p") three ∷ stop (codes "div") four ∷ text bytes ∷ behind

pub box_tokens : (size : ℕ) (class id rest : List ℕ) → Each (is_not 34) class → Each (is_not 34) id → IsFresh rest
    → IsBox class id (tokens_from size 0 (box class id (codes "<p class=\"t\"></p></div>\n" ++ rest))) (tokens_from size 0 rest)
box_tokens size class id rest first second fresh =
    let e = 10 ∷ rest in
    let d = codes "</div>" ++ e in
    let c = codes "</p>" ++ d in
    let b = codes "<p class=\"t\">" ++ c in
    let a = box class id b in
    let last = line_end (size - length e) rest fresh in
    record {
      closes = closing (drop 1 a) b;
      also = closing (codes "p class=\"t\">" ++ c) c;
      one = size - length a;
      two = size - length b;
      three = size - length c;
      four = size - length d;
      bytes = last.0;
      is =
          then_token size 60 (drop 1 a) (start (box_tag class id (closing (drop 1 a) b) (size - length a))) b _ (box_front (size - length a) class id b first second) (record { before = codes "div class=\"" ++ (class ++ 34 ∷ (codes " id=\"" ++ (id ++ 34 ∷ 62 ∷ []))); is = simp append_assoc })
          (then_token size 60 (codes "p class=\"t\">" ++ c) (start (paragraph_tag (closing (codes "p class=\"t\">" ++ c) c) (size - length b))) c _ (paragraph_front (size - length b) c) (record { before = codes "p class=\"t\">"; is = refl })
          (then_token size 60 (codes "/p>" ++ d) (stop (codes "p") (size - length c)) d _ (paragraph_stop (size - length c) d) (record { before = codes "/p>"; is = refl })
          (then_token size 60 (codes "/div>" ++ e) (stop (codes "div") (size - length d)) e _ (box_stop (size - length d) e) (record { before = codes "/div>"; is = refl })
          (one_token size 10 rest (text last.0) rest last.1 (record { before = []; is = refl })))));
    }
