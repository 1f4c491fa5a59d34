-- Reading attributes one after the other, as a loop does.
use Rattle.std.proofs.Common.{◌≡◌, inl, inr, ℕ, zero, suc, ◌-◌, ◌==◌, ◌<◌, Bool, true, false, if◌then◌else◌, List, [], ◌∷◌, length, drop, Option, Some, None, codes, refl, sym, ap, ap₂, ◌∙◌, subst, arith, eq-eqb}
use Rattle.std.specs.Option.{option_or, option_map}
use Rattle.std.specs.Str.{str_eq_ignore_ascii_case}
use Rattle.std.proofs.lemmas.Bool.{ne_eqb, cases_eq}
use Rattle.text_bytes.specs.Rests.{IsRest}
use Rattle.html_tokens.specs.Bytes.{is_filler}
use Rattle.html_tokens.specs.Attributes.{Attribute, Given, Read, ◌>>=◌, others_in, attribute, and_more, attributes_from, attributes, written_from, written, value_of, given_by, first_given, given}
use Rattle.html_tokens.specs.Tokens.{Tag, tag_of_all}

-- what is kept of attributes that were read before and of those that are read next
unfoldable pub with_given : Given → Read (List Attribute) → Read Given
with_given before r = option_map (λ a. (first_given before (given_by a.0), a.1)) r

-- ---- the first attribute of a name

none_before : (o : Option (List ℕ)) → option_or None o ≡ o
none_before None = refl
none_before (Some v) = refl

none_later : (o : Option (List ℕ)) → option_or o None ≡ o
none_later None = refl
none_later (Some v) = refl

before_two : (o p r : Option (List ℕ)) → option_or o (option_or p r) ≡ option_or (option_or o p) r
before_two None p r = none_before (option_or p r) ∙ ap (λ (q : Option (List ℕ)). option_or q r) (sym (none_before p))
before_two (Some v) p r = refl

one_more : (name : List ℕ) (a : Attribute) (others : List Attribute) → value_of name (a ∷ others) ≡ option_or (value_of name (a ∷ [])) (value_of name others)
unfolding value_of
one_more name a others = chosen (str_eq_ignore_ascii_case a.name name)
  where
    chosen : (same : Bool) → (if same then Some a.value else value_of name others) ≡ option_or (if same then Some a.value else None) (value_of name others)
    chosen true = refl
    chosen false = sym (none_before (value_of name others))

given_more : (before : Given) (a : Attribute) (others : List Attribute)
    → first_given before (given_by (a ∷ others)) ≡ first_given (first_given before (given_by (a ∷ []))) (given_by others)
given_more before a others = ap₂ (λ (id class : Option (List ℕ)). let g : Given = record { id = id; class = class } in g)
    (ap (option_or before.id) (one_more (codes "id") a others) ∙ before_two before.id _ _)
    (ap (option_or before.class) (one_more (codes "class") a others) ∙ before_two before.class _ _)

-- ---- one step

pub attributes_skip : (n : ℕ) (bs : List ℕ) → attributes_from n bs ≡ attributes_from 0 (drop n bs)
unfolding attributes_from
attributes_skip zero bs = refl
attributes_skip (suc n) [] = refl
attributes_skip (suc n) (b ∷ bs) = attributes_skip n bs

abbrev pub nothing : Given
nothing = record { id = None; class = None }

pub begins : (bs : List ℕ) → with_given nothing (attributes_from 0 bs) ≡ given bs
unfolding with_given given
begins bs = all (attributes_from 0 bs)
  where
    all : (r : Read (List Attribute)) → ◌≡◌ {A = Read Given} (option_map (λ a. (first_given nothing (given_by a.0), a.1)) r) (option_map (λ a. (given_by a.0, a.1)) r)
    all None = refl
    all (Some a) = ap₂ (λ (id class : Option (List ℕ)). let g : Given = record { id = id; class = class } in Some (g, a.1)) (none_before _) (none_before _)

pub closes : (before : Given) (b : ℕ) (behind : List ℕ) → b ≡ 62 → with_given before (attributes_from 0 (b ∷ behind)) ≡ Some (before, behind)
unfolding attributes_from with_given value_of
closes before b behind is_end = rw (eq-eqb b 62 is_end) (ap₂ (λ (id class : Option (List ℕ)). let g : Given = record { id = id; class = class } in Some (g, behind)) (none_later _) (none_later _))

pub passes : (before : Given) (b : ℕ) (behind : List ℕ) → (b ≡ 62 → ⊥) → is_filler b ≡ true → with_given before (attributes_from 0 (b ∷ behind)) ≡ with_given before (attributes_from 0 behind)
unfolding attributes_from
passes before b behind other filler = rw (ne_eqb b 62 other, filler) refl

pub adds : (before : Given) (b : ℕ) (behind : List ℕ) (a : Attribute) (after : List ℕ) → (b ≡ 62 → ⊥) → is_filler b ≡ false → attribute (b ∷ behind) ≡ Some (a, after) → IsRest (b ∷ behind) after → length after < length (b ∷ behind)
    → with_given before (attributes_from 0 (b ∷ behind)) ≡ with_given (first_given before (given_by (a ∷ []))) (attributes_from 0 after)
unfolding attributes_from with_given
adds before b behind a after other filler read rest less =
    let step : length (b ∷ behind) - length after ≡ suc (length behind - length after) = omega arith in
    let last : drop (length behind - length after) behind ≡ after = ap (λ n. drop n (b ∷ behind)) (sym step) ∙ rest.last in
    rw (ne_eqb b 62 other, filler, read, attributes_skip (length behind - length after) behind, last) (joined (attributes_from 0 after))
  where
    read_on : Read (List Attribute) → Read (List Attribute)
    read_on r = r >>= λ others. Some (a ∷ others.0, others.1)

    joined : (r : Read (List Attribute))
        → ◌≡◌ {A = Read Given} (option_map (λ all. (first_given before (given_by all.0), all.1)) (read_on r))
        (option_map (λ others. (first_given (first_given before (given_by (a ∷ []))) (given_by others.0), others.1)) r)
    joined None = refl
    joined (Some others) = ap (λ (g : Given). Some (g, others.1)) (given_more before a others.0)

pub fails : (before : Given) (b : ℕ) (behind : List ℕ) → (b ≡ 62 → ⊥) → is_filler b ≡ false → attribute (b ∷ behind) ≡ None → with_given before (attributes_from 0 (b ∷ behind)) ≡ None
unfolding attributes_from with_given
fails before b behind other filler read = rw (ne_eqb b 62 other, filler, read) refl

pub ends : (before : Given) (rest : List ℕ) → length rest ≡ 0 → with_given before (attributes_from 0 rest) ≡ None
unfolding attributes_from with_given
ends before [] none = refl
ends before (b ∷ bs) none = absurd (omega arith)

-- ---- one attribute after the other

written_skips : (n : ℕ) (bs : List ℕ) → written_from n bs ≡ written_from 0 (drop n bs)
unfolding written_from
written_skips zero bs = refl
written_skips (suc n) [] = refl
written_skips (suc n) (b ∷ bs) = written_skips n bs

pub passed : (b : ℕ) (behind : List ℕ) → is_filler b ≡ true → written (b ∷ behind) ≡ written behind
unfolding written_from
passed b behind filler = elim (cases_eq b 62) [
  | inl is ↦ absurd (let no : is_filler 62 ≡ true = subst (λ z. is_filler z ≡ true) is filler in cc)
  | inr other ↦ rw (ne_eqb b 62 other, filler) refl
]

-- where `>` stands there is no further one
pub at_end : (b : ℕ) (behind : List ℕ) → b ≡ 62 → written (b ∷ behind) ≡ []
unfolding written_from
at_end b behind is_end = rw (eq-eqb b 62 is_end) refl

pub none_left : (rest : List ℕ) → length rest ≡ 0 → written rest ≡ []
unfolding written_from
none_left [] none = refl
none_left (b ∷ bs) none = absurd (omega arith)

pub at_fault : (b : ℕ) (behind : List ℕ) → (b ≡ 62 → ⊥) → is_filler b ≡ false → attribute (b ∷ behind) ≡ None → written (b ∷ behind) ≡ []
unfolding written_from
at_fault b behind other filler read = rw (ne_eqb b 62 other, filler, read) refl

pub one_and_others : (b : ℕ) (behind : List ℕ) (a : Attribute) (after : List ℕ) → (b ≡ 62 → ⊥) → is_filler b ≡ false → attribute (b ∷ behind) ≡ Some (a, after) → IsRest (b ∷ behind) after → length after < length (b ∷ behind)
    → written (b ∷ behind) ≡ a ∷ written after
unfolding written_from
one_and_others b behind a after other filler read rest less =
    let step : length (b ∷ behind) - length after ≡ suc (length behind - length after) = omega arith in
    let last : drop (length behind - length after) behind ≡ after = ap (λ n. drop n (b ∷ behind)) (sym step) ∙ rest.last in
    rw (ne_eqb b 62 other, filler, read, written_skips (length behind - length after) behind, last) refl

-- ---- a tag that is whole

abbrev in_all : Read (List Attribute) → List Attribute
in_all None = []
in_all (Some x) = x.0

others_step : (a : Attribute) (o : Read (List Attribute)) (w all : List Attribute) (rest : List ℕ) → ((x : List Attribute) (r : List ℕ) → o ≡ Some (x, r) → w ≡ x)
    → ◌≡◌ {A = Read (List Attribute)} (o >>= λ others. Some (a ∷ others.0, others.1)) (Some (all, rest)) → a ∷ w ≡ all
others_step a None w all rest more is = absurd cc
others_step a (Some o) w all rest more is = rw (more o.0 o.1 refl) (ap in_all is)

list_step : (bs : List ℕ) (e f : Bool) (r : Read Attribute) (all : List Attribute) (rest : List ℕ)
    → ((n : ℕ) (x : List Attribute) (after : List ℕ) → attributes_from n bs ≡ Some (x, after) → written_from n bs ≡ x)
    → ◌≡◌ {A = Read (List Attribute)} (if e then Some ([], bs) else (if f then attributes_from 0 bs else (r >>= λ a. attributes_from (length bs - length a.1) bs >>= λ others. Some (a.0 ∷ others.0, others.1)))) (Some (all, rest))
    → (if e then [] else (if f then written_from 0 bs else and_more r (λ after. written_from (length bs - length after) bs))) ≡ all
list_step bs true f r all rest more is = ap in_all is
list_step bs false true r all rest more is = more 0 all rest is
list_step bs false false None all rest more is = absurd cc
list_step bs false false (Some a) all rest more is =
    others_step a.0 (attributes_from (length bs - length a.1) bs) (written_from (length bs - length a.1) bs) all rest (more (length bs - length a.1)) is

same_list : (n : ℕ) (bs : List ℕ) (all : List Attribute) (rest : List ℕ) → attributes_from n bs ≡ Some (all, rest) → written_from n bs ≡ all
unfolding attributes_from written_from
same_list zero [] all rest is = absurd cc
same_list (suc n) [] all rest is = absurd cc
same_list (suc n) (b ∷ bs) all rest is = same_list n bs all rest is
same_list zero (b ∷ bs) all rest is = list_step bs (b == 62) (is_filler b) (attribute (b ∷ bs)) all rest (λ m x after. same_list m bs x after) is

abbrev kept : Read (List Attribute) → Read Given
kept r = option_map (λ a. (given_by a.0, a.1)) r

abbrev with_others : List ℕ → List Attribute → Read Given → Read Tag
with_others n all None = None
with_others n all (Some p) = Some (record { name = n; given = p.0; others = others_in all }, p.1)

module _ (bs : List ℕ) where
  pub tag_read : (n : List ℕ) (g : Given) (rest : List ℕ) → given bs ≡ Some (g, rest) → tag_of_all n (attributes bs) ≡ Some (record { name = n; given = g; others = others_in (written bs) }, rest)
  unfolding given
  tag_read n g rest is = there (attributes bs) refl is
    where
      there : (r : Read (List Attribute)) → attributes bs ≡ r → kept r ≡ Some (g, rest) → tag_of_all n r ≡ Some (record { name = n; given = g; others = others_in (written bs) }, rest)
      there None whole none = absurd cc
      there (Some a) whole some =
          rw (same_list 0 bs a.0 a.1 whole)
          (ap (λ (r : Read Given). with_others n a.0 r) some)

  pub tag_cut : (n : List ℕ) → given bs ≡ None → tag_of_all n (attributes bs) ≡ None
  unfolding given
  tag_cut n is = there (attributes bs) is
    where
      there : (r : Read (List Attribute)) → kept r ≡ None → tag_of_all n r ≡ None
      there None none = refl
      there (Some a) some = absurd cc
