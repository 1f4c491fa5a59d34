-- Members that are asked for by Texts, one token after the other, as loops do.
use Rattle.std.proofs.Common.{◌≡◌, ℕ, true, false, List, [], ◌∷◌, ◌++◌, length, reverse, codes, Some, None, refl, sym, ap, ◌∙◌, append_assoc, arith}
use Rattle.std.proofs.lemmas.List.{append-nil, reverse-append, length-reverse}
use Rattle.code_scan.specs.declared.token.Token.{Token}
use Rattle.code_tokens.specs.Members.{is_text, start_at, letters_of, letters_in, start_of}
use Rattle.code_scan.specs.Spellings.{is_written}

-- ---- letters

pub more_letters : (before : List ℕ) (t : Token) (ts : List Token) (total : List ℕ) → before ++ letters_in (t ∷ ts) ≡ total → (before ++ letters_of t.kind) ++ letters_in ts ≡ total
unfolding letters_in
more_letters before t ts total so_far = append_assoc before (letters_of t.kind) (letters_in ts) ∙ so_far

pub no_letters : (before : List ℕ) (ts : List Token) (total : List ℕ) → before ++ letters_in ts ≡ total → length ts ≡ 0 → before ≡ total
unfolding letters_in
no_letters before [] total so_far none = sym (append-nil before) ∙ so_far
no_letters before (t ∷ ts) total so_far none = absurd (omega arith)

-- ---- from the last token back

pub last_first : (all others : List Token) (t : Token) → all ≡ others ++ t ∷ [] → reverse all ≡ t ∷ reverse others
last_first all others t is = ap reverse is ∙ reverse-append others (t ∷ [])

two_last : (all front others : List Token) (t u : Token) → all ≡ front ++ t ∷ [] → front ≡ others ++ u ∷ [] → reverse all ≡ t ∷ u ∷ reverse others
two_last all front others t u first second = last_first all front t first ∙ ap (λ ts. t ∷ ts) (last_first front others u second)

pub no_start : (text : List ℕ) (all : List Token) → length all ≡ 0 → start_of text (reverse all) ≡ None
unfolding start_of
no_start text [] none = refl
no_start text (t ∷ ts) none = absurd (omega arith)

pub no_pair : (text : List ℕ) (all front : List Token) (t : Token) → all ≡ front ++ t ∷ [] → length front ≡ 0 → start_of text (reverse all) ≡ None
unfolding start_of
no_pair text all [] t is none = ap (start_of text) (last_first all [] t is)
no_pair text all (u ∷ us) t is none = absurd (omega arith)

module _ (text : List ℕ) (all front others : List Token) (t u : Token) (first : all ≡ front ++ t ∷ []) (second : front ≡ others ++ u ∷ []) where
  pub no_text : is_text t.kind ≡ false → start_of text (reverse all) ≡ None
  unfolding start_of
  no_text plain = ap (start_of text) (two_last all front others t u first second) ∙ rw plain refl

  pub bracket : is_text t.kind ≡ true → is_written text (codes "[") u ≡ true → start_of text (reverse all) ≡ Some (start_at u (length others))
  unfolding start_of
  bracket is opens = ap (start_of text) (two_last all front others t u first second) ∙ rw (is, opens) (ap (λ (n : ℕ). Some (start_at u n)) (length-reverse others))

  pub joined : is_text t.kind ≡ true → is_written text (codes "[") u ≡ false → is_written text (codes "+") u ≡ true → start_of text (reverse all) ≡ start_of text (reverse others)
  unfolding start_of
  joined is other adds = ap (start_of text) (two_last all front others t u first second) ∙ rw (is, other, adds) refl

  pub no_join : is_text t.kind ≡ true → is_written text (codes "[") u ≡ false → is_written text (codes "+") u ≡ false → start_of text (reverse all) ≡ None
  unfolding start_of
  no_join is other none = ap (start_of text) (two_last all front others t u first second) ∙ rw (is, other, none) refl
