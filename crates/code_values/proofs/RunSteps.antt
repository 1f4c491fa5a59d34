-- Runs, one token after the other, as loops do.
use Rattle.std.proofs.Common.{◌≡◌, ℕ, ◌-◌, true, false, List, [], ◌∷◌, ◌++◌, length, drop, refl, sym, ap, ◌∙◌, append_assoc, arith}
use Rattle.std.proofs.lemmas.List.{append-nil}
use Rattle.code_scan.specs.declared.token.Token.{Token}
use Rattle.code_tokens.specs.declared.code.Code.{Code}
use Rattle.code_tokens.specs.Members.{is_text}
use Rattle.code_values.specs.declared.runs.Run.{Run}
use Rattle.code_values.specs.Runs.{is_first, run_of, drawn_at, Drawn, runs_from}

module _ (text : List ℕ) (code : Code) (size at : ℕ) (joined_ : List ℕ) (t : Token) (ts rest : List Token) (before total : List Run) (is : rest ≡ t ∷ ts) (here : at ≡ size - length rest)
    (so_far : before ++ runs_from text code size joined_ rest ≡ total) where
  place : at ≡ size - length (t ∷ ts)
  place = here ∙ ap (λ (us : List Token). size - length us) is

  so_far' : before ++ runs_from text code size joined_ (t ∷ ts) ≡ total
  so_far' = ap (λ (us : List Token). before ++ runs_from text code size joined_ us) (sym is) ∙ so_far

  pub joined : is_first at joined_ ≡ true → before ++ runs_from text code size (drop 1 joined_) ts ≡ total
  unfolding runs_from
  joined first =
      let test : is_first (size - length (t ∷ ts)) joined_ ≡ true = ap (λ n. is_first n joined_) (sym place) ∙ first in
      ap (λ (rs : List Run). before ++ rs) (sym (rw test refl)) ∙ so_far'

  pub passed : is_first at joined_ ≡ false → is_text t.kind ≡ false → before ++ runs_from text code size joined_ ts ≡ total
  unfolding runs_from
  passed first none =
      let test : is_first (size - length (t ∷ ts)) joined_ ≡ false = ap (λ n. is_first n joined_) (sym place) ∙ first in
      ap (λ (rs : List Run). before ++ rs) (sym (rw (test, none) refl)) ∙ so_far'

  pub begins : (d : Drawn) → is_first at joined_ ≡ false → is_text t.kind ≡ true → drawn_at text code at t ≡ d
      → (before ++ run_of at t d ∷ []) ++ runs_from text code size (d.texts ++ joined_) ts ≡ total
  unfolding runs_from
  begins d first holds drawn =
      let test : is_first (size - length (t ∷ ts)) joined_ ≡ false = ap (λ n. is_first n joined_) (sym place) ∙ first in
      let drawn' : drawn_at text code (size - length (t ∷ ts)) t ≡ d = ap (λ n. drawn_at text code n t) (sym place) ∙ drawn in
      append_assoc before (run_of at t d ∷ []) (runs_from text code size (d.texts ++ joined_) ts)
      ∙ ap (λ (rs : List Run). before ++ rs) (sym (rw (test, holds, drawn', sym place) refl)) ∙ so_far'

pub ends : (text : List ℕ) (code : Code) (size : ℕ) (joined_ : List ℕ) (rest : List Token) (before total : List Run) → before ++ runs_from text code size joined_ rest ≡ total → length rest ≡ 0 → before ≡ total
unfolding runs_from
ends text code size joined_ [] before total so_far none = sym (append-nil before) ∙ so_far
ends text code size joined_ (t ∷ ts) before total so_far none = absurd (omega arith)
