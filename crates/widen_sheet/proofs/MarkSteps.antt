-- Tokens with their marks, one after the other.
use Rattle.std.proofs.Common.{◌≡◌, ℕ, Bool, List, [], ◌∷◌, ◌++◌, Option, slice_range, refl, sym, ap, ◌∙◌, append_assoc}
use Rattle.widen_sheet.specs.declared.marks.Mark.{Mark}
use Rattle.widen_sheet.specs.declared.tokens.Token as code
use Rattle.widen_sheet.specs.Views.{wide_view, kinds_of}
use Rattle.widen_sheet.specs.Wide.{goes, kinds, run_behind, mark_of, slots_from, between, spelled_from}

pub same_kinds : (text : List ℕ) (ts : List code.Token) → kinds (wide_view text ts) ≡ kinds_of ts
same_kinds text [] = refl
same_kinds text (t ∷ ts) = ap (λ ks. t.kind ∷ ks) (same_kinds text ts)

-- one token more: `betw` and `later` are the text with what stands before it, and with it
pub put_on : (text out betw later : List ℕ) (prior found : Option Mark) (run : Mark) (gone : Bool) (t : code.Token) (ts : List code.Token) → gone ≡ goes (kinds_of ts) → found ≡ mark_of run t.kind gone
    → betw ≡ out ++ between prior found → later ≡ betw ++ slice_range text t.from t.to
    → later ++ spelled_from found (slots_from (run_behind t.kind run) (wide_view text ts)) ≡ out ++ spelled_from prior (slots_from run (wide_view text (t ∷ ts)))
put_on text out betw later prior found run gone t ts going is put texts =
    let bytes = slice_range text t.from t.to in
    let rest = spelled_from (mark_of run t.kind (goes (kinds_of ts))) (slots_from (run_behind t.kind run) (wide_view text ts)) in
    rw (texts, put, is, going, same_kinds text ts)
    (append_assoc (out ++ between prior (mark_of run t.kind (goes (kinds_of ts)))) bytes rest ∙ append_assoc out (between prior (mark_of run t.kind (goes (kinds_of ts)))) (bytes ++ rest))

pub goes_on : (text out betw later : List ℕ) (prior found : Option Mark) (run next : Mark) (gone : Bool) (t : code.Token) (ts rest : List code.Token) (all : List ℕ) → rest ≡ t ∷ ts → gone ≡ goes (kinds_of ts) → found ≡ mark_of run t.kind gone
    → next ≡ run_behind t.kind run → betw ≡ out ++ between prior found → later ≡ betw ++ slice_range text t.from t.to
    → out ++ spelled_from prior (slots_from run (wide_view text rest)) ≡ all → later ++ spelled_from found (slots_from next (wide_view text ts)) ≡ all
goes_on text out betw later prior found run next gone t ts rest all is going marks steps put texts invariant =
    ap (λ (m : Mark). later ++ spelled_from found (slots_from m (wide_view text ts))) steps
    ∙ put_on text out betw later prior found run gone t ts going marks put texts
    ∙ ap (λ (r : List code.Token). out ++ spelled_from prior (slots_from run (wide_view text r))) (sym is)
    ∙ invariant
