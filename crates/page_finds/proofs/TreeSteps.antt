-- The tokens of a page with the open elements, one after the other.
use Rattle.std.proofs.Common.{◌≡◌, ℕ, zero, suc, ◌-◌, true, ◌<◌, List, [], ◌∷◌, ◌++◌, length, drop, refl, sym, ◌∙◌, append_assoc, arith}
use Rattle.std.proofs.lemmas.List.{append-nil}
use Rattle.text_bytes.specs.OrderMark.{behind_order_mark}
use Rattle.text_bytes.specs.Rests.{IsRest}
use Rattle.html_tokens.specs.Tokens.{Front, front}
use Rattle.html_table.specs.Elements.{Element}
use Rattle.premise_finds.specs.declared.findings.Finding.{Finding}
use Rattle.page_finds.specs.declared.left.Opened.{Opened}
use Rattle.page_finds.specs.Trees.{after, found_in_tree, found_closed, kept, left_from, opened_at, tags_after, tree_from, tree_findings}
use Rattle.page_finds.proofs.TagSteps.{rest_of}

skips : (size n : ℕ) (es : List Element) (os : List Opened) (bs : List ℕ) → tree_from size es os n bs ≡ tree_from size es os 0 (drop n bs)
unfolding tree_from
skips size zero es os bs = refl
skips size (suc n) es os [] = refl
skips size (suc n) es os (b ∷ bs) = skips size n es os bs

pub goes_on : (before mid later : List Finding) (size : ℕ) (es more : List Element) (os tags : List Opened) (bs : List ℕ) (f : Front) → f ≡ front (size - length bs) bs → IsRest bs f.1 → length f.1 < length bs
    → mid ≡ before ++ found_in_tree size es bs f → later ≡ mid ++ found_closed f.0 es os → more ≡ after f.0 es → tags ≡ tags_after (opened_at size bs f.1) (kept f.0 es) (length more) os
    → later ++ tree_from size more tags 0 f.1 ≡ before ++ tree_from size es os 0 bs
unfolding tree_from
goes_on before mid later size es more os tags [] f is last less found closed open' with' = absurd (omega arith)
goes_on before mid later size es more os tags (b ∷ bs) f is last less found closed open' with' =
    let P : List Finding = found_in_tree size es (b ∷ bs) f in
    let C : List Finding = found_closed f.0 es os in
    rw (closed, found, with', open', ← is, skips size (length bs - length f.1) (after f.0 es) (tags_after (opened_at size (b ∷ bs) f.1) (kept f.0 es) (length (after f.0 es)) os) bs, rest_of b bs f.1 last less)
    (simp append_assoc)

pub ends : (before later all : List Finding) (size : ℕ) (es : List Element) (os : List Opened) (bs : List ℕ) → length bs ≡ 0 → before ++ tree_from size es os 0 bs ≡ all → later ≡ before ++ left_from true 0 es os → later ≡ all
unfolding tree_from
ends before later all size es os [] none found left = left ∙ found
ends before later all size es os (b ∷ bs) none found left = absurd (omega arith)

pub begins : (before : List Finding) (es : List Element) (os : List Opened) (text rest : List ℕ) → before ≡ [] → es ≡ [] → os ≡ [] → rest ≡ behind_order_mark text → before ++ tree_from (length text) es os 0 rest ≡ tree_findings text
unfolding tree_findings
begins before es os text rest none closed bare at = rw (none, closed, bare, at) refl
