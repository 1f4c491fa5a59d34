-- What the agenda says of labels.
use Rattle.std.proofs.Common.{◌≡◌, ℕ, List, get_or, Some, slice_get, Contains, sym, ap, ◌∙◌, subst}
use Rattle.std.proofs.lemmas.Option.{get_or_from_slice_get}
use Rattle.need_table.specs.declared.entries.Entry.{Entry}

-- a child of the entry that was read
pub child_of : (entries : List Entry) (i : ℕ) (e x : Entry) (children : List ℕ) (j : ℕ) → slice_get entries i ≡ Some e → children ≡ (get_or entries i x).children.items → Contains e.children.items j → Contains children j
child_of entries i e x children j at is child = subst (λ (z : List ℕ). Contains z j) (sym (is ∙ ap (λ (z : Entry). z.children.items) (get_or_from_slice_get entries i e x at))) child
