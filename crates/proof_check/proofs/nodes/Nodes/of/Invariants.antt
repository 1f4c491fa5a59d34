use Rattle.std.proofs.Common.{◌≡◌, ℕ, true, ◌<◌, slice_get, Some}
use Rattle.std.specs.List.{list_any}
use Rattle.std.specs.Str.{bytes_eq}
use Rattle.proof_check.specs.declared.proofs.PageItem.{PageItem}
use Rattle.proof_check.proofs.nodes.Nodes.of.Given as goal

abbrev pub invariant-loop-i : goal.invariant-loop-i
invariant-loop-i l = record {
  has : (j : ℕ) (item : PageItem) → j < l.i-index → slice_get l.items j ≡ Some item → list_any (λ k. bytes_eq item.at k.items) l.paths.keys ≡ true;
}
