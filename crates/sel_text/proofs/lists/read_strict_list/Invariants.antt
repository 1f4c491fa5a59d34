use Rattle.std.proofs.Common.{◌≡◌, length, map, All}
use Rattle.text_bytes.specs.Rests.{IsRest}
use Rattle.sel_text.specs.Lists.{read_strict_list}
use Rattle.sel_text.specs.Readable.{IsReadable}
use Rattle.sel_text.specs.Results.{IsFront}
use Rattle.sel_text.specs.Views.{selector_of}
use Rattle.sel_text.proofs.ListSteps.{more}
use Rattle.sel_text.proofs.lists.read_strict_list.Given as goal

abbrev pub invariant-commas : goal.invariant-commas
invariant-commas l = record {
  rest : IsRest l.text l.rest;
  reads : more (length l.text) (map selector_of l.found.items) l.atoms l.rest ≡ read_strict_list l.text l.fn.atoms;
  front : IsFront l.fn.atoms l.atoms;
  readable : All (λ s. IsReadable l.atoms (selector_of s)) l.found.items;
}

abbrev pub decreases-commas : goal.decreases-commas
decreases-commas l = length l.rest
