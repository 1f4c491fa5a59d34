-- Findings of one file, in the order of their places, and at one place in that of their names.
use Rattle.std.specs.Prelude.{ℕ, Bool, List}
use Rattle.std.specs.List.Sorted.{IsPermutation, IsSortedBy, IsStableBy}
use Rattle.std.specs.Ordering.{is_lt, nat_cmp, ordering_then}
use Rattle.premise_finds.specs.declared.names.Name.{Name}
use Rattle.premise_finds.specs.declared.names.Name.TheVariants as name
use Rattle.premise_finds.specs.declared.findings.Finding.{Finding}

-- the order of names
abbrev pub rank : Name → ℕ
rank name.Quirks = 0
rank name.Xhtml = 1
rank name.CodeInAnAttribute = 2
rank name.CodeInAnAddress = 3
rank name.ScriptHere = 4
rank name.SheetHere = 5
rank name.OtherDocument = 6
rank name.NoScript = 7
rank name.Template = 8
rank name.OwnElement = 9
rank name.TypedInto = 10
rank name.Reference = 11
rank name.RawInSvg = 12
rank name.HtmlInSvg = 13
rank name.TagAcrossAnother = 14
rank name.LeftOpen = 15
rank name.InItself = 16
rank name.InATable = 17
rank name.InASelect = 18
rank name.ItemInABlock = 19
rank name.SelectedContent = 20
rank name.ScriptInAScript = 21
rank name.FormLeftOpen = 22
rank name.CommentMark = 23
rank name.Escape = 24
rank name.Address = 25
rank name.NestedRule = 26
rank name.Import = 27
rank name.Layer = 28
rank name.UnknownToSome = 29
rank name.ValueAsked = 30

abbrev pub comes_first : Finding → Finding → Bool
comes_first f g = is_lt (ordering_then (nat_cmp f.from g.from) (nat_cmp (rank f.name) (rank g.name)))

-- these findings, each as often, with none before one that comes first; those that are alike keep their order
pub record AreInOrder (all found : List Finding) : Type 0 where
  pub same : IsPermutation all found
  pub sorted : IsSortedBy comes_first found
  pub stable : IsStableBy comes_first all found
